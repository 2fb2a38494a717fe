-- What the listing of a stream says, as text. Assumes nothing.
use Rattle.std.specs.Prelude.{◌≡◌, ℕ, ◌+◌, cond, List, [], ◌∷◌, ◌++◌, length, take, drop, Ok, Err, codes, decimal, Result, nat_lt}
use Rattle.orders.specs.declared.fault.StreamFault.{StreamFault}
use Rattle.orders.specs.declared.order.Order.{Order}
use Rattle.orders.specs.Faults.{stream_fault_number}
use Rattle.orders.specs.Streams.{parse, count_answer}
use Rattle.orders.specs.Texts.{order_text}
use Rattle.orders.specs.Writing.{encode, size_of, size_all}

-- a line: words with a space between, and a newline at the end
abbrev pub line_of : List (List ℕ) → List ℕ
line_of [] = codes "\n"
line_of (w ∷ []) = w ++ codes "\n"
line_of (w ∷ v ∷ ws) = w ++ (codes " " ++ line_of (v ∷ ws))

-- the line of an order that begins at byte `at`: that byte, and the order in words
abbrev pub order_line : ℕ → Order → List ℕ
order_line at o = line_of (decimal at ∷ order_text o ∷ [])

-- the lines of orders, the first of which begins at byte `at`
abbrev pub order_lines : ℕ → List Order → List ℕ
order_lines at [] = []
order_lines at (o ∷ os) = order_line at o ++ order_lines (at + size_of o) os

-- the last line: how many orders there are and, on a fault, its number and the byte of the failing order
abbrev pub closing_line : Result ℕ StreamFault → List ℕ
closing_line (Ok n) = line_of (decimal n ∷ codes "orders" ∷ [])
closing_line (Err e) = line_of (decimal e.index ∷ codes "orders" ∷ (codes "!" ++ decimal (stream_fault_number e)) ∷ decimal e.byte ∷ [])

-- a stream in full
abbrev pub full_listing : List ℕ → List ℕ
full_listing bs = order_lines 0 (parse bs).orders ++ closing_line (count_answer bs)

-- after the lines of the orders before it, an order has its line in the text, and its bytes are in the stream at the byte that this line tells
pub record Stands (bs text : List ℕ) (before : List Order) (o : Order) : Type 0 where
  pub below : List ℕ
  pub line : text ≡ order_lines 0 before ++ (order_line (size_all before) o ++ below)
  pub bytes : take (size_of o) (drop (size_all before) bs) ≡ encode o

-- so with every order of the stream, wherever it stands among the others
abbrev pub EachStands : List ℕ → List ℕ → Type 0
EachStands bs text = (before : List Order) (o : Order) (after : List Order) → (parse bs).orders ≡ before ++ o ∷ after → Stands bs text before o

-- how many bytes a stream that is listed has at most
abbrev pub longest : ℕ
longest = 4096

-- what is told of a stream: all of it, unless it is too long
abbrev pub listing : List ℕ → List ℕ
listing bs = cond (nat_lt longest (length bs)) (codes "LONG\n") (full_listing bs)
