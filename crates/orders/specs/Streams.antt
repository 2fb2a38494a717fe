-- A whole stream: one order after another, up to its end or to the first fault. Assumes nothing.
use Rattle.std.specs.Prelude.{◌≡◌, ℕ, zero, suc, ◌<◌, true, cond, List, [], ◌∷◌, ◌++◌, length, drop, Some, None, Ok, Err, Option, Result, nat_le}
use Rattle.orders.specs.declared.fault.OrderFault.{OrderFault}
use Rattle.orders.specs.declared.fault.ReadFault.{ReadFault}
use Rattle.orders.specs.declared.fault.ReadFault.TheVariants.{Stream, TooShort}
use Rattle.orders.specs.declared.fault.StreamFault.{StreamFault}
use Rattle.orders.specs.declared.order.Order.{Order}
use Rattle.orders.specs.Reading.{read}
use Rattle.orders.specs.Writing.{encode_all, all_fit, size_all}

-- the orders of a stream, and the fault of what follows them, if any
pub record Parsed : Type 0 where
  pub orders : List Order
  pub fault : Option OrderFault

-- a stream with one more order at its front
abbrev pub with_first : Order → Parsed → Parsed
with_first o p = record { orders = o ∷ p.orders; fault = p.fault }

-- what is read at the front, and then the rest
abbrev pub and_then : Result (Order × List ℕ) OrderFault → (List ℕ → Parsed) → Parsed
and_then (Ok p) rest = with_first p.0 (rest p.1)
and_then (Err e) rest = record { orders = []; fault = Some e }

-- the first n orders of a stream and the fault after them; no fault is told where more than n orders are left
unfoldable pub parse_in : ℕ → List ℕ → Parsed
parse_in n [] = record { orders = []; fault = None }
parse_in zero (b ∷ bs) = record { orders = []; fault = None }
parse_in (suc n) (b ∷ bs) = and_then (read (b ∷ bs)) (parse_in n)

-- all orders of a stream and the fault after them; it has no more orders than bytes
abbrev pub parse : List ℕ → Parsed
parse bs = parse_in (length bs) bs

-- the count of orders, or the fault after them and where it is
abbrev pub counted : Option OrderFault → List Order → Result ℕ StreamFault
counted None os = Ok (length os)
counted (Some e) os = Err record { index = length os; byte = size_all os; cause = e }

-- the count of a stream's orders, or its fault
abbrev pub count_answer : List ℕ → Result ℕ StreamFault
count_answer bs = counted (parse bs).fault (parse bs).orders

-- a count where the orders are wanted in n cells
abbrev pub in_cells : ℕ → Result ℕ StreamFault → Result ℕ ReadFault
in_cells n (Ok count) = cond (nat_le count n) (Ok count) (Err TooShort)
in_cells n (Err e) = Err (Stream e)

-- what reading a stream into n cells answers
abbrev pub read_answer : List ℕ → ℕ → Result ℕ ReadFault
read_answer bs n = in_cells n (count_answer bs)

-- what the cells hold after an answer
abbrev pub read_leaves : List Order → Result ℕ ReadFault → List Order → List Order
read_leaves os (Ok n) out = os ++ drop n out
read_leaves os (Err e) out = out

-- the writer accepts the orders, and the bytes are what it makes of them, followed by the rest
pub record Fronts (os : List Order) (rest bs : List ℕ) : Type 0 where
  pub fit : all_fit os ≡ true
  pub bytes : encode_all os ++ rest ≡ bs

-- what follows the last order is nothing, or bytes that have the fault
abbrev pub EndsBy : Option OrderFault → List ℕ → Type 0
EndsBy None rest = rest ≡ []
EndsBy (Some e) rest = (0 < length rest) × (read rest ≡ Err e)

-- the bytes are what the writer makes of the orders, and then what ends the stream
pub record Splits (bs : List ℕ) (p : Parsed) : Type 0 where
  pub rest : List ℕ
  pub front : Fronts p.orders rest bs
  pub ends : EndsBy p.fault rest

-- the stream splits so into what `parse` says of it, and into nothing else
pub record OneReading (bs : List ℕ) : Type 0 where
  pub splits : Splits bs (parse bs)
  pub only : (p : Parsed) → Splits bs p → p ≡ parse bs

-- the stream has these orders and no fault
pub record WhollyRead (os : List Order) (p : Parsed) : Type 0 where
  pub orders : p.orders ≡ os
  pub sound : p.fault ≡ None
