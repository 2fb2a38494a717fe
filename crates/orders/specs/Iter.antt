-- What going over the orders of a stream gives. Assumes nothing.
use Rattle.std.specs.Prelude.{◌≡◌, ℕ, ◌+◌, List, [], ◌∷◌, length, Ok, Err, Option, Result, MatchOption}
use Rattle.std.specs.Iterator.{Count, at_most}
use Rattle.orders.specs.declared.fault.OrderFault.{OrderFault}
use Rattle.orders.specs.declared.fault.StreamFault.{StreamFault}
use Rattle.orders.specs.declared.iter.Orders.{Orders}
use Rattle.orders.specs.declared.order.Order.{Order}
use Rattle.orders.specs.Reading.{read}
use Rattle.orders.specs.Streams.{parse}
use Rattle.orders.specs.Writing.{size_of}

-- how many orders are left at most
abbrev pub bytes_left : Orders → Count
bytes_left s = at_most (length s.rest.now)

-- an order came, with the byte at which it begins
pub record Came (s : Orders) (x : ℕ × Order) (t : Orders) : Type 0 where
  pub begins : x.0 ≡ s.byte
  pub order : Ok (x.1, t.rest.now) ≡ read s.rest.now
  pub index : t.index ≡ s.index + 1
  pub byte : t.byte ≡ s.byte + size_of x.1

-- none came, since no order can be read
pub record Ended (s t : Orders) : Type 0 where
  pub stays : t ≡ s
  pub none : (parse s.rest.now).orders ≡ []

-- the next order, or nothing
abbrev pub GivesNext : Orders → Option (ℕ × Order) → Orders → Type 0
GivesNext s r t = MatchOption r (Ended s t) (λ x. Came s x t)

-- the count n, unless bytes that begin at byte b were read with a fault
abbrev pub count_or : ℕ → ℕ → Result (Order × List ℕ) OrderFault → Result ℕ StreamFault
count_or n b (Ok p) = Ok n
count_or n b (Err e) = Err record { index = n; byte = b; cause = e }

-- the count of n orders that came before these bytes, which begin at byte b, or their fault
abbrev pub count_to : ℕ → ℕ → List ℕ → Result ℕ StreamFault
count_to n b [] = Ok n
count_to n b (x ∷ xs) = count_or n b (read (x ∷ xs))
