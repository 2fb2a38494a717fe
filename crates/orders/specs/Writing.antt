-- The bits and bytes of orders, and what a writer of them answers and leaves. Assumes nothing.
use Rattle.std.specs.Prelude.{ℕ, zero, suc, ◌+◌, ◌-◌, ◌/◌, ◌%◌, ◌^◌, Bool, cond, ◌&&◌, List, [], ◌∷◌, ◌++◌, take, drop, ℤ, pos, negsuc, Ok, Err, Result, int_le, int_lt, nat_le, nat_lt}
use Rattle.std.specs.Int.Digits.{number_from_digits}
use Rattle.std.specs.List.{flat_map, list_all}
use Rattle.orders.specs.declared.fault.WriteFault.{WriteFault}
use Rattle.orders.specs.declared.fault.WriteFault.TheVariants.{TooWide, TooShort}
use Rattle.orders.specs.declared.order.Order.{Order}
use Rattle.orders.specs.declared.order.Order.TheVariants.{Set, Lift, Move, PlanFor, PlanWithin}
use Rattle.orders.specs.declared.order.Place.{Place}

-- the lowest w bits of a number, the most significant first
unfoldable pub bits_of : ℕ → ℕ → List ℕ
bits_of zero v = []
bits_of (suc w) v = v / 2 ^ w % 2 ∷ bits_of w v

-- the bits of fields after one another, each field a width and a value
unfoldable pub packed : List (ℕ × ℕ) → List ℕ
packed [] = []
packed (f ∷ fs) = bits_of f.0 f.1 ++ packed fs

-- n bytes of eight bits each, the most significant first
unfoldable pub bytes_in : ℕ → List ℕ → List ℕ
bytes_in zero bits = []
bytes_in (suc n) bits = number_from_digits 2 (take 8 bits) ∷ bytes_in n (drop 8 bits)

-- the 20 bits of an integer in two's complement, as a number; `negsuc n` is -(n + 1)
abbrev pub twos : ℤ → ℕ
twos (pos n) = n
twos (negsuc n) = 2 ^ 20 - 1 - n

-- the fields of a set or a move: the kind, what it says, and zero bits up to a whole byte
abbrev pub place_fields : ℕ → Place → List (ℕ × ℕ)
place_fields k p = (3, k) ∷ (8, p.gate) ∷ (20, p.distance) ∷ (20, twos p.height) ∷ (5, 0) ∷ []

-- an order's fields: its kind, what it says, and zero bits up to a whole byte
abbrev pub fields_of : Order → List (ℕ × ℕ)
fields_of (Set p) = place_fields 0 p
fields_of (Lift g) = (3, 1) ∷ (8, g) ∷ (5, 0) ∷ []
fields_of (Move p) = place_fields 2 p
fields_of (PlanFor k) = (3, 3) ∷ (6, k) ∷ (7, 0) ∷ []
fields_of (PlanWithin l) = (3, 4) ∷ (43, l) ∷ (2, 0) ∷ []

-- how many bytes an order takes
abbrev pub size_of : Order → ℕ
size_of (Set p) = 7
size_of (Lift g) = 2
size_of (Move p) = 7
size_of (PlanFor k) = 2
size_of (PlanWithin l) = 6

-- an order's bytes
unfoldable pub encode : Order → List ℕ
encode o = bytes_in (size_of o) (packed (fields_of o))

-- the bytes of orders after one another
abbrev pub encode_all : List Order → List ℕ
encode_all os = flat_map encode os

-- 20 bits hold the integer in two's complement: it is from -2 ^ 19 up to 2 ^ 19 - 1
abbrev pub in_twos : ℤ → Bool
in_twos h = int_le (negsuc (2 ^ 19 - 1)) h && int_lt h (pos (2 ^ 19))

-- each field of a place holds its value
abbrev pub place_fits : Place → Bool
place_fits p = nat_lt p.gate (2 ^ 8) && nat_lt p.distance (2 ^ 20) && in_twos p.height

-- each field holds its value
abbrev pub fits : Order → Bool
fits (Set p) = place_fits p
fits (Lift g) = nat_lt g (2 ^ 8)
fits (Move p) = place_fits p
fits (PlanFor k) = nat_lt k (2 ^ 6)
fits (PlanWithin l) = nat_lt l (2 ^ 43)

-- so with all orders
abbrev pub all_fit : List Order → Bool
all_fit os = list_all fits os

-- how many bytes orders take
abbrev pub size_all : List Order → ℕ
size_all [] = 0
size_all (o ∷ os) = size_of o + size_all os

-- what the writer answers where there is room for n bytes
abbrev pub write_answer : List Order → ℕ → Result ℕ WriteFault
write_answer os n = cond (all_fit os) (cond (nat_le (size_all os) n) (Ok (size_all os)) (Err TooShort)) (Err TooWide)

-- what the buffer holds after an answer
abbrev pub write_leaves : List Order → Result ℕ WriteFault → List ℕ → List ℕ
write_leaves os (Ok n) out = encode_all os ++ drop n out
write_leaves os (Err e) out = out
