-- Streams as numbers, a second view of the format: bytes are the digits of one number in base 256, and
-- fields are appended to it by shifting. Assumes nothing.
use Rattle.std.specs.Prelude.{ℕ, ◌+◌, ◌-◌, ◌*◌, ◌/◌, ◌%◌, ◌^◌, List, [], ◌∷◌, length}
use Rattle.std.specs.Int.Digits.{number_from_digits}
use Rattle.std.specs.List.{flat_map}
use Rattle.orders.specs.declared.order.Order.{Order}
use Rattle.orders.specs.Writing.{fields_of}

-- the number v with fields appended, each a width and a value
abbrev pub appended : ℕ → List (ℕ × ℕ) → ℕ
appended v [] = v
appended v (f ∷ fs) = appended (v * 2 ^ f.0 + f.1) fs

-- the number that orders write one after another
abbrev pub number_of : List Order → ℕ
number_of os = appended 0 (flat_map fields_of os)

-- the w bits from bit `from` on, cut from the one number that the bytes write
abbrev pub cut_from : List ℕ → ℕ → ℕ → ℕ
cut_from bs from w = number_from_digits 256 bs / 2 ^ (8 * length bs - (from + w)) % 2 ^ w
