-- What private functions answer. No public contract cites these. Assumes nothing.
use Rattle.std.specs.Prelude.{ℕ, zero, suc, ◌+◌, ◌*◌, ◌/◌, ◌%◌, ◌^◌, cond, List, [], ◌∷◌, length, Some, None, Ok, Err, Option, Result, ◌==◌, nat_lt}
use Rattle.orders.specs.declared.fault.BitFault.{BitFault}
use Rattle.orders.specs.declared.fault.BitFault.TheVariants.{Ends}
use Rattle.orders.specs.declared.fault.OrderFault.{OrderFault}
use Rattle.orders.specs.declared.fault.OrderFault.TheVariants.{Padding}
use Rattle.orders.specs.declared.order.Place.{Place}
use Rattle.orders.specs.Bits.{readable}
use Rattle.orders.specs.Reading.{place_in, padding_in}

-- how many bits are read after the next w bits, if they can be read
abbrev pub end_after : List ℕ → ℕ → ℕ → Option ℕ
end_after bs from w = cond (readable bs from w) (Some (from + w)) None

-- what a set or a move says, if the bytes have it
abbrev pub place_read : List ℕ → Result Place BitFault
place_read bs = cond (nat_lt (8 * length bs) 51) (Err Ends) (Ok (place_in bs))

-- whether the padding after w bits is 0
abbrev pub padding_read : ℕ → List ℕ → Result (Unit {0}) OrderFault
padding_read w bs = cond (padding_in w bs == 0) (Ok tt) (Err Padding)

-- the lowest n digits of a number in base 2 ^ c, the most significant first
unfoldable pub digits : ℕ → ℕ → ℕ → List ℕ
digits c zero v = []
digits c (suc n) v = v / 2 ^ (c * n) % 2 ^ c ∷ digits c n v

-- the lowest n bytes of a number
abbrev pub bytes_of : ℕ → ℕ → List ℕ
bytes_of n v = digits 8 n v
