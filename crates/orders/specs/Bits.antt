-- The bits of bytes, the most significant of each byte first, and the numbers that runs of them write.
-- Assumes nothing.
use Rattle.std.specs.Prelude.{ℕ, zero, suc, ◌+◌, ◌-◌, ◌*◌, ◌/◌, ◌%◌, ◌^◌, Bool, cond, ◌&&◌, List, length, Ok, Err, Result, nat_le, nat_lt, slice_index}
use Rattle.orders.specs.declared.fault.BitFault.{BitFault}
use Rattle.orders.specs.declared.fault.BitFault.TheVariants.{Ends}

-- bit i: byte i / 8, and of it the bit i % 8 places below the top; 0 past the end
unfoldable pub bit_at : List ℕ → ℕ → ℕ
bit_at bs i = slice_index bs (i / 8) / 2 ^ (7 - i % 8) % 2

-- the number that the w bits from bit `from` on write
unfoldable pub field_at : List ℕ → ℕ → ℕ → ℕ
field_at bs from zero = 0
field_at bs from (suc w) = field_at bs from w * 2 + bit_at bs (from + w)

-- the bytes have these bits, a u64 holds their number, and a usize counts them
abbrev pub readable : List ℕ → ℕ → ℕ → Bool
readable bs from w = nat_le (from + w) (8 * length bs) && nat_le w 64 && nat_lt (from + w) (2 ^ 64)

-- what reading w bits from bit `from` on answers: their number, or that they cannot be read
abbrev pub field_read : List ℕ → ℕ → ℕ → Result ℕ BitFault
field_read bs from w = cond (readable bs from w) (Ok (field_at bs from w)) (Err Ends)

-- how many bits are read afterwards
abbrev pub field_end : List ℕ → ℕ → ℕ → ℕ
field_end bs from w = cond (readable bs from w) (from + w) from
