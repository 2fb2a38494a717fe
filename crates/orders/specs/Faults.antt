-- The number of each fault. Assumes nothing.
use Rattle.std.specs.Prelude.{ℕ}
use Rattle.orders.specs.declared.fault.BitFault.{BitFault}
use Rattle.orders.specs.declared.fault.BitFault.TheVariants.{Ends}
use Rattle.orders.specs.declared.fault.OrderFault.{OrderFault}
use Rattle.orders.specs.declared.fault.OrderFault.TheVariants.{Bits, Kind, Padding}
use Rattle.orders.specs.declared.fault.StreamFault.{StreamFault}
use Rattle.orders.specs.declared.fault.ReadFault.{ReadFault}
use Rattle.orders.specs.declared.fault.ReadFault.TheVariants as cells
use Rattle.orders.specs.declared.fault.WriteFault.{WriteFault}
use Rattle.orders.specs.declared.fault.WriteFault.TheVariants as write

-- the stream ends inside an order
abbrev pub bit_fault_number : BitFault → ℕ
bit_fault_number Ends = 11

-- a kind that no order has, a fault of the bits below, a padding bit that is 1
abbrev pub order_fault_number : OrderFault → ℕ
order_fault_number (Kind k) = 10
order_fault_number (Bits e) = bit_fault_number e
order_fault_number Padding = 12

-- the fault of the order that cannot be read
abbrev pub stream_fault_number : StreamFault → ℕ
stream_fault_number e = order_fault_number e.cause

-- a fault of the stream, or a slice with too few cells
abbrev pub read_fault_number : ReadFault → ℕ
read_fault_number (cells.Stream e) = stream_fault_number e
read_fault_number cells.TooShort = 14

-- a field too wide for its bits, or a buffer with too few bytes
abbrev pub write_fault_number : WriteFault → ℕ
write_fault_number write.TooWide = 13
write_fault_number write.TooShort = 14
