use Rattle.std.proofs.Common.{◌≡◌, ◌++◌, string_bytes}
use Rattle.orders.specs.Streams.{parse}
use Rattle.listing.specs.Listing.{order_lines}
use Rattle.listing.proofs.order_lines.Given as goal

abbrev pub invariant-loop-byte : goal.invariant-loop-byte
invariant-loop-byte l = string_bytes l.text ++ order_lines l.byte-iterator.byte (parse l.byte-iterator.rest.now).orders ≡ order_lines 0 (parse l.bytes).orders
