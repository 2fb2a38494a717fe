use Rattle.std.proofs.Common.{◌≡◌, ◌++◌, take, drop}
use Rattle.orders.specs.Streams.{parse}
use Rattle.orders.proofs.Streams.{Reached}
use Rattle.orders.proofs.stream.fill.Given as goal

abbrev pub invariant-loop-at : goal.invariant-loop-at
invariant-loop-at l = Reached l.bytes l.at-iterator.iter.rest.now l.at-iterator.count × (l.out ≡ take l.at-iterator.count (parse l.bytes).orders ++ drop l.at-iterator.count l.initial.out)
