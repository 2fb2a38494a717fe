use Rattle.orders.proofs.Walks.{Walked}
use Rattle.orders.proofs.stream.after_all.Given as goal

abbrev pub invariant-loop : goal.invariant-loop
invariant-loop l = Walked l.bytes l.orders
