use Rattle.orders.proofs.WriterLoops.{Sofar}
use Rattle.orders.proofs.write.put_all.Given as goal

abbrev pub invariant-loop-order : goal.invariant-loop-order
invariant-loop-order l = Sofar l.orders l.initial.out l.out l.order-index l.at
