use Rattle.orders.proofs.WriterLoops.{sofar_more, sofar_size, sofar_all, sofar_back, sofar_number}
use Rattle.orders.proofs.write.put_all.Goals as goal

pub loop-order-preserved : goal.loop-order-preserved
loop-order-preserved c = sofar_more c.loop-order.invariant _ _ _ c.loop-order-test.true c.requires.room c.size.ensures.value c.write.ensures.after

pub returns : goal.returns
returns c =
    let done = c.loop-order-test.false in
    record {
      size = sofar_size c.loop-order.invariant done;
      after = sofar_all c.loop-order.invariant done;
      back = sofar_back c.loop-order.invariant done c.requires.fitting;
      one_number = sofar_number c.loop-order.invariant done c.requires.fitting;
    }
