use Rattle.orders.proofs.Bytes.{bytes_typed}
use Rattle.orders.proofs.Streams.{one_reading}
use Rattle.orders.proofs.Walks.{walked_on, walked_off}
use Rattle.orders.proofs.stream.after_all.Goals as goal

pub loop-preserved : goal.loop-preserved
loop-preserved c = walked_on c.loop.invariant _ c.loop-test.ensures c.next.ensures.steps

pub returns : goal.returns
returns c =
    let t = walked_off c.loop.invariant _ c.loop-test.ensures c.next.ensures.steps in
    record { count = t.came; few = t.few_came; size = t.size; answer = t.count; few_told = t.few; reading = one_reading c.args.bytes.now (bytes_typed _ c.type_inv.bytes) }
