use Rattle.std.proofs.Common.{rules}
use Rattle.kinds.proofs.Places.{span_reached}
use Rattle.kinds.proofs.free_mast.halfway.Goals as goal

pub returns-clause-between_the_ends : goal.returns-clause-between_the_ends
returns-clause-between_the_ends c = let t = c.top-top.ensures.gate_at_first in let b = c.bottom-bottom.ensures.gate_at_last in rw (← t, ← b) (search rules)

pub returns-clause-reaches_every_gate : goal.returns-clause-reaches_every_gate
returns-clause-reaches_every_gate c p h l = span_reached c.args.span.now _ p (returns-clause-between_the_ends c) h l
