use Rattle.std.proofs.Common.{arith}
use Rattle.kinds.proofs.Indices.{gate_count, in_range_at_index}
use Rattle.kinds.proofs.gate_mast.gate_of.Goals as goal

pub returns-clause-in_range : goal.returns-clause-in_range
returns-clause-in_range c =
    let s = c.args.span.now in
    let count = gate_count s in
    rw c.gates.ensures.first_to_last (in_range_at_index s _ _ (omega arith))
