use Rattle.std.proofs.Common.{◌≡◌}
use Rattle.kinds.specs.GateMast.{between}
use Rattle.kinds.proofs.Best.{best_cost}
use Rattle.kinds.proofs.Groups.{gate_mast_topmost}
use Rattle.kinds.proofs.gate_mast.best_of_span.Goals as goal

pub returns-clause-topmost_of_the_best : goal.returns-clause-topmost_of_the_best
returns-clause-topmost_of_the_best c =
    let s = c.args.span.now in
    let y = c.best_position-y.result in
    let there = c.best_position-y.ensures.topmost_of_the_best in
    let top = c.top.ensures.gate_at_first in
    let gate = c.gate_of-gate.ensures.gate_there in
    let bottom = c.bottom.ensures.gate_at_last in
    let up : c.distance_squared.result ≡ between s.gates.now s.first y = rw (← top, ← gate) c.distance_squared.ensures.squared_distance in
    let down : c.distance_squared-2.result ≡ between s.gates.now y s.last = rw (← gate, ← bottom) c.distance_squared-2.ensures.squared_distance in
    gate_mast_topmost s.gates.now s.a_course s.first s.last _ _ s.a_span (rw (c.max-farthest.ensures, up, down) (best_cost s _ there)) there
