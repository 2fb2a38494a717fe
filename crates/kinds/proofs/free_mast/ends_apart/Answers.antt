use Rattle.kinds.proofs.Groups.{free_mast_least_here}
use Rattle.kinds.proofs.free_mast.ends_apart.Goals as goal

pub returns-clause-least_here : goal.returns-clause-least_here
returns-clause-least_here c =
    let top = c.top.ensures.gate_at_first in
    let bottom = c.bottom.ensures.gate_at_last in
    let told = c.distance_squared.ensures.squared_distance in
    free_mast_least_here c.args.zone.now.gates.now c.args.zone.now.a_course c.args.zone.now.first c.args.zone.now.last _ c.args.zone.now.a_span (rw (← top, ← bottom) told)
