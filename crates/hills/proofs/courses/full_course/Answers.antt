use Rattle.std.proofs.Common.{◌≡◌, ℕ, ◌<◌, [], get_or, ap, ◌∙◌, arith, rules}
use Rattle.course.specs.Gates.{no_gate}
use Rattle.hills.specs.Hills.{slope_gate}
use Rattle.hills.specs.Parts.{added_all}
use Rattle.hills.proofs.Sloping.{slope_made, slope_added}
use Rattle.hills.proofs.courses.full_course.Goals as goal

pub returns : goal.returns
returns c =
    let items = c.from_fn-gates.ensures.items in
    let each : (i : ℕ) → i < 200 → get_or c.from_fn-gates.result i no_gate ≡ slope_gate i = λ i h. let w = items.at i no_gate h in search rules in
    record { gates_of_the_slope = c.course_of.ensures.added ∙ ap (added_all []) (slope_made c.from_fn-gates.result 200 items.long each) ∙ slope_added 200 (omega arith) }
