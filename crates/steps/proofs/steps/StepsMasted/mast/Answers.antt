use Rattle.std.proofs.Common.{sym, ◌∙◌}
use Rattle.course.specs.View.{gates_of}
use Rattle.steps.specs.Steps.{step_not_greater, step_of}
use Rattle.steps.specs.View.{limits_of}
use Rattle.steps.specs.Monotone.{steps_monotone}
use Rattle.costs.proofs.Reaching.{reaches_over}
use Rattle.steps.proofs.steps.StepsMasted.mast.Goals as goal

pub returns-clause-reaches_every_gate : goal.returns-clause-reaches_every_gate
returns-clause-reaches_every_gate g c =
    let cost = g.C.Cost in
    let s = c.args.self.now in
    let ls = limits_of s.limits in
    let gs = gates_of c.args.course.now in
    reaches_over cost.not_greater step_not_greater (step_of ls) (λ a b e. steps_monotone ls a b (sym (g.met.C.Whole.usual a b) ∙ e)) (cost.reads_as s.below) (cost.span_cost s.below gs c.args.first c.args.last) gs c.args.first c.args.last c.mast.result c.mast.ensures.reaches_every_gate
