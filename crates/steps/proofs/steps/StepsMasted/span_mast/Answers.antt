use Rattle.std.proofs.Common.{Some, sym, ◌∙◌}
use Rattle.steps.specs.Steps.{step_not_greater, step_of}
use Rattle.steps.specs.View.{limits_of}
use Rattle.steps.specs.Monotone.{steps_monotone}
use Rattle.costs.proofs.Reaching.{reaches_over}
use Rattle.steps.proofs.steps.StepsMasted.span_mast.Goals as goal

pub returns-clause-reaches_every_gate : goal.returns-clause-reaches_every_gate
returns-clause-reaches_every_gate g c =
    let cost = g.C.Cost in
    let s = c.args.self.now in
    let of = c.args.span.now in
    let ls = limits_of s.limits in
    reaches_over cost.not_greater step_not_greater (step_of ls) (λ a b e. steps_monotone ls a b (sym (g.met.C.Whole.usual a b) ∙ e)) (cost.reads_as s.below) (cost.span_cost s.below of.gates.now of.first of.last) of.gates.now of.first of.last (Some c.span_mast.result) c.span_mast.ensures.reaches_every_gate
