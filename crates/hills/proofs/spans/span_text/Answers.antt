use Rattle.std.proofs.Common.{refl}
use Rattle.hills.proofs.Texts.{span_text_parts}
use Rattle.hills.proofs.spans.span_text.Goals as goal

pub returns : goal.returns
returns c =
    let s = c.args.span.now in
    let gate = c.in_ok-gate.ensures.text _ refl in
    let free = c.in_ok-free.ensures.text _ refl in
    let step = rw c.free_mast_steps.ensures.limits at (c.in_ok-step.ensures.text _ refl) in
    record { text = rw (span_text_parts s.gates.now s.first s.last gate free step, ← c.span_cost-trench.ensures.cost_of_it) c.format.ensures.ok }
