use Rattle.std.proofs.Common.{ap, ◌∙◌}
use Rattle.hills.proofs.Texts.{mast_line_parts}
use Rattle.hills.proofs.spans.masted_line.Goals as goal

pub returns : goal.returns
returns g c = record {
  text = λ word told.
      let e = ap g.C.Value.Display.output c.span_cost-cost.ensures.cost_of_it ∙ told in
      let parts = mast_line_parts c.args.name.now c.args.span.now.first c.args.span.now.last word c.span_mast-mast.result in
      rw (← c.span_mast-mast.ensures.mast_of_it, parts) (rw e at c.format.ensures.ok);
}
