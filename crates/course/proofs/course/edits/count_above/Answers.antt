use Rattle.std.proofs.Common.{rules, arith, ◌≡◌, ◌∙◌, ◌^◌, ◌-◌, ◌≤◌, cond, length}
use Rattle.std.specs.List.{sum_by}
use Rattle.std.proofs.lemmas.Iterator.{YieldsList-from_slice}
use Rattle.std.proofs.lemmas.Iterator.Adapters.{fits_from_length, at_most_from_yields_List}
use Rattle.course.specs.Gates.{above}
use Rattle.course.proofs.Filtering.{counted_one_each}
use Rattle.course.proofs.course.edits.count_above.Goals as goal

pub sum-requires-clause-fits : goal.sum-requires-clause-fits
sum-requires-clause-fits c =
    let few : length c.args.gates.now ≤ 2 ^ 64 - 1 = omega arith in
    fits_from_length _ _ (2 ^ 64 - 1) (2 ^ 64) (at_most_from_yields_List (YieldsList-from_slice c.args.gates.now cc) few) c.map.ensures.closure (omega arith) (λ x r q k. search rules)

pub returns : goal.returns
returns c =
    let told : c.sum.result ≡ sum_by (λ x. cond (above x c.args.gate) 1 0) c.args.gates.now = search rules in
    record { above_it = told ∙ counted_one_each (λ x. above x c.args.gate) c.args.gates.now }
