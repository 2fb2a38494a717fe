use Rattle.std.proofs.Common.{◌≡◌, true, rules}
use Rattle.rows.specs.Rows.{items_of}
use Rattle.steps.specs.Limits.{lawful_limits}
use Rattle.steps.proofs.Tables.{lawful_table}
use Rattle.steps.proofs.limits.Limits.new.Goals as goal

pub invariant_of-result : goal.invariant_of-result
invariant_of-result c =
    let e : lawful_limits (items_of c.in_ok-limits.limits) ≡ true = search rules in
    record { table = lawful_table _ e }
