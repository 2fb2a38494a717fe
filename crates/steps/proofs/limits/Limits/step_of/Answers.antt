use Rattle.std.proofs.Common.{◌≡◌, rules}
use Rattle.steps.specs.Steps.{step_of}
use Rattle.steps.specs.View.{limits_of}
use Rattle.steps.specs.Monotone.{one_step}
use Rattle.steps.proofs.limits.Limits.step_of.Goals as goal

pub returns : goal.returns
unfolding step_of
returns c =
    let e : c.map_or.result ≡ step_of (limits_of c.args.self.now) c.args.n = search rules in
    record { first_limit_not_smaller = e; within_it_and_past_all_before = one_step _ _ _ e }
