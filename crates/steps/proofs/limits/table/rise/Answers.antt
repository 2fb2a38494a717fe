use Rattle.std.proofs.Common.{ltb, rules}
use Rattle.std.proofs.lemmas.List.Sorted.{answers_always}
use Rattle.steps.proofs.Tables.{rises_told}
use Rattle.steps.proofs.limits.table.rise.Goals as goal

pub returns : goal.returns
returns c = record { each_greater = rises_told _ _ (c.is_sorted_by.ensures.cases ltb (answers_always _ _ _ (λ f a r g called. search rules))) }
