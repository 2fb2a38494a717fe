-- Steps in words. Assumes nothing.
use Rattle.std.specs.Prelude.{ℕ, List, ◌++◌, codes, decimal}
use Rattle.steps.specs.declared.step.Step.{Step}
use Rattle.steps.specs.declared.step.Step.TheVariants.{At, Beyond}

-- a step: s and its number, or b and the cost that is beyond every limit
abbrev pub step_words : Step → List ℕ
step_words (At n) = codes "s" ++ decimal n
step_words (Beyond n) = codes "b" ++ decimal n
