-- Steps: their order, and the step of a number. Assumes nothing.
use Rattle.std.specs.Prelude.{◌≡◌, ℕ, ◌+◌, ◌<◌, ◌≤◌, Bool, true, false, List, length, nat_le, position}
use Rattle.std.specs.Option.{option_map_or}
use Rattle.steps.specs.declared.step.Step.{Step}
use Rattle.steps.specs.declared.step.Step.TheVariants.{At, Beyond}
use Rattle.steps.specs.Limits.{limit_at}

-- a step is not greater than another: both by number, and every step before whatever is beyond the limits
abbrev pub step_not_greater : Step → Step → Bool
step_not_greater (At i) (At j) = nat_le i j
step_not_greater (At i) (Beyond n) = true
step_not_greater (Beyond m) (At j) = false
step_not_greater (Beyond m) (Beyond n) = nat_le m n

-- the step of n: the first whose limit is not smaller, and n itself where there is none
unfoldable pub step_of : List ℕ → ℕ → Step
step_of ls n = option_map_or (λ i. At (i + 1)) (position (λ l. nat_le n l) ls) (Beyond n)

-- limit i is the first that is not smaller than n
pub record FirstInside (ls : List ℕ) (n i : ℕ) : Type 0 where
  pub counted : (1 ≤ i) × (i ≤ length ls)
  pub holds : n ≤ limit_at ls i
  pub first : (k : ℕ) → (1 ≤ k) × (k < i) → limit_at ls k < n

-- m is n, and every limit is smaller
pub record PastAll (ls : List ℕ) (n m : ℕ) : Type 0 where
  pub same : m ≡ n
  pub past : (k : ℕ) → (1 ≤ k) × (k ≤ length ls) → limit_at ls k < n

-- what a step says of its number
abbrev pub Covers : List ℕ → ℕ → Step → Type 0
Covers ls n (At i) = FirstInside ls n i
Covers ls n (Beyond m) = PastAll ls n m

-- the step covers the number, and no other does
pub record OneStep (ls : List ℕ) (n : ℕ) (step : Step) : Type 0 where
  pub covers : Covers ls n step
  pub only : (other : Step) → Covers ls n other → other ≡ step
