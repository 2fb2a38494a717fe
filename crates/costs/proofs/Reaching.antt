-- A mast that reaches its gates at a cost reaches them at what keeps the order of costs. Assumes nothing.
use Rattle.std.proofs.Common.{◌≡◌, ℕ, Bool, true, List, Some, None, Option}
use Rattle.course.specs.declared.gate.Gate.{Gate}
use Rattle.costs.specs.declared.mast.Mast.{Mast}
use Rattle.costs.specs.Masts.{ReachesAll}

pub reaches_over : {V W : Type 0} (le : V → V → Bool) (le' : W → W → Bool) (over : V → W) → ((a b : V) → le a b ≡ true → le' (over a) (over b) ≡ true) → (reads : ℕ → V) (cost : V) (gs : List Gate) (first last : ℕ) (m : Option Mast) → ReachesAll le reads cost gs first last m → ReachesAll le' (λ n. over (reads n)) (over cost) gs first last m
reaches_over le le' over keeps reads cost gs first last None all = all
reaches_over le le' over keeps reads cost gs first last (Some m) all = λ p a b. record { fits = (all p a b).fits; affordable = keeps _ _ (all p a b).affordable }
