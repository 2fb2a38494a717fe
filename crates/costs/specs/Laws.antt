-- What every cost kind keeps. Assumes nothing.
use Rattle.std.specs.Prelude.{◌≡◌, ℕ, ◌≤◌, Bool, true, ◌⊎◌, List, length}
use Rattle.course.specs.declared.gate.Gate.{Gate}
use Rattle.course.specs.Gates.{IsCourse}
use Rattle.costs.specs.Groups.{is_span, span, Group, topmost, lowest}

-- an order in which any two values compare. le a b: a is not greater than b
pub record Order {V : Type 0} (le : V → V → Bool) : Type 0 where
  pub reflexive : (a : V) → le a a ≡ true
  pub transitive : (a b c : V) → le a b ≡ true → le b c ≡ true → le a c ≡ true
  pub antisymmetric : (a b : V) → le a b ≡ true → le b a ≡ true → a ≡ b
  pub total : (a b : V) → (le a b ≡ true) ⊎ (le b a ≡ true)

-- what a kind K with cost values V keeps on every course
pub record Laws {K V : Type 0} (le : V → V → Bool) (span_of : K → List Gate → ℕ → ℕ → V) (group_of : K → List Gate → List ℕ → V) : Type 0 where
  pub order : Order le
  -- a span costs what the group of all its gates costs
  pub whole : (k : K) (gs : List Gate) (i j : ℕ) → IsCourse gs → is_span gs i j ≡ true → span_of k gs i j ≡ group_of k gs (span i j)
  -- the span i to j, inside the span a to b, costs no more than that one
  pub nested : (k : K) (gs : List Gate) (a i j b : ℕ) → IsCourse gs → is_span gs a b ≡ true → a ≤ i → i ≤ j → j ≤ b → le (span_of k gs i j) (span_of k gs a b) ≡ true
  -- the span from a group's topmost gate to its lowest costs no more than the group
  pub hull : (k : K) (gs : List Gate) (ps : List ℕ) → IsCourse gs → Group (length gs) ps → le (span_of k gs (topmost ps) (lowest ps)) (group_of k gs ps) ≡ true
