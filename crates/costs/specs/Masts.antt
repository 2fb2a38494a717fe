-- A mast for a span, and what it reaches. Assumes nothing.
use Rattle.std.specs.Prelude.{◌≡◌, ℕ, ◌^◌, ◌<◌, ◌≤◌, Bool, true, List, Some, None, Option}
use Rattle.course.specs.declared.gate.Gate.{Gate}
use Rattle.course.specs.Gates.{gate_at}
use Rattle.course.specs.Distances.{Place, place_of, scaled, squared_distance}
use Rattle.costs.specs.declared.mast.Mast.{Mast}

-- the place of a mast, in doubled coordinates
abbrev pub mast_place : Mast → Place
mast_place m = record { along = m.distance; up = m.height }

-- a gate's reach from a mast: the squared distance of its doubled coordinates from the mast's
abbrev pub reach : Mast → Gate → ℕ
reach m g = squared_distance (scaled 2 (place_of g)) (mast_place m)

-- a gate at this reach is reached at this cost
pub record Reached {V : Type 0} (le : V → V → Bool) (reads : ℕ → V) (cost : V) (far : ℕ) : Type 0 where
  pub fits : far < 2 ^ 64
  pub affordable : le (reads far) cost ≡ true

-- the mast told, if any, reaches every gate of the span at the span's cost
abbrev pub ReachesAll : {V : Type 0} → (V → V → Bool) → (ℕ → V) → V → List Gate → ℕ → ℕ → Option Mast → Type 0
ReachesAll le reads cost gs first last None = Unit {0}
ReachesAll le reads cost gs first last (Some m) = (p : ℕ) → first ≤ p → p ≤ last → Reached le reads cost (reach m (gate_at gs p))
