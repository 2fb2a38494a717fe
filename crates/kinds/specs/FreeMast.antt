-- What a group of gates costs with its mast at any place. Assumes nothing.
use Rattle.std.specs.Prelude.{◌≡◌, ℕ, ◌*◌, ◌≤◌, List, pos, ◌+ℤ◌}
use Rattle.course.specs.declared.gate.Gate.{Gate}
use Rattle.course.specs.Gates.{gate_at}
use Rattle.course.specs.Distances.{Place, place_of, scaled, squared_distance, apart}
use Rattle.costs.specs.declared.mast.Mast.{Mast}
use Rattle.costs.specs.Groups.{topmost, lowest}
use Rattle.kinds.specs.Extremes.{greatest}

-- the greatest squared distance from a place to a gate at one of the positions, the place and the distances being
-- told in units of which q make a centimetre: q * q times what it is in centimetres
abbrev pub farthest_from : List Gate → ℕ → Place → List ℕ → ℕ
farthest_from gs q place ps = greatest (λ p. squared_distance (scaled q (place_of (gate_at gs p))) place) ps

-- the cost is four times the least, over all places with fractional coordinates, of the greatest squared distance to a
-- gate of the group: a place is (p/q, r/q), by its numerators p and r, and both sides are taken q * q times
pub record LeastOverPlaces (gs : List Gate) (ps : List ℕ) (cost : ℕ) : Type 0 where
  pub attained : (q : ℕ) × (place : Place) × (1 ≤ q) × (4 * farthest_from gs q place ps ≡ cost * (q * q))
  pub unbeaten : (q : ℕ) (place : Place) → 1 ≤ q → cost * (q * q) ≤ 4 * farthest_from gs q place ps

-- the group's cost: the squared distance of its topmost gate and its lowest
abbrev pub free_mast_group : List Gate → List ℕ → ℕ
free_mast_group gs ps = apart (gate_at gs (topmost ps)) (gate_at gs (lowest ps))

-- the span's cost: the squared distance of its first gate and its last
abbrev pub free_mast_span : List Gate → ℕ → ℕ → ℕ
free_mast_span gs first last = apart (gate_at gs first) (gate_at gs last)

-- the mast halfway between two gates: the sums of their coordinates
abbrev pub halfway : Gate → Gate → Mast
halfway a b = record { distance = pos a.distance +ℤ pos b.distance; height = a.height +ℤ b.height }

-- the span's mast, halfway between its ends
abbrev pub free_mast_mast : List Gate → ℕ → ℕ → Mast
free_mast_mast gs first last = halfway (gate_at gs first) (gate_at gs last)
