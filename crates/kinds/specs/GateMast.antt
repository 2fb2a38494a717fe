-- What a group of gates costs with its mast at one of them. Assumes nothing.
use Rattle.std.specs.Prelude.{ℕ, ◌*◌, ◌<◌, ◌≤◌, List, pos, ◌*ℤ◌}
use Rattle.course.specs.declared.gate.Gate.{Gate}
use Rattle.course.specs.Gates.{gate_at}
use Rattle.course.specs.Distances.{apart}
use Rattle.costs.specs.declared.mast.Mast.{Mast}
use Rattle.costs.specs.Groups.{span}
use Rattle.kinds.specs.Extremes.{greatest, least, first_least}

-- the squared distance of the gates at two positions
abbrev pub between : List Gate → ℕ → ℕ → ℕ
between gs p q = apart (gate_at gs p) (gate_at gs q)

-- the greatest squared distance from the gate at y to a gate at one of the positions
abbrev pub farthest : List Gate → ℕ → List ℕ → ℕ
farthest gs y ps = greatest (between gs y) ps

-- the group's cost: four times the least, over its gates, of the greatest squared distance to one of its gates
abbrev pub gate_mast_group : List Gate → List ℕ → ℕ
gate_mast_group gs ps = 4 * least (λ y. farthest gs y ps) ps

-- the span's cost
abbrev pub gate_mast_span : List Gate → ℕ → ℕ → ℕ
gate_mast_span gs first last = gate_mast_group gs (span first last)

-- the position of the mast's gate: the topmost of equally good ones
abbrev pub gate_mast_at : List Gate → ℕ → ℕ → ℕ
gate_mast_at gs first last = first_least (λ y. farthest gs y (span first last)) (span first last)

-- the cost and the position together
abbrev pub gate_mast_best : List Gate → ℕ → ℕ → ℕ × ℕ
gate_mast_best gs first last = (gate_mast_span gs first last, gate_mast_at gs first last)

-- a mast at a gate
abbrev pub doubled : Gate → Mast
doubled g = record { distance = pos (2 * g.distance); height = pos 2 *ℤ g.height }

-- the span's mast
abbrev pub gate_mast_mast : List Gate → ℕ → ℕ → Mast
gate_mast_mast gs first last = doubled (gate_at gs (gate_mast_at gs first last))

-- the topmost of the best gates of a span for its mast, at this cost
pub record TopmostBest (gs : List Gate) (first last cost y : ℕ) : Type 0 where
  pub from_first : first ≤ y
  pub to_last : y ≤ last
  -- from it, every gate of the span is reached at this cost
  pub reaches : (p : ℕ) → first ≤ p → p ≤ last → 4 * between gs y p ≤ cost
  -- from no gate of the span is every gate reached at less
  pub none_better : (z : ℕ) → first ≤ z → z ≤ last → (p : ℕ) × (first ≤ p) × (p ≤ last) × (cost ≤ 4 * between gs z p)
  -- and from none above it at as much
  pub none_above : (z : ℕ) → first ≤ z → z < y → (p : ℕ) × (first ≤ p) × (p ≤ last) × (cost < 4 * between gs z p)
