-- What private functions answer: where the search for the best gate of a span for its mast ends. Assumes nothing.
use Rattle.std.specs.Prelude.{◌≡◌, ℕ, ◌-◌, ◌<◌, ◌≤◌, Bool, true, false, List, nat_le}
use Rattle.course.specs.declared.gate.Gate.{Gate}
use Rattle.kinds.specs.GateMast.{between}

-- the gate at y is at least as far from the first gate as from the last
abbrev pub farther_from_first : List Gate → ℕ → ℕ → ℕ → Bool
farther_from_first gs first last y = nat_le (between gs y last) (between gs first y)

-- y is such a gate of the span, and the one above it is none
pub record FirstFarther (gs : List Gate) (first last y : ℕ) : Type 0 where
  pub from_first : first ≤ y
  pub to_last : y ≤ last
  pub farther : farther_from_first gs first last y ≡ true
  pub not_before : first < y → farther_from_first gs first last (y - 1) ≡ false
