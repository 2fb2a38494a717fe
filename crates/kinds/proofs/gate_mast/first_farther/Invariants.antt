use Rattle.std.proofs.Common.{◌≡◌, ◌-◌, ◌<◌, ◌≤◌, true, false}
use Rattle.kinds.specs.Parts.{farther_from_first}
use Rattle.kinds.proofs.gate_mast.first_farther.Given as goal

-- the gate at high leans down, and the one above low does not
abbrev pub invariant-loop-low : goal.invariant-loop-low
invariant-loop-low l =
    (l.span.first ≤ l.low) × (l.low ≤ l.high) × (l.high ≤ l.span.last) ×
    (farther_from_first l.span.gates.now l.span.first l.span.last l.high ≡ true) ×
    (l.span.first < l.low → farther_from_first l.span.gates.now l.span.first l.span.last (l.low - 1) ≡ false)

abbrev pub decreases-loop-low : goal.decreases-loop-low
decreases-loop-low l = l.high - l.low
