-- What a mast at a gate reaches. Assumes nothing.
use Rattle.std.proofs.Common.{◌≡◌, ℕ, ◌*◌, ◌^◌, ◌<◌, ◌≤◌, leb, length, ℤ, pos, ◌-ℤ◌, ◌*ℤ◌, nat_abs, arith, le-leb}
use Rattle.std.proofs.lemmas.Int.{ints}
use Rattle.course.specs.declared.gate.Gate.{Gate}
use Rattle.course.specs.Gates.{gate_at}
use Rattle.course.specs.Distances.{square, apart}
use Rattle.course.proofs.Squares.{apart_sym}
use Rattle.costs.specs.declared.span.Span.{Span}
use Rattle.costs.specs.declared.mast.Mast.{Mast}
use Rattle.costs.proofs.Spans.{within, span_group}
use Rattle.costs.specs.Groups.{span}
use Rattle.costs.specs.Masts.{reach, Reached}
use Rattle.kinds.specs.GateMastLaws.{groups_below}
use Rattle.kinds.proofs.Best.{mast_topmost}
use Rattle.kinds.specs.GateMast.{gate_mast_span, gate_mast_at, doubled, gate_mast_mast}

doubled-square : (a b : ℤ) → square (pos 2 *ℤ a -ℤ pos 2 *ℤ b) ≡ 4 * square (a -ℤ b)
doubled-square a b =
    let e : nat_abs (pos 2 *ℤ a -ℤ pos 2 *ℤ b) ≡ 2 * nat_abs (a -ℤ b) = omega (arith, ints) in
    rw e (omega arith)

reach-doubled : (y g : Gate) → reach (doubled y) g ≡ 4 * apart y g
reach-doubled y g =
    let d = doubled-square (pos g.distance) (pos y.distance) in
    let h = doubled-square g.height y.height in
    let e = apart_sym y g in
    omega arith

reached : (y g : Gate) (cost : ℕ) → cost < 2 ^ 43 → 4 * apart y g ≤ cost → Reached leb (λ n. n) cost (reach (doubled y) g)
reached y g cost s l =
    let e = reach-doubled y g in
    record { fits = omega arith; affordable = le-leb _ _ (omega arith) }

-- every gate of a span is reached from the mast at its best gate
pub best_reaches : (s : Span) (m : Mast) (p : ℕ) → m ≡ gate_mast_mast s.gates.now s.first s.last → s.first ≤ p → p ≤ s.last → Reached leb (λ n. n) (gate_mast_span s.gates.now s.first s.last) (reach m (gate_at s.gates.now p))
best_reaches s m p e h l =
    let v = within s.gates.now s.first s.last s.a_span in
    let t = mast_topmost s.gates.now s.a_course s.first s.last v.counted v.in_order v.inside in
    let small = groups_below s.gates.now s.a_course (span s.first s.last) (span_group (length s.gates.now) s.first s.last v.counted v.in_order v.inside) in
    rw e (reached (gate_at s.gates.now (gate_mast_at s.gates.now s.first s.last)) (gate_at s.gates.now p) (gate_mast_span s.gates.now s.first s.last) small (t.reaches p h l))
