-- Where the best gate of a span stands: where the farther end changes, or one above. Assumes nothing.
use Rattle.std.proofs.Common.{◌≡◌, ℕ, ◌-◌, ◌*◌, ◌<◌, ◌≤◌, max, List, length, ⊎_elim, arith, leb-false, leb-true}
use Rattle.std.proofs.lemmas.Bool.Decides.{leb_tells}
use Rattle.course.specs.declared.gate.Gate.{Gate}
use Rattle.course.specs.Gates.{IsCourse, gate_at}
use Rattle.course.proofs.Squares.{apart_sym}
use Rattle.costs.specs.declared.span.Span.{Span}
use Rattle.costs.proofs.Spans.{within}
use Rattle.kinds.specs.GateMast.{between, gate_mast_span, gate_mast_at, TopmostBest}
use Rattle.kinds.specs.Parts.{FirstFarther}
use Rattle.kinds.specs.Farthest.{far_in, between_within, between_falls, to_an_end, span-farthest}
use Rattle.kinds.specs.Least.{FirstBest, span_there, span_best, best_unique}

module _ (gs : List Gate) (k : IsCourse gs) (i j : ℕ) (h : 1 ≤ i) (o : i ≤ j) (m : j ≤ length gs) where
  -- the squared distance to the farther end
  abbrev to_end : ℕ → ℕ
  to_end y = max (between gs i y) (between gs y j)

  -- gates further down are no nearer to the first
  below : (t z : ℕ) → i ≤ t → t ≤ z → z ≤ j → between gs i t ≤ between gs i z
  below t z a b c = between_within gs k i i t z h (omega arith) a b (omega arith)

  -- gates above the one before t are no nearer to the last
  above : (t z : ℕ) → i ≤ z → z < t → t ≤ j → between gs (t - 1) j ≤ between gs z j
  above t z a b c = between_within gs k z (t - 1) j j (omega arith) (omega arith) (omega arith) (omega arith) m

  at_first_farther : (t : ℕ) → FirstFarther gs i j t → (i < t → between gs i t < between gs (t - 1) j) → FirstBest to_end i j t
  at_first_farther t u l =
      let d = leb-true (between gs t j) (between gs i t) u.farther in
      record {
        from_first = u.from_first;
        to_last = u.to_last;
        best = λ z a b. ⊎_elim
            (λ r. let e = below t z u.from_first r.1 b in omega arith)
            (λ r. let e = above t z a r.1 u.to_last in let f = l (omega arith) in omega arith)
            (leb_tells t z);
        first = λ z a b. let e = above t z a b u.to_last in let f = l (omega arith) in omega arith;
      }

  above_first_farther : (t : ℕ) → FirstFarther gs i j t → i < t → between gs (t - 1) j ≤ between gs i t → FirstBest to_end i j (t - 1)
  above_first_farther t u n l =
      let d = leb-false (between gs (t - 1) j) (between gs i (t - 1)) (u.not_before n) in
      record {
        from_first = omega arith;
        to_last = omega arith;
        best = λ z a b. ⊎_elim
            (λ r. let e = below t z u.from_first r.1 b in omega arith)
            (λ r. let e = above t z a r.1 u.to_last in omega arith)
            (leb_tells t z);
        first = λ z a b. let e = between_falls gs k z (t - 1) j (omega arith) b (omega arith) m in omega arith;
      }

  -- the mast's gate is the first at which the farther end is nearest
  mast_best : FirstBest to_end i j (gate_mast_at gs i j)
  mast_best =
      let b = span_best (far_in gs i j) i j o in
      let e = span-farthest gs k i j (gate_mast_at gs i j) h b.from_first b.to_last m in
      record {
        from_first = b.from_first;
        to_last = b.to_last;
        best = λ z c d. let f = span-farthest gs k i j z h c d m in let g = b.best z c d in omega arith;
        first = λ z c d. let l = b.to_last in let f = span-farthest gs k i j z h c (omega arith) m in let g = b.first z c d in omega arith;
      }

  pub mast_above : (t : ℕ) → FirstFarther gs i j t → i < t → between gs (t - 1) j ≤ between gs i t → t - 1 ≡ gate_mast_at gs i j
  mast_above t u l n = best_unique to_end i j (t - 1) (gate_mast_at gs i j) (above_first_farther t u l n) mast_best

  pub mast_there : (t : ℕ) → FirstFarther gs i j t → (i < t → between gs i t < between gs (t - 1) j) → t ≡ gate_mast_at gs i j
  mast_there t u n = best_unique to_end i j t (gate_mast_at gs i j) (at_first_farther t u n) mast_best

  pub mast_cost : 4 * to_end (gate_mast_at gs i j) ≡ gate_mast_span gs i j
  mast_cost =
      let t = span_there (far_in gs i j) i j o in
      let b = mast_best in
      let e = span-farthest gs k i j (gate_mast_at gs i j) h b.from_first b.to_last m in
      omega arith

  -- a gate of the span as far as the farther end
  far_end : (z : ℕ) → i ≤ z → z ≤ j → (p : ℕ) × (i ≤ p) × (p ≤ j) × (to_end z ≡ between gs z p)
  far_end z a b =
      ⊎_elim
      (λ l. (i, omega arith, omega arith, let e = apart_sym (gate_at gs i) (gate_at gs z) in omega arith))
      (λ l. (j, omega arith, omega arith, omega arith))
      (leb_tells (between gs z j) (between gs i z))

  pub mast_topmost : TopmostBest gs i j (gate_mast_span gs i j) (gate_mast_at gs i j)
  mast_topmost =
      let b = mast_best in
      let told = mast_cost in
      record {
        from_first = b.from_first;
        to_last = b.to_last;
        reaches = λ p c d. let e = to_an_end gs k i j (gate_mast_at gs i j) p h b.from_first b.to_last c d m in omega arith;
        none_better = λ z c d. let f = far_end z c d in let e = b.best z c d in (f.0, f.1, f.2, omega arith);
        none_above = λ z c d. let l = b.to_last in let f = far_end z c (omega arith) in let e = b.first z c d in (f.0, f.1, f.2, omega arith);
      }

-- and so in a span
module _ (s : Span) where
  pub best_above : (t : ℕ) → FirstFarther s.gates.now s.first s.last t → s.first < t → between s.gates.now (t - 1) s.last ≤ between s.gates.now s.first t → t - 1 ≡ gate_mast_at s.gates.now s.first s.last
  best_above = let v = within s.gates.now s.first s.last s.a_span in mast_above s.gates.now s.a_course s.first s.last v.counted v.in_order v.inside

  pub best_there : (t : ℕ) → FirstFarther s.gates.now s.first s.last t → (s.first < t → between s.gates.now s.first t < between s.gates.now (t - 1) s.last) → t ≡ gate_mast_at s.gates.now s.first s.last
  best_there = let v = within s.gates.now s.first s.last s.a_span in mast_there s.gates.now s.a_course s.first s.last v.counted v.in_order v.inside

  pub best_cost : (y : ℕ) → y ≡ gate_mast_at s.gates.now s.first s.last → 4 * max (between s.gates.now s.first y) (between s.gates.now y s.last) ≡ gate_mast_span s.gates.now s.first s.last
  best_cost y e = let v = within s.gates.now s.first s.last s.a_span in rw e (mast_cost s.gates.now s.a_course s.first s.last v.counted v.in_order v.inside)
