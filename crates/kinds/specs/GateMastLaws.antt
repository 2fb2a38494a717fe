-- What the cost of a mast at a gate keeps. Assumes nothing.
use Rattle.std.specs.Prelude.{◌≡◌, ℕ, ◌^◌, ◌<◌, ◌≤◌, max, true, List, [], ◌∷◌, length, nat_le}
use Rattle.std.proofs.Common.{◌∙◌, ⊎_elim, arith, le-leb}
use Rattle.std.proofs.lemmas.Bool.Decides.{leb_tells}
use Rattle.course.specs.declared.gate.Gate.{Gate}
use Rattle.course.specs.Gates.{IsCourse, gate_at}
use Rattle.course.proofs.Order.{Bounded, stands_in_range}
use Rattle.course.proofs.Squares.{apart_small}
use Rattle.costs.specs.Groups.{is_span, span, Group, topmost, lowest, EveryGroup}
use Rattle.kinds.specs.Extremes.{least, first_least}
use Rattle.kinds.specs.GateMast.{between, farthest, gate_mast_group, gate_mast_span}
use Rattle.kinds.specs.Farthest.{far_in, between_within, farthest_end, span-farthest}
use Rattle.kinds.specs.Least.{least_there, least_within, span_there, span_best}
use Rattle.costs.proofs.Spans.{within, group_within}

-- the best gate of a group, and its cost by the two ends
record BestOfGroup (gs : List Gate) (ps : List ℕ) : Type 0 where
  pub position : ℕ
  pub from_topmost : topmost ps ≤ position
  pub to_lowest : position ≤ lowest ps
  pub cost : least (λ z. farthest gs z ps) ps ≡ max (between gs (topmost ps) position) (between gs position (lowest ps))

module _ (gs : List Gate) (k : IsCourse gs) where
  -- the span's least is not greater than what any of its gates has
  least_at : (i j y : ℕ) → 1 ≤ i → i ≤ y → y ≤ j → j ≤ length gs → least (far_in gs i j) (span i j) ≤ max (between gs i y) (between gs y j)
  least_at i j y h a b m =
      let t = span_there (far_in gs i j) i j (omega arith) in
      let f = (span_best (far_in gs i j) i j (omega arith)).best y a b in
      let e = span-farthest gs k i j y h a b m in
      omega arith

  group_best : (ps : List ℕ) → Group (length gs) ps → BestOfGroup gs ps
  unfolding Group
  group_best [] h = absurd h
  group_best (p ∷ ps) h =
      let f = λ (z : ℕ). farthest gs z (p ∷ ps) in
      let w = least_within f (length gs) p ps h.1 in
      record {
        position = first_least f (p ∷ ps);
        from_topmost = w.0;
        to_lowest = w.1;
        cost = least_there f p ps ∙ farthest_end gs k (p ∷ ps) (first_least f (p ∷ ps)) h w.0 w.1;
      }

  hull_least : (ps : List ℕ) → Group (length gs) ps → least (far_in gs (topmost ps) (lowest ps)) (span (topmost ps) (lowest ps)) ≤ least (λ y. farthest gs y ps) ps
  hull_least ps h =
      let b = group_best ps h in
      let v = group_within (length gs) ps h in
      omega (arith, least_at (topmost ps) (lowest ps) b.position v.counted b.from_topmost b.to_lowest v.inside, b.cost)

  pub hull : (ps : List ℕ) → Group (length gs) ps → nat_le (gate_mast_span gs (topmost ps) (lowest ps)) (gate_mast_group gs ps) ≡ true
  hull ps h = let l = hull_least ps h in le-leb _ _ (omega arith)

  -- some gate of the span i to j is as near to i and j as y is to a and b
  module _ (a i j b y : ℕ) (h : 1 ≤ a) (c : a ≤ i) (d : i ≤ j) (e : j ≤ b) (m : b ≤ length gs) (f : a ≤ y) (g : y ≤ b) where
    abbrev Nearer : Type 0
    Nearer = least (far_in gs i j) (span i j) ≤ max (between gs a y) (between gs y b)

    from_above : y ≤ i → Nearer
    from_above l =
        let n = least_at i j i (omega arith) (omega arith) d (omega arith) in
        let o = between_within gs k y i i b (omega arith) l (omega arith) (omega arith) m in
        let p = between_within gs k y i j b (omega arith) l d e m in
        omega arith

    from_inside : i ≤ y → y ≤ j → Nearer
    from_inside l r =
        let n = least_at i j y (omega arith) l r (omega arith) in
        let o = between_within gs k a i y y h c l (omega arith) (omega arith) in
        let p = between_within gs k y y j b (omega arith) (omega arith) r e m in
        omega arith

    from_below : j < y → Nearer
    from_below l =
        let n = least_at i j j (omega arith) d (omega arith) (omega arith) in
        let o = between_within gs k a i j y h c d (omega arith) (omega arith) in
        let p = between_within gs k a j j y h (omega arith) (omega arith) (omega arith) (omega arith) in
        omega arith

    nearer_inside : Nearer
    nearer_inside =
        ⊎_elim
        (λ l. from_above l.1)
        (λ l. ⊎_elim (λ r. from_inside (omega arith) r.1) (λ r. from_below r.1) (leb_tells y j))
        (leb_tells y i)

  pub nested : (a i j b : ℕ) → is_span gs a b ≡ true → a ≤ i → i ≤ j → j ≤ b → nat_le (gate_mast_span gs i j) (gate_mast_span gs a b) ≡ true
  nested a i j b w c d e =
      let v = within gs a b w in
      let y = first_least (far_in gs a b) (span a b) in
      let t = span_there (far_in gs a b) a b v.in_order in
      let u = span_best (far_in gs a b) a b v.in_order in
      let f = span-farthest gs k a b y v.counted u.from_first u.to_last v.inside in
      let l = nearer_inside a i j b y v.counted c d e v.inside u.from_first u.to_last in
      le-leb _ _ (omega arith)

  -- no group costs more than four times a squared distance of two gates
  pub groups_below : EveryGroup gs (λ ps. gate_mast_group gs ps < 2 ^ 43)
  groups_below ps h =
      let b = group_best ps h in
      let v = group_within (length gs) ps h in
      let ranged : (q : ℕ) → topmost ps ≤ q → q ≤ lowest ps → Bounded (gate_at gs q) = λ q a c. stands_in_range gs k q (omega (arith, v.counted)) (omega (arith, v.inside)) in
      let at = ranged b.position b.from_topmost b.to_lowest in
      let above = apart_small (gate_at gs (topmost ps)) (gate_at gs b.position) (ranged (topmost ps) (omega arith) v.in_order) at in
      let below = apart_small (gate_at gs b.position) (gate_at gs (lowest ps)) at (ranged (lowest ps) v.in_order (omega arith)) in
      omega (arith, above, below, b.cost)
