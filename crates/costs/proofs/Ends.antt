-- Costs of the topmost and the lowest gate alone. Assumes nothing.
use Rattle.std.proofs.Common.{◌≡◌, ℕ, ◌<◌, ◌≤◌, true, leb, List, length, arith, le-leb}
use Rattle.course.specs.declared.gate.Gate.{Gate}
use Rattle.course.specs.Gates.{IsCourse, gate_at}
use Rattle.course.proofs.Order.{Under, Bounded, lies_under, stands_in_range}
use Rattle.costs.specs.Groups.{is_span, span, topmost, lowest, EveryGroup}
use Rattle.costs.specs.Laws.{Laws}
use Rattle.costs.proofs.Numbers.{number_order}
use Rattle.costs.proofs.Spans.{within, span-topmost, span-lowest, group_within}

module _ (f : Gate → Gate → ℕ) where
  pub ends_whole : (gs : List Gate) (i j : ℕ) → is_span gs i j ≡ true → f (gate_at gs i) (gate_at gs j) ≡ f (gate_at gs (topmost (span i j))) (gate_at gs (lowest (span i j)))
  ends_whole gs i j w =
      let v = within gs i j w in
      let t = span-topmost i j v.in_order in
      let l = span-lowest i j v.in_order in
      rw (t, l)

  -- a bound for gates in range is one for every group
  pub ends_below : (m : ℕ) → ((a b : Gate) → Bounded a → Bounded b → f a b < m) → (gs : List Gate) → IsCourse gs → EveryGroup gs (λ ps. f (gate_at gs (topmost ps)) (gate_at gs (lowest ps)) < m)
  ends_below m h gs k ps g =
      let v = group_within (length gs) ps g in
      h (gate_at gs (topmost ps)) (gate_at gs (lowest ps)) (stands_in_range gs k (topmost ps) v.counted (omega (arith, v.in_order, v.inside))) (stands_in_range gs k (lowest ps) (omega (arith, v.counted, v.in_order)) v.inside)

  -- the laws, where f is no greater of two gates between two others
  module _ (grows : (a b c d : Gate) → Under a b → Under b c → Under c d → f b c ≤ f a d) where
    ends_nested : (gs : List Gate) (a i j b : ℕ) → IsCourse gs → is_span gs a b ≡ true → a ≤ i → i ≤ j → j ≤ b → leb (f (gate_at gs i) (gate_at gs j)) (f (gate_at gs a) (gate_at gs b)) ≡ true
    ends_nested gs a i j b k w h l m =
        let v = within gs a b w in
        le-leb _ _
        (grows (gate_at gs a) (gate_at gs i) (gate_at gs j) (gate_at gs b)
        (lies_under gs k a i v.counted h (omega (arith, v.inside)))
        (lies_under gs k i j (omega (arith, v.counted)) l (omega (arith, v.inside)))
        (lies_under gs k j b (omega (arith, v.counted)) m v.inside))

    pub ends_laws : {K : Type 0} → Laws {K = K} leb (λ _ gs i j. f (gate_at gs i) (gate_at gs j)) (λ _ gs ps. f (gate_at gs (topmost ps)) (gate_at gs (lowest ps)))
    ends_laws = record {
      order = number_order;
      whole = λ _ gs i j k w. ends_whole gs i j w;
      nested = λ _ gs a i j b k w c d e. ends_nested gs a i j b k w c d e;
      hull = λ _ gs ps k h. le-leb _ _ (omega arith);
    }
