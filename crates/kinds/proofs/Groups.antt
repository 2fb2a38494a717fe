-- What gates of a course cost at most, two by two and in groups. Assumes nothing.
use Rattle.std.proofs.Common.{◌≡◌, ℕ, ◌^◌, ◌<◌, true, List, length, sym, ◌∙◌, subst, arith}
use Rattle.course.specs.Distances.{apart}
use Rattle.course.specs.declared.gate.Gate.{Gate}
use Rattle.course.specs.Gates.{IsCourse, in_range}
use Rattle.course.proofs.Order.{bounded}
use Rattle.course.proofs.Squares.{apart_small}
use Rattle.costs.specs.Groups.{is_span, span, EveryGroup}
use Rattle.costs.proofs.Ends.{ends_whole, ends_below}
use Rattle.costs.proofs.Spans.{within, span_group}
use Rattle.kinds.specs.FreeMast.{free_mast_group, free_mast_span, LeastOverPlaces}
use Rattle.kinds.specs.GateMast.{gate_mast_group, gate_mast_span, gate_mast_at, TopmostBest}
use Rattle.kinds.specs.GateMastLaws.{groups_below}
use Rattle.kinds.specs.Trench.{trench, trench_group}
use Rattle.kinds.specs.Trenches.{trench_small}
use Rattle.kinds.proofs.Best.{mast_topmost}
use Rattle.kinds.proofs.Places.{least_over_places}

-- two gates in range
pub apart_below : (a b : Gate) → in_range a ≡ true → in_range b ≡ true → apart a b < 2 ^ 41
apart_below a b h k = apart_small a b (bounded a h) (bounded b k)

module _ (gs : List Gate) (k : IsCourse gs) where
  -- in groups of a course, by each kind
  pub free_mast_below : EveryGroup gs (λ ps. free_mast_group gs ps < 2 ^ 43)
  free_mast_below = ends_below apart (2 ^ 43) (λ a b h l. omega (arith, apart_small a b h l)) gs k

  pub gate_mast_below : EveryGroup gs (λ ps. gate_mast_group gs ps < 2 ^ 43)
  gate_mast_below = groups_below gs k

  pub trench_below : EveryGroup gs (λ ps. trench_group gs ps < 2 ^ 43)
  trench_below = ends_below trench (2 ^ 43) (λ a b h l. omega (arith, trench_small a b h l)) gs k

  -- at any place, a group costs what is the least over all places
  pub free_mast_least : EveryGroup gs (λ ps. LeastOverPlaces gs ps (free_mast_group gs ps))
  free_mast_least = least_over_places gs k

  -- and so does a span
  pub free_mast_least_here : (i j cost : ℕ) → is_span gs i j ≡ true → cost ≡ free_mast_span gs i j → LeastOverPlaces gs (span i j) cost
  free_mast_least_here i j cost w e =
      let v = within gs i j w in
      let l = free_mast_least (span i j) (span_group (length gs) i j v.counted v.in_order v.inside) in
      subst (LeastOverPlaces gs (span i j)) (sym (e ∙ ends_whole apart gs i j w)) l

  -- the best gate of a span
  pub gate_mast_topmost : (i j cost y : ℕ) → is_span gs i j ≡ true → cost ≡ gate_mast_span gs i j → y ≡ gate_mast_at gs i j → TopmostBest gs i j cost y
  gate_mast_topmost i j cost y w e f =
      let v = within gs i j w in
      rw (e, f) (mast_topmost gs k i j v.counted v.in_order v.inside)
