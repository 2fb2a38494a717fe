-- The greatest value of a function at the positions of a group. Assumes nothing.
use Rattle.std.specs.Prelude.{ℕ, ◌≤◌, List, [], ◌∷◌}
use Rattle.std.proofs.Common.{arith}
use Rattle.costs.specs.Groups.{Rise, last_from}
use Rattle.costs.proofs.Spans.{rise_within}
use Rattle.kinds.specs.Extremes.{greatest}

module _ (f : ℕ → ℕ) where
  -- what bounds it between the ends bounds the greatest
  pub greatest_bounded : (n m p : ℕ) (ps : List ℕ) → Rise n p ps → ((q : ℕ) → p ≤ q → q ≤ last_from p ps → f q ≤ m) → greatest f (p ∷ ps) ≤ m
  unfolding Rise last_from greatest
  greatest_bounded n m p [] h k = let d = k p (omega arith) (omega arith) in omega arith
  greatest_bounded n m p (q ∷ qs) h k =
      let l = rise_within n q qs h.1 in
      let d = k p (omega arith) (omega arith) in
      let e = greatest_bounded n m q qs h.1 (λ r i j. k r (omega arith) j) in
      omega arith

  pub greatest_first : (p : ℕ) (ps : List ℕ) → f p ≤ greatest f (p ∷ ps)
  unfolding greatest
  greatest_first p ps = omega arith

  pub greatest_last : (p : ℕ) (ps : List ℕ) → f (last_from p ps) ≤ greatest f (p ∷ ps)
  unfolding last_from greatest
  greatest_last p [] = omega arith
  greatest_last p (q ∷ qs) = let d = greatest_last q qs in omega arith
