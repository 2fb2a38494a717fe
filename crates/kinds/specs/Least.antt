-- The least value of a function over some positions, and the first place of it. Assumes nothing.
use Rattle.std.specs.Prelude.{◌≡◌, ℕ, zero, suc, ◌+◌, ◌-◌, ◌<◌, ◌≤◌, List, [], ◌∷◌}
use Rattle.std.proofs.Math.Path.{refl, ap}
use Rattle.std.proofs.Math.Logic.{⊎_elim}
use Rattle.std.proofs.Common.{eq-or-lt_of_le, arith}
use Rattle.std.proofs.lemmas.Bool.Decides.{nat_tests}
use Rattle.costs.specs.Groups.{positions, span, Rise, last_from}
use Rattle.kinds.specs.Extremes.{least, first_least}
use Rattle.costs.proofs.Spans.{rise_within, positions_rise, positions_last, span_parts}

-- y is the first position from i to j at which f has its least value
pub record FirstBest (f : ℕ → ℕ) (i j y : ℕ) : Type 0 where
  pub from_first : i ≤ y
  pub to_last : y ≤ j
  pub best : (z : ℕ) → i ≤ z → z ≤ j → f y ≤ f z
  pub first : (z : ℕ) → i ≤ z → z < y → f y < f z

module _ (f : ℕ → ℕ) where
  -- the least value is the one at its first place
  pub least_there : (p : ℕ) (ps : List ℕ) → least f (p ∷ ps) ≡ f (first_least f (p ∷ ps))
  unfolding least first_least
  least_there p [] = refl
  least_there p (q ∷ qs) = let k = least_there q qs in grind (arith, nat_tests)

  -- which is one of the positions from the topmost to the lowest
  pub least_within : (n p : ℕ) (ps : List ℕ) → Rise n p ps → (p ≤ first_least f (p ∷ ps)) × (first_least f (p ∷ ps) ≤ last_from p ps)
  unfolding Rise last_from first_least
  least_within n p [] h = omega arith
  least_within n p (q ∷ qs) h =
      let k = least_within n q qs h.1 in
      let l = rise_within n q qs h.1 in
      grind (arith, nat_tests)

  -- of consecutive positions, it is not greater than any other value
  least_all : (p n z : ℕ) → p ≤ z → z ≤ p + n → least f (positions p (suc n)) ≤ f z
  unfolding least positions
  least_all p zero z h k = let e : z ≡ p = omega arith in let d = ap f e in omega arith
  least_all p (suc n) z h k =
      ⊎_elim
      (λ (e : p ≡ z). let d = ap f e in omega arith)
      (λ (l : p < z). let d = least_all (suc p) n z (omega arith) (omega arith) in omega arith)
      (eq-or-lt_of_le h)

  -- and less than any before it
  least_first : (p n z : ℕ) → p ≤ z → z < first_least f (positions p (suc n)) → least f (positions p (suc n)) < f z
  unfolding least first_least positions
  least_first p zero z h k = omega arith
  least_first p (suc n) z h k =
      ⊎_elim
      (λ (e : p ≡ z). let d = ap f e in grind (arith, nat_tests))
      (λ (l : p < z). let d = least_first (suc p) n z (omega arith) in grind (arith, nat_tests))
      (eq-or-lt_of_le h)

  pub span_there : (i j : ℕ) → i ≤ j → least f (span i j) ≡ f (first_least f (span i j))
  span_there i j h = rw (span_parts i j h) (least_there i (positions (suc i) (j - i)))

  pub span_best : (i j : ℕ) → i ≤ j → FirstBest f i j (first_least f (span i j))
  span_best i j h =
      let n : suc (j - i) ≡ suc j - i = omega arith in
      let t = span_there i j h in
      let w = rw (positions_last i (j - i)) at (least_within j i (positions (suc i) (j - i)) (positions_rise j i (j - i) (omega arith))) in
      let v = rw (← span_parts i j h) at w in
      record {
        from_first = v.0;
        to_last = omega arith;
        best = λ z a b. let d = rw n at (least_all i (j - i) z a (omega arith)) in omega arith;
        first = λ z a b. let d = rw n at (least_first i (j - i) z a) in let e = d b in omega arith;
      }

  pub best_unique : (i j y z : ℕ) → FirstBest f i j y → FirstBest f i j z → y ≡ z
  best_unique i j y z h k =
      let a : z < y → ⊥ = λ l. omega (arith, h.first z k.from_first l, k.best y h.from_first h.to_last) in
      let b : y < z → ⊥ = λ l. omega (arith, k.first y h.from_first l, h.best z k.from_first k.to_last) in
      omega arith
