-- What a filter keeps, where all pass or none does. Assumes nothing.
use Rattle.std.proofs.Common.{◌≡◌, ◌+◌, Bool, true, false, cond, List, [], ◌∷◌, length, filter, refl, ◌∙◌, arith}
use Rattle.std.specs.List.{All, sum_by}
use Rattle.std.proofs.lemmas.List.Elements.{All-tail}
use Rattle.std.proofs.lemmas.List.Sums.{sum_by-cons}

module _ {X : Type 0} (t : X → Bool) where
  pub all_kept : (xs : List X) → All (λ x. t x ≡ true) xs → filter t xs ≡ xs
  all_kept [] h = refl
  all_kept (x ∷ xs) h = let e = h 0 x (omega arith) in let r = all_kept xs (All-tail (λ y. t y ≡ true) x xs h) in rw (e, r)

  pub none_kept : (xs : List X) → All (λ x. t x ≡ false) xs → filter t xs ≡ []
  none_kept [] h = refl
  none_kept (x ∷ xs) h = let e = h 0 x (omega arith) in rw e (none_kept xs (All-tail (λ y. t y ≡ false) x xs h))

  -- what passes counts one each
  pub counted_one_each : (xs : List X) → sum_by (λ x. cond (t x) 1 0) xs ≡ length (filter t xs)
  counted_one_each [] = refl
  counted_one_each (x ∷ xs) = sum_by-cons (λ y. cond (t y) 1 0) x xs ∙ by (t x) (counted_one_each xs)
    where
      by : (b : Bool) → sum_by (λ x. cond (t x) 1 0) xs ≡ length (filter t xs) → cond b 1 0 + sum_by (λ x. cond (t x) 1 0) xs ≡ length (cond b (x ∷ filter t xs) (filter t xs))
      by true e = omega arith
      by false e = omega arith
