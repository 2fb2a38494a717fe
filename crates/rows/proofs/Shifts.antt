-- What a copy of a part leaves in the front of a list. Assumes nothing.
use Rattle.std.proofs.Common.{◌≡◌, ℕ, ◌+◌, ◌-◌, ◌<◌, ◌≤◌, true, List, length, take, set, ⊎_elim, arith, rules, length-take-le}
use Rattle.std.proofs.lemmas.Bool.{cases_lt}
use Rattle.std.proofs.lemmas.Bool.Decides.{nat_tests}
use Rattle.std.proofs.lemmas.List.{same_lists, places, get_or-set_same, get_or-set_other}
use Rattle.std.specs.List.{copy_within, insert, remove}
use Rattle.rows.specs.Rows.{has_place, after_insert}

module _ {X : Type 0} (xs : List X) (n i : ℕ) where
  pub removed_by_copy : i < n → n ≤ length xs → take (n - 1) (copy_within xs (i + 1) n i) ≡ remove (take n xs) i
  removed_by_copy h k =
      same_lists _ _ (search (rules, places)) (λ j d l. grind (arith, places, cases_lt j i))

  inserted : (x : X) → i ≤ n → n < length xs → take (n + 1) (set (copy_within xs i n (i + 1)) i x) ≡ insert (take n xs) i x
  inserted x h k =
      let ys = copy_within xs i n (i + 1) in
      let long : length ys ≡ length xs = search (rules, places) in
      same_lists _ _ (search (rules, places)) (λ j d l.
      ⊎_elim
      (λ b. let o = get_or-set_other ys i j x d (omega arith) in grind (arith, places, b, o))
      (λ b. ⊎_elim (λ a. let o = get_or-set_other ys i j x d (omega arith) in grind (arith, places, a, o)) (λ e. let s = get_or-set_same ys i x d (omega arith) in grind (arith, places, e, b, s)) (cases_lt i j))
      (cases_lt j i))

  pub inserted_by_copy : (most : ℕ) (x : X) → i ≤ n → n < most → length xs ≡ most → take (n + 1) (set (copy_within xs i n (i + 1)) i x) ≡ after_insert most (take n xs) i x
  inserted_by_copy most x h k l =
      let m = length-take-le n xs (omega arith) in
      let t : has_place most (take n xs) i ≡ true = grind (arith, nat_tests, m) in
      rw t (inserted x h (omega arith))
