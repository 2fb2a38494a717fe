-- What limits that make a table are like. Assumes nothing.
use Rattle.std.proofs.Common.{◌≡◌, ℕ, zero, suc, ◌-◌, Bool, true, false, ltb, List, [], ◌∷◌, sym, refl, arith}
use Rattle.std.proofs.Math.Numerals.{unary_clauses}
use Rattle.std.proofs.lemmas.List.{get_or_default}
use Rattle.std.proofs.lemmas.Bool.{false_from_ne_true}
use Rattle.std.proofs.lemmas.Bool.Decides.{nat_tests}
use Rattle.std.proofs.lemmas.List.Kept.{AllPairs-from_increasing}
use Rattle.std.proofs.lemmas.List.Sums.{AllPass-from_list_all, list_all-from_AllPass}
use Rattle.std.specs.List.{IsAllAdjacentAnswer}
use Rattle.std.specs.List.Sorted.{IsStrictlyIncreasing}
use Rattle.steps.specs.Limits.{in_range, all_in_range, rises, lawful_limits, IsTable}

increasing_rises : (ls : List ℕ) → IsStrictlyIncreasing ls → rises ls ≡ true
unfolding rises
increasing_rises [] up = refl
increasing_rises (l ∷ []) up = refl
increasing_rises (l ∷ m ∷ ls) up =
    let first = up 0 (omega arith) in
    let later = increasing_rises (m ∷ ls) (λ k h. simp unary_clauses (simp unary_clauses at (up (suc k) (omega arith)))) in
    grind (arith, nat_tests, first, later)

rises_increasing : (ls : List ℕ) → rises ls ≡ true → IsStrictlyIncreasing ls
unfolding rises
rises_increasing [] up k h = absurd (omega arith)
rises_increasing (l ∷ []) up k h = absurd (omega arith)
rises_increasing (l ∷ m ∷ ls) up zero h = grind (arith, nat_tests)
rises_increasing (l ∷ m ∷ ls) up (suc k) h =
    let rest : rises (m ∷ ls) ≡ true = grind (arith, nat_tests) in
    simp unary_clauses (simp unary_clauses at (rises_increasing (m ∷ ls) rest k (omega arith)))

-- what `is_sorted_by` tells of limits
pub rises_told : (ls : List ℕ) (b : Bool) → IsAllAdjacentAnswer (λ x y r. r ≡ ltb x y) ls b → b ≡ rises ls
rises_told ls true up = sym (increasing_rises ls (λ k h. let next = up k 0 h in grind (arith, nat_tests, next)))
rises_told ls false (k, h, fails) =
    let falls = fails 0 in
    sym (false_from_ne_true (rises ls) (λ up. let rise = rises_increasing ls up k h in grind (arith, nat_tests, falls, rise)))

-- ---- the limits of a table
module _ (ls : List ℕ) where
  pub lawful_table : lawful_limits ls ≡ true → IsTable ls
  lawful_table lawful =
      let ranged : all_in_range ls ≡ true = grind (arith, nat_tests) in
      let rise : rises ls ≡ true = grind (arith, nat_tests) in
      record {
        some = grind (arith, nat_tests);
        few = grind (arith, nat_tests);
        ranged = λ i h. AllPass-from_list_all in_range ls ranged (i - 1) 0 (omega arith);
        rising = λ i j h. AllPairs-from_increasing ls (rises_increasing ls rise) (i - 1) (j - 1) 0 (omega arith) (omega arith);
      }

  pub table_lawful : IsTable ls → lawful_limits ls ≡ true
  table_lawful t =
      let ranged = list_all-from_AllPass in_range ls (λ k d h. rw (get_or_default ls k d 0 h) (simp unary_clauses at (t.ranged (suc k) (omega arith, omega arith)))) in
      let rise = increasing_rises ls (λ k h. simp unary_clauses (simp unary_clauses at (t.rising (suc k) (suc (suc k)) (omega arith, omega arith, omega arith)))) in
      grind (arith, nat_tests, ranged, rise, t.some, t.few)
