-- The gates of a course without one of them. Assumes nothing.
use Rattle.std.proofs.Common.{◌≡◌, ℕ, zero, suc, ◌<◌, true, false, not, List, [], ◌∷◌, length, get_or, position, is_some, Some, sym, ap, ◌∙◌, ⊎_elim, arith, eqb-true}
use Rattle.std.specs.List.{remove, position_or_len}
use Rattle.std.proofs.lemmas.Bool.{cases_lt, cases_order, lt-ltb, le-ltb, ne_eqb}
use Rattle.std.proofs.lemmas.List.{get_or_default}
use Rattle.std.proofs.lemmas.List.Edits.{length-remove}
use Rattle.std.proofs.lemmas.List.Elements.{All-tail}
use Rattle.std.proofs.lemmas.List.Folds.{list_any_at, list_any_none}
use Rattle.std.proofs.lemmas.List.Quantifiers.{position-Some, all_pairs_remove}
use Rattle.std.proofs.lemmas.List.Sorted.{IsPermutation-sym, IsPermutation-remove, All-permutation}
use Rattle.std.proofs.lemmas.List.Sums.{passes_at_first, fails_before_first}
use Rattle.course.specs.declared.gate.Gate.{Gate}
use Rattle.course.specs.Gates.{IsCourse, in_range, no_gate}
use Rattle.course.specs.Edits.{has_number, is_set, without, after_remove}
use Rattle.course.specs.Changes.{OneLess}
use Rattle.course.proofs.Filtering.{all_kept}
use Rattle.course.proofs.Listed.{Over, listed, course_from_listed}

module _ (n : ℕ) where
  -- a gate goes whose number no other has
  lone_removed : (gs : List Gate) (i : ℕ) → i < length gs → has_number n (get_or gs i no_gate) ≡ true → ((j : ℕ) (d : Gate) → j < length gs → (j ≡ i → ⊥) → has_number n (get_or gs j d) ≡ false) → remove gs i ≡ without n gs
  lone_removed [] i l h o = absurd (omega arith)
  lone_removed (x ∷ xs) zero l h o =
      let r = all_kept (λ g. not (has_number n g)) xs (λ k d m. ap not (o (suc k) d (omega arith) (λ e. omega arith))) in
      rw (h, r)
  lone_removed (x ∷ xs) (suc i) l h o =
      let e = o 0 x (omega arith) (λ e. omega arith) in
      let r = lone_removed xs i (omega arith) h (λ j d m s. o (suc j) d (omega arith) (λ e. s (omega arith))) in
      rw (e, r)

  module _ (gs : List Gate) where
    pub set_is : is_set n gs ≡ is_some (position (has_number n) gs)
    unfolding is_set
    set_is =
        let i = position_or_len (has_number n) gs in
        ⊎_elim
        (λ l. let t = lt-ltb i (length gs) l in rw t (list_any_at (has_number n) gs i no_gate l (passes_at_first (has_number n) gs no_gate l)))
        (λ l. let t = le-ltb i (length gs) l in rw t (list_any_none (has_number n) gs (λ k d m. fails_before_first (has_number n) gs k d (omega arith))))
        (cases_lt i (length gs))

    module _ (i : ℕ) (f : position (has_number n) gs ≡ Some i) where
      stands : (i < length gs) × (has_number n (get_or gs i no_gate) ≡ true)
      stands = let p = position-Some (has_number n) gs i no_gate f in (p.0, p.1)

      module _ (k : IsCourse gs) where
        removed_is : remove gs i ≡ without n gs
        removed_is =
            let o = (listed gs k).ordered in
            let m = eqb-true (get_or gs i no_gate).number n stands.1 in
            lone_removed gs i stands.0 stands.1 (λ j d l s.
            let at = ap (λ (g : Gate). g.number) (get_or_default gs i no_gate d stands.0) in
            ne_eqb (get_or gs j d).number n (λ e.
            ⊎_elim s (λ w. ⊎_elim (λ b. (o j i d b stands.0).differs (e ∙ sym m ∙ at)) (λ b. (o i j d b l).differs (sym at ∙ m ∙ sym e)) w) (cases_order j i)))

        pub one_less : OneLess n gs (remove gs i)
        one_less =
            let x = get_or gs i no_gate in
            let l = listed gs k in
            let s = IsPermutation-remove gs i x stands.0 (get_or_default gs i no_gate x stands.0) in
            record {
              course = course_from_listed (remove gs i) record {
                few = omega (arith, length-remove gs i stands.0, k.few);
                ranged = All-tail (λ g. in_range g ≡ true) x (remove gs i) (All-permutation (λ g. in_range g ≡ true) gs (x ∷ remove gs i) s l.ranged);
                ordered = all_pairs_remove Over gs i stands.0 l.ordered;
              };
              gone = x;
              number = eqb-true x.number n stands.1;
              gates = IsPermutation-sym gs (x ∷ remove gs i) s;
            }

        pub leaves_course : (out : List Gate) → out ≡ remove gs i → IsCourse out
        leaves_course out is = rw is one_less.course

        pub leaves_others : after_remove gs n ≡ remove gs i
        leaves_others = rw (set_is, f) (sym removed_is)
