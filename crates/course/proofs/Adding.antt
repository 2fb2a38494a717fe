-- A gate that may be added goes to its place in a course. Assumes nothing.
use Rattle.std.proofs.Common.{◌≡◌, suc, ◌≤◌, true, false, List, [], ◌∷◌, ◌++◌, length, get_or, take, drop, None, filter, sym, refl, ap, ◌∙◌, subst, ⊎_elim, true≢false, arith}
use Rattle.std.proofs.Math.Seq.{take-append_seam, drop-append_seam}
use Rattle.std.proofs.lemmas.Bool.{eqb-false, false_from_ne_true, not-false, or_cases, and_from, lt-ltb, le-leb}
use Rattle.std.specs.List.{All, AllPairs, insert}
use Rattle.std.specs.List.Sorted.{IsPermutation}
use Rattle.std.proofs.lemmas.List.Elements.{All-cons, All-head, All-tail, All-filter, filter_passes}
use Rattle.std.proofs.lemmas.List.Folds.{list_any_at}
use Rattle.std.proofs.lemmas.List.Kept.{AllPairs-cons}
use Rattle.std.proofs.lemmas.List.Sorted.{IsPermutation-sym, IsPermutation-middle, IsPermutation-insert, All-permutation, length_permutation}
use Rattle.std.proofs.lemmas.List.Sums.{length-filter, count_by-le-length}
use Rattle.rows.specs.Rows.{has_place, after_insert}
use Rattle.course.specs.declared.gate.Gate.{Gate}
use Rattle.course.specs.Gates.{IsCourse, above, ordered, in_range}
use Rattle.course.specs.Edits.{has_number, is_set, with_gate, add_refusal}
use Rattle.course.specs.Parts.{count_above}
use Rattle.course.specs.Changes.{OneMore}
use Rattle.course.proofs.Order.{above_trans, above_nearer}
use Rattle.course.proofs.Allowing.{Fresh, fresh}
use Rattle.course.proofs.Filtering.{all_kept, none_kept}
use Rattle.course.proofs.Listed.{Over, listed, course_from_listed}
use Rattle.course.proofs.Passing.{none_beside}

not_both_above : (a b : Gate) → above a b ≡ true → above b a ≡ false
not_both_above a b h = false_from_ne_true (above b a) (λ e. let l = above_nearer a b h in let m = above_nearer b a e in omega arith)

first_over : (x : Gate) (xs : List Gate) → AllPairs Over (x ∷ xs) → All (Over x) xs
first_over x xs h i d l = h 0 (suc i) d (omega arith) (omega arith)

rest_over : (x : Gate) (xs : List Gate) → AllPairs Over (x ∷ xs) → AllPairs Over xs
rest_over x xs h i j d l m = h (suc i) (suc j) d (omega arith) (omega arith)

-- one more gate, between two parts
between : (xs ys : List Gate) (g : Gate) → AllPairs Over (xs ++ ys) → All (λ x. Over x g) xs → All (Over g) ys → AllPairs Over (xs ++ g ∷ ys)
between [] ys g h a b = AllPairs-cons Over g ys b h
between (x ∷ xs) ys g h a b =
    let first = All-cons (Over x) g (xs ++ ys) (All-head (λ y. Over y g) x xs a) (first_over x (xs ++ ys) h) in
    let rest = between xs ys g (rest_over x (xs ++ ys) h) (All-tail (λ y. Over y g) x xs a) b in
    AllPairs-cons Over x (xs ++ g ∷ ys) (All-permutation (Over x) (g ∷ (xs ++ ys)) (xs ++ g ∷ ys) (IsPermutation-sym (xs ++ g ∷ ys) (g ∷ (xs ++ ys)) (IsPermutation-middle xs g ys)) first) rest

-- gates in order that are ordered with g are those above g and then those below g
parts : (g : Gate) (gs : List Gate) → AllPairs Over gs → All (λ x. ordered x g ≡ true) gs → gs ≡ filter (λ x. above x g) gs ++ filter (λ x. above g x) gs
parts g [] h k = refl
parts g (x ∷ xs) h k =
    ⊎_elim
    (λ e.
    let n = not_both_above x g e in
    let r = parts g xs (rest_over x xs h) (All-tail (λ y. ordered y g ≡ true) x xs k) in
    rw (e, n) (ap (λ (l : List Gate). x ∷ l) r))
    (λ b.
    let n = not_both_above g x b in
    let below : All (λ y. above g y ≡ true) xs = (λ i d l. above_trans g x (get_or xs i d) b (first_over x xs h i d l).higher) in
    let l = all_kept (λ y. above g y) xs below in
    let m = none_kept (λ y. above y g) xs (λ i d l. not_both_above g (get_or xs i d) (below i d l)) in
    rw (n, b, l, m))
    (or_cases (above x g) (above g x) (All-head (λ y. ordered y g ≡ true) x xs k))

module _ (gs : List Gate) (g : Gate) (k : IsCourse gs) (h : add_refusal gs g ≡ None) where
  f : Fresh gs g
  f = fresh gs g h

  others : All (λ x. has_number g.number x ≡ false) gs
  unfolding is_set
  others i d l = false_from_ne_true _ (λ e. true≢false (sym (list_any_at (has_number g.number) gs i d l e) ∙ f.unset))

  all_ordered : All (λ x. ordered x g ≡ true) gs
  all_ordered i d l =
      ⊎_elim (λ e. absurd (true≢false (sym e ∙ others i d l))) (λ e. e) (or_cases _ _ (not-false _ (none_beside g gs f.clear i d l)))

  split : gs ≡ filter (λ x. above x g) gs ++ filter (λ x. above g x) gs
  split = parts g gs (listed gs k).ordered all_ordered

  -- it goes after those above it
  placed : insert gs (count_above g gs) g ≡ with_gate g gs
  placed =
      let xs = filter (λ x. above x g) gs in
      let ys = filter (λ x. above g x) gs in
      let front : take (length xs) gs ≡ xs = ap (take (length xs)) split ∙ take-append_seam xs ys in
      let back : drop (length xs) gs ≡ ys = ap (drop (length xs)) split ∙ drop-append_seam xs ys in
      ap (λ (l : List Gate). l ++ g ∷ drop (length xs) gs) front ∙ ap (λ (l : List Gate). xs ++ g ∷ l) back

  pub inserted : after_insert 200 gs (count_above g gs) g ≡ with_gate g gs
  inserted =
      let few : count_above g gs ≤ length gs = omega (arith, length-filter (λ x. above x g) gs, count_by-le-length (λ x. above x g) gs) in
      let t : has_place 200 gs (count_above g gs) ≡ true = and_from _ _ (lt-ltb (length gs) 200 f.room) (le-leb (count_above g gs) (length gs) few) in
      rw t placed

  pub one_more : OneMore g gs (with_gate g gs)
  one_more =
      let xs = filter (λ x. above x g) gs in
      let ys = filter (λ x. above g x) gs in
      let l = listed gs k in
      let s = subst (IsPermutation (g ∷ gs)) placed (IsPermutation-insert gs (count_above g gs) g) in
      record {
        course = course_from_listed (with_gate g gs) record {
          few = let r = f.room in omega (arith, length_permutation (g ∷ gs) (with_gate g gs) s);
          ranged = All-permutation (λ x. in_range x ≡ true) (g ∷ gs) (with_gate g gs) s (All-cons (λ x. in_range x ≡ true) g gs f.range l.ranged);
          ordered = between xs ys g (subst (AllPairs Over) split l.ordered)
              (λ i d m. record { higher = filter_passes (λ x. above x g) gs i d m; differs = eqb-false _ g.number (All-filter (λ x. above x g) (λ x. has_number g.number x ≡ false) gs others i d m) })
              (λ i d m. record { higher = filter_passes (λ x. above g x) gs i d m; differs = λ e. eqb-false _ g.number (All-filter (λ x. above g x) (λ x. has_number g.number x ≡ false) gs others i d m) (sym e) });
        };
        gates = s;
      }
