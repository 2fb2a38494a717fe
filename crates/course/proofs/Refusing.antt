-- An edit is refused only where no course could be its result. Assumes nothing.
use Rattle.std.proofs.Common.{◌≡◌, ℕ, true, false, List, ◌∷◌, Some, None, Option, sym, ◌∙◌, ⊎_elim, ◌⊎◌, arith}
use Rattle.std.proofs.lemmas.Bool.{eq-eqb, ne_eqb, or_left, or_right, not_from_true}
use Rattle.std.proofs.lemmas.List.Elements.{All-cons, All-head}
use Rattle.std.proofs.lemmas.List.Folds.{list_any_none}
use Rattle.std.proofs.lemmas.List.Sorted.{IsPermutation-sym, All-permutation, length_permutation, list_any-IsPermutation}
use Rattle.course.specs.declared.gate.Gate.{Gate}
use Rattle.course.specs.declared.refusal.Refusal.{Refusal}
use Rattle.course.specs.Gates.{above, ordered, in_range}
use Rattle.course.specs.Edits.{has_number, is_set, answer, add_answer, add_refusal, remove_answer, remove_refusal, relocate_answer, relocate_refusal}
use Rattle.course.specs.Changes.{OneMore, OneLess, Replaced, RefusedRightly}
use Rattle.course.proofs.Allowing.{Fresh, Relocatable, add_allowed, relocate_allowed}
use Rattle.course.proofs.Listed.{Over, listed}
use Rattle.course.proofs.Passing.{is_beside, beside_none}
use Rattle.course.proofs.Shuffling.{others_apart}

module _ (g : Gate) where
  -- a gate over g or under it has another number, and is ordered with g
  other_number : (x : Gate) → Over g x ⊎ Over x g → has_number g.number x ≡ false
  other_number x w = ne_eqb x.number g.number (λ e. ⊎_elim (λ o. o.differs (sym e)) (λ o. o.differs e) w)

  ordered_with : (x : Gate) → Over g x ⊎ Over x g → ordered x g ≡ true
  ordered_with x w = ⊎_elim (λ o. or_right (above x g) (above g x) o.higher) (λ o. or_left (above x g) (above g x) o.higher) w

  not_beside : (x : Gate) → Over g x ⊎ Over x g → is_beside g x ≡ false
  not_beside x w = not_from_true _ (or_right (has_number g.number x) (ordered x g) (ordered_with x w))

-- a gate that a course could have beside the others may be added
could_add : (g : Gate) (gs after : List Gate) → OneMore g gs after → Fresh gs g
unfolding is_set
could_add g gs after m =
    let l = listed after m.course in
    let apart = others_apart g gs after l.ordered m.gates in
    record {
      range = All-head (λ x. in_range x ≡ true) g gs (All-permutation (λ x. in_range x ≡ true) after (g ∷ gs) (IsPermutation-sym (g ∷ gs) after m.gates) l.ranged);
      room = omega (arith, length_permutation (g ∷ gs) after m.gates, l.few);
      unset = list_any_none (has_number g.number) gs (λ i d b. other_number g _ (apart i d b));
      clear = beside_none g gs (λ i d b. not_beside g _ (apart i d b));
    }

-- a number with which a gate could go is set
could_remove : (n : ℕ) (gs after : List Gate) → OneLess n gs after → is_set n gs ≡ true
unfolding is_set
could_remove n gs after o =
    sym (list_any-IsPermutation (has_number n) (o.gone ∷ after) gs o.gates) ∙ or_left _ _ (eq-eqb o.gone.number n o.number)

-- a gate that could stand at the new place among the others may move there
could_relocate : (g : Gate) (gs after : List Gate) → Replaced g gs after → Relocatable gs g
could_relocate g gs after r =
    let gone = r.went.gone in
    let apart = others_apart g r.others after (listed after r.came.course).ordered r.came.gates in
    let own = not_from_true _ (or_left (has_number g.number gone) (ordered gone g) (eq-eqb gone.number g.number r.went.number)) in
    record {
      range = (could_add g r.others after r.came).range;
      set = could_remove g.number gs r.others r.went;
      clear = beside_none g gs (All-permutation (λ x. is_beside g x ≡ false) (gone ∷ r.others) gs r.went.gates
          (All-cons (λ x. is_beside g x ≡ false) gone r.others own (λ i d b. not_beside g _ (apart i d b))));
    }

-- what could leave something is not refused
rightly : (o : Option Refusal) (could : List Gate → Type 0) → ((after : List Gate) → could after → o ≡ None) → RefusedRightly (answer o) could
rightly None could f = tt
rightly (Some r) could f = λ after c. let e = f after c in cc

module _ (gs : List Gate) where
  pub add_rightly : (g : Gate) → RefusedRightly (add_answer gs g) (OneMore g gs)
  add_rightly g = rightly (add_refusal gs g) (OneMore g gs) (λ after m. add_allowed gs g (could_add g gs after m))

  pub remove_rightly : (n : ℕ) → RefusedRightly (remove_answer gs n) (OneLess n gs)
  remove_rightly n = rightly (remove_refusal gs n) (OneLess n gs) (λ after o. let s = could_remove n gs after o in rw s)

  pub relocate_rightly : (g : Gate) → RefusedRightly (relocate_answer gs g) (Replaced g gs)
  relocate_rightly g = rightly (relocate_refusal gs g) (Replaced g gs) (λ after r. relocate_allowed gs g (could_relocate g gs after r))
