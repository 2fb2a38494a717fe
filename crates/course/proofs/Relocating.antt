-- A gate that may get a new place may be added to the others. Assumes nothing.
use Rattle.std.proofs.Common.{◌≡◌, false, not, List, ◌∷◌, Some, None, Ok, Option, refl, ap, ◌∙◌, arith}
use Rattle.std.proofs.lemmas.List.Elements.{All-filter}
use Rattle.std.proofs.lemmas.List.Sorted.{length_permutation}
use Rattle.std.proofs.lemmas.Map.Views.{any-filter_same}
use Rattle.course.specs.declared.gate.Gate.{Gate}
use Rattle.course.specs.declared.refusal.Refusal.{Refusal}
use Rattle.course.specs.Gates.{IsCourse}
use Rattle.course.specs.Edits.{has_number, is_set, without, answer, add_refusal, relocate_answer, after_remove, relocate_refusal}
use Rattle.course.specs.Changes.{OneLess}
use Rattle.course.proofs.Allowing.{Relocatable, add_allowed, relocatable}
use Rattle.course.proofs.Passing.{is_beside, none_beside, beside_none}

allowed : (o : Option Refusal) → answer o ≡ Ok tt → o ≡ None
allowed None h = refl
allowed (Some r) h = absurd cc

module _ (gs rest : List Gate) (g : Gate) (k : IsCourse gs) (h : relocate_answer gs g ≡ Ok tt) (is : rest ≡ after_remove gs g.number) (o : OneLess g.number gs rest) where
  m : Relocatable gs g
  m = relocatable gs g (allowed (relocate_refusal gs g) h)

  others : rest ≡ without g.number gs
  others = let s = m.set in is ∙ rw s

  unset : is_set g.number (without g.number gs) ≡ false
  unfolding is_set
  unset = any-filter_same (has_number g.number) (λ x. not (has_number g.number x)) false (λ x e. ap not e) gs

  pub may_come : add_refusal rest g ≡ None
  may_come = add_allowed rest g record {
    range = m.range;
    room = omega (arith, length_permutation (o.gone ∷ rest) gs o.gates, k.few);
    unset = rw others unset;
    clear = beside_none g rest (rw others (All-filter (λ x. not (has_number g.number x)) (λ x. is_beside g x ≡ false) gs (none_beside g gs m.clear)));
  }
