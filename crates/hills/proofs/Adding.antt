-- Adding gates one after another. Assumes nothing.
use Rattle.std.proofs.Common.{◌≡◌, ℕ, ◌+◌, ◌<◌, ◌≤◌, List, [], refl, length, get_or, drop, sym, ap, ◌∙◌}
use Rattle.std.proofs.lemmas.List.{at_drop_more, at_drop_all}
use Rattle.course.specs.declared.gate.Gate.{Gate}
use Rattle.course.specs.Gates.{no_gate}
use Rattle.course.specs.Edits.{is_set, beside, after_add}
use Rattle.hills.specs.Parts.{added_all}
use Rattle.hills.specs.Hills.{hill_h, hill_v}

module _ (gs xs : List Gate) (i : ℕ) where
  pub added_more : (after : List Gate) → i < length xs → after ≡ after_add gs (get_or xs i no_gate) → added_all after (drop (i + 1) xs) ≡ added_all gs (drop i xs)
  unfolding added_all
  added_more after h e =
      ap (λ (l : List Gate). added_all l (drop (i + 1) xs)) e ∙ sym (at_drop_more (added_all gs) xs i no_gate h)

  pub added_end : length xs ≤ i → gs ≡ added_all gs (drop i xs)
  unfolding added_all
  added_end h = sym (at_drop_all (added_all gs) xs i h)

-- adding the gates of each hill one after another gives all of them
pub hill_h_added : added_all [] hill_h ≡ hill_h
unfolding is_set beside added_all
hill_h_added = refl

pub hill_v_added : added_all [] hill_v ≡ hill_v
unfolding is_set beside added_all
hill_v_added = refl
