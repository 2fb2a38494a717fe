-- Which gates are beside a gate, and which is the first of them. Assumes nothing.
use Rattle.std.proofs.Common.{◌≡◌, ℕ, ◌+◌, ◌<◌, ◌≤◌, Bool, true, false, cond, not, ◌||◌, List, [], ◌∷◌, length, get_or, drop, slice_get, Some, None, refl, sym, ap, ◌∙◌, ⊎_elim, true≢false, arith}
use Rattle.std.specs.List.{All, find, position_or_len}
use Rattle.std.specs.Option.{option_map}
use Rattle.std.proofs.lemmas.List.{at_drop_more, at_drop_all}
use Rattle.std.proofs.lemmas.List.Sums.{passes_at_first, fails_before_first}
use Rattle.std.proofs.lemmas.List.Folds.{find_at}
use Rattle.std.proofs.lemmas.Option.{slice_get-get_or, slice_get_past}
use Rattle.std.proofs.lemmas.Bool.{cases_lt}
use Rattle.course.specs.declared.gate.Gate.{Gate}
use Rattle.course.specs.Gates.{ordered, no_gate}
use Rattle.course.specs.Edits.{has_number, beside}

-- x is another gate than g, and neither above nor below it
abbrev pub is_beside : Gate → Gate → Bool
is_beside g x = not (has_number g.number x || ordered x g)

-- the index of the first gate beside g
abbrev pub first : Gate → List Gate → ℕ
first g gs = position_or_len (is_beside g) gs

module _ (g : Gate) where
  beside_is : (gs : List Gate) → beside g gs ≡ option_map (λ x. x.number) (find (is_beside g) gs)
  unfolding beside
  beside_is [] = refl
  beside_is (x ∷ xs) = by (has_number g.number x || ordered x g) (beside_is xs)
    where
      by : (b : Bool) → beside g xs ≡ option_map (λ x. x.number) (find (is_beside g) xs) → cond b (beside g xs) (Some x.number) ≡ option_map (λ x. x.number) (cond (not b) (Some x) (find (is_beside g) xs))
      by true r = r
      by false r = refl

  module _ (gs : List Gate) where
    at_first : beside g gs ≡ option_map (λ x. x.number) (slice_get gs (first g gs))
    at_first = beside_is gs ∙ ap (option_map (λ x. x.number)) (find_at (is_beside g) gs)

    some_where : first g gs < length gs → beside g gs ≡ Some (get_or gs (first g gs) no_gate).number
    some_where l = at_first ∙ ap (option_map (λ x. x.number)) (slice_get-get_or gs (first g gs) no_gate l)

    none_where : length gs ≤ first g gs → beside g gs ≡ None
    none_where l = at_first ∙ ap (option_map (λ x. x.number)) (slice_get_past gs (first g gs) l)

    pub none_beside : beside g gs ≡ None → All (λ x. is_beside g x ≡ false) gs
    none_beside h =
        ⊎_elim
        (λ l. let s = sym h ∙ some_where l in absurd cc)
        (λ l k d m. fails_before_first (is_beside g) gs k d (omega arith))
        (cases_lt (first g gs) (length gs))

    pub beside_none : All (λ x. is_beside g x ≡ false) gs → beside g gs ≡ None
    beside_none h =
        ⊎_elim
        (λ l. absurd (true≢false (sym (passes_at_first (is_beside g) gs no_gate l) ∙ h (first g gs) no_gate l)))
        none_where
        (cases_lt (first g gs) (length gs))

    pub first_told : (n : ℕ) → beside g gs ≡ Some n → (first g gs < length gs) × ((get_or gs (first g gs) no_gate).number ≡ n)
    first_told n h =
        ⊎_elim
        (λ l. let s = sym (some_where l) ∙ h in (l, cc))
        (λ l. let s = sym h ∙ none_where l in absurd cc)
        (cases_lt (first g gs) (length gs))

  -- what a search of the gates from i on finds
  module _ (gs : List Gate) (i : ℕ) where
    pub beside_step : i < length gs → beside g (drop i gs) ≡ cond (has_number g.number (get_or gs i no_gate) || ordered (get_or gs i no_gate) g) (beside g (drop (i + 1) gs)) (Some (get_or gs i no_gate).number)
    unfolding beside
    beside_step h = at_drop_more (beside g) gs i no_gate h

    pub beside_end : length gs ≤ i → beside g (drop i gs) ≡ None
    unfolding beside
    beside_end h = at_drop_all (beside g) gs i h
