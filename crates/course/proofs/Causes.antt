-- The refusal told is the cause with the smallest number. Assumes nothing.
use Rattle.std.proofs.Common.{◌≡◌, ℕ, ◌+◌, ◌-◌, ◌<◌, ◌≤◌, Bool, true, false, cond, not, leb, List, length, Some, None, Option, sym, refl, ap, ◌∙◌, true≢false, arith, eqb-true, leb-false, leb-true}
use Rattle.std.proofs.lemmas.Bool.{eqb-false, eq-eqb, or_parts, or_from, ne_eqb, not-true, not_from_false}
use Rattle.std.proofs.lemmas.List.Folds.{Any-from_list_any, list_any_at}
use Rattle.std.proofs.lemmas.List.Sums.{passes_at_first, fails_before_first}
use Rattle.course.specs.declared.gate.Gate.{Gate}
use Rattle.course.specs.declared.refusal.Refusal.{Refusal}
use Rattle.course.specs.declared.refusal.Refusal.TheVariants.{OutOfRange, AlreadySet, NotSet, Full, Beside}
use Rattle.course.specs.Gates.{gate_at, no_gate, in_range, ordered}
use Rattle.course.specs.Edits.{refusal_number, has_number, is_set, beside, beside_refusal, answer, add_answer, remove_answer, relocate_answer}
use Rattle.course.specs.Causes.{Numbered, BesideAt, TopmostBeside, add_cause, remove_cause, relocate_cause, SmallestCause}
use Rattle.course.proofs.Listed.{stands_at}
use Rattle.course.proofs.Passing.{is_beside, first, first_told, none_beside}

module _ (n : ℕ) (gs : List Gate) where
  numbered : is_set n gs ≡ true → Numbered n gs
  unfolding is_set
  numbered h =
      let a = Any-from_list_any (has_number n) gs h in
      record {
        position = a.0 + 1;
        counted = (omega arith, omega (arith, a.2));
        number = ap (λ (g : Gate). g.number) (stands_at gs a.0 a.1 a.2 ∙ a.3) ∙ eqb-true a.1.number n a.4;
      }

  not_numbered : is_set n gs ≡ false → Numbered n gs → ⊥
  unfolding is_set
  not_numbered h k =
      let c = k.counted in
      true≢false (sym (list_any_at (has_number n) gs (k.position - 1) no_gate (omega arith) (eq-eqb (gate_at gs k.position).number n k.number)) ∙ h)

-- no cause has a number below m, told for each that might
none_below : (C : Refusal → Type 0) (m : ℕ) → m ≤ 5 → (1 < m → C OutOfRange → ⊥) → (2 < m → C AlreadySet → ⊥) → (3 < m → C NotSet → ⊥) → (4 < m → C Full → ⊥) → (r : Refusal) → refusal_number r < m → C r → ⊥
none_below C m k a b c d OutOfRange l h = a l h
none_below C m k a b c d AlreadySet l h = b l h
none_below C m k a b c d NotSet l h = c l h
none_below C m k a b c d Full l h = d l h
none_below C m k a b c d (Beside n) l h = omega arith

module _ (g : Gate) where
  beside_at : (gs : List Gate) (p : ℕ) → (1 ≤ p) × (p ≤ length gs) → is_beside g (gate_at gs p) ≡ true → BesideAt gs g p
  beside_at gs p c h =
      let x = gate_at gs p in
      let parts = or_parts (has_number g.number x) (ordered x g) (not-true _ h) in
      record { counted = c; other = eqb-false x.number g.number parts.0; unordered = parts.1 }

  beside_tells : (gs : List Gate) (p : ℕ) → BesideAt gs g p → is_beside g (gate_at gs p) ≡ true
  beside_tells gs p b =
      let x = gate_at gs p in
      not_from_false _ (or_from (has_number g.number x) (ordered x g) (ne_eqb x.number g.number b.other) b.unordered)

  topmost-beside : (gs : List Gate) (n : ℕ) → beside g gs ≡ Some n → TopmostBeside gs g n
  topmost-beside gs n h =
      let i = first g gs in
      let f = first_told g gs n h in
      let at = stands_at gs i no_gate f.0 in
      record {
        position = i + 1;
        there = beside_at gs (i + 1) (omega arith, omega (arith, f.0)) (ap (is_beside g) at ∙ passes_at_first (is_beside g) gs no_gate f.0);
        number = ap (λ (x : Gate). x.number) at ∙ f.1;
        none_above = λ p l b. let c = b.counted in true≢false (sym (beside_tells gs p b) ∙ fails_before_first (is_beside g) gs (p - 1) no_gate (omega arith));
      }

  no_topmost : (gs : List Gate) → beside g gs ≡ None → (n : ℕ) → TopmostBeside gs g n → ⊥
  no_topmost gs h n t =
      let p = t.position in
      let c = t.there.counted in
      true≢false (sym (beside_tells gs p t.there) ∙ none_beside g gs h (p - 1) no_gate (omega arith))

  -- where no cause before the last holds
  module _ (gs : List Gate) (C : Refusal → Type 0) (earlier : (r : Refusal) → refusal_number r < 5 → C r → ⊥) (to : (n : ℕ) → TopmostBeside gs g n → C (Beside n)) (from : (n : ℕ) → C (Beside n) → TopmostBeside gs g n) where
    no_cause : beside g gs ≡ None → (r : Refusal) → C r → ⊥
    no_cause b OutOfRange c = earlier OutOfRange (omega arith) c
    no_cause b AlreadySet c = earlier AlreadySet (omega arith) c
    no_cause b NotSet c = earlier NotSet (omega arith) c
    no_cause b Full c = earlier Full (omega arith) c
    no_cause b (Beside n) c = no_topmost gs b n (from n c)

    last_cause : (o : Option ℕ) → beside g gs ≡ o → SmallestCause C (answer (beside_refusal o))
    last_cause None b = no_cause b
    last_cause (Some n) b = (to n (topmost-beside gs n b), earlier)

  pub add_smallest : (gs : List Gate) → SmallestCause (add_cause gs g) (add_answer gs g)
  add_smallest gs = by (in_range g) (is_set g.number gs) (leb 200 (length gs)) refl refl refl
    where
      by : (a b c : Bool) → in_range g ≡ a → is_set g.number gs ≡ b → leb 200 (length gs) ≡ c → SmallestCause (add_cause gs g) (answer (cond (not a) (Some OutOfRange) (cond b (Some AlreadySet) (cond c (Some Full) (beside_refusal (beside g gs))))))
      by false b c e f k = (e, none_below (add_cause gs g) 1 (omega arith) (λ l _. omega arith) (λ l _. omega arith) (λ l _. omega arith) (λ l _. omega arith))
      by true true c e f k =
          (numbered g.number gs f, none_below (add_cause gs g) 2 (omega arith) (λ _ h. true≢false (sym e ∙ h)) (λ l _. omega arith) (λ l _. omega arith) (λ l _. omega arith))
      by true false true e f k =
          (leb-true 200 (length gs) k, none_below (add_cause gs g) 4 (omega arith) (λ _ h. true≢false (sym e ∙ h)) (λ _ h. not_numbered g.number gs f h) (λ _ h. h) (λ l _. omega arith))
      by true false false e f k =
          let few = leb-false 200 (length gs) k in
          let none = none_below (add_cause gs g) 5 (omega arith) (λ _ h. true≢false (sym e ∙ h)) (λ _ h. not_numbered g.number gs f h) (λ _ h. h) (λ _ h. omega arith) in
          last_cause gs (add_cause gs g) none (λ n t. t) (λ n t. t) (beside g gs) refl

  pub relocate_smallest : (gs : List Gate) → SmallestCause (relocate_cause gs g) (relocate_answer gs g)
  relocate_smallest gs = by (in_range g) (is_set g.number gs) refl refl
    where
      by : (a b : Bool) → in_range g ≡ a → is_set g.number gs ≡ b → SmallestCause (relocate_cause gs g) (answer (cond (not a) (Some OutOfRange) (cond (not b) (Some NotSet) (beside_refusal (beside g gs)))))
      by false b e f = (e, none_below (relocate_cause gs g) 1 (omega arith) (λ l _. omega arith) (λ l _. omega arith) (λ l _. omega arith) (λ l _. omega arith))
      by true false e f =
          (not_numbered g.number gs f, none_below (relocate_cause gs g) 3 (omega arith) (λ _ h. true≢false (sym e ∙ h)) (λ _ h. h) (λ l _. omega arith) (λ l _. omega arith))
      by true true e f =
          let none = none_below (relocate_cause gs g) 5 (omega arith) (λ _ h. true≢false (sym e ∙ h)) (λ _ h. h) (λ _ h. h (numbered g.number gs f)) (λ _ h. h) in
          last_cause gs (relocate_cause gs g) none (λ n t. t) (λ n t. t) (beside g gs) refl

pub remove_smallest : (n : ℕ) (gs : List Gate) → SmallestCause (remove_cause gs n) (remove_answer gs n)
remove_smallest n gs = by (is_set n gs) refl
  where
    none : is_set n gs ≡ true → (r : Refusal) → remove_cause gs n r → ⊥
    none e OutOfRange h = h
    none e AlreadySet h = h
    none e NotSet h = h (numbered n gs e)
    none e Full h = h
    none e (Beside m) h = h

    by : (b : Bool) → is_set n gs ≡ b → SmallestCause (remove_cause gs n) (answer (cond b None (Some NotSet)))
    by true e = none e
    by false e = (not_numbered n gs e, none_below (remove_cause gs n) 3 (omega arith) (λ _ h. h) (λ _ h. h) (λ l _. omega arith) (λ l _. omega arith))
