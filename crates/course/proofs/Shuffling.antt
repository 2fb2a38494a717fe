-- Gates of a course in another order. Assumes nothing.
use Rattle.std.proofs.Common.{◌≡◌, ℕ, suc, ◌<◌, List, ◌∷◌, length, get_or, refl, ap, ◌∙◌, inl, inr, ⊎_elim, ◌⊎◌, arith}
use Rattle.std.specs.List.{All, AllPairs, swap}
use Rattle.std.specs.List.Sorted.{IsPermutation}
use Rattle.std.proofs.lemmas.Bool.{cases_eq, cases_order}
use Rattle.std.proofs.lemmas.List.Edits.{swapped_from_swap, length-swap}
use Rattle.std.proofs.lemmas.List.Sorted.{IsPermutation-keeps, IsPermutation-sym}
use Rattle.course.specs.declared.gate.Gate.{Gate}
use Rattle.course.proofs.Listed.{Over}

-- the gates at any two indices, one over the other
abbrev EachTwo : List Gate → Type 0
EachTwo gs = (i j : ℕ) (d : Gate) → (i ≡ j → ⊥) → i < length gs → j < length gs → Over (get_or gs i d) (get_or gs j d) ⊎ Over (get_or gs j d) (get_or gs i d)

each_two : (gs : List Gate) → AllPairs Over gs → EachTwo gs
each_two gs o i j d n l m =
    ⊎_elim (λ e. absurd (n e)) (λ w. ⊎_elim (λ b. inl (o i j d b m)) (λ b. inr (o j i d b l)) w) (cases_order i j)

module _ (gs : List Gate) (two : EachTwo gs) where
  -- also where they stood at p and q
  stood : (ys : List Gate) (d : Gate) (i j p q : ℕ) → get_or ys i d ≡ get_or gs p d → get_or ys j d ≡ get_or gs q d → (p ≡ q → ⊥) → p < length gs → q < length gs → Over (get_or ys i d) (get_or ys j d) ⊎ Over (get_or ys j d) (get_or ys i d)
  stood ys d i j p q e f n l m = rw (e, f) (two p q d n l m)

  swapped : (a b : ℕ) → a < length gs → b < length gs → EachTwo (swap gs a b)
  swapped a b la lb i j d n l m =
      let ys = swap gs a b in
      let s = swapped_from_swap gs ys a b d la lb refl in
      let long = length-swap gs a b in
      let moved : (k o p : ℕ) → k ≡ o → get_or ys o d ≡ get_or gs p d → get_or ys k d ≡ get_or gs p d = (λ k o p e f. ap (λ (x : ℕ). get_or ys x d) e ∙ f) in
      ⊎_elim
      (λ ia. ⊎_elim
      (λ jb. stood ys d i j b a (moved i a b ia s.0) (moved j b a jb s.1) (λ e. n (omega arith)) lb la)
      (λ jb. stood ys d i j b j (moved i a b ia s.0) (s.2 j (λ e. n (omega arith)) jb) (λ e. jb (omega arith)) lb (omega arith))
      (cases_eq j b))
      (λ ia. ⊎_elim
      (λ ib. ⊎_elim
      (λ ja. stood ys d i j a b (moved i b a ib s.1) (moved j a b ja s.0) (λ e. n (omega arith)) la lb)
      (λ ja. stood ys d i j a j (moved i b a ib s.1) (s.2 j ja (λ e. n (omega arith))) (λ e. ja (omega arith)) la (omega arith))
      (cases_eq j a))
      (λ ib. ⊎_elim
      (λ ja. stood ys d i j i b (s.2 i ia ib) (moved j a b ja s.0) ib (omega arith) lb)
      (λ ja. ⊎_elim
      (λ jb. stood ys d i j i a (s.2 i ia ib) (moved j b a jb s.1) ia (omega arith) la)
      (λ jb. stood ys d i j i j (s.2 i ia ib) (s.2 j ja jb) n (omega arith) (omega arith))
      (cases_eq j b))
      (cases_eq j a))
      (cases_eq i b))
      (cases_eq i a)

-- where the gates of a course are g and others in any order, each of those is over g or under it
pub others_apart : (g : Gate) (gs after : List Gate) → AllPairs Over after → IsPermutation (g ∷ gs) after → All (λ x. Over g x ⊎ Over x g) gs
others_apart g gs after o s =
    let two = IsPermutation-keeps after EachTwo (each_two after o) (λ xs a b l m t. swapped xs t a b l m) (g ∷ gs) (IsPermutation-sym (g ∷ gs) after s) in
    λ k d l. two 0 (suc k) d (λ e. omega arith) (omega arith) (omega arith)
