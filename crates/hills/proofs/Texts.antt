-- Texts made one after another. Assumes nothing.
use Rattle.std.proofs.Common.{◌≡◌, ℕ, suc, ◌+◌, ◌<◌, ◌≤◌, List, [], ◌∷◌, ◌++◌, map, Ok, Err, codes, decimal, sym, refl, ap, ◌∙◌, arith}
use Rattle.std.proofs.lemmas.List.{append_assoc, append-nil}
use Rattle.std.specs.List.{join_with_byte}
use Rattle.std.specs.Fmt.{signed_decimal}
use Rattle.course.specs.declared.gate.Gate.{Gate}
use Rattle.course.specs.declared.refusal.Refusal.{Refusal}
use Rattle.course.specs.declared.refusal.Refusal.TheVariants.{OutOfRange, AlreadySet, NotSet, Full, Beside}
use Rattle.course.specs.Edits.{refusal_number}
use Rattle.course.specs.Text.{refusal_words}
use Rattle.costs.specs.declared.mast.Mast.{Mast}
use Rattle.costs.specs.Groups.{span}
use Rattle.costs.specs.Texts.{span_words, mast_words}
use Rattle.kinds.specs.Trench.{trench_span}
use Rattle.hills.specs.declared.edits.Edit.{Edit}
use Rattle.hills.specs.declared.edits.Edit.TheVariants.{Add, Remove, Relocate}
use Rattle.hills.specs.Text.{line_of, each_text, edit_words, told_words, edit_line, span_line, mast_line, gate_line, free_line, step_line, span_text}
use Rattle.hills.specs.Parts.{number_text}
use Rattle.costs.proofs.Spans.{positions_more, positions_none}

-- the text so far, with the texts of what is left, is the text of all
pub record Sofar {A : Type 0} (f : A → List ℕ) (all left : List A) (text : List ℕ) : Type 0 where
  pub whole : text ++ each_text f left ≡ each_text f all

module _ {A : Type 0} {f : A → List ℕ} {all left : List A} {text : List ℕ} (s : Sofar f all left text) where
  -- the text of one more thing was added
  pub sofar_more : (x : A) (after : List A) (more : List ℕ) → left ≡ x ∷ after → more ≡ text ++ f x → Sofar f all after more
  unfolding each_text
  sofar_more x after more e m = record {
    whole =
        ap (λ t. t ++ each_text f after) m
        ∙ append_assoc text (f x) (each_text f after)
        ∙ ap (λ xs. text ++ each_text f xs) (sym e)
        ∙ s.whole;
  }

  pub sofar_all : left ≡ [] → text ≡ each_text f all
  unfolding each_text
  sofar_all e = sym (append-nil text) ∙ ap (λ xs. text ++ each_text f xs) (sym e) ∙ s.whole

-- a line that begins with some words
words_line : (w : List ℕ) (ws : List (List ℕ)) (v : List ℕ) (vs : List (List ℕ)) → line_of ((w ∷ ws) ++ v ∷ vs) ≡ join_with_byte 32 (w ∷ ws) ++ (codes " " ++ line_of (v ∷ vs))
words_line w [] v vs = refl
words_line w (u ∷ ws) v vs =
    ap (λ l. w ++ (codes " " ++ l)) (words_line u ws v vs) ∙ sym (append_assoc w (32 ∷ join_with_byte 32 (u ∷ ws)) (codes " " ++ line_of (v ∷ vs)))

-- with an edit
edited_line : (e : Edit) (v : List ℕ) (vs : List (List ℕ)) → line_of (edit_words e ++ v ∷ vs) ≡ join_with_byte 32 (edit_words e) ++ (codes " " ++ line_of (v ∷ vs))
edited_line (Add g) v vs = words_line (codes "add") (decimal g.number ∷ decimal g.distance ∷ signed_decimal g.height ∷ []) v vs
edited_line (Remove n) v vs = words_line (codes "remove") (decimal n ∷ []) v vs
edited_line (Relocate g) v vs = words_line (codes "relocate") (decimal g.number ∷ decimal g.distance ∷ signed_decimal g.height ∷ []) v vs

-- with a refusal
refused_line : (r : Refusal) (v : List ℕ) (vs : List (List ℕ)) → line_of (decimal (refusal_number r) ∷ (told_words r ++ v ∷ vs)) ≡ refusal_words r ++ (codes " " ++ line_of (v ∷ vs))
refused_line OutOfRange v vs = sym (append_assoc (decimal 1) [] _)
refused_line AlreadySet v vs = sym (append_assoc (decimal 2) [] _)
refused_line NotSet v vs = sym (append_assoc (decimal 3) [] _)
refused_line Full v vs = sym (append_assoc (decimal 4) [] _)
refused_line (Beside n) v vs = sym (append_assoc (decimal 5) (codes " " ++ decimal n) _)

-- a line that ends with the numbers of gates
numbers_line : (w : List ℕ) (gs : List Gate) → line_of (w ∷ map (λ g. decimal g.number) gs) ≡ w ++ (each_text number_text gs ++ codes "\n")
unfolding each_text
numbers_line w [] = refl
numbers_line w (g ∷ gs) =
    ap (λ l. w ++ (codes " " ++ l)) (numbers_line (decimal g.number) gs)
    ∙ ap (λ l. w ++ l) (sym (append_assoc (number_text g) (each_text number_text gs) (codes "\n")))

-- the line of an edit that is done, and of one that is refused, from its parts
pub done_line : (e : Edit) (gs : List Gate) → edit_line e (Ok tt) gs ≡ join_with_byte 32 (edit_words e) ++ (codes " done leaves" ++ (each_text number_text gs ++ codes "\n"))
done_line e gs =
    let numbers : List (List ℕ) = map (λ g. decimal g.number) gs in
    edited_line e (codes "done") (codes "leaves" ∷ numbers) ∙ ap (λ l. join_with_byte 32 (edit_words e) ++ (codes " done " ++ l)) (numbers_line (codes "leaves") gs)

pub refusal_line : (e : Edit) (r : Refusal) (gs : List Gate)
    → edit_line e (Err r) gs ≡ join_with_byte 32 (edit_words e) ++ (codes " refused " ++ (refusal_words r ++ (codes " leaves" ++ (each_text number_text gs ++ codes "\n"))))
refusal_line e r gs =
    let numbers : List (List ℕ) = map (λ g. decimal g.number) gs in
    edited_line e (codes "refused") (decimal (refusal_number r) ∷ (told_words r ++ codes "leaves" ∷ numbers))
    ∙ ap (λ l. join_with_byte 32 (edit_words e) ++ (codes " refused " ++ l)) (refused_line r (codes "leaves") numbers ∙ ap (λ l. refusal_words r ++ (codes " " ++ l)) (numbers_line (codes "leaves") gs))

-- the text so far of the positions of a span, before position p
pub record Along (f : ℕ → List ℕ) (from p n : ℕ) (text : List ℕ) : Type 0 where
  pub begun : from ≤ p
  pub so_far : Sofar f (span from n) (span p n) text

module _ {f : ℕ → List ℕ} {from p n : ℕ} {text : List ℕ} (s : Along f from p n text) where
  pub along_more : (more : List ℕ) → p < n + 1 → more ≡ text ++ f p → Along f from (p + 1) n more
  along_more more h m = record {
    begun = omega (arith, s.begun);
    so_far = sofar_more s.so_far p (span (p + 1) n) more (positions_more p (suc n) (omega arith)) m;
  }

  pub along_all : n + 1 ≤ p → text ≡ each_text f (span from n)
  along_all h = sofar_all s.so_far (positions_none p (suc n) (omega arith))

-- the line of a span's cost and its mast, from its parts
pub mast_line_parts : (kind : List ℕ) (first last : ℕ) (cost : List ℕ) (m : Mast)
    → mast_line kind first last cost m ≡ kind ++ (codes " " ++ (span_words first last ++ (codes " " ++ (cost ++ (codes " " ++ (mast_words m ++ codes "\n"))))))
mast_line_parts kind first last cost m =
    let end = append_assoc (signed_decimal m.distance) (codes " " ++ signed_decimal m.height) (codes "\n") in
    let span = append_assoc (decimal first) (codes "-" ++ decimal last) (codes " " ++ (cost ++ (codes " " ++ (mast_words m ++ codes "\n")))) in
    sym (ap (λ l. kind ++ (codes " " ++ l)) (span ∙ ap (λ l. decimal first ++ (codes "-" ++ (decimal last ++ (codes " " ++ (cost ++ (codes " " ++ l)))))) end))

-- the line of a trench, before more lines
trench_before : (first last : ℕ) (cost rest : List ℕ) → span_line (codes "TRENCH") first last (cost ∷ []) ++ rest ≡ codes "TRENCH " ++ (span_words first last ++ (codes " " ++ (cost ++ (codes "\n" ++ rest))))
trench_before first last cost rest = simp append_assoc

-- the four lines of a span, from their texts
pub span_text_parts : (gs : List Gate) (first last : ℕ) {gate free step : List ℕ} → gate ≡ gate_line gs first last → free ≡ free_line gs first last → step ≡ step_line gs first last
    → span_text gs first last ≡ gate ++ (free ++ (codes "TRENCH " ++ (span_words first last ++ (codes " " ++ (decimal (trench_span gs first last) ++ (codes "\n" ++ step))))))
span_text_parts gs first last g f s =
    let t = trench_before first last (decimal (trench_span gs first last)) (step_line gs first last) in
    let u = ap (λ l. codes "TRENCH " ++ (span_words first last ++ (codes " " ++ (decimal (trench_span gs first last) ++ (codes "\n" ++ l))))) (sym s) in
    λ i. sym g i ++ (sym f i ++ (t ∙ u) i)
