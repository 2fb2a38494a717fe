-- Costs of spans and edits of a course, as text. Assumes nothing.
use Rattle.std.specs.Prelude.{ℕ, List, [], ◌∷◌, ◌++◌, map, length, Ok, Err, codes, decimal, Result}
use Rattle.std.specs.Fmt.{signed_decimal}
use Rattle.course.specs.declared.gate.Gate.{Gate}
use Rattle.course.specs.declared.refusal.Refusal.{Refusal}
use Rattle.course.specs.declared.refusal.Refusal.TheVariants.{OutOfRange, AlreadySet, NotSet, Full, Beside}
use Rattle.course.specs.Edits.{refusal_number, add_answer, after_add, remove_answer, after_remove, relocate_answer, after_relocate}
use Rattle.costs.specs.declared.mast.Mast.{Mast}
use Rattle.costs.specs.Groups.{span}
use Rattle.kinds.specs.FreeMast.{free_mast_span, free_mast_mast}
use Rattle.kinds.specs.GateMast.{gate_mast_span, gate_mast_mast}
use Rattle.kinds.specs.Trench.{trench_span}
use Rattle.steps.specs.Steps.{step_of}
use Rattle.steps.specs.Texts.{step_words}
use Rattle.hills.specs.declared.edits.Edit.{Edit}
use Rattle.hills.specs.declared.edits.Edit.TheVariants.{Add, Remove, Relocate}

-- a line: words with a space between, and a newline at the end
abbrev pub line_of : List (List ℕ) → List ℕ
line_of [] = codes "\n"
line_of (w ∷ []) = w ++ codes "\n"
line_of (w ∷ v ∷ ws) = w ++ (codes " " ++ line_of (v ∷ ws))

-- the texts of some things, one after another
unfoldable pub each_text : {A : Type 0} → (A → List ℕ) → List A → List ℕ
each_text text [] = []
each_text text (x ∷ xs) = text x ++ each_text text xs

-- a line of a span: the kind, the first and the last position joined by a hyphen, and more words
abbrev pub span_line : List ℕ → ℕ → ℕ → List (List ℕ) → List ℕ
span_line kind first last words = kind ++ (codes " " ++ (decimal first ++ (codes "-" ++ line_of (decimal last ∷ words))))

-- the line of a span's cost and its mast, of which the distance and the height are told
abbrev pub mast_line : List ℕ → ℕ → ℕ → List ℕ → Mast → List ℕ
mast_line kind first last cost mast = span_line kind first last (cost ∷ signed_decimal mast.distance ∷ signed_decimal mast.height ∷ [])

-- with a mast at a gate
abbrev pub gate_line : List Gate → ℕ → ℕ → List ℕ
gate_line gs first last = mast_line (codes "GATE") first last (decimal (gate_mast_span gs first last)) (gate_mast_mast gs first last)

-- with a mast at any place
abbrev pub free_line : List Gate → ℕ → ℕ → List ℕ
free_line gs first last = mast_line (codes "FREE") first last (decimal (free_mast_span gs first last)) (free_mast_mast gs first last)

-- with a trench, which has no mast
abbrev pub trench_line : List Gate → ℕ → ℕ → List ℕ
trench_line gs first last = span_line (codes "TRENCH") first last (decimal (trench_span gs first last) ∷ [])

-- the limits of the steps that are told
abbrev pub step_limits : List ℕ
step_limits = 300000 ∷ 1000000 ∷ []

-- with a mast at any place, the cost as a step
abbrev pub step_line : List Gate → ℕ → ℕ → List ℕ
step_line gs first last = mast_line (codes "STEP") first last (step_words (step_of step_limits (free_mast_span gs first last))) (free_mast_mast gs first last)

-- the four lines of a span
abbrev pub span_text : List Gate → ℕ → ℕ → List ℕ
span_text gs first last = gate_line gs first last ++ (free_line gs first last ++ (trench_line gs first last ++ step_line gs first last))

-- the spans from a position on, by their last positions
abbrev pub spans_from : List Gate → ℕ → List ℕ
spans_from gs first = each_text (span_text gs first) (span first (length gs))

-- the spans whose first position is this one or a later one, by their first positions
abbrev pub later_spans : List Gate → ℕ → List ℕ
later_spans gs first = each_text (spans_from gs) (span first (length gs))

-- all spans, by their first positions and then by their last
abbrev pub spans_text : List Gate → List ℕ
spans_text gs = later_spans gs 1

-- what is done with a gate, and the gate: its number, its distance and its height
abbrev pub gate_words : List ℕ → Gate → List (List ℕ)
gate_words verb g = verb ∷ decimal g.number ∷ decimal g.distance ∷ signed_decimal g.height ∷ []

-- an edit in words
abbrev pub edit_words : Edit → List (List ℕ)
edit_words (Add g) = gate_words (codes "add") g
edit_words (Remove n) = codes "remove" ∷ decimal n ∷ []
edit_words (Relocate g) = gate_words (codes "relocate") g

-- the gate that a refusal tells, if it tells one
abbrev pub told_words : Refusal → List (List ℕ)
told_words OutOfRange = []
told_words AlreadySet = []
told_words NotSet = []
told_words Full = []
told_words (Beside n) = decimal n ∷ []

-- what an edit answers, in words: that it is done, or refused, and the number of the refusal
abbrev pub answer_words : Result Unit Refusal → List (List ℕ)
answer_words (Ok done) = codes "done" ∷ []
answer_words (Err r) = codes "refused" ∷ decimal (refusal_number r) ∷ told_words r

-- the line of an edit, of its answer, and of the numbers of the gates that it leaves, from the top down
abbrev pub edit_line : Edit → Result Unit Refusal → List Gate → List ℕ
edit_line e a gs = line_of (edit_words e ++ (answer_words a ++ (codes "leaves" ∷ map (λ g. decimal g.number) gs)))

-- what an edit answers
abbrev pub edit_answer : List Gate → Edit → Result Unit Refusal
edit_answer gs (Add g) = add_answer gs g
edit_answer gs (Remove n) = remove_answer gs n
edit_answer gs (Relocate g) = relocate_answer gs g

-- the gates after an edit
abbrev pub after_edit : List Gate → Edit → List Gate
after_edit gs (Add g) = after_add gs g
after_edit gs (Remove n) = after_remove gs n
after_edit gs (Relocate g) = after_relocate gs g

-- what is told of an edit of a course
abbrev pub edit_text : List Gate → Edit → List ℕ
edit_text gs e = edit_line e (edit_answer gs e) (after_edit gs e)
