-- What an edit of a course answers and leaves. Assumes nothing.
use Rattle.std.specs.Prelude.{ℕ, Bool, cond, not, ◌||◌, List, [], ◌∷◌, ◌++◌, length, Some, None, Ok, Err, filter, Option, Result, ◌==◌, nat_le}
use Rattle.std.specs.List.{list_any}
use Rattle.course.specs.declared.gate.Gate.{Gate}
use Rattle.course.specs.declared.refusal.Refusal.{Refusal}
use Rattle.course.specs.declared.refusal.Refusal.TheVariants.{OutOfRange, AlreadySet, NotSet, Full, Beside}
use Rattle.course.specs.Gates.{in_range, above, ordered}

-- the number of each refusal
abbrev pub refusal_number : Refusal → ℕ
refusal_number OutOfRange = 1
refusal_number AlreadySet = 2
refusal_number NotSet = 3
refusal_number Full = 4
refusal_number (Beside n) = 5

-- a gate has this number
abbrev pub has_number : ℕ → Gate → Bool
has_number n g = g.number == n

-- some gate has this number
unfoldable pub is_set : ℕ → List Gate → Bool
is_set n gs = list_any (has_number n) gs

-- the number of the topmost gate that has another number than g and is neither above nor below g
unfoldable pub beside : Gate → List Gate → Option ℕ
beside g [] = None
beside g (x ∷ xs) = cond (has_number g.number x || ordered x g) (beside g xs) (Some x.number)

-- a refusal because of such a gate, if there is one
abbrev pub beside_refusal : Option ℕ → Option Refusal
beside_refusal None = None
beside_refusal (Some n) = Some (Beside n)

-- why a gate is not added, the first reason first
abbrev pub add_refusal : List Gate → Gate → Option Refusal
add_refusal gs g =
    cond (not (in_range g)) (Some OutOfRange)
    (cond (is_set g.number gs) (Some AlreadySet)
    (cond (nat_le 200 (length gs)) (Some Full)
    (beside_refusal (beside g gs))))

-- why a gate is not removed
abbrev pub remove_refusal : List Gate → ℕ → Option Refusal
remove_refusal gs n = cond (is_set n gs) None (Some NotSet)

-- why a gate is not given a new place, the first reason first
abbrev pub relocate_refusal : List Gate → Gate → Option Refusal
relocate_refusal gs g =
    cond (not (in_range g)) (Some OutOfRange)
    (cond (not (is_set g.number gs)) (Some NotSet)
    (beside_refusal (beside g gs)))

-- the gates without the one that has this number
abbrev pub without : ℕ → List Gate → List Gate
without n gs = filter (λ g. not (has_number n g)) gs

-- the gates above g, then g, then the gates below g
abbrev pub with_gate : Gate → List Gate → List Gate
with_gate g gs = filter (λ x. above x g) gs ++ g ∷ filter (λ x. above g x) gs

-- the answer of an edit, by its refusal
abbrev pub answer : Option Refusal → Result Unit Refusal
answer None = Ok tt
answer (Some r) = Err r

-- the gates after an edit: as before where it is refused
abbrev pub leaves : Option Refusal → List Gate → List Gate → List Gate
leaves None before done = done
leaves (Some r) before done = before

-- what adding a gate answers, and the gates after it
abbrev pub add_answer : List Gate → Gate → Result Unit Refusal
add_answer gs g = answer (add_refusal gs g)

abbrev pub after_add : List Gate → Gate → List Gate
after_add gs g = leaves (add_refusal gs g) gs (with_gate g gs)

-- what removing a gate answers, and the gates after it
abbrev pub remove_answer : List Gate → ℕ → Result Unit Refusal
remove_answer gs n = answer (remove_refusal gs n)

abbrev pub after_remove : List Gate → ℕ → List Gate
after_remove gs n = leaves (remove_refusal gs n) gs (without n gs)

-- what giving a gate a new place answers, and the gates after it
abbrev pub relocate_answer : List Gate → Gate → Result Unit Refusal
relocate_answer gs g = answer (relocate_refusal gs g)

abbrev pub after_relocate : List Gate → Gate → List Gate
after_relocate gs g = leaves (relocate_refusal gs g) gs (with_gate g (without g.number gs))
