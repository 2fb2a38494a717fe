-- Gates and refusals as text. Assumes nothing.
use Rattle.std.specs.Prelude.{ℕ, List, [], ◌++◌, codes, decimal}
use Rattle.std.specs.Fmt.{signed_decimal}
use Rattle.course.specs.declared.gate.Gate.{Gate}
use Rattle.course.specs.declared.refusal.Refusal.{Refusal}
use Rattle.course.specs.declared.refusal.Refusal.TheVariants.{OutOfRange, AlreadySet, NotSet, Full, Beside}
use Rattle.course.specs.Edits.{refusal_number}

-- a gate's number, its distance and its height
abbrev pub gate_words : Gate → List ℕ
gate_words g = decimal g.number ++ (codes " " ++ (decimal g.distance ++ (codes " " ++ signed_decimal g.height)))

-- the number of the gate that a refusal tells, after a space
abbrev pub told_gate : Refusal → List ℕ
told_gate OutOfRange = []
told_gate AlreadySet = []
told_gate NotSet = []
told_gate Full = []
told_gate (Beside n) = codes " " ++ decimal n

-- a refusal's number, and the gate that it tells, if it tells one
abbrev pub refusal_words : Refusal → List ℕ
refusal_words r = decimal (refusal_number r) ++ told_gate r
