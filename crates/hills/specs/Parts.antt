-- What private functions promise. Assumes nothing.
use Rattle.std.specs.Prelude.{ℕ, List, [], ◌∷◌, ◌++◌, codes, decimal}
use Rattle.course.specs.declared.gate.Gate.{Gate}
use Rattle.course.specs.Edits.{after_add}

-- the gates after adding some gates one after another
unfoldable pub added_all : List Gate → List Gate → List Gate
added_all gs [] = gs
added_all gs (x ∷ xs) = added_all (after_add gs x) xs

-- the number of a gate, after a space
abbrev pub number_text : Gate → List ℕ
number_text g = codes " " ++ decimal g.number
