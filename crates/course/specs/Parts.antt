-- What private functions answer. Assumes nothing.
use Rattle.std.specs.Prelude.{ℕ, List, length, filter}
use Rattle.course.specs.declared.gate.Gate.{Gate}
use Rattle.course.specs.Gates.{above}

-- how many gates are above g
abbrev pub count_above : Gate → List Gate → ℕ
count_above g gs = length (filter (λ x. above x g) gs)
