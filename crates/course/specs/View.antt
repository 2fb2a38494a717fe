-- The gates that a value of `Course` holds. Assumes nothing.
use Rattle.std.specs.Prelude.{List}
use Rattle.rows.specs.Rows.{items_of}
use Rattle.course.specs.declared.gate.Gate.{Gate}
use Rattle.course.specs.declared.course.Course.{Course}

-- from the top down
abbrev pub gates_of : Course → List Gate
gates_of c = items_of c.gates
