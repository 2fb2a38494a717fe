use Rattle.std.proofs.Common.{◌≡◌, [], drop}
use Rattle.course.specs.View.{gates_of}
use Rattle.hills.specs.Parts.{added_all}
use Rattle.hills.proofs.courses.course_of.Given as goal

abbrev pub invariant-loop-gate : goal.invariant-loop-gate
invariant-loop-gate l = added_all (gates_of l.course) (drop l.gate-index l.gates) ≡ added_all [] l.gates
