use Rattle.std.proofs.Common.{◌≡◌, drop}
use Rattle.course.specs.Edits.{beside}
use Rattle.course.proofs.course.edits.first_beside.Given as goal

abbrev pub invariant-loop-other : goal.invariant-loop-other
invariant-loop-other l = beside l.gate l.gates ≡ beside l.gate (drop l.other-index l.gates)
