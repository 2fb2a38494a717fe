use Rattle.std.proofs.Common.{◌∙◌, arith}
use Rattle.course.specs.View.{gates_of}
use Rattle.hills.proofs.Adding.{added_more, added_end}
use Rattle.hills.proofs.courses.course_of.Goals as goal

pub loop-gate-preserved : goal.loop-gate-preserved
loop-gate-preserved c =
    added_more (gates_of c.loop-gate.course) c.args.gates.now c.loop-gate.gate-index (gates_of c.add.new.self) c.loop-gate-test.true c.add.ensures.gates_after
    ∙ c.loop-gate.invariant

pub returns : goal.returns
returns c = record { added = added_end (gates_of c.loop-gate.course) c.args.gates.now c.loop-gate.gate-index (omega arith) ∙ c.loop-gate.invariant }
