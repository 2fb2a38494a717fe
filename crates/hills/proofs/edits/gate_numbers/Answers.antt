use Rattle.std.proofs.Common.{arith}
use Rattle.std.proofs.lemmas.List.{drop_more, drop_all}
use Rattle.course.specs.Gates.{no_gate}
use Rattle.hills.proofs.Texts.{sofar_more, sofar_all}
use Rattle.hills.proofs.edits.gate_numbers.Goals as goal

pub loop-gate-preserved : goal.loop-gate-preserved
loop-gate-preserved c =
    sofar_more c.loop-gate.invariant _ _ _ (drop_more c.args.gates.now c.loop-gate.gate-index no_gate c.loop-gate-test.true) c.in_ok-write.ensures.bytes

pub returns : goal.returns
returns c = record { text = sofar_all c.loop-gate.invariant (drop_all c.loop-gate.gate-index c.args.gates.now (omega arith)) }
