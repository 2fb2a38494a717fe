use Rattle.std.proofs.Common.{drop, string_bytes}
use Rattle.hills.specs.Parts.{number_text}
use Rattle.hills.proofs.Texts.{Sofar}
use Rattle.hills.proofs.edits.gate_numbers.Given as goal

abbrev pub invariant-loop-gate : goal.invariant-loop-gate
invariant-loop-gate l = Sofar number_text l.gates (drop l.gate-index l.gates) (string_bytes l.text)
