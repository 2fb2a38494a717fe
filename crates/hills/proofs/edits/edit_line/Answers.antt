use Rattle.hills.proofs.Texts.{done_line, refusal_line}
use Rattle.hills.proofs.edits.edit_line.Goals as goal

pub returns-in-Ok : goal.returns-in-Ok
returns-in-Ok c = record { text = rw (c.in-Ok.is, done_line c.args.edit c.args.gates.now, ← c.in_ok-numbers.ensures.text) c.format.ensures.ok }

pub returns : goal.returns
returns c = record { text = rw (c.in-Err.is, refusal_line c.args.edit c.in-Err.refusal c.args.gates.now, ← c.in_ok-numbers.ensures.text) c.format-in-Err.ensures.ok }
