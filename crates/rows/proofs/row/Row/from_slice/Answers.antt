use Rattle.std.proofs.Common.{length, replicate, ◌∙◌, arith}
use Rattle.std.proofs.lemmas.List.{drop-replicate}
use Rattle.std.proofs.lemmas.Slice.{drop-append-drop}
use Rattle.rows.proofs.row.Row.from_slice.Goals as goal

pub returns-clause-blank_after : goal.returns-clause-blank_after
returns-clause-blank_after g c =
    let n = length c.args.items.now in
    drop-append-drop n (replicate g.row.N c.args.blank) _ n (omega arith) (omega (arith, c.copy_from_slice.ensures.len, c.copy_from_slice.ensures.after)) ∙ drop-replicate n g.row.N c.args.blank
