use Rattle.std.proofs.Common.{◌≡◌, ◌++◌, rules, string_bytes}
use Rattle.listing.specs.Listing.{order_line}
use Rattle.listing.proofs.Lines.{lines_more}
use Rattle.listing.proofs.order_lines.Goals as goal

pub loop-byte-preserved : goal.loop-byte-preserved
loop-byte-preserved c =
    let line : string_bytes c.writeln.new.self ≡ string_bytes c.loop-byte.text ++ order_line c.in-Some.byte c.in-Some.order = search rules in
    lines_more (string_bytes c.loop-byte.text) c.loop-byte.byte-iterator c.next.new.self (c.in-Some.byte, c.in-Some.order) line c.in-Some.ensures.steps c.loop-byte.invariant
