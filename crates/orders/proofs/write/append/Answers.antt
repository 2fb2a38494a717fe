use Rattle.std.proofs.Common.{ap, ◌∙◌, mod-eq_of_lt}
use Rattle.std.specs.Int.Bits.{bit_or}
use Rattle.std.proofs.lemmas.Nat.{or_shifted}
use Rattle.orders.proofs.write.append.Goals as goal

pub returns : goal.returns
returns c = record { value = ap (λ n. bit_or n c.args.value) (mod-eq_of_lt c.requires.room) ∙ or_shifted c.args.front c.args.width c.args.value c.requires.small }
