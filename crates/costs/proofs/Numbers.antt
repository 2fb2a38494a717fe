-- Whole numbers in their usual order. Assumes nothing.
use Rattle.std.proofs.Common.{leb, arith}
use Rattle.std.proofs.lemmas.Bool.Decides.{nat_tests}
use Rattle.costs.specs.Laws.{Order}

pub number_order : Order leb
number_order = record {
  reflexive = λ a. grind (arith, nat_tests);
  transitive = λ a b c h k. grind (arith, nat_tests);
  antisymmetric = λ a b h k. grind (arith, nat_tests);
  total = λ a b. grind (arith, nat_tests);
}
