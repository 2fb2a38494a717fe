use Rattle.std.proofs.Common.{◌≡◌, ◌+◌, ◌∙◌, refl, arith, rules}
use Rattle.std.proofs.lemmas.Iterator.{YieldsList-from_range}
use Rattle.std.proofs.lemmas.Iterator.Consumers.{fold_from_yields_List}
use Rattle.orders.specs.Bits.{field_at}
use Rattle.orders.proofs.Bytes.{bytes_typed, field_is_cut}
use Rattle.orders.proofs.Fields.{field_folded, field_small, with_bit}
use Rattle.orders.proofs.bits.number_in.Goals as goal

pub returns : goal.returns
returns c =
    let road = YieldsList-from_range c.args.from (c.args.from + c.args.width) c.args.width refl (omega arith) in
    let e : c.fold.result ≡ field_at c.args.bytes.now c.args.from c.args.width =
    fold_from_yields_List _ (with_bit c.args.bytes.now) 0 c.fold.result c.fold.ensures.ran road (λ a x b q k. search rules)
    ∙ field_folded c.args.bytes.now c.args.from c.args.width c.requires.narrow
    in
    record {
      value = e;
      small = rw e (field_small _ _ _);
      cut = e ∙ field_is_cut c.args.bytes.now _ _ (bytes_typed _ c.type_inv.bytes) c.requires.inside;
    }
