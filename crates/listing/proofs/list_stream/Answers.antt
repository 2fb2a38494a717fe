use Rattle.std.proofs.Common.{◌≡◌, string_bytes, sym, subst, rules}
use Rattle.orders.proofs.Bytes.{bytes_typed}
use Rattle.listing.specs.Listing.{EachStands, full_listing}
use Rattle.listing.proofs.Lines.{each_stands}
use Rattle.listing.proofs.list_stream.Goals as goal

pub returns : goal.returns
returns c =
    let all : string_bytes c.push_str.new.self ≡ full_listing c.args.bytes.now = search rules in
    record {
      text_of_the_listing = search rules;
      each_order_stands_where_told = λ _. subst (EachStands c.args.bytes.now) (sym all) (each_stands c.args.bytes.now (bytes_typed _ c.type_inv.bytes));
    }
