use Rattle.std.proofs.Common.{◌≡◌, ◌/◌, Ok, sym, ap, ◌∙◌, arith, rules}
use Rattle.std.proofs.lemmas.Result.{err_from_is_err_and}
use Rattle.orders.specs.Kinds.{code_of}
use Rattle.orders.specs.Reading.{whole_bytes}
use Rattle.orders.proofs.Bytes.{bytes_typed}
use Rattle.orders.proofs.Reading.{kind_top, no_kind, width_some, no_fields, no_padding, whole_order, cut_rest}
use Rattle.orders.proofs.Streams.{read_front}
use Rattle.orders.proofs.read.read_order.Goals as goal

pub returns-in_err-kind-clause-order_and_rest_or_fault : goal.returns-in_err-kind-clause-order_and_rest_or_fault
returns-in_err-kind-clause-order_and_rest_or_fault c =
    let p = err_from_is_err_and c.from_residual.result c.from_residual.ensures.1 in
    rw (p.1, p.2) (no_kind c.args.bytes.now _ _ (search rules) (kind_top c.args.bytes.now (c.type_inv.bytes 0).fits) c.in_err-kind.ensures)

pub returns-in_err-order-clause-order_and_rest_or_fault : goal.returns-in_err-order-clause-order_and_rest_or_fault
returns-in_err-order-clause-order_and_rest_or_fault c =
    let p = err_from_is_err_and c.from_residual-in_err-order.result c.from_residual-in_err-order.ensures.1 in
    rw (p.1, p.2) (no_fields c.args.bytes.now _ (search rules) (c.in_ok-kind.ensures ∙ kind_top c.args.bytes.now (c.type_inv.bytes 0).fits) _ c.in_err-order.ensures.value)

pub returns-in_err-read_padding-clause-order_and_rest_or_fault : goal.returns-in_err-read_padding-clause-order_and_rest_or_fault
returns-in_err-read_padding-clause-order_and_rest_or_fault c =
    let p = err_from_is_err_and c.from_residual-in_err-read_padding.result c.from_residual-in_err-read_padding.ensures.1 in
    let body = c.in_ok-order.ensures in
    let pads = rw body.same at c.in_err-read_padding.ensures.value in
    rw (p.1, p.2) (no_padding c.args.bytes.now _ (search rules) (c.in_ok-kind.ensures ∙ kind_top c.args.bytes.now (c.type_inv.bytes 0).fits) _ _ body.value body.moved _ pads)

pub returns : goal.returns
returns c =
    let body = c.in_ok-order.ensures in
    let pads = rw body.same at c.in_ok-read_padding.ensures.value in
    let moved = c.in_ok-read_padding.ensures.moved in
    let some = width_some (code_of c.in_ok-kind.kind) in
    let end : c.read_padding.new.reader.at / 8 ≡ whole_bytes c.read_fields.new.reader.at = omega arith in
    let told = ap (λ l. Ok (c.in_ok-order.order, l)) (cut_rest c.args.bytes.now _ _ (omega (arith, body.moved, body.within)) end)
    ∙ whole_order c.args.bytes.now _ (search rules) (c.in_ok-kind.ensures ∙ kind_top c.args.bytes.now (c.type_inv.bytes 0).fits) _ _ body.value body.moved pads in
    record { order_and_rest_or_fault = told; what_the_writer_makes = read_front c.args.bytes.now _ _ (bytes_typed _ c.type_inv.bytes) (sym told) }
