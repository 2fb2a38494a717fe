use Rattle.std.proofs.Common.{◌≡◌, [], ◌++◌, take, drop, sym, ap, ◌∙◌, subst, arith}
use Rattle.std.proofs.lemmas.List.{take_at}
use Rattle.orders.specs.Streams.{Fronts, parse}
use Rattle.orders.proofs.Bytes.{bytes_typed}
use Rattle.orders.proofs.Streams.{counted_sound, next_order, reached_more, reached_end, filled_more, whole_form}
use Rattle.orders.proofs.stream.fill.Goals as goal

pub bounds-out-at : goal.bounds-out-at
bounds-out-at c =
    let steps = c.in-Some.ensures.steps in
    let next = next_order c.loop-at.invariant.0 _ _ steps.0.order in
    omega (arith, next.more, (counted_sound _ _ c.requires.sound).1)

pub loop-at-preserved : goal.loop-at-preserved
loop-at-preserved c =
    let steps = c.in-Some.ensures.steps in
    let next = next_order c.loop-at.invariant.0 _ _ steps.0.order in
    let filled = filled_more _ _ _ _ _ next (omega (arith, next.more, (counted_sound _ _ c.requires.sound).1)) c.loop-at.invariant.1 in
    (rw steps.2 (reached_more c.loop-at.invariant.0 _ _ steps.0.order), rw (steps.1, steps.2) filled)

pub returns : goal.returns
returns c =
    let sound = counted_sound c.args.bytes.now _ c.requires.sound in
    let end = reached_end c.loop-at.invariant.0 sound.0 c.in-None.ensures.steps.0.none in
    let count : c.loop-at.at-iterator.count ≡ c.args.count = end.count ∙ sym sound.1 in
    let all = c.loop-at.invariant.1 ∙ ap (λ l. l ++ drop c.loop-at.at-iterator.count c.args.out.now) end.orders ∙ ap (λ n. (parse c.args.bytes.now).orders ++ drop n c.args.out.now) count in
    let front = ap (take c.args.count) all ∙ take_at (parse c.args.bytes.now).orders _ _ (sym sound.1) in
    record {
      after = all;
      form = subst (λ os. Fronts os [] c.args.bytes.now) (sym front) (whole_form c.args.bytes.now (bytes_typed _ c.type_inv.bytes) sound.0);
    }
