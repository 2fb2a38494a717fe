use Rattle.std.proofs.Common.{◌≡◌, string_bytes, ◌∙◌, arith}
use Rattle.hills.proofs.Texts.{along_more, along_all}
use Rattle.hills.proofs.spans.each_position.Goals.{else-loop-position-test, then-loop-position-test+in_ok-words+in_ok-push_str+else-position-to}
use Rattle.hills.proofs.spans.each_position.Goals as goal

pub loop-position-preserved : goal.loop-position-preserved
loop-position-preserved g c = λ words h.
    let told = h c.loop-position.position c.text.result (omega arith) (omega arith) c.text.ensures in
    let line : string_bytes c.in_ok-words.words ≡ words c.loop-position.position = rw c.in_ok-words.was at told in
    let added : c.as_str.result.now ≡ words c.loop-position.position = c.as_str.ensures.value ∙ line in
    let more = rw added at c.in_ok-push_str.ensures.bytes in
    along_more (c.loop-position.invariant words h) _ (omega arith) more

pub returns : goal.returns
returns g c = record {
  texts = λ words h.
      let so_far = c.loop-position.invariant words h in
      elim c.loop-position-test.branch [
        | else-loop-position-test w ↦ rw w.all-is (along_all so_far (omega arith))
        | then-loop-position-test+in_ok-words+in_ok-push_str+else-position-to w ↦
            let told = h c.loop-position.position w.text.result (omega arith) (omega arith) w.text.ensures in
            let line : string_bytes w.in_ok-words.words ≡ words c.loop-position.position = rw w.in_ok-words.was at told in
            let added : w.as_str.result.now ≡ words c.loop-position.position = w.as_str.ensures.value ∙ line in
            let more = rw added at w.in_ok-push_str.ensures.bytes in
            rw w.all-is (along_all (along_more so_far _ (omega arith) more) (omega arith))
      ];
}
