use Rattle.std.proofs.Common.{◌≡◌, ℕ, ◌+◌, ◌≤◌, List, ◌++◌, Option, length, take, sym, ap, subst, ◌∙◌, length-take-le, rules}
use Rattle.std.proofs.lemmas.List.{take-append-le}
use Rattle.std.proofs.Math.Seq.{take-append-add}
use Rattle.std.specs.Io.KnownBytes.{Consumes}
use Rattle.std.proofs.KnownBytes.{Consumes-trans}
use borrow.Rule.Slice.PartMut.{put_mid, post_of}
use Rattle.listing.proofs.fill_from.Goals as goal

-- what one more read gave stands after what came before
read_more : (a b c : Option (List ℕ)) (at k n : ℕ) (xs part : List ℕ) → at ≤ length xs → n ≤ length part → Consumes a b (take at xs) → Consumes b c (take n part) → Consumes a c (take (at + n) (put_mid at k xs part))
read_more a b c at k n xs part within fits before read =
    let after = post_of at k xs in
    let joined : take (at + n) (put_mid at k xs part) ≡ take at xs ++ take n part =
    ap (λ m. take (m + n) (take at xs ++ (part ++ after))) (sym (length-take-le at xs within))
    ∙ take-append-add (take at xs) (part ++ after) n
    ∙ ap (λ l. take at xs ++ l) (take-append-le n part after fits)
    in
    subst (Consumes a c) (sym joined) (Consumes-trans a b c _ _ before read)

pub loop-len-preserved : goal.loop-len-preserved
loop-len-preserved g c = record {
  within = search rules;
  read = read_more _ _ _ _ _ _ _ _ c.loop-len.invariant.within c.in_ok-count.ensures.bound.0 c.loop-len.invariant.read c.in_ok-count.ensures.bytes.0;
}
