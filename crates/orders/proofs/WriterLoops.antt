-- The turns of the writer's loops. Assumes nothing.
use Rattle.std.proofs.Common.{◌≡◌, ℕ, zero, suc, ◌+◌, ◌-◌, ◌<◌, ◌≤◌, true, List, [], ◌∷◌, ◌++◌, length, get_or, take, drop, sym, ap, ◌∙◌, arith}
use borrow.Rule.Slice.PartMut.{put_mid}
use Rattle.std.proofs.Math.Seq.{paste}
use Rattle.std.proofs.lemmas.List.Edits.{paste_all, paste-paste}
use Rattle.std.proofs.lemmas.List.{at_drop_more, at_drop_all, flat_map_more, length-append, take_all, take_at, take_more}
use Rattle.std.proofs.lemmas.Slice.{put_mid-paste}
use Rattle.std.proofs.lemmas.Bool.{and_parts}
use Rattle.std.specs.Int.Digits.{number_from_digits}
use Rattle.orders.specs.declared.order.Order.{Order}
use Rattle.orders.specs.Numbers.{number_of}
use Rattle.orders.specs.Streams.{parse, WhollyRead}
use Rattle.orders.specs.Writing.{encode, encode_all, fits, all_fit, size_of, size_all}
use Rattle.orders.proofs.Fitting.{length-encode, number_all}
use Rattle.orders.proofs.Streams.{comes_back}

-- the order at i, and those after it
module _ (os : List Order) (i : ℕ) where
  pub size_more : (d : Order) (n : ℕ) → i < length os → n ≡ size_of (get_or os i d) → size_all (drop i os) ≡ n + size_all (drop (i + 1) os)
  size_more d n h e = at_drop_more size_all os i d h ∙ ap (λ x. x + size_all (drop (i + 1) os)) (sym e)

  size_none : length os ≤ i → size_all (drop i os) ≡ 0
  size_none h = at_drop_all size_all os i h

pub fit_at : (os : List Order) (i : ℕ) (d : Order) → all_fit os ≡ true → i < length os → fits (get_or os i d) ≡ true
fit_at [] i d all h = absurd (omega arith)
fit_at (o ∷ os) zero d all h = (and_parts (fits o) (all_fit os) all).0
fit_at (o ∷ os) (suc i) d all h = fit_at os i d (and_parts (fits o) (all_fit os) all).1 (omega arith)

-- i orders are written, in `at` bytes
pub record Sofar (os : List Order) (was out : List ℕ) (i at : ℕ) : Type 0 where
  pub size : at + size_all (drop i os) ≡ size_all os
  pub long : length (encode_all (take i os)) ≡ at
  pub front : out ≡ paste was 0 (encode_all (take i os)) at

encode_more : (os : List Order) (i : ℕ) (d : Order) → i < length os → encode_all (take (i + 1) os) ≡ encode_all (take i os) ++ encode (get_or os i d)
encode_more os i d h = ap encode_all (take_more os i d h) ∙ sym (flat_map_more encode [] (take i os) (get_or os i d))

module _ {os : List Order} {was out : List ℕ} {i at : ℕ} (s : Sofar os was out i at) where
  pub sofar_more : (d : Order) (n : ℕ) (bytes : List ℕ) → i < length os → size_all os ≤ length was → n ≡ size_of (get_or os i d) → bytes ≡ encode (get_or os i d) → Sofar os was (put_mid at ((at + n) - at) out bytes) (i + 1) (at + n)
  sofar_more d n bytes h room e f =
      let x : Order = get_or os i d in
      let all : List ℕ = encode_all (take i os) in
      let more = encode_more os i d h in
      let long = length-encode x in
      let none : at ≡ 0 + at = omega arith in
      record {
        size = omega (arith, s.size, size_more os i d n h e);
        long = ap length more ∙ length-append all (encode x) ∙ omega (arith, s.long);
        front =
            put_mid-paste at ((at + n) - at) out bytes (encode x) n f (omega arith) (omega arith)
            ∙ ap (λ l. paste l at (encode x) n) s.front
            ∙ ap (λ k. paste (paste was 0 all at) k (encode x) n) none
            ∙ paste-paste was 0 all (encode x) at n (sym s.long) (omega arith) (omega arith)
            ∙ ap (λ l. paste was 0 l (at + n)) (sym more);
      }

  module _ (done : length os ≤ i) where
    whole : encode_all (take i os) ≡ encode_all os
    whole = ap encode_all (take_all i os done)

    pub sofar_size : at ≡ size_all os
    sofar_size = omega (arith, s.size, size_none os i done)

    pub sofar_all : out ≡ encode_all os ++ drop at was
    sofar_all =
        let none : 0 + at ≡ at = omega arith in
        s.front ∙ paste_all was 0 (encode_all (take i os)) at (sym s.long) ∙ ap (λ k. encode_all (take i os) ++ drop k was) none ∙ ap (λ l. l ++ drop at was) whole

    sofar_front : take at out ≡ encode_all os
    sofar_front = ap (take at) sofar_all ∙ take_at (encode_all os) (drop at was) at (ap length (sym whole) ∙ s.long)

    pub sofar_back : all_fit os ≡ true → WhollyRead os (parse (take at out))
    sofar_back fit = let p = ap parse sofar_front ∙ sym (comes_back os fit) in record { orders = ap (λ q. q.orders) p; sound = ap (λ q. q.fault) p }

    pub sofar_number : all_fit os ≡ true → number_from_digits 256 (take at out) ≡ number_of os
    sofar_number fit = ap (number_from_digits 256) sofar_front ∙ number_all os 0 fit
