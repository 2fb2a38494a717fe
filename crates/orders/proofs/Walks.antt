-- Going over the orders of a stream. Assumes nothing.
use Rattle.std.proofs.Common.{◌≡◌, ℕ, ◌+◌, ◌*◌, ◌≤◌, true, false, List, [], ◌∷◌, length, Some, None, Ok, Err, Option, Result, sym, refl, ap, ◌∙◌, arith}
use Rattle.std.specs.Prelude.{IfOk, is_some}
use Rattle.std.proofs.lemmas.Bool.{false≢true}
use Rattle.orders.specs.declared.fault.OrderFault.{OrderFault}
use Rattle.orders.specs.declared.iter.Orders.{Orders}
use Rattle.orders.specs.declared.order.Order.{Order}
use Rattle.orders.specs.Iter.{GivesNext, count_or, count_to}
use Rattle.orders.specs.Reading.{read}
use Rattle.orders.specs.Streams.{parse, counted, count_answer}
use Rattle.orders.specs.Writing.{size_all}
use Rattle.orders.proofs.Streams.{Ended, Reached, parse_more, reached_all, reached_fault, reached_few, reached_more, read_size}

-- the orders that are left of a stream, of which some came
pub record Walked (bs : List ℕ) (s : Orders) : Type 0 where
  pub at : Reached bs s.rest.now s.index
  pub byte : s.byte + length s.rest.now ≡ length bs

module _ {bs : List ℕ} {s t : Orders} (w : Walked bs s) where
  walked_more : (x : ℕ × Order) → GivesNext s (Some x) t → Walked bs t
  walked_more x h =
      let size = read_size _ _ _ h.order in
      record { at = rw h.index (reached_more w.at _ _ h.order); byte = omega (arith, w.byte, h.byte) }

  -- one more order came
  pub walked_on : (r : Option (ℕ × Order)) → true ≡ is_some r → GivesNext s r t → Walked bs t
  walked_on None some h = absurd (false≢true (sym some))
  walked_on (Some x) some h = walked_more x h

-- what is counted where no order came, of how many bytes
pub record Told (bs : List ℕ) (s : Orders) : Type 0 where
  pub came : s.index ≡ length (parse bs).orders
  pub few_came : 2 * s.index ≤ length bs
  pub size : s.byte ≡ size_all (parse bs).orders
  pub count : count_to s.index s.byte s.rest.now ≡ count_answer bs
  pub few : IfOk (count_answer bs) (λ n. 2 * n ≤ length bs)

module _ {bs : List ℕ} {s : Orders} (w : Walked bs s) where
  told_by : (f : Option OrderFault) → Ended bs s.rest.now s.index f → counted f (parse bs).orders ≡ count_answer bs
  told_by f e = ap (λ (g : Option OrderFault). counted g (parse bs).orders) (sym e.fault)

  told_all : s.rest.now ≡ [] → Told bs s
  told_all none =
      let e = reached_all w.at (ap length none) in
      let is : count_answer bs ≡ Ok s.index = sym (told_by None e) ∙ ap Ok (sym e.count) in
      record {
        came = e.count;
        few_came = omega (arith, reached_few w.at);
        size = omega (arith, e.bytes, w.byte, ap length none);
        count = ap (count_to s.index s.byte) none ∙ sym is;
        few = rw is (omega (arith, reached_few w.at));
      }

  told_fault : (x : ℕ) (xs : List ℕ) (e : OrderFault) → s.rest.now ≡ x ∷ xs → Err e ≡ read (x ∷ xs) → Told bs s
  told_fault x xs e some h =
      let end = reached_fault w.at e (omega (arith, ap length some)) (h ∙ ap read (sym some)) in
      let at : length (parse bs).orders ≡ s.index = sym end.count in
      let byte : size_all (parse bs).orders ≡ s.byte = omega (arith, end.bytes, w.byte) in
      let is : count_answer bs ≡ Err record { index = s.index; byte = s.byte; cause = e } = rw (at, byte) at (sym (told_by (Some e) end)) in
      record {
        came = end.count;
        few_came = omega (arith, reached_few w.at);
        size = sym byte;
        count = ap (count_to s.index s.byte) some ∙ ap (count_or s.index s.byte) (sym h) ∙ sym is;
        few = rw is tt;
      }

  told_read : (x : ℕ) (xs : List ℕ) (r : Result (Order × List ℕ) OrderFault) → s.rest.now ≡ x ∷ xs → r ≡ read (x ∷ xs) → (parse (x ∷ xs)).orders ≡ [] → Told bs s
  told_read x xs (Ok p) some h none = let z = ap (λ q. q.orders) (parse_more (x ∷ xs) p.0 p.1 h) in cc
  told_read x xs (Err e) some h none = told_fault x xs e some h

  told_at : (rest : List ℕ) → s.rest.now ≡ rest → (parse rest).orders ≡ [] → Told bs s
  told_at [] is none = told_all is
  told_at (x ∷ xs) is none = told_read x xs (read (x ∷ xs)) is refl none

pub walked_off : {bs : List ℕ} {s t : Orders} (w : Walked bs s) (r : Option (ℕ × Order)) → false ≡ is_some r → GivesNext s r t → Told bs t
walked_off {s = s} w None none h = rw h.stays (told_at w s.rest.now refl h.none)
walked_off w (Some x) none h = absurd (false≢true none)
