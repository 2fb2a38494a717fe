-- Whole streams: one order after another. Assumes nothing.
use Rattle.std.proofs.Common.{◌≡◌, ℕ, zero, suc, ◌+◌, ◌-◌, ◌*◌, ◌<◌, ◌≤◌, true, List, [], ◌∷◌, ◌++◌, length, get_or, take, drop, set, Some, None, Ok, Err, Option, Result, sym, refl, ap, ◌∙◌, subst, arith}
use Rattle.std.proofs.ByRecursion.{All-drop}
use Rattle.std.proofs.lemmas.List.{append_assoc, append-nil, drop_more, length-drop, length-take-le, nil_from_length, set_at, take_more, take_all}
use Rattle.std.proofs.lemmas.Bool.{and_parts, and_from}
use Rattle.std.specs.Int.Digits.{AllBelowBase}
use Rattle.orders.specs.declared.fault.OrderFault.{OrderFault}
use Rattle.orders.specs.declared.order.Order.{Order}
use Rattle.orders.specs.Reading.{kind_in, width_of, whole_bytes, order_of, read}
use Rattle.orders.specs.Writing.{encode, encode_all, all_fit, fits, size_of, size_all}
use Rattle.orders.specs.Streams.{Parsed, with_first, and_then, parse_in, parse, counted, count_answer, Fronts, EndsBy, OneReading, Splits}
use Rattle.orders.proofs.ReadIsWritten.{read_inv, rest_shorter, read_back}
use Rattle.orders.proofs.Fitting.{fit_from, fits_from, size_bounds}
use Rattle.orders.proofs.WrittenIsRead.{read-encode}

-- a stream's own equations
parse_none : parse [] ≡ record { orders = []; fault = None }
unfolding parse_in
parse_none = refl

then_same : (r : Result (Order × List ℕ) OrderFault) (p q : List ℕ → Parsed) → ((o : Order) (rest : List ℕ) → r ≡ Ok (o, rest) → p rest ≡ q rest) → and_then r p ≡ and_then r q
then_same (Ok x) p q h = ap (with_first x.0) (h x.0 x.1 refl)
then_same (Err e) p q h = refl

parse_turns : (m n : ℕ) (bs : List ℕ) → length bs ≤ m → length bs ≤ n → parse_in m bs ≡ parse_in n bs
unfolding parse_in
parse_turns m n [] h k = refl
parse_turns zero n (b ∷ bs) h k = absurd (omega arith)
parse_turns (suc m) zero (b ∷ bs) h k = absurd (omega arith)
parse_turns (suc m) (suc n) (b ∷ bs) h k =
    then_same (read (b ∷ bs)) (parse_in m) (parse_in n) (λ o rest e. let s = rest_shorter (b ∷ bs) o rest e in parse_turns m n rest (omega arith) (omega arith))

parse_step : (bs : List ℕ) → 0 < length bs → parse bs ≡ and_then (read bs) parse
unfolding parse_in
parse_step [] h = absurd (omega arith)
parse_step (b ∷ bs) h = then_same (read (b ∷ bs)) (parse_in (length bs)) parse (λ o rest e. let s = rest_shorter (b ∷ bs) o rest e in parse_turns (length bs) (length rest) rest (omega arith) (omega arith))

-- what the front of a stream says of the whole
read_some : (bs : List ℕ) (o : Order) (rest : List ℕ) → Ok (o, rest) ≡ read bs → 0 < length bs
read_some bs o rest e = let s = rest_shorter bs o rest (sym e) in omega arith

pub parse_more : (bs : List ℕ) (o : Order) (rest : List ℕ) → Ok (o, rest) ≡ read bs → parse bs ≡ with_first o (parse rest)
parse_more bs o rest e = parse_step bs (read_some bs o rest e) ∙ ap (λ r. and_then r parse) (sym e)

parse_fault : (bs : List ℕ) (e : OrderFault) → 0 < length bs → Err e ≡ read bs → parse bs ≡ record { orders = []; fault = Some e }
parse_fault bs e some h = parse_step bs some ∙ ap (λ r. and_then r parse) (sym h)

-- where no order can be read, the stream has none
pub parse_stops : (bs : List ℕ) (e : OrderFault) → Err e ≡ read bs → (parse bs).orders ≡ []
parse_stops [] e h = ap (λ p. p.orders) parse_none
parse_stops (b ∷ bs) e h = ap (λ p. p.orders) (parse_fault (b ∷ bs) e (omega arith) h)

-- orders that fit their fields come back, before what the rest says
parse_front : (os : List Order) (rest : List ℕ) → all_fit os ≡ true → parse (encode_all os ++ rest) ≡ record { orders = os ++ (parse rest).orders; fault = (parse rest).fault }
parse_front [] rest h = refl
parse_front (o ∷ os) rest h =
    let both = and_parts (fits o) (all_fit os) h in
    let next : List ℕ = encode_all os ++ rest in
    ap parse (append_assoc (encode o) (encode_all os) rest)
    ∙ parse_more (encode o ++ next) o next (sym (read-encode o next (fit_from o both.0)))
    ∙ ap (with_first o) (parse_front os rest both.1)

ends_parse : (f : Option OrderFault) (rest : List ℕ) → EndsBy f rest → parse rest ≡ record { orders = []; fault = f }
ends_parse None rest e = ap parse e ∙ parse_none
ends_parse (Some x) rest e = parse_fault rest x e.0 (sym e.1)

-- so a stream has no other reading
pub splits_only : (bs : List ℕ) (p : Parsed) → Splits bs p → p ≡ parse bs
splits_only bs p s =
    let end = ends_parse p.fault s.rest s.ends in
    let all : parse bs ≡ record { orders = p.orders ++ []; fault = p.fault } =
    ap parse (sym s.front.bytes)
    ∙ parse_front p.orders s.rest s.front.fit
    ∙ ap (λ (q : Parsed). record { orders = p.orders ++ q.orders; fault = q.fault }) end
    in
    sym (all ∙ ap (λ os. record { orders = os; fault = p.fault }) (append-nil p.orders))

pub comes_back : (os : List Order) → all_fit os ≡ true → record { orders = os; fault = None } ≡ parse (encode_all os)
comes_back os h = splits_only (encode_all os) record { orders = os; fault = None } record { rest = []; front = record { fit = h; bytes = append-nil (encode_all os) }; ends = refl }

-- one order at the front of the bytes that it was read from
pub read_front : (bs : List ℕ) (o : Order) (rest : List ℕ) → AllBelowBase 256 bs → read bs ≡ Ok (o, rest) → Fronts (o ∷ []) rest bs
read_front bs o rest u e =
    let s = read_back bs o rest u e in
    record { fit = and_from _ _ (fits_from o s.fit) refl; bytes = ap (λ l. l ++ rest) (append-nil (encode o)) ∙ s.bytes }

-- the bytes of a stream are those of its orders, and then what ends it
splits_by : (bs : List ℕ) (r : Result (Order × List ℕ) OrderFault) → r ≡ read bs → 0 < length bs → AllBelowBase 256 bs → ((rest : List ℕ) → length rest < length bs → AllBelowBase 256 rest → Splits rest (parse rest)) → Splits bs (parse bs)
splits_by bs (Ok p) e some u tail =
    let s = read_back bs p.0 p.1 u (sym e) in
    let r = read_inv bs p.0 p.1 (sym e) in
    let t = tail p.1 (rest_shorter bs p.0 p.1 (sym e)) (subst (AllBelowBase 256) (sym r.left) (All-drop (λ d. d < 256) _ bs u)) in
    subst (Splits bs) (sym (parse_more bs p.0 p.1 e)) record {
      rest = t.rest;
      front = record {
        fit = and_from _ _ (fits_from p.0 s.fit) t.front.fit;
        bytes = append_assoc (encode p.0) (encode_all (parse p.1).orders) t.rest ∙ ap (λ l. encode p.0 ++ l) t.front.bytes ∙ s.bytes;
      };
      ends = t.ends;
    }
splits_by bs (Err x) e some u tail = subst (Splits bs) (sym (parse_fault bs x some e)) record { rest = bs; front = record { fit = refl; bytes = refl }; ends = (some, sym e) }

splits_in : (n : ℕ) (bs : List ℕ) → length bs ≤ n → AllBelowBase 256 bs → Splits bs (parse bs)
splits_in n [] h u = subst (Splits []) (sym parse_none) record { rest = []; front = record { fit = refl; bytes = refl }; ends = refl }
splits_in zero (b ∷ bs) h u = absurd (omega arith)
splits_in (suc n) (b ∷ bs) h u = splits_by (b ∷ bs) (read (b ∷ bs)) refl (omega arith) u (λ rest less v. splits_in n rest (omega arith) v)

pub splits : (bs : List ℕ) → AllBelowBase 256 bs → Splits bs (parse bs)
splits bs u = splits_in (length bs) bs (omega arith) u

pub one_reading : (bs : List ℕ) → AllBelowBase 256 bs → OneReading bs
one_reading bs u = record { splits = splits bs u; only = splits_only bs }

-- a stream without a fault is what the writer makes of its orders
pub whole_form : (bs : List ℕ) → AllBelowBase 256 bs → (parse bs).fault ≡ None → Fronts (parse bs).orders [] bs
whole_form bs u none =
    let s = splits bs u in
    let all : s.rest ≡ [] = subst (λ f. EndsBy f s.rest) none s.ends in
    subst (λ l. Fronts (parse bs).orders l bs) all s.front

size_of_lem : (k : ℕ) (bs : List ℕ) → k < 5 → size_of (order_of k bs) ≡ whole_bytes (width_of k)
size_of_lem zero bs few = refl
size_of_lem (suc zero) bs few = refl
size_of_lem (suc (suc zero)) bs few = refl
size_of_lem (suc (suc (suc zero))) bs few = refl
size_of_lem (suc (suc (suc (suc zero)))) bs few = refl
size_of_lem (suc (suc (suc (suc (suc k))))) bs few = absurd (omega arith)

-- an order takes the bytes that it was read from
pub read_size : (bs : List ℕ) (o : Order) (rest : List ℕ) → Ok (o, rest) ≡ read bs → size_of o + length rest ≡ length bs
read_size bs o rest e =
    let r = read_inv bs o rest (sym e) in
    let size = ap size_of r.names ∙ size_of_lem (kind_in bs) bs r.few in
    omega (arith, size, r.long, ap length r.left, length-drop (whole_bytes (width_of (kind_in bs))) bs)

-- i orders of a stream are read, and what is left
pub record Reached (bs rest : List ℕ) (i : ℕ) : Type 0 where
  pub left : drop i (parse bs).orders ≡ (parse rest).orders
  pub fault : (parse rest).fault ≡ (parse bs).fault
  pub bytes : size_all (take i (parse bs).orders) + length rest ≡ length bs
  pub within : i ≤ length (parse bs).orders

size_push : (os : List Order) (o : Order) → size_all (os ++ o ∷ []) ≡ size_all os + size_of o
size_push [] o = omega arith
size_push (p ∷ os) o = omega (arith, size_push os o)

-- i orders of a stream are all of them
pub record Ended (bs rest : List ℕ) (i : ℕ) (f : Option OrderFault) : Type 0 where
  pub fault : (parse bs).fault ≡ f
  pub orders : take i (parse bs).orders ≡ (parse bs).orders
  pub count : i ≡ length (parse bs).orders
  pub bytes : length bs - length rest ≡ size_all (parse bs).orders

order_bytes : (os : List Order) → 2 * length os ≤ size_all os
order_bytes [] = omega arith
order_bytes (o ∷ os) = omega (arith, order_bytes os, (size_bounds o).0)

-- what is known of the next order
pub record Next (os : List Order) (i : ℕ) (o : Order) : Type 0 where
  pub more : i < length os
  pub front : take (i + 1) os ≡ take i os ++ o ∷ []

module _ {bs rest : List ℕ} {i : ℕ} (r : Reached bs rest i) where
  module _ (o : Order) (after : List ℕ) (e : Ok (o, after) ≡ read rest) where
    here : drop i (parse bs).orders ≡ o ∷ (parse after).orders
    here = r.left ∙ ap (λ p. p.orders) (parse_more rest o after e)

    more : i < length (parse bs).orders
    more = omega (arith, ap length here, length-drop i (parse bs).orders)

    is : get_or (parse bs).orders i o ≡ o
    is = let d = sym (drop_more (parse bs).orders i o more) ∙ here in cc

    pub next_order : Next (parse bs).orders i o
    next_order = record { more = more; front = take_more (parse bs).orders i o more ∙ ap (λ x. take i (parse bs).orders ++ x ∷ []) is }

    pub reached_more : Reached bs after (i + 1)
    reached_more = record {
      left = (let d = sym (drop_more (parse bs).orders i o more) ∙ here in cc);
      fault = sym (ap (λ p. p.fault) (parse_more rest o after e)) ∙ r.fault;
      bytes = omega (arith, r.bytes, read_size rest o after e, ap size_all next_order.front, size_push (take i (parse bs).orders) o);
      within = omega (arith, more);
    }

  -- an order took two bytes at least
  pub reached_few : 2 * i + length rest ≤ length bs
  reached_few = omega (arith, r.bytes, r.within, order_bytes (take i (parse bs).orders), length-take-le i (parse bs).orders r.within)

  ended : (f : Option OrderFault) → parse rest ≡ record { orders = []; fault = f } → Ended bs rest i f
  ended f p =
      let none : drop i (parse bs).orders ≡ [] = r.left ∙ ap (λ q. q.orders) p in
      let all : length (parse bs).orders ≤ i = omega (arith, ap length none, length-drop i (parse bs).orders) in
      let same = take_all i (parse bs).orders all in
      record {
        fault = sym r.fault ∙ ap (λ q. q.fault) p;
        orders = same;
        count = omega (arith, r.within);
        bytes = omega (arith, r.bytes, ap size_all same);
      }

  pub reached_fault : (e : OrderFault) → 0 < length rest → Err e ≡ read rest → Ended bs rest i (Some e)
  reached_fault e some h = ended (Some e) (parse_fault rest e some h)

  pub reached_all : length rest ≡ 0 → Ended bs rest i None
  reached_all none = ended None (ap parse (nil_from_length rest none) ∙ parse_none)

  -- where the stream has no fault, no order is left at the end of the bytes alone
  pub reached_end : (parse bs).fault ≡ None → (parse rest).orders ≡ [] → Ended bs rest i None
  reached_end sound none = ended None (ap (λ os. record { orders = os; fault = (parse rest).fault }) none ∙ ap (λ f. record { orders = []; fault = f }) (r.fault ∙ sound))

-- the orders read so far, at the front of what was there
pub filled_more : (os was out : List Order) (i : ℕ) (o : Order) → Next os i o → i < length was → out ≡ take i os ++ drop i was → set out i o ≡ take (i + 1) os ++ drop (i + 1) was
filled_more os was out i o next room e =
    let long : length (take i os) ≡ i = length-take-le i os (omega (arith, next.more)) in
    ap (λ l. set l i o) (e ∙ ap (λ l. take i os ++ l) (drop_more was i o room))
    ∙ set_at (take i os) (get_or was i o) (drop (i + 1) was) o i long
    ∙ sym (append_assoc (take i os) (o ∷ []) (drop (i + 1) was))
    ∙ ap (λ l. l ++ drop (i + 1) was) (sym next.front)

-- what a count without a fault says
counted_inv : (f : Option OrderFault) (os : List Order) (n : ℕ) → Ok n ≡ counted f os → (f ≡ None) × (n ≡ length os)
counted_inv None os n e = (refl, cc)
counted_inv (Some x) os n e = let z : ◌≡◌ {A = ℕ} 0 1 = cc in absurd (omega arith)

pub counted_sound : (bs : List ℕ) (n : ℕ) → Ok n ≡ count_answer bs → ((parse bs).fault ≡ None) × (n ≡ length (parse bs).orders)
counted_sound bs n e = counted_inv (parse bs).fault (parse bs).orders n e
