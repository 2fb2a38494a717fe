-- What `read` answers at each return of the reader of one order. Assumes nothing.
use Rattle.std.proofs.Common.{◌≡◌, ℕ, ◌+◌, ◌-◌, ◌*◌, ◌/◌, ◌%◌, ◌<◌, ◌≤◌, List, [], ◌∷◌, length, get_or, take, drop, Ok, Err, sym, ap, ◌∙◌, arith}
use Rattle.std.proofs.lemmas.Nat.{shr-shr}
use Rattle.std.proofs.lemmas.List.{take_rest, drop-drop}
use Rattle.std.proofs.lemmas.Bool.Decides.{nat_tests}
use Rattle.orders.specs.declared.fault.OrderFault.{OrderFault}
use Rattle.orders.specs.declared.fault.OrderFault.TheVariants.{Kind}
use Rattle.orders.specs.declared.order.Order.{Order}
use Rattle.orders.specs.Bits.{bit_at, field_at}
use Rattle.orders.specs.Parts.{padding_read}
use Rattle.orders.specs.Reading.{kind_in, width_of, fields_read, whole_bytes, with_rest, read}

eighth : (q : ℕ) → q < 8 → q ≡ (q / 2 / 2 % 2 * 2 + q / 2 % 2) * 2 + q % 2
eighth q h = omega arith

-- the kind is the top three bits of the first byte
top_bits : (x : ℕ) → x < 256 → x / 32 ≡ (x / 128 % 2 * 2 + x / 64 % 2) * 2 + x / 32 % 2
top_bits x h =
    let two : x / 64 ≡ x / 32 / 2 = sym (shr-shr x 5 1) in
    let one : x / 128 ≡ x / 32 / 2 / 2 = sym (shr-shr x 6 1) ∙ ap (λ n. n / 2) two in
    let q : ℕ = x / 32 in
    let small : q < 8 = omega arith in
    rw (one, two) (eighth q small)

pub kind_top : (bs : List ℕ) → get_or bs 0 0 < 256 → get_or bs 0 0 / 32 ≡ kind_in bs
unfolding bit_at field_at
kind_top bs h = omega (arith, top_bits (get_or bs 0 0) h)

read_is : (bs : List ℕ) (k : ℕ) → 0 < length bs → k ≡ kind_in bs → read bs ≡ with_rest (width_of k) bs (fields_read k bs)
read_is [] k some kind = absurd (omega arith)
read_is (b ∷ bs) k some kind = rw kind

pub width_some : (k : ℕ) → 9 ≤ width_of k
width_some k = grind (arith, nat_tests)

-- a number that no kind has
pub no_kind : (bs : List ℕ) (x : ℕ) (e : OrderFault) → 0 < length bs → x ≡ kind_in bs → (e ≡ Kind x) × (4 < x) → Err e ≡ read bs
no_kind bs x e some kind h = let wrong = h.0 in let above = h.1 in rw (read_is bs x some kind, wrong) (grind (arith, nat_tests))

-- the three ways on from the kind
module _ (bs : List ℕ) (k : ℕ) (some : 0 < length bs) (kind : k ≡ kind_in bs) where
  pub no_fields : (e : OrderFault) → Err e ≡ fields_read k bs → Err e ≡ read bs
  no_fields e f = sym (read_is bs k some kind ∙ ap (with_rest (width_of k) bs) (sym f))

  module _ (o : Order) (w : ℕ) (fields : Ok o ≡ fields_read k bs) (wide : w ≡ width_of k) where
    go_on : read bs ≡ with_rest w bs (Ok o)
    go_on = read_is bs k some kind ∙ ap (with_rest (width_of k) bs) (sym fields) ∙ ap (λ v. with_rest v bs (Ok o)) (sym wide)

    pub no_padding : (e : OrderFault) → Err e ≡ padding_read w bs → Err e ≡ read bs
    no_padding e f = rw go_on (grind (arith, nat_tests, f))

    pub whole_order : Ok tt ≡ padding_read w bs → Ok (o, drop (whole_bytes w) bs) ≡ read bs
    whole_order f = rw go_on (grind (arith, nat_tests, f))

-- the rest of the stream, cut from what follows the first byte
pub cut_rest : (bs : List ℕ) (n m : ℕ) → 0 < n → n ≡ m → take (length (take (length bs - 1) (drop 1 bs)) - (n - 1)) (drop (n - 1) (take (length bs - 1) (drop 1 bs))) ≡ drop m bs
cut_rest bs n m some e =
    let back : 1 + (n - 1) ≡ m = omega arith in
    rw (take_rest bs 1, take_rest (drop 1 bs) (n - 1), drop-drop (n - 1) 1 bs, back)
