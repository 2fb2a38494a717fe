-- An order that is written is read again. Assumes nothing.
use Rattle.std.proofs.Common.{◌≡◌, ℕ, ◌+◌, ◌-◌, ◌*◌, ◌^◌, ◌<◌, List, ◌++◌, length, get_or, drop, ℤ, pos, negsuc, Ok, sym, refl, ap, ◌∙◌, arith}
use Rattle.std.proofs.lemmas.Bool.{cond-true, cond-false, le-ltb, lt-ltb, eq-eqb}
use Rattle.std.proofs.lemmas.List.{drop_at, length-append}
use Rattle.orders.specs.declared.order.Order.{Order}
use Rattle.orders.specs.declared.order.Order.TheVariants.{Set, Lift, Move, PlanFor, PlanWithin}
use Rattle.orders.specs.declared.order.Place.{Place}
use Rattle.orders.specs.Bits.{field_at}
use Rattle.orders.specs.Numbers.{appended}
use Rattle.orders.specs.Reading.{signed, kind_in, gate_in, distance_in, place_in, width_of, whole_bytes, padding_in, order_of, fields_read, read}
use Rattle.orders.specs.Writing.{encode, fields_of, size_of, twos}
use Rattle.orders.proofs.Appending.{cuts-appended, widths}
use Rattle.orders.proofs.Bytes.{fields_from, fields_cut}
use Rattle.orders.proofs.Fitting.{Fit, Short, encode_number, fills, length-encode, narrow, size_bounds}
use Rattle.orders.proofs.Reading.{whole_order}

signed-twos : (z : ℤ) → Short z → signed (twos z) ≡ z
signed-twos (pos n) h = cond-true _ _ _ (lt-ltb n (2 ^ 19) h)
signed-twos (negsuc n) h = cond-false _ _ _ (le-ltb (2 ^ 20 - 1 - n) (2 ^ 19) (omega arith)) ∙ ap negsuc (omega arith)

-- the value of field i
value : {fs gs : List (ℕ × ℕ)} (i : ℕ) → fs ≡ gs → (get_or {A = ℕ × ℕ} fs i (0, 0)).1 ≡ (get_or {A = ℕ × ℕ} gs i (0, 0)).1
value i e = ap (λ (l : List (ℕ × ℕ)). (get_or l i (0, 0)).1) e

module _ (o : Order) (rest : List ℕ) (fit : Fit o) where
  -- the fields of the bytes are those of the order
  fields : fields_from (encode o ++ rest) 0 (widths (fields_of o)) ≡ fields_of o
  fields =
      ap (λ l. fields_from (l ++ rest) 0 (widths (fields_of o))) (encode_number o fit)
      ∙ fields_cut (size_of o) (appended 0 (fields_of o)) rest 0 (widths (fields_of o)) (omega (arith, fills o))
      ∙ cuts-appended (fields_of o) 0 (narrow o fit)

  -- so they are read as the order
  known : (k : ℕ) → k < 5 → size_of o ≡ whole_bytes (width_of k) → kind_in (encode o ++ rest) ≡ k → order_of k (encode o ++ rest) ≡ o → padding_in (width_of k) (encode o ++ rest) ≡ 0 → read (encode o ++ rest) ≡ Ok (o, rest)
  known k few size kind names zeros =
      let bs : List ℕ = encode o ++ rest in
      let long : length bs ≡ size_of o + length rest = length-append (encode o) rest ∙ ap (λ m. m + length rest) (length-encode o) in
      let some = size_bounds o in
      let fields : Ok o ≡ fields_read k bs = sym (cond-false _ _ _ (le-ltb 4 k (omega arith)) ∙ cond-false _ _ _ (le-ltb (8 * length bs) (width_of k) (omega arith)) ∙ ap Ok names) in
      let told : read bs ≡ Ok (o, drop (whole_bytes (width_of k)) bs) = sym (whole_order bs k (omega arith) (sym kind) o (width_of k) fields refl (sym (cond-true _ _ _ (eq-eqb _ 0 zeros)))) in
      let left : drop (whole_bytes (width_of k)) bs ≡ rest = ap (λ m. drop m bs) (sym size) ∙ drop_at (encode o) rest (size_of o) (length-encode o) in
      told ∙ ap (λ r. Ok (o, r)) left

-- the fields of a set or a move
same_place : (make : Place → Order) (bs : List ℕ) (p : Place) → Short p.height → gate_in bs ≡ p.gate → distance_in bs ≡ p.distance → field_at bs 31 20 ≡ twos p.height → make (place_in bs) ≡ make p
same_place make bs p short gate distance height = rw (gate, distance, height, signed-twos p.height short)

pub read-encode : (o : Order) (rest : List ℕ) → Fit o → read (encode o ++ rest) ≡ Ok (o, rest)
read-encode (Set p) rest fit =
    let e = fields (Set p) rest fit in
    known (Set p) rest fit 0 (omega arith) refl (value 0 e) (same_place Set _ p fit.2 (value 1 e) (value 2 e) (value 3 e)) (value 4 e)
read-encode (Lift g) rest fit =
    let e = fields (Lift g) rest fit in
    known (Lift g) rest fit 1 (omega arith) refl (value 0 e) (ap Lift (value 1 e)) (value 2 e)
read-encode (Move p) rest fit =
    let e = fields (Move p) rest fit in
    known (Move p) rest fit 2 (omega arith) refl (value 0 e) (same_place Move _ p fit.2 (value 1 e) (value 2 e) (value 3 e)) (value 4 e)
read-encode (PlanFor k) rest fit =
    let e = fields (PlanFor k) rest fit in
    known (PlanFor k) rest fit 3 (omega arith) refl (value 0 e) (ap PlanFor (value 1 e)) (value 2 e)
read-encode (PlanWithin l) rest fit =
    let e = fields (PlanWithin l) rest fit in
    known (PlanWithin l) rest fit 4 (omega arith) refl (value 0 e) (ap PlanWithin (value 1 e)) (value 2 e)
