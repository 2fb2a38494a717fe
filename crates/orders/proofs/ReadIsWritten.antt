-- Bytes that are read as an order are the bytes of that order. Assumes nothing.
use Rattle.std.proofs.Common.{◌≡◌, ℕ, zero, suc, ◌*◌, ◌^◌, ◌<◌, ◌≤◌, List, [], ◌∷◌, ◌++◌, length, drop, Ok, sym, refl, ap, ◌∙◌, subst, arith, length-drop}
use Rattle.std.proofs.lemmas.Bool.Decides.{nat_tests}
use Rattle.std.specs.Int.Digits.{AllBelowBase}
use Rattle.orders.specs.declared.order.Order.{Order}
use Rattle.orders.specs.declared.order.Order.TheVariants.{Set, Lift, Move, PlanFor, PlanWithin}
use Rattle.orders.specs.Bits.{field_at}
use Rattle.orders.specs.Numbers.{appended}
use Rattle.orders.specs.Parts.{bytes_of}
use Rattle.orders.specs.Reading.{signed, kind_in, height_in, place_in, width_of, whole_bytes, padding_in, order_of, fields_read, with_rest, read}
use Rattle.orders.specs.Writing.{encode, fields_of, size_of, twos}
use Rattle.orders.proofs.Appending.{cuts_whole, total}
use Rattle.orders.proofs.Bytes.{fields_from, fields_cut, front_number}
use Rattle.orders.proofs.Fields.{field_small}
use Rattle.orders.proofs.Fitting.{Fit, FitPlace, Short, encode_number}
use Rattle.orders.proofs.Reading.{width_some}

-- what holds where an order of kind k is read
pub record Read (k : ℕ) (bs : List ℕ) (o : Order) (rest : List ℕ) : Type 0 where
  pub few : k < 5
  pub long : width_of k ≤ 8 * length bs
  pub names : o ≡ order_of k bs
  pub pads : padding_in (width_of k) bs ≡ 0
  pub left : rest ≡ drop (whole_bytes (width_of k)) bs

read_parts : (k : ℕ) (bs : List ℕ) (o : Order) (rest : List ℕ) → with_rest (width_of k) bs (fields_read k bs) ≡ Ok (o, rest) → Read k bs o rest
read_parts k bs o rest e = record { few = grind (arith, nat_tests); long = grind (arith, nat_tests); names = grind (arith, nat_tests); pads = grind (arith, nat_tests); left = grind (arith, nat_tests) }

pub read_inv : (bs : List ℕ) (o : Order) (rest : List ℕ) → read bs ≡ Ok (o, rest) → Read (kind_in bs) bs o rest
read_inv [] o rest e = let z : ◌≡◌ {A = ℕ} 0 1 = cc in absurd (omega arith)
read_inv (b ∷ bs) o rest e = read_parts (kind_in (b ∷ bs)) (b ∷ bs) o rest e

-- an order takes at least one byte
pub rest_shorter : (bs : List ℕ) (o : Order) (rest : List ℕ) → read bs ≡ Ok (o, rest) → length rest < length bs
rest_shorter bs o rest e =
    let r = read_inv bs o rest e in
    omega (arith, width_some (kind_in bs), r.long, ap length r.left, length-drop (whole_bytes (width_of (kind_in bs))) bs)

twos-signed : (n : ℕ) → n < 2 ^ 20 → twos (signed n) ≡ n
twos-signed n h = grind (arith, nat_tests)

short_signed : (n : ℕ) → n < 2 ^ 20 → Short (signed n)
short_signed n h = grind (arith, nat_tests)

-- the bytes are those of the order, and then the rest
pub record Same (o : Order) (rest bs : List ℕ) : Type 0 where
  pub bytes : encode o ++ rest ≡ bs
  pub fit : Fit o

-- the fields that fill n bytes are those of an order
same : (n v : ℕ) (rest : List ℕ) (o : Order) (ws : List ℕ) → size_of o ≡ n → total ws ≡ 8 * n → v < 2 ^ (8 * n) → Fit o → fields_of o ≡ fields_from (bytes_of n v ++ rest) 0 ws → Same o rest (bytes_of n v ++ rest)
same n v rest o ws size fill small fit e =
    let number : appended 0 (fields_of o) ≡ v = ap (appended 0) (e ∙ fields_cut n v rest 0 ws (omega arith)) ∙ cuts_whole v ws (subst (λ m. v < 2 ^ m) (sym fill) small) in
    record { bytes = ap (λ l. l ++ rest) (encode_number o fit ∙ ap (λ m. bytes_of m (appended 0 (fields_of o))) size ∙ ap (bytes_of n) number); fit = fit }

-- a set or a move: its fields hold their values, and its height has the bits that were read
record PlaceRead (bs : List ℕ) : Type 0 where
  fit : FitPlace (place_in bs)
  height : twos (height_in bs) ≡ field_at bs 31 20

place_read : (bs : List ℕ) → PlaceRead bs
place_read bs = let low = field_small bs 31 20 in record { fit = (field_small bs 3 8, field_small bs 11 20, short_signed _ low); height = twos-signed _ low }

-- the order of kind k that the bytes of v name
same_of : (k v : ℕ) (rest : List ℕ) → k < 5 → v < 2 ^ (8 * whole_bytes (width_of k)) → kind_in (bytes_of (whole_bytes (width_of k)) v ++ rest) ≡ k → padding_in (width_of k) (bytes_of (whole_bytes (width_of k)) v ++ rest) ≡ 0 → Same (order_of k (bytes_of (whole_bytes (width_of k)) v ++ rest)) rest (bytes_of (whole_bytes (width_of k)) v ++ rest)
same_of zero v rest few small kind pads =
    let p = place_read (bytes_of 7 v ++ rest) in
    same 7 v rest (Set _) (3 ∷ 8 ∷ 20 ∷ 20 ∷ 5 ∷ []) refl refl small p.fit (rw (kind, pads, p.height))
same_of (suc zero) v rest few small kind pads = same 2 v rest (Lift _) (3 ∷ 8 ∷ 5 ∷ []) refl refl small (field_small _ 3 8) (rw (kind, pads))
same_of (suc (suc zero)) v rest few small kind pads =
    let p = place_read (bytes_of 7 v ++ rest) in
    same 7 v rest (Move _) (3 ∷ 8 ∷ 20 ∷ 20 ∷ 5 ∷ []) refl refl small p.fit (rw (kind, pads, p.height))
same_of (suc (suc (suc zero))) v rest few small kind pads = same 2 v rest (PlanFor _) (3 ∷ 6 ∷ 7 ∷ []) refl refl small (field_small _ 3 6) (rw (kind, pads))
same_of (suc (suc (suc (suc zero)))) v rest few small kind pads = same 6 v rest (PlanWithin _) (3 ∷ 43 ∷ 2 ∷ []) refl refl small (field_small _ 3 43) (rw (kind, pads))
same_of (suc (suc (suc (suc (suc k))))) v rest few small kind pads = absurd (omega arith)

pub read_back : (bs : List ℕ) (o : Order) (rest : List ℕ) → AllBelowBase 256 bs → read bs ≡ Ok (o, rest) → Same o rest bs
read_back bs o rest u e =
    let k : ℕ = kind_in bs in
    let n : ℕ = whole_bytes (width_of k) in
    let r = read_inv bs o rest e in
    let enough : n ≤ length bs = omega (arith, r.long) in
    let f = front_number n bs enough u in
    let v : ℕ = f.0 in
    let P : List ℕ → Type 0 = λ l. Same (order_of k l) (drop n bs) l in
    let is : bytes_of n v ++ drop n bs ≡ bs = f.2 in
    let all : P bs = subst P is (same_of k v (drop n bs) r.few f.1 (ap kind_in is) (ap (padding_in (width_of k)) is ∙ r.pads)) in
    rw (r.names, r.left) all
