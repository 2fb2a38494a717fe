-- Orders whose fields hold their values. Assumes nothing.
use Rattle.std.proofs.Common.{◌≡◌, ℕ, ◌*◌, ◌^◌, ◌<◌, ◌≤◌, true, ◌&&◌, ltb, List, [], ◌∷◌, length, take, drop, ◌-◌, ℤ, pos, negsuc, sym, refl, ap, ◌∙◌, arith}
use Rattle.std.proofs.lemmas.Int.Digits.{number_after_append}
use Rattle.std.proofs.lemmas.List.{length-append}
use Rattle.std.proofs.lemmas.Bool.{and_from, and_parts, lt-ltb, ltb-true}
use Rattle.std.proofs.lemmas.Bool.Decides.{nat_tests}
use Rattle.std.specs.Int.Digits.{number_from_digits_after}
use Rattle.std.specs.Int.{to_be_bytes, w64}
use Rattle.std.specs.List.{flat_map}
use Rattle.orders.specs.declared.order.Order.{Order}
use Rattle.orders.specs.declared.order.Order.TheVariants.{Set, Lift, Move, PlanFor, PlanWithin}
use Rattle.orders.specs.declared.order.Place.{Place}
use Rattle.orders.specs.Writing.{all_fit, encode, encode_all, fields_of, fits, in_twos, place_fields, place_fits, size_all, size_of, twos}
use Rattle.orders.specs.Numbers.{appended}
use Rattle.orders.specs.Parts.{bytes_of}
use Rattle.orders.proofs.Appending.{Narrow, appended-append, total, widths}
use Rattle.orders.proofs.Bytes.{low_bytes}
use Rattle.orders.proofs.Packing.{length-bytes_in, packed_after, packed_number}

-- 20 bits hold the integer
abbrev pub Short : ℤ → Type 0
Short (pos n) = n < 2 ^ 19
Short (negsuc n) = n < 2 ^ 19

-- each field holds its value
abbrev pub FitPlace : Place → Type 0
FitPlace p = (p.gate < 2 ^ 8) × (p.distance < 2 ^ 20) × Short p.height

abbrev pub Fit : Order → Type 0
Fit (Set p) = FitPlace p
Fit (Lift g) = g < 2 ^ 8
Fit (Move p) = FitPlace p
Fit (PlanFor k) = k < 2 ^ 6
Fit (PlanWithin l) = l < 2 ^ 43

short_from : (z : ℤ) → in_twos z ≡ true → Short z
short_from (pos n) e = grind (arith, nat_tests)
short_from (negsuc n) e = grind (arith, nat_tests)

in_twos_lem : (z : ℤ) → Short z → in_twos z ≡ true
in_twos_lem (pos n) h = grind (arith, nat_tests)
in_twos_lem (negsuc n) h = grind (arith, nat_tests)

-- the fields of a set or a move
place_from : (p : Place) → place_fits p ≡ true → FitPlace p
place_from p e =
    let short = and_parts (ltb p.gate (2 ^ 8) && ltb p.distance (2 ^ 20)) (in_twos p.height) e in
    let near = and_parts (ltb p.gate (2 ^ 8)) (ltb p.distance (2 ^ 20)) short.0 in
    (ltb-true _ _ near.0, ltb-true _ _ near.1, short_from p.height short.1)

place_back : (p : Place) → FitPlace p → place_fits p ≡ true
place_back p fit = and_from _ _ (and_from _ _ (lt-ltb _ _ fit.0) (lt-ltb _ _ fit.1)) (in_twos_lem p.height fit.2)

pub fit_from : (o : Order) → fits o ≡ true → Fit o
fit_from (Set p) e = place_from p e
fit_from (Lift g) e = ltb-true _ _ e
fit_from (Move p) e = place_from p e
fit_from (PlanFor k) e = ltb-true _ _ e
fit_from (PlanWithin l) e = ltb-true _ _ e

pub fits_from : (o : Order) → Fit o → fits o ≡ true
fits_from (Set p) fit = place_back p fit
fits_from (Lift g) fit = lt-ltb _ _ fit
fits_from (Move p) fit = place_back p fit
fits_from (PlanFor k) fit = lt-ltb _ _ fit
fits_from (PlanWithin l) fit = lt-ltb _ _ fit

twos_small : (z : ℤ) → Short z → twos z < 2 ^ 20
twos_small (pos n) h = omega arith
twos_small (negsuc n) h = omega arith

narrow_place : (k : ℕ) (p : Place) → k < 8 → FitPlace p → Narrow (place_fields k p)
narrow_place k p small fit = (omega arith, (fit.0, (fit.1, (twos_small p.height fit.2, (omega arith, tt)))))

pub narrow : (o : Order) → Fit o → Narrow (fields_of o)
narrow (Set p) fit = narrow_place 0 p (omega arith) fit
narrow (Lift g) fit = (omega arith, (fit, (omega arith, tt)))
narrow (Move p) fit = narrow_place 2 p (omega arith) fit
narrow (PlanFor k) fit = (omega arith, (fit, (omega arith, tt)))
narrow (PlanWithin l) fit = (omega arith, (fit, (omega arith, tt)))

-- the fields fill whole bytes
pub fills : (o : Order) → total (widths (fields_of o)) ≡ 8 * size_of o
fills (Set p) = refl
fills (Lift g) = refl
fills (Move p) = refl
fills (PlanFor k) = refl
fills (PlanWithin l) = refl

-- an order takes at least two bytes, and no more than a u64 has
pub size_bounds : (o : Order) → (2 ≤ size_of o) × (size_of o ≤ 8)
size_bounds (Set p) = (omega arith, omega arith)
size_bounds (Lift g) = (omega arith, omega arith)
size_bounds (Move p) = (omega arith, omega arith)
size_bounds (PlanFor k) = (omega arith, omega arith)
size_bounds (PlanWithin l) = (omega arith, omega arith)

pub length-encode : (o : Order) → length (encode o) ≡ size_of o
unfolding encode
length-encode o = length-bytes_in (size_of o) _

pub length-encode_all : (os : List Order) → length (encode_all os) ≡ size_all os
length-encode_all [] = refl
length-encode_all (o ∷ os) = length-append (encode o) (encode_all os) ∙ omega (arith, length-encode o, length-encode_all os)

-- an order's bytes are those of one number
pub encode_number : (o : Order) → Fit o → encode o ≡ bytes_of (size_of o) (appended 0 (fields_of o))
unfolding encode
encode_number o fit = packed_number (size_of o) (fields_of o) (fills o) (narrow o fit)

-- the bytes of an order, cut from the eight of its number
pub encode_low : (o : Order) (n v : ℕ) (bytes : List ℕ) → Fit o → n ≡ size_of o → v ≡ appended 0 (fields_of o) → bytes ≡ to_be_bytes w64 v → take (8 - (8 - n)) (drop (8 - n) bytes) ≡ encode o
encode_low o n v bytes fit e f g = rw (g, e, f) (low_bytes (size_of o) (appended 0 (fields_of o)) (size_bounds o).1 ∙ sym (encode_number o fit))

-- orders' bytes write one number, after that of other bytes
pub number_all : (os : List Order) (a : ℕ) → all_fit os ≡ true → number_from_digits_after 256 a (encode_all os) ≡ appended a (flat_map fields_of os)
unfolding encode
number_all [] a fit = refl
number_all (o ∷ os) a fit =
    let both = and_parts (fits o) (all_fit os) fit in
    number_after_append 256 a (encode o) (encode_all os)
    ∙ ap (λ n. number_from_digits_after 256 n (encode_all os)) (packed_after (size_of o) (fields_of o) a (fills o) (narrow o (fit_from o both.0)))
    ∙ number_all os (appended a (fields_of o)) both.1
    ∙ sym (appended-append (fields_of o) (flat_map fields_of os) a)
