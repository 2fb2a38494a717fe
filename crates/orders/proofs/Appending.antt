-- Numbers made by appending fields, each a width and a value. Assumes nothing.
use Rattle.std.proofs.Common.{◌≡◌, ℕ, zero, suc, ◌+◌, ◌*◌, ◌/◌, ◌%◌, ◌^◌, ◌<◌, List, [], ◌∷◌, ◌++◌, map, length, replicate, sym, refl, ap, ◌∙◌, mod-eq_of_lt, mul_assoc, mul_comm, add-mul, mul-suc, arith}
use Rattle.std.proofs.lemmas.Nat.{mod_low, mod-pow-add, mul-add-lt, pow-add, shr_high}
use Rattle.std.specs.Int.Digits.{number_from_digits, number_from_digits_after}
use Rattle.std.specs.List.{AllByRecursion as All}
use Rattle.orders.specs.Numbers.{appended}
use Rattle.orders.specs.Parts.{digits}

abbrev pub total : List ℕ → ℕ
total [] = 0
total (w ∷ ws) = w + total ws

abbrev pub widths : List (ℕ × ℕ) → List ℕ
widths [] = []
widths (f ∷ fs) = f.0 ∷ widths fs

-- each field holds its value
abbrev pub Narrow : List (ℕ × ℕ) → Type 0
Narrow fs = All (λ f. f.1 < 2 ^ f.0) fs

pub appended-append : (fs gs : List (ℕ × ℕ)) (a : ℕ) → appended a (fs ++ gs) ≡ appended (appended a fs) gs
appended-append [] gs a = refl
appended-append (f ∷ fs) gs a = appended-append fs gs (a * 2 ^ f.0 + f.1)

-- x appended to a as w bits, and both moved up by s bits
shift_in : (a w x s m : ℕ) → (a * 2 ^ w + x) * 2 ^ s + m ≡ a * 2 ^ (w + s) + (x * 2 ^ s + m)
shift_in a w x s m = omega (arith, add-mul (a * 2 ^ w) x (2 ^ s), mul_assoc a (2 ^ w) (2 ^ s), ap (λ q. a * q) (pow-add 2 w s))

-- what stood before the fields
pub appended_after : (fs : List (ℕ × ℕ)) (a : ℕ) → appended a fs ≡ a * 2 ^ total (widths fs) + appended 0 fs
appended_after [] a = omega arith
appended_after (f ∷ fs) a =
    let none : f.1 ≡ 0 * 2 ^ f.0 + f.1 = omega arith in
    appended_after fs (a * 2 ^ f.0 + f.1)
    ∙ shift_in a f.0 f.1 (total (widths fs)) (appended 0 fs)
    ∙ ap (λ q. a * 2 ^ (f.0 + total (widths fs)) + q) (sym (appended_after fs f.1) ∙ ap (λ n. appended n fs) none)

pub appended_small : (fs : List (ℕ × ℕ)) → Narrow fs → appended 0 fs < 2 ^ total (widths fs)
appended_small [] h = omega arith
appended_small (f ∷ fs) h =
    let s : ℕ = total (widths fs) in
    let none : 0 * 2 ^ f.0 + f.1 ≡ f.1 = omega arith in
    let parts : appended 0 (f ∷ fs) ≡ f.1 * 2 ^ s + appended 0 fs = ap (λ n. appended n fs) none ∙ appended_after fs f.1 in
    let power : 2 ^ s * 2 ^ f.0 ≡ 2 ^ (f.0 + s) = mul_comm (2 ^ s) (2 ^ f.0) ∙ sym (pow-add 2 f.0 s) in
    omega (arith, parts, power, mul-add-lt f.1 (2 ^ s) (appended 0 fs) (2 ^ f.0) h.0 (appended_small fs h.1))

-- the fields of the given widths, cut from a number
abbrev pub cuts : ℕ → List ℕ → List (ℕ × ℕ)
cuts v [] = []
cuts v (w ∷ ws) = (w, v / 2 ^ total ws % 2 ^ w) ∷ cuts v ws

-- appended again they make the number
appended-cuts : (v a : ℕ) (ws : List ℕ) → appended a (cuts v ws) ≡ a * 2 ^ total ws + v % 2 ^ total ws
appended-cuts v a [] = omega arith
appended-cuts v a (w ∷ ws) =
    let x : ℕ = v / 2 ^ total ws % 2 ^ w in
    appended-cuts v (a * 2 ^ w + x) ws
    ∙ shift_in a w x (total ws) (v % 2 ^ total ws)
    ∙ ap (λ q. a * 2 ^ (w + total ws) + q) (sym (mod-pow-add v w (total ws)))

pub cuts_whole : (v : ℕ) (ws : List ℕ) → v < 2 ^ total ws → appended 0 (cuts v ws) ≡ v
cuts_whole v ws small = appended-cuts v 0 ws ∙ omega (arith, mod-eq_of_lt small)

-- and cut from such a number they are the fields
pub cuts-appended : (fs : List (ℕ × ℕ)) (a : ℕ) → Narrow fs → cuts (appended a fs) (widths fs) ≡ fs
cuts-appended [] a h = refl
cuts-appended (f ∷ fs) a h =
    let s : ℕ = total (widths fs) in
    let v : ℕ = appended (a * 2 ^ f.0 + f.1) fs in
    let value : v / 2 ^ s % 2 ^ f.0 ≡ f.1 =
    ap (λ n. n / 2 ^ s % 2 ^ f.0) (appended_after fs (a * 2 ^ f.0 + f.1))
    ∙ ap (λ n. n % 2 ^ f.0) (shr_high (a * 2 ^ f.0 + f.1) s (appended 0 fs) (appended_small fs h.1))
    ∙ mod_low a f.0 f.1 h.0
    in
    rw (value, cuts-appended fs (a * 2 ^ f.0 + f.1) h.1)

-- digits are fields of one width
abbrev each_wide : ℕ → List ℕ → List (ℕ × ℕ)
each_wide c ds = map (λ d. (c, d)) ds

number_fields : (c a : ℕ) (ds : List ℕ) → number_from_digits_after (2 ^ c) a ds ≡ appended a (each_wide c ds)
number_fields c a [] = refl
number_fields c a (d ∷ ds) = number_fields c (a * 2 ^ c + d) ds

total_each : (c : ℕ) (ds : List ℕ) → total (widths (each_wide c ds)) ≡ c * length ds
total_each c [] = omega arith
total_each c (d ∷ ds) = omega (arith, total_each c ds, mul-suc c (length ds))

-- the number of digits after those of another
pub number_after : (c a : ℕ) (ds : List ℕ) → number_from_digits_after (2 ^ c) a ds ≡ a * 2 ^ (c * length ds) + number_from_digits (2 ^ c) ds
number_after c a ds =
    number_fields c a ds
    ∙ appended_after (each_wide c ds) a
    ∙ ap (λ s. a * 2 ^ s + appended 0 (each_wide c ds)) (total_each c ds)
    ∙ ap (λ n. a * 2 ^ (c * length ds) + n) (sym (number_fields c 0 ds))

total_same : (c n : ℕ) → total (replicate n c) ≡ c * n
total_same c zero = omega arith
total_same c (suc n) = omega (arith, total_same c n, mul-suc c n)

digits-cuts : (c n v : ℕ) → each_wide c (digits c n v) ≡ cuts v (replicate n c)
unfolding digits
digits-cuts c zero v = refl
digits-cuts c (suc n) v = rw (total_same c n, digits-cuts c n v)

pub length_digits : (c n v : ℕ) → length (digits c n v) ≡ n
unfolding digits
length_digits c zero v = refl
length_digits c (suc n) v = ap suc (length_digits c n v)

-- the number of the lowest digits of v, after that of other digits
pub number_digits : (c n v a : ℕ) → number_from_digits_after (2 ^ c) a (digits c n v) ≡ a * 2 ^ (c * n) + v % 2 ^ (c * n)
number_digits c n v a =
    number_fields c a (digits c n v)
    ∙ ap (appended a) (digits-cuts c n v)
    ∙ appended-cuts v a (replicate n c)
    ∙ ap (λ s. a * 2 ^ s + v % 2 ^ s) (total_same c n)
