-- The bits of fields and the bytes made of them, as numbers. Assumes nothing.
use Rattle.std.proofs.Common.{◌≡◌, ℕ, zero, suc, ◌+◌, ◌-◌, ◌*◌, ◌/◌, ◌%◌, ◌^◌, ◌<◌, ◌≤◌, List, [], ◌∷◌, length, take, drop, sym, refl, ap, ◌∙◌, subst, mod-eq_of_lt, one-mul, arith}
use Rattle.std.proofs.Math.Pow.{mod-mod-pow}
use Rattle.std.proofs.lemmas.Nat.{field_of, mod_low, shr_high}
use Rattle.std.proofs.lemmas.Int.Digits.{number_after_append, number_lt}
use Rattle.std.proofs.ByRecursion.{All-append, All-take, All-drop}
use Rattle.std.proofs.lemmas.List.{length-append, length-take-le, length-drop, take-append-drop}
use Rattle.std.specs.Int.Digits.{AllBelowBase, number_from_digits, number_from_digits_after}
use Rattle.orders.specs.Numbers.{appended}
use Rattle.orders.specs.Parts.{bytes_of, digits}
use Rattle.orders.specs.Writing.{bits_of, packed, bytes_in}
use Rattle.orders.proofs.Appending.{Narrow, total, widths, appended_after, appended_small, length_digits, number_after, number_digits}

bits_digits : (w v : ℕ) → bits_of w v ≡ digits 1 w v
unfolding bits_of digits
bits_digits zero v = refl
bits_digits (suc w) v = rw (one-mul w, bits_digits w v)

-- the number that packed fields write
after_packed : (fs : List (ℕ × ℕ)) (a : ℕ) → Narrow fs → number_from_digits_after 2 a (packed fs) ≡ appended a fs
unfolding packed
after_packed [] a h = refl
after_packed (f ∷ fs) a h =
    let one : 1 * f.0 ≡ f.0 = one-mul f.0 in
    let bits : number_from_digits_after 2 a (bits_of f.0 f.1) ≡ a * 2 ^ f.0 + f.1 =
    ap (number_from_digits_after 2 a) (bits_digits f.0 f.1)
    ∙ number_digits 1 f.0 f.1 a
    ∙ ap (λ k. a * 2 ^ k + f.1 % 2 ^ k) one
    ∙ ap (λ n. a * 2 ^ f.0 + n) (mod-eq_of_lt h.0)
    in
    number_after_append 2 a (bits_of f.0 f.1) (packed fs)
    ∙ ap (λ n. number_from_digits_after 2 n (packed fs)) bits
    ∙ after_packed fs (a * 2 ^ f.0 + f.1) h.1

under_bits_of : (w v : ℕ) → AllBelowBase 2 (bits_of w v)
unfolding bits_of
under_bits_of zero v = tt
under_bits_of (suc w) v = (omega arith, under_bits_of w v)

length-packed : (fs : List (ℕ × ℕ)) → length (packed fs) ≡ total (widths fs)
unfolding packed
length-packed [] = refl
length-packed (f ∷ fs) =
    let one = ap length (bits_digits f.0 f.1) ∙ length_digits 1 f.0 f.1 in
    length-append (bits_of f.0 f.1) (packed fs) ∙ omega (arith, length-packed fs)

under_packed : (fs : List (ℕ × ℕ)) → AllBelowBase 2 (packed fs)
unfolding packed
under_packed [] = tt
under_packed (f ∷ fs) = All-append (λ d. d < 2) (bits_of f.0 f.1) (packed fs) (under_bits_of f.0 f.1) (under_packed fs)

pub length-bytes_in : (n : ℕ) (xs : List ℕ) → length (bytes_in n xs) ≡ n
unfolding bytes_in
length-bytes_in zero xs = refl
length-bytes_in (suc n) xs = ap suc (length-bytes_in n (drop 8 xs))

-- the n bytes of v say nothing of what stands above them
bytes_low : (n m v : ℕ) → n ≤ m → bytes_of n (v % 2 ^ (8 * m)) ≡ bytes_of n v
unfolding digits
bytes_low zero m v h = refl
bytes_low (suc n) m v h =
    let k : ℕ = 8 * (m - 1 - n) in
    let split : 8 * m ≡ (k + 8) + 8 * n = omega arith in
    let head : v % 2 ^ (8 * m) / 2 ^ (8 * n) % 256 ≡ v / 2 ^ (8 * n) % 256 = ap (λ e. v % 2 ^ e / 2 ^ (8 * n) % 256) split ∙ ap (λ q. q % 256) (field_of v (k + 8) (8 * n)) ∙ mod-mod-pow (v / 2 ^ (8 * n)) k 8 in
    rw (head, bytes_low n m v (omega arith))

-- the bytes made of bits are those of the number that the bits write
bytes_in_lem : (n : ℕ) (xs : List ℕ) → length xs ≡ 8 * n → AllBelowBase 2 xs → bytes_in n xs ≡ bytes_of n (number_from_digits 2 xs)
unfolding bytes_in digits
bytes_in_lem zero xs long u = refl
bytes_in_lem (suc n) xs long u =
    let a : ℕ = number_from_digits 2 (take 8 xs) in
    let ys : List ℕ = drop 8 xs in
    let b : ℕ = number_from_digits 2 ys in
    let few : length (take 8 xs) ≡ 8 = length-take-le 8 xs (omega arith) in
    let rest : length ys ≡ 8 * n = length-drop 8 xs ∙ omega arith in
    let high : a < 2 ^ 8 = subst (λ m. a < 2 ^ m) few (number_lt 2 (take 8 xs) (All-take (λ d. d < 2) 8 xs u)) in
    let low : b < 2 ^ (8 * n) = subst (λ m. b < 2 ^ m) rest (number_lt 2 ys (All-drop (λ d. d < 2) 8 xs u)) in
    let whole : number_from_digits 2 xs ≡ a * 2 ^ (8 * n) + b =
    ap (number_from_digits 2) (sym (take-append-drop 8 xs))
    ∙ number_after_append 2 0 (take 8 xs) ys
    ∙ number_after 1 a ys
    ∙ ap (λ m. a * 2 ^ m + b) (one-mul (length ys) ∙ rest)
    in
    let head : number_from_digits 2 xs / 2 ^ (8 * n) % 256 ≡ a = ap (λ v. v / 2 ^ (8 * n) % 256) whole ∙ ap (λ q. q % 256) (shr_high a (8 * n) b low) ∙ mod-eq_of_lt high in
    let tail : bytes_of n (number_from_digits 2 xs) ≡ bytes_of n b = sym (bytes_low n n (number_from_digits 2 xs) (omega arith)) ∙ ap (λ v. bytes_of n (v % 2 ^ (8 * n))) whole ∙ ap (bytes_of n) (mod_low a (8 * n) b low) in
    rw (head, tail, bytes_in_lem n ys rest (All-drop (λ d. d < 2) 8 xs u))

-- fields that fill n bytes make the bytes of one number
pub packed_number : (n : ℕ) (fs : List (ℕ × ℕ)) → total (widths fs) ≡ 8 * n → Narrow fs → bytes_in n (packed fs) ≡ bytes_of n (appended 0 fs)
packed_number n fs wide h = bytes_in_lem n (packed fs) (length-packed fs ∙ wide) (under_packed fs) ∙ ap (bytes_of n) (after_packed fs 0 h)

-- and that number comes after that of other bytes
pub packed_after : (n : ℕ) (fs : List (ℕ × ℕ)) (a : ℕ) → total (widths fs) ≡ 8 * n → Narrow fs → number_from_digits_after 256 a (bytes_in n (packed fs)) ≡ appended a fs
packed_after n fs a wide h =
    let small : appended 0 fs < 2 ^ (8 * n) = subst (λ m. appended 0 fs < 2 ^ m) wide (appended_small fs h) in
    ap (number_from_digits_after 256 a) (packed_number n fs wide h)
    ∙ number_digits 8 n (appended 0 fs) a
    ∙ ap (λ v. a * 2 ^ (8 * n) + v) (mod-eq_of_lt small)
    ∙ ap (λ m. a * 2 ^ m + appended 0 fs) (sym wide)
    ∙ sym (appended_after fs a)
