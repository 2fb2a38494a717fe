-- The bytes of a number, their bits and their fields. Assumes nothing.
use Rattle.std.proofs.Common.{◌≡◌, ℕ, zero, suc, ◌+◌, ◌-◌, ◌*◌, ◌/◌, ◌%◌, ◌^◌, ◌<◌, ◌≤◌, List, [], ◌∷◌, ◌++◌, length, get_or, take, drop, sym, refl, ap, ◌∙◌, subst, pow-suc, div-one, arith, w8, Fits}
use Rattle.std.proofs.Math.Pow.{mod-mod-pow}
use Rattle.std.proofs.lemmas.Nat.{mod-pow-add, pow-add, shr-shr, field_of}
use Rattle.std.proofs.lemmas.Int.Digits.{number_lt}
use Rattle.std.proofs.ByRecursion.{All-take}
use Rattle.std.specs.Int.{byte_at, bytes_high_first, to_be_bytes, w64}
use Rattle.std.proofs.Math.Nat.{zero-add, suc-add}
use Rattle.std.proofs.lemmas.List.{take_all, length-take-le, take-append-drop, append-nil}
use Rattle.std.specs.Int.Digits.{AllBelowBase, number_from_digits, number_from_digits_after}
use Rattle.orders.specs.Bits.{bit_at, field_at}
use Rattle.orders.specs.Numbers.{cut_from}
use Rattle.orders.specs.Parts.{bytes_of, digits}
use Rattle.orders.proofs.Appending.{cuts, length_digits, total}

-- byte j of the n bytes of v
pub byte_of : (n v j : ℕ) (rest : List ℕ) → j < n → get_or (bytes_of n v ++ rest) j 0 ≡ v / 2 ^ (8 * (n - 1 - j)) % 256
unfolding digits
byte_of zero v j rest h = absurd (omega arith)
byte_of (suc n) v zero rest h = ap (λ m. v / 2 ^ (8 * m) % 256) (omega arith)
byte_of (suc n) v (suc j) rest h = byte_of n v j rest (omega arith) ∙ ap (λ m. v / 2 ^ (8 * m) % 256) (omega arith)

pow_256 : (n : ℕ) → 256 ^ n ≡ 2 ^ (8 * n)
pow_256 zero = refl
pow_256 (suc n) =
    let m : 8 * n + 8 ≡ 8 * suc n = omega arith in
    pow-suc 256 n ∙ ap (λ p. p * 256) (pow_256 n) ∙ sym (pow-add 2 (8 * n) 8) ∙ ap (λ k. 2 ^ k) m

-- std's big-endian bytes of v, cut to the lowest n
byte_is : (i v : ℕ) → byte_at i v ≡ v / 2 ^ (8 * i) % 256
byte_is zero v = ap (λ q. q % 256) (sym (div-one v))
byte_is (suc i) v = ap (λ p. v / p % 256) (pow_256 (suc i))

high_first : (n v : ℕ) → bytes_high_first n v ≡ bytes_of n v
unfolding digits
high_first zero v = refl
high_first (suc n) v = rw (byte_is n v, high_first n v)

drop-digits : (j n v : ℕ) → drop j (bytes_of (j + n) v) ≡ bytes_of n v
unfolding digits
drop-digits zero n v = ap (λ m. bytes_of m v) (zero-add n)
drop-digits (suc j) n v = rw (suc-add j n) (drop-digits j n v)

pub low_bytes : (n v : ℕ) → n ≤ 8 → take (8 - (8 - n)) (drop (8 - n) (to_be_bytes w64 v)) ≡ bytes_of n v
low_bytes n v h =
    let all : (8 - n) + n ≡ 8 = omega arith in
    let kept : 8 - (8 - n) ≡ n = omega arith in
    let low : drop (8 - n) (to_be_bytes w64 v) ≡ bytes_of n v = ap (drop (8 - n)) (high_first 8 v ∙ ap (λ m. bytes_of m v) (sym all)) ∙ drop-digits (8 - n) n v in
    rw (kept, low) (take_all n (bytes_of n v) (omega (arith, length_digits 8 n v)))

-- bit r of the lowest byte
bit_of_byte : (v r : ℕ) → r < 8 → v % 256 / 2 ^ r % 2 ≡ v / 2 ^ r % 2
bit_of_byte v r h =
    let a : 8 ≡ (8 - r) + r = omega arith in
    let b : 8 - r ≡ (7 - r) + 1 = omega arith in
    ap (λ m. v % 2 ^ m / 2 ^ r % 2) a ∙ ap (λ m. m % 2) (field_of v (8 - r) r) ∙ ap (λ m. v / 2 ^ r % 2 ^ m % 2) b ∙ mod-mod-pow (v / 2 ^ r) (7 - r) 1

bit_of : (n v i : ℕ) (rest : List ℕ) → i < 8 * n → bit_at (bytes_of n v ++ rest) i ≡ v / 2 ^ (8 * n - 1 - i) % 2
unfolding bit_at
bit_of n v i rest h =
    let m : 8 * (n - 1 - i / 8) + (7 - i % 8) ≡ 8 * n - 1 - i = omega arith in
    ap (λ b. b / 2 ^ (7 - i % 8) % 2) (byte_of n v (i / 8) rest (omega arith))
    ∙ bit_of_byte (v / 2 ^ (8 * (n - 1 - i / 8))) (7 - i % 8) (omega arith)
    ∙ ap (λ q. q % 2) (shr-shr v (8 * (n - 1 - i / 8)) (7 - i % 8))
    ∙ ap (λ k. v / 2 ^ k % 2) m

-- a field of the n bytes of v
field_of_bytes : (n v from w : ℕ) (rest : List ℕ) → from + w ≤ 8 * n → field_at (bytes_of n v ++ rest) from w ≡ v / 2 ^ (8 * n - (from + w)) % 2 ^ w
unfolding field_at
field_of_bytes n v from zero rest h = omega arith
field_of_bytes n v from (suc w) rest h =
    let m : ℕ = 8 * n - (from + suc w) in
    let up : 8 * n - (from + w) ≡ m + 1 = omega arith in
    let same : 8 * n - 1 - (from + w) ≡ m = omega arith in
    let one : suc w ≡ w + 1 = omega arith in
    rw (field_of_bytes n v from w rest (omega arith), bit_of n v (from + w) rest (omega arith), up, same)
    (rw (← (shr-shr v m 1)) (sym (mod-pow-add (v / 2 ^ m) w 1) ∙ ap (λ k. v / 2 ^ m % 2 ^ k) (sym one)))

-- the fields of the given widths, one after another from bit `from` on
abbrev pub fields_from : List ℕ → ℕ → List ℕ → List (ℕ × ℕ)
fields_from bs from [] = []
fields_from bs from (w ∷ ws) = (w, field_at bs from w) ∷ fields_from bs (from + w) ws

-- where they fill the n bytes of v, they are cut from v
pub fields_cut : (n v : ℕ) (rest : List ℕ) (from : ℕ) (ws : List ℕ) → from + total ws ≡ 8 * n → fields_from (bytes_of n v ++ rest) from ws ≡ cuts v ws
fields_cut n v rest from [] e = refl
fields_cut n v rest from (w ∷ ws) e =
    let left : 8 * n - (from + w) ≡ total ws = omega arith in
    let value : field_at (bytes_of n v ++ rest) from w ≡ v / 2 ^ total ws % 2 ^ w = field_of_bytes n v from w rest (omega arith) ∙ ap (λ k. v / 2 ^ k % 2 ^ w) left in
    rw (value, fields_cut n v rest (from + w) ws (omega arith))

-- the number that bytes write, cut back to what stood before them
after_high : (xs : List ℕ) (a : ℕ) → AllBelowBase 256 xs → number_from_digits_after 256 a xs / 2 ^ (8 * length xs) ≡ a
after_high [] a u = div-one a
after_high (x ∷ xs) a u =
    let m : 8 * length (x ∷ xs) ≡ 8 * length xs + 8 = omega arith in
    let v : ℕ = number_from_digits_after 256 (a * 256 + x) xs in
    let low = u.0 in
    ap (λ k. v / 2 ^ k) m ∙ sym (shr-shr v (8 * length xs) 8) ∙ ap (λ q. q / 256) (after_high xs (a * 256 + x) u.1) ∙ omega arith

bytes_of_number : (xs : List ℕ) (a : ℕ) → AllBelowBase 256 xs → bytes_of (length xs) (number_from_digits_after 256 a xs) ≡ xs
unfolding digits
bytes_of_number [] a u = refl
bytes_of_number (x ∷ xs) a u =
    let low = u.0 in
    let head : number_from_digits_after 256 (a * 256 + x) xs / 2 ^ (8 * length xs) % 256 ≡ x = ap (λ q. q % 256) (after_high xs (a * 256 + x) u.1) ∙ omega arith in
    rw (head, bytes_of_number xs (a * 256 + x) u.1)

-- n bytes at the front are those of some number
pub front_number : (n : ℕ) (bs : List ℕ) → n ≤ length bs → AllBelowBase 256 bs → (v : ℕ) × (v < 2 ^ (8 * n)) × (bytes_of n v ++ drop n bs ≡ bs)
front_number n bs h u =
    let xs : List ℕ = take n bs in
    let long : length xs ≡ n = length-take-le n bs h in
    let under : AllBelowBase 256 xs = All-take (λ d. d < 256) n bs u in
    let same : 256 ^ n ≡ 2 ^ (8 * n) = pow_256 n in (
      number_from_digits 256 xs,
      subst (λ m. number_from_digits 256 xs < m) (ap (λ k. 256 ^ k) long ∙ same) (number_lt 256 xs under),
      ap (λ l. l ++ drop n bs) (rw long at (bytes_of_number xs 0 under)) ∙ take-append-drop n bs,
    )

-- a field is cut from the one number that all the bytes write
pub field_is_cut : (bs : List ℕ) (from w : ℕ) → AllBelowBase 256 bs → from + w ≤ 8 * length bs → field_at bs from w ≡ cut_from bs from w
field_is_cut bs from w u h =
    let is : bytes_of (length bs) (number_from_digits 256 bs) ++ [] ≡ bs = append-nil (bytes_of (length bs) (number_from_digits 256 bs)) ∙ bytes_of_number bs 0 u in
    ap (λ l. field_at l from w) (sym is) ∙ field_of_bytes (length bs) (number_from_digits 256 bs) from w [] h

-- what the type of a slice of bytes says
pub bytes_typed : (bs : List ℕ) → ((i : ℕ) → Fits w8 (get_or bs i 0)) → AllBelowBase 256 bs
bytes_typed [] h = tt
bytes_typed (b ∷ bs) h = ((h 0).fits, bytes_typed bs (λ i. h (suc i)))
