-- Laws of `bit_at` and `field_at`. Assumes nothing.
use Rattle.std.proofs.Common.{◌≡◌, ℕ, zero, suc, ◌+◌, ◌*◌, ◌%◌, ◌^◌, ◌<◌, ◌≤◌, List, refl, ap, ◌∙◌, pow-suc, arith, pow_mono}
use Rattle.std.specs.Int.Bits.{bit_or}
use Rattle.std.specs.List.{fold, range_with_len}
use Rattle.std.proofs.lemmas.Nat.{or_shifted}
use Rattle.orders.specs.Bits.{bit_at, field_at}

bit_small : (bs : List ℕ) (i : ℕ) → bit_at bs i < 2
unfolding bit_at
bit_small bs i = omega arith

pub field_small : (bs : List ℕ) (from w : ℕ) → field_at bs from w < 2 ^ w
unfolding field_at
field_small bs from zero = omega arith
field_small bs from (suc w) = omega (arith, pow-suc 2 w, field_small bs from w, bit_small bs (from + w))

-- a number with bit i after it, as the reader adds it
abbrev pub with_bit : List ℕ → ℕ → ℕ → ℕ
with_bit bs v i = bit_or (v * 2 % 2 ^ 64) (bit_at bs i)

-- one more bit
field_more : (bs : List ℕ) (from k : ℕ) → k < 64 → with_bit bs (field_at bs from k) (from + k) ≡ field_at bs from (suc k)
unfolding field_at
field_more bs from k h =
    let small : field_at bs from k < 2 ^ 63 = omega (arith, field_small bs from k, pow_mono {i = k} {j = 63} (omega arith)) in
    let one : bit_at bs (from + k) < 2 ^ 1 = omega (arith, bit_small bs (from + k)) in
    let whole : field_at bs from k * 2 % 2 ^ 64 ≡ field_at bs from k * 2 ^ 1 = omega arith in
    rw (whole, or_shifted (field_at bs from k) 1 (bit_at bs (from + k)) one) refl

-- n more
fields_more : (bs : List ℕ) (from k n : ℕ) → k + n ≤ 64 → fold (with_bit bs) (field_at bs from k) (range_with_len (from + k) n) ≡ field_at bs from (k + n)
fields_more bs from k zero h = ap (field_at bs from) (omega arith)
fields_more bs from k (suc n) h =
    let next : from + k + 1 ≡ from + suc k = omega arith in
    let all : suc k + n ≡ k + suc n = omega arith in
    ap (λ v. fold (with_bit bs) v (range_with_len (from + k + 1) n)) (field_more bs from k (omega arith))
    ∙ ap (λ i. fold (with_bit bs) (field_at bs from (suc k)) (range_with_len i n)) next
    ∙ fields_more bs from (suc k) n (omega arith)
    ∙ ap (field_at bs from) all

pub field_folded : (bs : List ℕ) (from n : ℕ) → n ≤ 64 → fold (with_bit bs) 0 (range_with_len from n) ≡ field_at bs from n
unfolding field_at
field_folded bs from n h =
    let start : from + 0 ≡ from = omega arith in
    let all : 0 + n ≡ n = omega arith in
    rw (start, all) at (fields_more bs from 0 n (omega arith))
