-- Spans and groups by their positions. Assumes nothing.
use Rattle.std.proofs.Common.{◌≡◌, ℕ, zero, suc, ◌+◌, ◌-◌, ◌<◌, ◌≤◌, true, ◌&&◌, leb, List, [], ◌∷◌, ◌++◌, length, refl, ap, ◌∙◌, arith, leb-true}
use Rattle.course.specs.declared.gate.Gate.{Gate}
use Rattle.std.proofs.lemmas.Bool.{and_parts}
use Rattle.costs.specs.Groups.{is_span, positions, span, Rise, Group, topmost, last_from, lowest}

pub rise_within : (n p : ℕ) (ps : List ℕ) → Rise n p ps → (p ≤ last_from p ps) × (last_from p ps ≤ n)
unfolding Rise last_from
rise_within n p [] h = omega arith
rise_within n p (q ∷ qs) h = let k = rise_within n q qs h.1 in omega arith

pub positions_rise : (n p k : ℕ) → p + k ≤ n → Rise n p (positions (suc p) k)
unfolding Rise positions
positions_rise n p zero h = omega arith
positions_rise n p (suc k) h = (omega arith, positions_rise n (suc p) k (omega arith))

pub positions_last : (p k : ℕ) → last_from p (positions (suc p) k) ≡ p + k
unfolding last_from positions
positions_last p zero = omega arith
positions_last p (suc k) = let e = positions_last (suc p) k in omega arith

-- the first position of a span, and the ones after it
pub span_parts : (i j : ℕ) → i ≤ j → span i j ≡ i ∷ positions (suc i) (j - i)
unfolding positions
span_parts i j h = let e : suc j - i ≡ suc (j - i) = omega arith in ap (positions i) e

pub span_group : (n i j : ℕ) → 1 ≤ i → i ≤ j → j ≤ n → Group n (span i j)
unfolding Group
span_group n i j h k l = rw (span_parts i j k) (h, positions_rise n i (j - i) (omega arith))

pub span-topmost : (i j : ℕ) → i ≤ j → topmost (span i j) ≡ i
span-topmost i j h = ap topmost (span_parts i j h)

pub span-lowest : (i j : ℕ) → i ≤ j → lowest (span i j) ≡ j
span-lowest i j h = let e = ap lowest (span_parts i j h) in let d = positions_last i (j - i) in omega arith

-- a span of a course with n gates
pub record Within (n i j : ℕ) : Type 0 where
  pub counted : 1 ≤ i
  pub in_order : i ≤ j
  pub inside : j ≤ n

pub within : (gs : List Gate) (i j : ℕ) → is_span gs i j ≡ true → Within (length gs) i j
within gs i j h =
    let a = and_parts (leb 1 i) (leb i j && leb j (length gs)) h in
    let b = and_parts (leb i j) (leb j (length gs)) a.1 in
    record { counted = leb-true 1 i a.0; in_order = leb-true i j b.0; inside = leb-true j (length gs) b.1 }

-- the topmost and the lowest gate of a group
pub group_within : (n : ℕ) (ps : List ℕ) → Group n ps → Within n (topmost ps) (lowest ps)
unfolding Group
group_within n [] g = absurd g
group_within n (p ∷ ps) g = let w = rise_within n p ps g.1 in record { counted = g.0; in_order = w.0; inside = w.1 }

-- the positions from p on that are below m
module _ (p m : ℕ) where
  pub positions_more : p < m → positions p (m - p) ≡ p ∷ positions (p + 1) (m - (p + 1))
  unfolding positions
  positions_more h =
      let one : m - p ≡ suc (m - (p + 1)) = omega arith in
      let next : suc p ≡ p + 1 = omega arith in
      ap (positions p) one ∙ ap (λ q. p ∷ positions q (m - (p + 1))) next

  pub positions_none : m ≤ p → positions p (m - p) ≡ []
  unfolding positions
  positions_none h = let none : m - p ≡ 0 = omega arith in ap (positions p) none

-- one position more, at the end
pub positions_end : (i n last : ℕ) → last ≡ i + n → positions i (suc n) ≡ positions i n ++ last ∷ []
unfolding positions
positions_end i zero last e = let f : i ≡ last = omega arith in ap (λ p. p ∷ []) f
positions_end i (suc n) last e = ap (λ l. i ∷ l) (positions_end (suc i) n last (omega arith))

pub length-positions : (i n : ℕ) → length (positions i n) ≡ n
unfolding positions
length-positions i zero = refl
length-positions i (suc n) = ap suc (length-positions (suc i) n)
