-- Adding the gates of the slope one after another. Assumes nothing.
use Rattle.std.proofs.Common.{◌≡◌, ℕ, zero, suc, ◌+◌, ◌<◌, ◌≤◌, true, false, cond, ◌||◌, eqb, ltb, leb, List, [], ◌∷◌, ◌++◌, map, length, get_or, pos, negsuc, ◌-ℤ◌, Some, None, filter, sym, refl, ap, ◌∙◌, arith, lt-ltb}
use Rattle.std.proofs.lemmas.Int.{ints}
use lib.Ieee.Bits.{is_true}
use Rattle.std.proofs.lemmas.List.{ext_get_or, length-map, map-append}
use Rattle.std.specs.Int.Signed.{lt_z, le_z}
use Rattle.std.proofs.lemmas.Bool.Decides.{nat_tests}
use Rattle.course.specs.declared.gate.Gate.{Gate}
use Rattle.course.specs.Gates.{in_range, no_gate, above, ordered}
use Rattle.course.specs.Edits.{is_set, beside, add_refusal, with_gate, leaves, after_add}
use Rattle.costs.specs.Groups.{positions}
use Rattle.costs.proofs.Spans.{positions_end, length-positions}
use Rattle.hills.specs.Hills.{slope_gate, slope}
use Rattle.hills.specs.Parts.{added_all}

-- a gate is below all these, and has a number of its own
pub record Lowest (g : Gate) (gs : List Gate) : Type 0 where
  pub unset : is_set g.number gs ≡ false
  pub beside_none : beside g gs ≡ None
  pub upper : filter (λ x. above x g) gs ≡ gs
  pub lower : filter (λ x. above g x) gs ≡ []

slope-above : (i j : ℕ) → i < j → above (slope_gate i) (slope_gate j) ≡ true
slope-above i j h =
    let d : ltb i j ≡ true = lt-ltb i j h in
    let z : lt_z (pos 0 -ℤ pos j) (pos 0 -ℤ pos i) ≡ true = is_true _ (omega (arith, ints)) in
    rw (d, z)

slope_not_above : (i j : ℕ) → i < j → above (slope_gate j) (slope_gate i) ≡ false
slope_not_above i j h = let d : ltb j i ≡ false = grind (arith, nat_tests) in rw d

lowest : (j i n : ℕ) → i + n ≤ j → Lowest (slope_gate j) (map slope_gate (positions i n))
unfolding is_set beside positions
lowest j i zero h = record { unset = refl; beside_none = refl; upper = refl; lower = refl }
lowest j i (suc n) h =
    let s = lowest j (suc i) n (omega arith) in
    let e : eqb i j ≡ false = grind (arith, nat_tests) in
    let a = slope-above i j (omega arith) in
    let b = slope_not_above i j (omega arith) in
    let rest : List Gate = map slope_gate (positions (suc i) n) in
    record {
      unset = ap (λ b. b || is_set j rest) e ∙ s.unset;
      beside_none = ap (λ b. cond (b || ordered (slope_gate i) (slope_gate j)) (beside (slope_gate j) rest) (Some i)) e ∙ ap (λ b. cond (b || above (slope_gate j) (slope_gate i)) (beside (slope_gate j) rest) (Some i)) a ∙ s.beside_none;
      upper = ap (λ b. cond b (slope_gate i ∷ filter (λ x. above x (slope_gate j)) rest) (filter (λ x. above x (slope_gate j)) rest)) a ∙ ap (λ l. slope_gate i ∷ l) s.upper;
      lower = ap (λ b. cond b (slope_gate i ∷ filter (λ x. above (slope_gate j) x) rest) (filter (λ x. above (slope_gate j) x) rest)) b ∙ s.lower;
    }

slope_in_range : (n : ℕ) → n < 200 → in_range (slope_gate n) ≡ true
slope_in_range n h =
    let d : leb n 1048575 ≡ true = grind (arith, nat_tests) in
    let deep : le_z (negsuc 524287) (pos 0 -ℤ pos n) ≡ true = is_true _ (omega (arith, ints)) in
    let high : le_z (pos 0 -ℤ pos n) (pos 524287) ≡ true = is_true _ (omega (arith, ints)) in
    rw (d, deep, high)

slope_next : (n : ℕ) → n < 200 → after_add (slope n) (slope_gate n) ≡ slope (n + 1)
slope_next n h =
    let l = lowest n 0 n (omega arith) in
    let few : leb 200 (length (slope n)) ≡ false = let m = length-map (positions 0 n) slope_gate ∙ length-positions 0 n in grind (arith, nat_tests) in
    let allowed : add_refusal (slope n) (slope_gate n) ≡ None = rw (slope_in_range n h, l.unset, few, l.beside_none) in
    let one : suc n ≡ n + 1 = omega arith in
    let end : slope n ++ slope_gate n ∷ [] ≡ slope (n + 1) =
    sym (map-append slope_gate (positions 0 n) (n ∷ [])) ∙ ap (map slope_gate) (sym (positions_end 0 n n (omega arith)) ∙ ap (positions 0) one)
    in
    ap (λ r. leaves r (slope n) (with_gate (slope_gate n) (slope n))) allowed
    ∙ (λ i. l.upper i ++ slope_gate n ∷ l.lower i)
    ∙ end

-- gates like those of the slope, as many, are the slope
slope_at : (p n i j : ℕ) → i < n → p + i ≡ j → get_or (map slope_gate (positions p n)) i no_gate ≡ slope_gate j
unfolding positions
slope_at p zero i j h e = absurd (omega arith)
slope_at p (suc n) zero j h e = let f : p ≡ j = omega arith in ap slope_gate f
slope_at p (suc n) (suc i) j h e = slope_at (suc p) n i j (omega arith) (omega arith)

pub slope_made : (xs : List Gate) (n : ℕ) → length xs ≡ n → ((i : ℕ) → i < n → get_or xs i no_gate ≡ slope_gate i) → xs ≡ slope n
slope_made xs n long each =
    let l = length-map (positions 0 n) slope_gate ∙ length-positions 0 n in
    ext_get_or no_gate xs (slope n) (long ∙ sym l) (λ i h. each i (omega arith) ∙ sym (slope_at 0 n i i (omega arith) (omega arith)))

-- adding its gates one after another gives all of them
added_on : (n k m : ℕ) → n + k ≡ m → m ≤ 200 → added_all (slope n) (map slope_gate (positions n k)) ≡ slope m
unfolding added_all positions
added_on n zero m e h = let f : n ≡ m = omega arith in ap slope f
added_on n (suc k) m e h =
    let one : n + 1 ≡ suc n = omega arith in
    ap (λ (l : List Gate). added_all l (map slope_gate (positions (suc n) k))) (slope_next n (omega arith) ∙ ap slope one)
    ∙ added_on (suc n) k m (omega arith) h

pub slope_added : (n : ℕ) → n ≤ 200 → added_all [] (slope n) ≡ slope n
unfolding positions
slope_added n h = added_on 0 n n (omega arith) h
