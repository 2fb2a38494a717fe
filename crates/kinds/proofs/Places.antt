-- No place is nearer to two gates than the one halfway between them. Assumes nothing.
use Rattle.std.proofs.Common.{◌≡◌, ℕ, ◌+◌, ◌-◌, ◌*◌, ◌≤◌, true, leb, List, [], ◌∷◌, length, ℤ, pos, ◌+ℤ◌, ◌-ℤ◌, ◌*ℤ◌, nat_abs, ap, ⊎_elim, add-le-add, mul_comm, add-mul, mul-le-mul, mul-add, arith, le-leb}
use Rattle.std.proofs.Math.Nat.{mul-mul-mul_comm}
use Rattle.std.proofs.lemmas.Int.{ints}
use borrow.Author.Differences.{up, down}
use Rattle.std.proofs.lemmas.Bool.Decides.{leb_tells}
use Rattle.course.specs.declared.gate.Gate.{Gate}
use Rattle.course.specs.Gates.{IsCourse, gate_at}
use Rattle.course.specs.Distances.{Place, place_of, scaled, square, squared_distance, apart}
use Rattle.course.proofs.Order.{Under, lies_under, stands_in_range}
use Rattle.course.proofs.Squares.{apart_small}
use Rattle.costs.specs.declared.span.Span.{Span}
use Rattle.costs.specs.declared.mast.Mast.{Mast}
use Rattle.costs.specs.Groups.{is_span, Rise, Group, last_from}
use Rattle.costs.specs.Masts.{mast_place, Reached, reach}
use Rattle.costs.proofs.Spans.{within, rise_within}
use Rattle.kinds.specs.FreeMast.{halfway, farthest_from, LeastOverPlaces, free_mast_group, free_mast_span, free_mast_mast}
use Rattle.kinds.specs.Greatest.{greatest_bounded, greatest_first, greatest_last}

-- the products of two numbers with each other are at most their squares
cross : (u k : ℕ) → u * (u + k) + (u + k) * u ≤ u * u + (u + k) * (u + k)
cross u k = omega (arith, add-mul u k (u + k), mul-add k u k, add-mul u k u)

two_squares : (u v : ℕ) → (u + v) * (u + v) ≤ 2 * (u * u) + 2 * (v * v)
two_squares u v =
    let products : u * v + v * u ≤ u * u + v * v =
    ⊎_elim
    (λ h. let e : u + (v - u) ≡ v = omega (arith, h.1) in rw e at (cross u (v - u)))
    (λ h. let e : v + (u - v) ≡ u = omega (arith, h.1) in let c = rw e at (cross v (u - v)) in omega arith)
    (leb_tells u v) in
    omega (arith, add-mul u v (u + v), mul-add u u v, mul-add v u v, products)

times : (q a b n c d : ℕ) → a + b ≡ n + (c + d) → q * a + q * b ≡ q * n + (q * c + q * d)
times q a b n c d e = omega (arith, ap (λ (m : ℕ). q * m) e, mul-add q a b, mul-add q n (c + d), mul-add q c d)

-- a coordinate z, in units of which q make one of x and y, is at least as far from both as they are from each other
between_two : (q : ℕ) (x y z : ℤ) → nat_abs (x -ℤ y) * q ≤ nat_abs (pos q *ℤ x -ℤ z) + nat_abs (pos q *ℤ y -ℤ z)
between_two q x y z =
    let n = nat_abs (x -ℤ y) in
    ⊎_elim
    (λ h.
    let e : up x + down y ≡ n + (up y + down x) = omega (arith, ints, h.1) in
    let f = times q (up x) (down y) n (up y) (down x) e in
    omega (arith, ints, mul_comm n q))
    (λ h.
    let e : up y + down x ≡ n + (up x + down y) = omega (arith, ints, h.1) in
    let f = times q (up y) (down x) n (up x) (down y) e in
    omega (arith, ints, mul_comm n q))
    (leb_tells (up y + down x) (up x + down y))

-- the squares of both are at least half of theirs
squares_between : (q : ℕ) (x y z : ℤ) → square (x -ℤ y) * (q * q) ≤ 2 * square (pos q *ℤ x -ℤ z) + 2 * square (pos q *ℤ y -ℤ z)
squares_between q x y z =
    let d = nat_abs (x -ℤ y) in
    let u = nat_abs (pos q *ℤ x -ℤ z) in
    let v = nat_abs (pos q *ℤ y -ℤ z) in
    let b : d * q ≤ u + v = between_two q x y z in
    let e = mul-mul-mul_comm d q d q in
    omega (arith, mul-le-mul b b, two_squares u v, e)

-- the place halfway between two gates, in half centimetres
abbrev pub middle : Gate → Gate → Place
middle a b = mast_place (halfway a b)

-- is no farther from a gate between them than they are from each other
pub middle_near : (a w b : Gate) → Under a w → Under w b → squared_distance (scaled 2 (place_of w)) (middle a b) ≤ apart a b
middle_near a w b h k =
    let d : nat_abs (pos 2 *ℤ pos w.distance -ℤ (pos a.distance +ℤ pos b.distance)) ≤ nat_abs (pos a.distance -ℤ pos b.distance) = omega (arith, ints) in
    let z : nat_abs (pos 2 *ℤ w.height -ℤ (a.height +ℤ b.height)) ≤ nat_abs (a.height -ℤ b.height) = omega (arith, ints) in
    add-le-add (mul-le-mul d d) (mul-le-mul z z)

-- and just as far from the first
middle-far : (a b : Gate) → squared_distance (scaled 2 (place_of a)) (middle a b) ≡ apart a b
middle-far a b =
    let d : nat_abs (pos 2 *ℤ pos a.distance -ℤ (pos a.distance +ℤ pos b.distance)) ≡ nat_abs (pos a.distance -ℤ pos b.distance) = omega (arith, ints) in
    let z : nat_abs (pos 2 *ℤ a.height -ℤ (a.height +ℤ b.height)) ≡ nat_abs (a.height -ℤ b.height) = omega (arith, ints) in
    rw (d, z)

module _ (gs : List Gate) (k : IsCourse gs) where
  -- a place in units of which q make a centimetre, to the gate at a position
  abbrev far : ℕ → Place → ℕ → ℕ
  far q place p = squared_distance (scaled q (place_of (gate_at gs p))) place

  middle-greatest : (p : ℕ) (ps : List ℕ) → 1 ≤ p → Rise (length gs) p ps → farthest_from gs 2 (middle (gate_at gs p) (gate_at gs (last_from p ps))) (p ∷ ps) ≡ apart (gate_at gs p) (gate_at gs (last_from p ps))
  middle-greatest p ps h r =
      let a = gate_at gs p in
      let b = gate_at gs (last_from p ps) in
      let m = rise_within (length gs) p ps r in
      let most = greatest_bounded (far 2 (middle a b)) (length gs) (apart a b) p ps r
      (λ w i j. middle_near a (gate_at gs w) b (lies_under gs k p w h i (omega (arith, m.1))) (lies_under gs k w (last_from p ps) (omega arith) j m.1)) in
      let first = greatest_first (far 2 (middle a b)) p ps in
      let e = middle-far a b in
      omega arith

  none_nearer : (q : ℕ) (place : Place) (p : ℕ) (ps : List ℕ) → apart (gate_at gs p) (gate_at gs (last_from p ps)) * (q * q) ≤ 4 * farthest_from gs q place (p ∷ ps)
  none_nearer q place p ps =
      let a = gate_at gs p in
      let b = gate_at gs (last_from p ps) in
      let first = greatest_first (far q place) p ps in
      let last = greatest_last (far q place) p ps in
      let d = squares_between q (pos a.distance) (pos b.distance) place.along in
      let z = squares_between q a.height b.height place.up in
      let e = add-mul (square (pos a.distance -ℤ pos b.distance)) (square (a.height -ℤ b.height)) (q * q) in
      omega arith

  pub least_over_places : (ps : List ℕ) → Group (length gs) ps → LeastOverPlaces gs ps (free_mast_group gs ps)
  unfolding Group
  least_over_places [] h = absurd h
  least_over_places (p ∷ ps) h = record {
    attained = (2, middle (gate_at gs p) (gate_at gs (last_from p ps)), omega arith, let e = middle-greatest p ps h.0 h.1 in omega arith);
    unbeaten = λ q place _. none_nearer q place p ps;
  }

  -- every gate of a span is reached from the mast halfway between its ends
  pub reached_from_middle : (i j : ℕ) → is_span gs i j ≡ true → (p : ℕ) → i ≤ p → p ≤ j → Reached leb (λ n. n) (free_mast_span gs i j) (reach (free_mast_mast gs i j) (gate_at gs p))
  reached_from_middle i j w p h l =
      let v = within gs i j w in
      let near = middle_near (gate_at gs i) (gate_at gs p) (gate_at gs j) (lies_under gs k i p v.counted h (omega (arith, v.inside))) (lies_under gs k p j (omega (arith, v.counted)) l v.inside) in
      let small = apart_small (gate_at gs i) (gate_at gs j) (stands_in_range gs k i v.counted (omega (arith, v.in_order, v.inside))) (stands_in_range gs k j (omega (arith, v.counted, v.in_order)) v.inside) in
      record { fits = omega arith; affordable = le-leb _ _ near }

-- and so from a mast that stands there
pub span_reached : (s : Span) (m : Mast) (p : ℕ) → m ≡ free_mast_mast s.gates.now s.first s.last → s.first ≤ p → p ≤ s.last → Reached leb (λ n. n) (free_mast_span s.gates.now s.first s.last) (reach m (gate_at s.gates.now p))
span_reached s m p e h l = rw e (reached_from_middle s.gates.now s.a_course s.first s.last s.a_span p h l)
