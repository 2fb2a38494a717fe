-- How the gates of a course lie to each other. Assumes nothing.
use Rattle.std.proofs.Common.{◌≡◌, ℕ, ◌<◌, ◌≤◌, true, ◌&&◌, ltb, leb, List, length, pos, negsuc, ◌≤ℤ◌, ap, ⊎_elim, eq-or-lt_of_le, arith, ltb-true, lt-ltb, leb-true}
use Rattle.std.proofs.lemmas.Int.{ints}
use Rattle.std.proofs.lemmas.Bool.{and_parts}
use Rattle.std.specs.Int.Signed.{lt_z, le_z}
use lib.Ieee.Bits.{is_true}
use Rattle.course.specs.declared.gate.Gate.{Gate}
use Rattle.course.specs.Gates.{IsCourse, above, in_range, gate_at}

-- b is a, or lies below it
pub record Under (a b : Gate) : Type 0 where
  pub further : a.distance ≤ b.distance
  pub lower : b.height ≤ℤ a.height

-- the bounds of a course
pub record Bounded (g : Gate) : Type 0 where
  pub near : g.distance ≤ 1048575
  pub deep : negsuc 524287 ≤ℤ g.height
  pub high : g.height ≤ℤ pos 524287

pub bounded : (g : Gate) → in_range g ≡ true → Bounded g
bounded g h =
    let a = and_parts (leb g.distance 1048575) (le_z (negsuc 524287) g.height && le_z g.height (pos 524287)) h in
    let b = and_parts (le_z (negsuc 524287) g.height) (le_z g.height (pos 524287)) a.1 in
    record { near = leb-true g.distance 1048575 a.0; deep = omega (arith, ints); high = omega (arith, ints) }

pub above_under : (a b : Gate) → above a b ≡ true → Under a b
above_under a b h =
    let l = and_parts (ltb a.distance b.distance) (lt_z b.height a.height) h in
    let d = ltb-true _ _ l.0 in
    record { further = omega arith; lower = omega (arith, ints) }

pub above_nearer : (a b : Gate) → above a b ≡ true → a.distance < b.distance
above_nearer a b h = ltb-true _ _ (and_parts (ltb a.distance b.distance) (lt_z b.height a.height) h).0

pub above_trans : (a b c : Gate) → above a b ≡ true → above b c ≡ true → above a c ≡ true
above_trans a b c h k =
    let l = and_parts (ltb a.distance b.distance) (lt_z b.height a.height) h in
    let m = and_parts (ltb b.distance c.distance) (lt_z c.height b.height) k in
    let x = ltb-true a.distance b.distance l.0 in
    let y = ltb-true b.distance c.distance m.0 in
    let d : ltb a.distance c.distance ≡ true = lt-ltb _ _ (omega arith) in
    let z : lt_z c.height a.height ≡ true = is_true _ (omega (arith, ints)) in
    rw (d, z)

module _ (gs : List Gate) (k : IsCourse gs) where
  pub lies_under : (p q : ℕ) → 1 ≤ p → p ≤ q → q ≤ length gs → Under (gate_at gs p) (gate_at gs q)
  lies_under p q h l m =
      ⊎_elim
      (λ e. let s = ap (gate_at gs) e in let d = ap (λ (g : Gate). g.distance) s in let z = ap (λ (g : Gate). g.height) s in
      record { further = omega arith; lower = omega (arith, ints) })
      (λ (b : p < q). above_under (gate_at gs p) (gate_at gs q) (k.descends p q (h, b, m)))
      (eq-or-lt_of_le l)

  pub lies_nearer : (p q : ℕ) → 1 ≤ p → p < q → q ≤ length gs → (gate_at gs p).distance < (gate_at gs q).distance
  lies_nearer p q h l m = above_nearer (gate_at gs p) (gate_at gs q) (k.descends p q (h, l, m))

  pub stands_in_range : (p : ℕ) → 1 ≤ p → p ≤ length gs → Bounded (gate_at gs p)
  stands_in_range p h m = bounded (gate_at gs p) (k.ranged p (h, m))
