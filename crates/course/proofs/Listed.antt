-- A course by its list: what holds of each gate and of each pair. Assumes nothing.
use Rattle.std.proofs.Common.{◌≡◌, ℕ, ◌+◌, ◌-◌, ◌<◌, ◌≤◌, true, List, length, get_or, ap, ◌∙◌, subst, arith}
use Rattle.std.specs.List.{All, AllPairs}
use Rattle.std.proofs.lemmas.List.{get_or_default}
use Rattle.course.specs.declared.gate.Gate.{Gate}
use Rattle.course.specs.Gates.{IsCourse, above, in_range, gate_at, no_gate}

-- a may stand before b in a course
pub record Over (a b : Gate) : Type 0 where
  pub higher : above a b ≡ true
  pub differs : a.number ≡ b.number → ⊥

pub record Listed (gs : List Gate) : Type 0 where
  pub few : length gs ≤ 200
  pub ranged : All (λ g. in_range g ≡ true) gs
  pub ordered : AllPairs Over gs

module _ (gs : List Gate) where
  -- positions count from 1, and indices from 0
  pub stands_at : (i : ℕ) (d : Gate) → i < length gs → gate_at gs (i + 1) ≡ get_or gs i d
  stands_at i d l =
      let e : i + 1 - 1 ≡ i = omega arith in
      ap (λ (k : ℕ). get_or gs k no_gate) e ∙ get_or_default gs i no_gate d l

  pub listed : IsCourse gs → Listed gs
  listed k = record {
    few = k.few;
    ranged = λ i d l. subst (λ (g : Gate). in_range g ≡ true) (stands_at i d l) (k.ranged (i + 1) (omega arith, omega arith));
    ordered = λ i j d l m.
        subst (λ (a : Gate). Over a (get_or gs j d)) (stands_at i d (omega arith))
        (subst (Over (gate_at gs (i + 1))) (stands_at j d m)
        record { higher = k.descends (i + 1) (j + 1) (omega arith, omega arith, omega arith); differs = k.distinct (i + 1) (j + 1) (omega arith, omega arith, omega arith) });
  }

  pub course_from_listed : Listed gs → IsCourse gs
  course_from_listed l = record {
    few = l.few;
    ranged = λ p h. l.ranged (p - 1) no_gate (omega arith);
    distinct = λ p q h. (l.ordered (p - 1) (q - 1) no_gate (omega arith) (omega arith)).differs;
    descends = λ p q h. (l.ordered (p - 1) (q - 1) no_gate (omega arith) (omega arith)).higher;
  }
