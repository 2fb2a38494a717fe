-- What an edit that is not refused may rely on. Assumes nothing.
use Rattle.std.proofs.Common.{◌≡◌, ℕ, ◌<◌, Bool, true, false, cond, not, leb, List, length, Some, None, Option, refl, leb-false}
use Rattle.std.proofs.lemmas.Bool.{lt-leb, not-false}
use Rattle.course.specs.declared.gate.Gate.{Gate}
use Rattle.course.specs.declared.refusal.Refusal.{Refusal}
use Rattle.course.specs.Gates.{in_range}
use Rattle.course.specs.Edits.{is_set, beside, beside_refusal, add_refusal, relocate_refusal}

-- a gate that may be added
pub record Fresh (gs : List Gate) (g : Gate) : Type 0 where
  pub range : in_range g ≡ true
  pub room : length gs < 200
  pub unset : is_set g.number gs ≡ false
  pub clear : beside g gs ≡ None

-- a gate that may get a new place
pub record Relocatable (gs : List Gate) (g : Gate) : Type 0 where
  pub range : in_range g ≡ true
  pub set : is_set g.number gs ≡ true
  pub clear : beside g gs ≡ None

no_refusal : (o : Option ℕ) → beside_refusal o ≡ None → o ≡ None
no_refusal None h = refl
no_refusal (Some n) h = absurd cc

-- a test whose refusal did not come
passed : (b : Bool) (r : Refusal) (rest : Option Refusal) → cond b (Some r) rest ≡ None → (b ≡ false) × (rest ≡ None)
passed true r rest h = absurd cc
passed false r rest h = (refl, h)

module _ (gs : List Gate) (g : Gate) where
  pub fresh : add_refusal gs g ≡ None → Fresh gs g
  fresh h =
      let a = passed (not (in_range g)) _ _ h in
      let b = passed (is_set g.number gs) _ _ a.1 in
      let c = passed (leb 200 (length gs)) _ _ b.1 in
      record { range = not-false _ a.0; room = leb-false 200 (length gs) c.0; unset = b.0; clear = no_refusal _ c.1 }

  pub add_allowed : Fresh gs g → add_refusal gs g ≡ None
  add_allowed f =
      let r = f.range in
      let u = f.unset in
      let c = f.clear in
      let l = lt-leb 200 (length gs) f.room in
      rw (r, u, l, c)

  pub relocatable : relocate_refusal gs g ≡ None → Relocatable gs g
  relocatable h =
      let a = passed (not (in_range g)) _ _ h in
      let b = passed (not (is_set g.number gs)) _ _ a.1 in
      record { range = not-false _ a.0; set = not-false _ b.0; clear = no_refusal _ b.1 }

  pub relocate_allowed : Relocatable gs g → relocate_refusal gs g ≡ None
  relocate_allowed m =
      let r = m.range in
      let s = m.set in
      let c = m.clear in
      rw (r, s, c)
