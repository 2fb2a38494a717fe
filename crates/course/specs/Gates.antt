-- Gates, and what a course is. Positions count from 1 at the top. Assumes nothing.
use Rattle.std.specs.Prelude.{◌≡◌, ℕ, ◌-◌, ◌<◌, ◌≤◌, Bool, true, ◌&&◌, ◌||◌, List, length, pos, negsuc, ◌≢◌, int_le, int_lt, nat_le, nat_lt, slice_index_or}
use Rattle.course.specs.declared.gate.Gate.{Gate}

-- what a list of gates is read as where it has no gate
abbrev pub no_gate : Gate
no_gate = record { number = 0; distance = 0; height = pos 0 }

-- the gate at a position
abbrev pub gate_at : List Gate → ℕ → Gate
gate_at gs p = slice_index_or gs (p - 1) no_gate

-- distance and height, in centimetres, are those of a course: 0 to 1,048,575 and −524,288 to 524,287
abbrev pub in_range : Gate → Bool
in_range g = nat_le g.distance 1048575 && (int_le (negsuc 524287) g.height && int_le g.height (pos 524287))

-- a gate is above another: nearer the start, and higher
abbrev pub above : Gate → Gate → Bool
above a b = nat_lt a.distance b.distance && int_lt b.height a.height

-- one of two gates is above the other
abbrev pub ordered : Gate → Gate → Bool
ordered a b = above a b || above b a

-- every gate is in range
abbrev pub Ranged : List Gate → Type 0
Ranged gs = (p : ℕ) → (1 ≤ p) × (p ≤ length gs) → in_range (gate_at gs p) ≡ true

-- no two gates have the same number
abbrev pub Distinct : List Gate → Type 0
Distinct gs = (p q : ℕ) → (1 ≤ p) × (p < q) × (q ≤ length gs) → (gate_at gs p).number ≢ (gate_at gs q).number

-- every gate is above all that come after it
abbrev pub Descends : List Gate → Type 0
Descends gs = (p q : ℕ) → (1 ≤ p) × (p < q) × (q ≤ length gs) → above (gate_at gs p) (gate_at gs q) ≡ true

-- a course, from the top down
pub record IsCourse (gs : List Gate) : Type 0 where
  pub few : length gs ≤ 200
  pub ranged : Ranged gs
  pub distinct : Distinct gs
  pub descends : Descends gs
