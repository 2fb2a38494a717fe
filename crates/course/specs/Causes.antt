-- When each refusal of an edit holds, and which is told. Assumes nothing.
use Rattle.std.specs.Prelude.{◌≡◌, ℕ, ◌<◌, ◌≤◌, false, List, length, Ok, Err, Result}
use Rattle.course.specs.declared.gate.Gate.{Gate}
use Rattle.course.specs.declared.refusal.Refusal.{Refusal}
use Rattle.course.specs.declared.refusal.Refusal.TheVariants.{OutOfRange, AlreadySet, NotSet, Full, Beside}
use Rattle.course.specs.Gates.{gate_at, in_range, ordered}
use Rattle.course.specs.Edits.{refusal_number}

-- the gate at a position has the number
pub record Numbered (n : ℕ) (gs : List Gate) : Type 0 where
  pub position : ℕ
  pub counted : (1 ≤ position) × (position ≤ length gs)
  pub number : (gate_at gs position).number ≡ n

-- the gate at p is another than g, and neither above nor below g
pub record BesideAt (gs : List Gate) (g : Gate) (p : ℕ) : Type 0 where
  pub counted : (1 ≤ p) × (p ≤ length gs)
  pub other : (gate_at gs p).number ≡ g.number → ⊥
  pub unordered : ordered (gate_at gs p) g ≡ false

-- the topmost such gate has the number n
pub record TopmostBeside (gs : List Gate) (g : Gate) (n : ℕ) : Type 0 where
  pub position : ℕ
  pub there : BesideAt gs g position
  pub number : (gate_at gs position).number ≡ n
  pub none_above : (p : ℕ) → p < position → BesideAt gs g p → ⊥

-- what speaks against adding a gate
abbrev pub add_cause : List Gate → Gate → Refusal → Type 0
add_cause gs g OutOfRange = in_range g ≡ false
add_cause gs g AlreadySet = Numbered g.number gs
add_cause gs g NotSet = ⊥
add_cause gs g Full = 200 ≤ length gs
add_cause gs g (Beside n) = TopmostBeside gs g n

-- what speaks against removing a gate
abbrev pub remove_cause : List Gate → ℕ → Refusal → Type 0
remove_cause gs n OutOfRange = ⊥
remove_cause gs n AlreadySet = ⊥
remove_cause gs n NotSet = Numbered n gs → ⊥
remove_cause gs n Full = ⊥
remove_cause gs n (Beside m) = ⊥

-- what speaks against giving a gate a new place
abbrev pub relocate_cause : List Gate → Gate → Refusal → Type 0
relocate_cause gs g OutOfRange = in_range g ≡ false
relocate_cause gs g AlreadySet = ⊥
relocate_cause gs g NotSet = Numbered g.number gs → ⊥
relocate_cause gs g Full = ⊥
relocate_cause gs g (Beside n) = TopmostBeside gs g n

-- an edit is done where no cause holds; the cause told holds, and none with a smaller number
abbrev pub SmallestCause : (Refusal → Type 0) → Result Unit Refusal → Type 0
SmallestCause cause (Ok _) = (r : Refusal) → cause r → ⊥
SmallestCause cause (Err r) = cause r × ((s : Refusal) → refusal_number s < refusal_number r → cause s → ⊥)
