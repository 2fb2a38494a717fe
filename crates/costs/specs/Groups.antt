-- Spans and groups of the gates of a course, by their positions. Assumes nothing.
use Rattle.std.specs.Prelude.{ℕ, zero, suc, ◌-◌, ◌<◌, ◌≤◌, Bool, cond, ◌&&◌, List, [], ◌∷◌, length, Some, None, Option, nat_le}
use Rattle.course.specs.declared.gate.Gate.{Gate}

-- first to last is a span of the gates
abbrev pub is_span : List Gate → ℕ → ℕ → Bool
is_span gs first last = nat_le 1 first && (nat_le first last && nat_le last (length gs))

-- what is told of a span, and nothing where it is none
abbrev pub of_span : {A : Type 0} → List Gate → ℕ → ℕ → A → Option A
of_span gs first last a = cond (is_span gs first last) (Some a) None

-- this holds of what is told, if anything is
abbrev pub Told : {A : Type 0} → Option A → (A → Type 0) → Type 0
Told None P = Unit {0}
Told (Some a) P = P a

-- n positions from p on
unfoldable pub positions : ℕ → ℕ → List ℕ
positions p zero = []
positions p (suc n) = p ∷ positions (suc p) n

-- the positions of a span
abbrev pub span : ℕ → ℕ → List ℕ
span first last = positions first (suc last - first)

-- p and the positions after it rise, and none is past n
unfoldable pub Rise : ℕ → ℕ → List ℕ → Type 0
Rise n p [] = p ≤ n
Rise n p (q ∷ qs) = (p < q) × Rise n q qs

-- a group of the gates of a course that has n of them: its positions from the top down, at least one
unfoldable pub Group : ℕ → List ℕ → Type 0
Group n [] = ⊥
Group n (p ∷ ps) = (1 ≤ p) × Rise n p ps

-- the position of a group's topmost gate
abbrev pub topmost : List ℕ → ℕ
topmost [] = 0
topmost (p ∷ ps) = p

-- the last of p and the positions after it
unfoldable pub last_from : ℕ → List ℕ → ℕ
last_from p [] = p
last_from p (q ∷ qs) = last_from q qs

-- the position of a group's lowest gate
abbrev pub lowest : List ℕ → ℕ
lowest [] = 0
lowest (p ∷ ps) = last_from p ps

-- this holds of every group of the gates
abbrev pub EveryGroup : List Gate → (List ℕ → Type 0) → Type 0
EveryGroup gs P = (ps : List ℕ) → Group (length gs) ps → P ps
