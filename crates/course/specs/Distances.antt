-- Where gates stand, and how far apart. Assumes nothing.
use Rattle.std.specs.Prelude.{ℕ, ◌+◌, ◌*◌, ℤ, pos, ◌-ℤ◌, ◌*ℤ◌, unsigned_abs}
use Rattle.course.specs.declared.gate.Gate.{Gate}

-- a place: along the course, and up
pub record Place : Type 0 where
  pub along : ℤ
  pub up : ℤ

-- where a gate stands, in centimetres
abbrev pub place_of : Gate → Place
place_of g = record { along = pos g.distance; up = g.height }

-- the same place in units n times as small
abbrev pub scaled : ℕ → Place → Place
scaled n p = record { along = pos n *ℤ p.along; up = pos n *ℤ p.up }

abbrev pub square : ℤ → ℕ
square z = unsigned_abs z * unsigned_abs z

-- the squared distance of two places
abbrev pub squared_distance : Place → Place → ℕ
squared_distance a b = square (a.along -ℤ b.along) + square (a.up -ℤ b.up)

-- the squared distance of two gates
abbrev pub apart : Gate → Gate → ℕ
apart a b = squared_distance (place_of a) (place_of b)
