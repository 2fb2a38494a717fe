-- What a trench along a group of gates costs. Assumes nothing.
use Rattle.std.specs.Prelude.{ℕ, ◌+◌, List, pos, ◌-ℤ◌, unsigned_abs}
use Rattle.course.specs.declared.gate.Gate.{Gate}
use Rattle.course.specs.Gates.{gate_at}
use Rattle.costs.specs.Groups.{topmost, lowest}

-- from one gate to another: the difference of their distances and that of their heights
abbrev pub trench : Gate → Gate → ℕ
trench a b = unsigned_abs (pos b.distance -ℤ pos a.distance) + unsigned_abs (a.height -ℤ b.height)

-- the group's cost: from its topmost gate to its lowest
abbrev pub trench_group : List Gate → List ℕ → ℕ
trench_group gs ps = trench (gate_at gs (topmost ps)) (gate_at gs (lowest ps))

-- the span's cost: from its first gate to its last
abbrev pub trench_span : List Gate → ℕ → ℕ → ℕ
trench_span gs first last = trench (gate_at gs first) (gate_at gs last)
