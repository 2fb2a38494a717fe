-- How long trenches are. Assumes nothing.
use Rattle.std.specs.Prelude.{◌^◌, ◌<◌, ◌≤◌}
use Rattle.std.proofs.Common.{arith}
use Rattle.std.proofs.lemmas.Int.{ints}
use Rattle.course.specs.declared.gate.Gate.{Gate}
use Rattle.course.proofs.Order.{Under, Bounded}
use Rattle.kinds.specs.Trench.{trench}

-- one between two gates of another is no longer
pub trench_within : (a b c d : Gate) → Under a b → Under b c → Under c d → trench b c ≤ trench a d
trench_within a b c d h k l = omega (arith, ints)

pub trench_small : (a b : Gate) → Bounded a → Bounded b → trench a b < 2 ^ 21
trench_small a b h k = omega (arith, ints)
