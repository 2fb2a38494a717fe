-- What an edit does to the gates, said without their places. Assumes nothing.
use Rattle.std.specs.Prelude.{◌≡◌, ℕ, List, ◌∷◌, Ok, Err, Result}
use Rattle.std.specs.List.Sorted.{IsPermutation}
use Rattle.course.specs.declared.gate.Gate.{Gate}
use Rattle.course.specs.declared.refusal.Refusal.{Refusal}
use Rattle.course.specs.Gates.{IsCourse}

-- the gates after are a course: the gates before and g, in some order
pub record OneMore (g : Gate) (before after : List Gate) : Type 0 where
  pub course : IsCourse after
  pub gates : IsPermutation (g ∷ before) after

-- the gates after are a course: the gates before but for one, which had the number
pub record OneLess (n : ℕ) (before after : List Gate) : Type 0 where
  pub course : IsCourse after
  pub gone : Gate
  pub number : gone.number ≡ n
  pub gates : IsPermutation (gone ∷ after) before

-- some gate with the number of g went, and g came
pub record Replaced (g : Gate) (before after : List Gate) : Type 0 where
  pub others : List Gate
  pub went : OneLess g.number before others
  pub came : OneMore g others after

-- where an edit is refused, there is no list of gates that it could leave
abbrev pub RefusedRightly : Result Unit Refusal → (List Gate → Type 0) → Type 0
RefusedRightly (Ok _) could = Unit {0}
RefusedRightly (Err r) could = (after : List Gate) → could after → ⊥
