-- The limits that a table holds, and how one is made. Assumes nothing.
use Rattle.std.specs.Prelude.{◌≡◌, ℕ, true, false, List, Ok, Err, Result}
use Rattle.rows.specs.Rows.{items_of}
use Rattle.steps.specs.declared.fault.StepFault.{StepFault}
use Rattle.steps.specs.declared.fault.StepFault.TheVariants.{BadLimits}
use Rattle.steps.specs.declared.limits.Limits.{Limits}
use Rattle.steps.specs.Limits.{lawful_limits, IsTable}

-- the limits of a table
abbrev pub limits_of : Limits → List ℕ
limits_of t = items_of t.limits

-- a table of these limits where they make one, and else a refusal
abbrev pub MadeFrom : Result Limits StepFault → List ℕ → Type 0
MadeFrom (Ok t) ls = (lawful_limits ls ≡ true) × (limits_of t ≡ ls)
MadeFrom (Err e) ls = (lawful_limits ls ≡ false) × (e ≡ BadLimits)

-- only the limits of a table are taken, and no such are refused
abbrev pub RightlyTaken : Result Limits StepFault → List ℕ → Type 0
RightlyTaken (Ok t) ls = IsTable ls
RightlyTaken (Err e) ls = IsTable ls → ⊥
