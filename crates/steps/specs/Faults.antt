-- The number of each fault. Assumes nothing.
use Rattle.std.specs.Prelude.{ℕ}
use Rattle.steps.specs.declared.fault.StepFault.{StepFault}
use Rattle.steps.specs.declared.fault.StepFault.TheVariants.{BadLimits}

-- limits that make no table
abbrev pub step_fault_number : StepFault → ℕ
step_fault_number BadLimits = 15
