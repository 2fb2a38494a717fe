-- The kinds of orders, and the numbers that stand for them. Assumes nothing.
use Rattle.std.specs.Prelude.{◌≡◌, ℕ, ◌<◌, Result, MatchResult}
use Rattle.orders.specs.declared.fault.OrderFault as faults
use Rattle.orders.specs.declared.kind.Kind.{Kind}
use Rattle.orders.specs.declared.kind.Kind.TheVariants as kinds
use Rattle.orders.specs.declared.order.Order.{Order}
use Rattle.orders.specs.declared.order.Order.TheVariants.{Set, Lift, Move, PlanFor, PlanWithin}

-- the number of a kind
abbrev pub code_of : Kind → ℕ
code_of kinds.Set = 0
code_of kinds.Lift = 1
code_of kinds.Move = 2
code_of kinds.PlanFor = 3
code_of kinds.PlanWithin = 4

-- the kind of an order
abbrev pub kind_of : Order → Kind
kind_of (Set p) = kinds.Set
kind_of (Lift g) = kinds.Lift
kind_of (Move p) = kinds.Move
kind_of (PlanFor k) = kinds.PlanFor
kind_of (PlanWithin l) = kinds.PlanWithin

-- the answer is the kind with this number, or the fault of a number that no kind has
abbrev pub Decodes : ℕ → Result Kind faults.OrderFault → Type 0
Decodes code r = MatchResult r (λ kind. code_of kind ≡ code) (λ e. (e ≡ faults.TheVariants.Kind code) × (4 < code))
