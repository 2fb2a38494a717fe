-- The place that a set and a move say. Assumes nothing.
use Rattle.std.specs.Prelude.{ℕ, ℤ}
use Rattle.orders.specs.declared.order.Place.{Place}

-- a gate at a distance and a height
abbrev pub place : ℕ → ℕ → ℤ → Place
place g d h = record { gate = g; distance = d; height = h }
