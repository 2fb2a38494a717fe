-- Orders as text. Assumes nothing.
use Rattle.std.specs.Prelude.{ℕ, List, ◌++◌, codes, decimal}
use Rattle.std.specs.Fmt.{signed_decimal}
use Rattle.orders.specs.declared.order.Order.{Order}
use Rattle.orders.specs.declared.order.Order.TheVariants.{Set, Lift, Move, PlanFor, PlanWithin}
use Rattle.orders.specs.declared.order.Place.{Place}

-- a place in decimal: gate, distance and height
abbrev pub place_text : Place → List ℕ
place_text p = decimal p.gate ++ (codes " " ++ (decimal p.distance ++ (codes " " ++ signed_decimal p.height)))

-- an order in words, its numbers in decimal
abbrev pub order_text : Order → List ℕ
order_text (Set p) = codes "set " ++ place_text p
order_text (Lift g) = codes "lift " ++ decimal g
order_text (Move p) = codes "move " ++ place_text p
order_text (PlanFor k) = codes "plan for " ++ decimal k
order_text (PlanWithin l) = codes "plan within " ++ decimal l
