-- The order at the front of a list of bytes. Assumes nothing.
use Rattle.std.specs.Prelude.{ℕ, ◌+◌, ◌-◌, ◌*◌, ◌/◌, ◌^◌, cond, List, [], ◌∷◌, length, drop, ℤ, pos, negsuc, Ok, Err, Result, ◌==◌, nat_lt}
use Rattle.std.specs.Borrow.{Bor}
use Rattle.orders.specs.declared.fault.BitFault.TheVariants.{Ends}
use Rattle.orders.specs.declared.fault.OrderFault.{OrderFault}
use Rattle.orders.specs.declared.fault.OrderFault.TheVariants.{Bits, Kind, Padding}
use Rattle.orders.specs.declared.order.Order.{Order}
use Rattle.orders.specs.declared.order.Order.TheVariants.{Set, Lift, Move, PlanFor, PlanWithin}
use Rattle.orders.specs.declared.order.Place.{Place}
use Rattle.orders.specs.Bits.{field_at}
use Rattle.orders.specs.Places.{place}

-- the integer that 20 bits are in two's complement: n below 2 ^ 19, and n - 2 ^ 20 from there on (`negsuc m` is -(m + 1))
abbrev pub signed : ℕ → ℤ
signed n = cond (nat_lt n (2 ^ 19)) (pos n) (negsuc (2 ^ 20 - 1 - n))

-- the kind of an order that begins at bit 0: its top three bits
abbrev pub kind_in : List ℕ → ℕ
kind_in bs = field_at bs 0 3

-- the gate of a set, a lift or a move
abbrev pub gate_in : List ℕ → ℕ
gate_in bs = field_at bs 3 8

-- the distance of a set or a move
abbrev pub distance_in : List ℕ → ℕ
distance_in bs = field_at bs 11 20

-- the height of a set or a move
abbrev pub height_in : List ℕ → ℤ
height_in bs = signed (field_at bs 31 20)

-- what a set or a move says
abbrev pub place_in : List ℕ → Place
place_in bs = place (gate_in bs) (distance_in bs) (height_in bs)

-- the zones of a plan for
abbrev pub zones_in : List ℕ → ℕ
zones_in bs = field_at bs 3 6

-- the limit of a plan within
abbrev pub limit_in : List ℕ → ℕ
limit_in bs = field_at bs 3 43

-- how many bits the kind and the fields of an order of kind k, one of 0 to 4, take
abbrev pub width_of : ℕ → ℕ
width_of k = cond (k == 1) 11 (cond (k == 3) 9 (cond (k == 4) 46 51))

-- the order of kind k, one of 0 to 4
abbrev pub order_of : ℕ → List ℕ → Order
order_of k bs =
    cond (k == 0) (Set (place_in bs))
    (cond (k == 1) (Lift (gate_in bs))
    (cond (k == 2) (Move (place_in bs))
    (cond (k == 3) (PlanFor (zones_in bs)) (PlanWithin (limit_in bs)))))

-- the order of kind k, whatever its padding, or the fault of its kind or its length
abbrev pub fields_read : ℕ → List ℕ → Result Order OrderFault
fields_read k bs = cond (nat_lt 4 k) (Err (Kind k)) (cond (nat_lt (8 * length bs) (width_of k)) (Err (Bits Ends)) (Ok (order_of k bs)))

-- how many whole bytes w bits take
abbrev pub whole_bytes : ℕ → ℕ
whole_bytes w = (w + 7) / 8

-- how many bits of padding follow w bits
abbrev pub padding_after : ℕ → ℕ
padding_after w = 8 * whole_bytes w - w

-- the padding after w bits, as a number
abbrev pub padding_in : ℕ → List ℕ → ℕ
padding_in w bs = field_at bs w (padding_after w)

-- an order of w bits and the bytes after it, or the fault of its padding
abbrev pub with_rest : ℕ → List ℕ → Result Order OrderFault → Result (Order × List ℕ) OrderFault
with_rest w bs (Err e) = Err e
with_rest w bs (Ok o) = cond (padding_in w bs == 0) (Ok (o, drop (whole_bytes w) bs)) (Err Padding)

-- the first order and the bytes after it, or the fault; of several faults the one with the smallest number
abbrev pub read : List ℕ → Result (Order × List ℕ) OrderFault
read [] = Err (Bits Ends)
read (b ∷ bs) = with_rest (width_of (kind_in (b ∷ bs))) (b ∷ bs) (fields_read (kind_in (b ∷ bs)) (b ∷ bs))

-- an answer with a slice in it, the slice as the list that it points to
abbrev pub plain : {X Y E : Type 0} → Result (X × Bor Y) E → Result (X × Y) E
plain (Ok p) = Ok (p.0, p.1.now)
plain (Err e) = Err e
