-- How squared distances of gates grow. Assumes nothing.
use Rattle.std.proofs.Common.{◌≡◌, ℕ, ◌+◌, ◌*◌, ◌^◌, ◌<◌, ◌≤◌, ℤ, pos, negsuc, ◌-ℤ◌, ◌*ℤ◌, nat_abs, refl, add-le-add, mul-le-mul, mul-lt-mul_of_pos_right, arith}
use Rattle.std.proofs.lemmas.Int.{ints}
use Rattle.course.specs.declared.gate.Gate.{Gate}
use Rattle.course.specs.Distances.{square, apart}
use Rattle.course.proofs.Order.{Under, Bounded}

pub square_grows : (y z : ℤ) → nat_abs y ≤ nat_abs z → square y ≤ square z
square_grows y z h = mul-le-mul h h

pub own_square : (z : ℤ) → z *ℤ z ≡ pos (square z)
own_square (pos n) = refl
own_square (negsuc n) = refl

pub square_small : (z : ℤ) → nat_abs z < 2 ^ 20 → square z < 2 ^ 40
square_small z h = let k : nat_abs z ≤ 1048575 = omega arith in omega (arith, mul-le-mul k k)

pub apart_sym : (a b : Gate) → apart a b ≡ apart b a
apart_sym a b =
    let d : nat_abs (pos a.distance -ℤ pos b.distance) ≡ nat_abs (pos b.distance -ℤ pos a.distance) = omega (arith, ints) in
    let h : nat_abs (a.height -ℤ b.height) ≡ nat_abs (b.height -ℤ a.height) = omega (arith, ints) in
    rw (d, h)

-- two gates between two others are no further apart
pub apart_within : (a b c d : Gate) → Under a b → Under b c → Under c d → apart b c ≤ apart a d
apart_within a b c d h k l =
    add-le-add
    (square_grows (pos b.distance -ℤ pos c.distance) (pos a.distance -ℤ pos d.distance) (omega (arith, ints)))
    (square_grows (b.height -ℤ c.height) (a.height -ℤ d.height) (omega (arith, ints)))

square_rises : (m n : ℕ) → m < n → m * m < n * n
square_rises m n h =
    let l : m ≤ n = omega arith in
    let k : m ≤ m = omega arith in
    let z : 0 < n = omega arith in
    omega (arith, mul-le-mul k l, mul-lt-mul_of_pos_right h z)

-- and strictly less far where one of them is strictly between
pub apart_strictly_within : (a b c d : Gate) → Under a b → Under b c → Under c d → a.distance + c.distance < b.distance + d.distance → apart b c < apart a d
apart_strictly_within a b c d h k l m =
    let near = square_rises (nat_abs (pos b.distance -ℤ pos c.distance)) (nat_abs (pos a.distance -ℤ pos d.distance)) (omega (arith, ints)) in
    let low = square_grows (b.height -ℤ c.height) (a.height -ℤ d.height) (omega (arith, ints)) in
    omega (arith, near, low)

pub apart_small : (a b : Gate) → Bounded a → Bounded b → apart a b < 2 ^ 41
apart_small a b h k =
    omega (arith, square_small (pos a.distance -ℤ pos b.distance) (omega (arith, ints)), square_small (a.height -ℤ b.height) (omega (arith, ints)))
