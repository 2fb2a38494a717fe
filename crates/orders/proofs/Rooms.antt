-- A `try_fold` that takes the size of each order off the room. Assumes nothing.
use Rattle.std.proofs.Common.{◌≡◌, ℕ, zero, suc, ◌+◌, ◌-◌, ◌<◌, ◌≤◌, List, [], ◌∷◌, map, length, take, drop, Some, None, Option, ControlFlow, sym, refl, ap, ◌∙◌, arith}
use Rattle.std.proofs.Math.Nat.{lt_of_not-le}
use Rattle.std.proofs.lemmas.Bool.{lt-leb, le-leb}
use Rattle.std.proofs.lemmas.Iterator.{YieldsList}
use Rattle.std.proofs.lemmas.Iterator.Consumers.{YieldsList-so_far, YieldsList-turn, YieldsList-end}
use Rattle.std.specs.ControlFlow.{continue_value}
use Rattle.std.specs.Borrow.{Bor}
use Rattle.std.specs.Fn.{Called}
use Rattle.std.specs.Iterator.{TryFoldTurn, TryFoldsItems, Yields}
use Rattle.std.specs.List.{FoldsTo}
use Rattle.std.specs.Option.{MatchOption, SomeIff}
use Rattle.std.specs.Prelude.{is_some, nat_le}
use denote.Param.Members.{Mut}
use Rattle.orders.specs.declared.order.Order.{Order}
use Rattle.orders.specs.Writing.{size_of, size_all}
use Rattle.orders.proofs.WriterLoops.{size_more}

size_split : (n : ℕ) (os : List Order) → size_all (take n os) + size_all (drop n os) ≡ size_all os
size_split zero os = omega arith
size_split (suc n) [] = omega arith
size_split (suc n) (o ∷ os) = omega (arith, size_split n os)

module _ {F : Type 0} {g : Mut F (ℕ × (Bor Order × Unit {0})) (Option ℕ)} {f : F} (acts : (b : ℕ) (x : Bor Order) (v : Option ℕ) (q : F) → Called g f (b, (x, tt)) v q → (q ≡ f) × SomeIff v (size_of x.now ≤ b) (b - size_of x.now)) where
  -- a turn that went on
  turned : (E : Type 0) (x : Bor Order) (p q : F × ℕ) → p.0 ≡ f → TryFoldTurn {E = E} g (λ s r. s ≡ continue_value r) p x q → (q.0 ≡ f) × (size_of x.now + q.1 ≡ p.1)
  turned E x p q e h =
      let called : Called g f (p.1, (x, tt)) h.0 q.0 = rw e at h.1 in
      let says = acts p.1 x h.0 q.0 called in
      let some : SomeIff (Some q.1) (size_of x.now ≤ p.1) (p.1 - size_of x.now) = rw h.2 at says.1 in
      (says.0, omega (arith, some.0, some.1))

  taken : (E : Type 0) (xs : List (Bor Order)) (p q : F × ℕ) → p.0 ≡ f → FoldsTo {P = F × ℕ} (TryFoldTurn {E = E} g (λ s r. s ≡ continue_value r)) p xs q → (q.0 ≡ f) × (size_all (map (λ x. x.now) xs) + q.1 ≡ p.1)
  taken E [] p q e h = (sym (ap (λ (r : F × ℕ). r.0) h) ∙ e, omega (arith, ap (λ (r : F × ℕ). r.1) h))
  taken E (x ∷ xs) p q e h =
      let t = turned E x p h.0 e h.1 in
      let rest = taken E xs h.0 q t.0 h.2 in
      (rest.0, omega (arith, t.1, rest.1))

  module _ {S : Type 0} {steps : S → Option (Bor Order) → S → Type 0} {s : S} {os : List Order} (road : YieldsList steps (λ x. x.now) s os) where
    tried_by : (E : Type 0) (o : Option (Bor Order)) (xs : List (Bor Order)) (t u : S) (q : F) (a room : ℕ) (r : Option ℕ) → Yields steps s xs t → steps t o u → q ≡ f → size_all (map (λ x. x.now) xs) + a ≡ room → MatchOption o (r ≡ Some a) (λ x. (v : Option ℕ) × (h : F) × E × Called g q (a, (x, tt)) v h × (v ≡ None) × (r ≡ None)) → is_some r ≡ nat_le (size_all os) room
    tried_by E None xs t u q a room r y st same left m =
        let end = YieldsList-end road xs t y None u refl st in
        let all = ap size_all end.0 in
        rw m (sym (le-leb _ _ (omega arith)))
    tried_by E (Some x) xs t u q a room r y st same left m =
        let here = YieldsList-turn road xs t y (Some x) u x refl st in
        let front = ap size_all (YieldsList-so_far road xs t y) in
        let called : Called g f (a, (x, tt)) m.0 m.1 = rw same at m.3 in
        let no : SomeIff None (size_of x.now ≤ a) (a - size_of x.now) = rw m.4 at (acts a x m.0 m.1 called).1 in
        let above : a < size_of x.now = lt_of_not-le no in
        rw m.5 (sym (lt-leb _ _ (omega (arith, size_split (length xs) os, size_more os (length xs) x.now (size_of x.now) here.0 (ap size_of here.1)))))

    -- so it ends with a room exactly where the orders have enough
    pub room_tried : {E : Type 0} (u : S) (room : ℕ) (r : Option ℕ) → TryFoldsItems steps g (λ s (r : ControlFlow E ℕ). s ≡ continue_value r) (λ (_ : E) r. r ≡ None) s f room r u → is_some r ≡ nat_le (size_all os) room
    room_tried {E} u room r h =
        let t = taken E h.0 (f, room) (h.2, h.3) refl h.5 in
        tried_by E h.1 h.0 h.4.0 u h.2 h.3 room r h.4.1 h.4.2 t.0 t.1 h.6
