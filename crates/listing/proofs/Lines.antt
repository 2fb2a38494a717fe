-- The lines of what is left of a stream. Assumes nothing.
use Rattle.std.proofs.Common.{◌≡◌, ℕ, ◌+◌, List, [], ◌∷◌, ◌++◌, take, drop, Some, sym, refl, ap, ◌∙◌, arith}
use Rattle.std.proofs.lemmas.List.{append_assoc, drop_at, take_at}
use Rattle.std.specs.Int.Digits.{AllBelowBase}
use Rattle.orders.specs.declared.iter.Orders.{Orders}
use Rattle.orders.specs.declared.order.Order.{Order}
use Rattle.orders.specs.Iter.{GivesNext}
use Rattle.orders.specs.Streams.{parse, count_answer}
use Rattle.orders.specs.Writing.{encode, encode_all, size_of, size_all}
use Rattle.orders.proofs.Fitting.{length-encode, length-encode_all}
use Rattle.orders.proofs.Streams.{parse_more, splits}
use Rattle.listing.specs.Listing.{order_line, order_lines, closing_line, full_listing, EachStands}

-- one more line, of the next order
pub lines_more : {all more : List ℕ} (text : List ℕ) (s t : Orders) (x : ℕ × Order) → more ≡ text ++ order_line x.0 x.1 → GivesNext s (Some x) t → text ++ order_lines s.byte (parse s.rest.now).orders ≡ all → more ++ order_lines t.byte (parse t.rest.now).orders ≡ all
lines_more {all} {more} text s t x e h so_far =
    let rest : List ℕ = order_lines t.byte (parse t.rest.now).orders in
    let next : order_lines s.byte (parse s.rest.now).orders ≡ order_line x.0 x.1 ++ rest =
    ap (λ p. order_lines s.byte p.orders) (parse_more s.rest.now x.1 t.rest.now h.order)
    ∙ ap (λ n. order_line s.byte x.1 ++ order_lines n (parse t.rest.now).orders) (sym h.byte)
    ∙ ap (λ n. order_line n x.1 ++ rest) (sym h.begins)
    in
    ap (λ l. l ++ rest) e ∙ append_assoc text (order_line x.0 x.1) rest ∙ ap (λ l. text ++ l) (sym next) ∙ so_far

-- the lines and the bytes of orders after others
lines_append : (at : ℕ) (xs ys : List Order) → order_lines at (xs ++ ys) ≡ order_lines at xs ++ order_lines (at + size_all xs) ys
lines_append at [] ys = ap (λ n. order_lines n ys) (omega arith)
lines_append at (x ∷ xs) ys =
    let next : (at + size_of x) + size_all xs ≡ at + (size_of x + size_all xs) = omega arith in
    ap (λ l. order_line at x ++ l) (lines_append (at + size_of x) xs ys ∙ ap (λ n. order_lines (at + size_of x) xs ++ order_lines n ys) next)
    ∙ sym (append_assoc (order_line at x) (order_lines (at + size_of x) xs) _)

encode-append : (xs ys : List Order) → encode_all (xs ++ ys) ≡ encode_all xs ++ encode_all ys
encode-append [] ys = refl
encode-append (x ∷ xs) ys = ap (λ l. encode x ++ l) (encode-append xs ys) ∙ sym (append_assoc (encode x) (encode_all xs) (encode_all ys))

-- an order's bytes, in a stream that begins with the bytes of orders
bytes_at : (xs : List Order) (o : Order) (ys : List Order) (rest bs : List ℕ) → encode_all (xs ++ o ∷ ys) ++ rest ≡ bs → take (size_of o) (drop (size_all xs) bs) ≡ encode o
bytes_at xs o ys rest bs e =
    let behind : List ℕ = encode_all ys ++ rest in
    let split : encode_all xs ++ (encode o ++ behind) ≡ bs =
    ap (λ l. encode_all xs ++ l) (sym (append_assoc (encode o) (encode_all ys) rest))
    ∙ sym (append_assoc (encode_all xs) (encode o ++ encode_all ys) rest)
    ∙ ap (λ l. l ++ rest) (sym (encode-append xs (o ∷ ys)))
    ∙ e
    in
    ap (λ l. take (size_of o) (drop (size_all xs) l)) (sym split)
    ∙ ap (take (size_of o)) (drop_at (encode_all xs) (encode o ++ behind) (size_all xs) (length-encode_all xs))
    ∙ take_at (encode o) behind (size_of o) (length-encode o)

pub each_stands : (bs : List ℕ) → AllBelowBase 256 bs → EachStands bs (full_listing bs)
each_stands bs u xs o ys e =
    let s = splits bs u in
    let tail : List ℕ = order_lines (size_all xs + size_of o) ys in
    record {
      below = tail ++ closing_line (count_answer bs);
      line =
          ap (λ os. order_lines 0 os ++ closing_line (count_answer bs)) e
          ∙ ap (λ l. l ++ closing_line (count_answer bs)) (lines_append 0 xs (o ∷ ys) ∙ ap (λ n. order_lines 0 xs ++ order_lines n (o ∷ ys)) (omega arith))
          ∙ append_assoc (order_lines 0 xs) (order_line (size_all xs) o ++ tail) _
          ∙ ap (λ l. order_lines 0 xs ++ l) (append_assoc (order_line (size_all xs) o) tail _);
      bytes = bytes_at xs o ys s.rest bs (ap (λ os. encode_all os ++ s.rest) (sym e) ∙ s.front.bytes);
    }
