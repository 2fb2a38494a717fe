-- What a row holds, and what its edits answer and leave. Assumes nothing.
use Rattle.std.specs.Prelude.{ℕ, Bool, ◌&&◌, cond, List, length, take, nat_le, nat_lt, Some, None, Option}
use Rattle.std.specs.List.{insert}
use Rattle.rows.specs.declared.row.Row.{Row}

module _ {T : Type 0} where
  -- the items of a row, in order
  abbrev pub items_of : {n : ℕ} → Row T n → List T
  items_of r = take r.count r.cells

  -- the items of a row that was made, if one was
  abbrev pub items_made : {n : ℕ} → Option (Row T n) → Option (List T)
  items_made None = None
  items_made (Some r) = Some (items_of r)

  -- the items, if there are at most n
  abbrev pub fitting : ℕ → List T → Option (List T)
  fitting n xs = cond (nat_le (length xs) n) (Some xs) None

  -- one more item, at this index, has a place among at most n
  abbrev pub has_place : ℕ → List T → ℕ → Bool
  has_place n xs i = nat_lt (length xs) n && nat_le i (length xs)

  -- what putting in an item answers, and the items after it
  abbrev pub insert_answer : ℕ → List T → ℕ → Option Unit
  insert_answer n xs i = cond (has_place n xs i) (Some tt) None

  abbrev pub after_insert : ℕ → List T → ℕ → T → List T
  after_insert n xs i x = cond (has_place n xs i) (insert xs i x) xs
