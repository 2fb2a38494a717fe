-- The greatest and the least value of a function at some positions. Assumes nothing.
use Rattle.std.specs.Prelude.{ℕ, min, max, cond, List, [], ◌∷◌, nat_le}

-- the greatest value of f at one of the positions
unfoldable pub greatest : (ℕ → ℕ) → List ℕ → ℕ
greatest f [] = 0
greatest f (p ∷ ps) = max (f p) (greatest f ps)

-- the least value of f at one of the positions
unfoldable pub least : (ℕ → ℕ) → List ℕ → ℕ
least f [] = 0
least f (p ∷ []) = f p
least f (p ∷ q ∷ ps) = min (f p) (least f (q ∷ ps))

-- the first of the positions at which f has its least value
unfoldable pub first_least : (ℕ → ℕ) → List ℕ → ℕ
first_least f [] = 0
first_least f (p ∷ []) = p
first_least f (p ∷ q ∷ ps) = cond (nat_le (f p) (least f (q ∷ ps))) p (first_least f (q ∷ ps))
