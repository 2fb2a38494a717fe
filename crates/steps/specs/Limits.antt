-- Lists of limits, and which of them make a table. Limits count from 1. Assumes nothing.
use Rattle.std.specs.Prelude.{◌≡◌, ℕ, ◌-◌, ◌<◌, ◌≤◌, Bool, true, ◌&&◌, List, [], ◌∷◌, length, nat_le, nat_lt, slice_index}
use Rattle.std.specs.List.{list_all}

-- the limit with this number
abbrev pub limit_at : List ℕ → ℕ → ℕ
limit_at ls i = slice_index ls (i - 1)

-- a limit is from 1 to 8,796,093,022,207
abbrev pub in_range : ℕ → Bool
in_range l = nat_le 1 l && nat_le l 8796093022207

-- every limit is in range
abbrev pub all_in_range : List ℕ → Bool
all_in_range ls = list_all in_range ls

-- each limit is greater than the one before
unfoldable pub rises : List ℕ → Bool
rises [] = true
rises (l ∷ []) = true
rises (l ∷ m ∷ ls) = nat_lt l m && rises (m ∷ ls)

-- there are 1 to 8 limits
abbrev pub count_fits : List ℕ → Bool
count_fits ls = nat_le 1 (length ls) && nat_le (length ls) 8

-- the limits make a table
abbrev pub lawful_limits : List ℕ → Bool
lawful_limits ls = count_fits ls && (all_in_range ls && rises ls)

-- every limit is in range, by its number
abbrev pub Ranged : List ℕ → Type 0
Ranged ls = (i : ℕ) → (1 ≤ i) × (i ≤ length ls) → in_range (limit_at ls i) ≡ true

-- every limit is smaller than all that come after it
abbrev pub Rising : List ℕ → Type 0
Rising ls = (i j : ℕ) → (1 ≤ i) × (i < j) × (j ≤ length ls) → limit_at ls i < limit_at ls j

-- what the limits of a table are like
pub record IsTable (ls : List ℕ) : Type 0 where
  pub some : 1 ≤ length ls
  pub few : length ls ≤ 8
  pub ranged : Ranged ls
  pub rising : Rising ls
