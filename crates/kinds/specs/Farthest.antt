-- The two ends of a group are the farthest from any gate between them. Assumes nothing.
use Rattle.std.specs.Prelude.{◌≡◌, ℕ, ◌<◌, ◌≤◌, max, List, [], ◌∷◌, length}
use Rattle.std.proofs.Common.{⊎_elim, arith}
use Rattle.std.proofs.lemmas.Bool.Decides.{leb_tells}
use Rattle.course.specs.declared.gate.Gate.{Gate}
use Rattle.course.specs.Gates.{IsCourse, gate_at}
use Rattle.course.proofs.Order.{lies_under, lies_nearer}
use Rattle.course.proofs.Squares.{apart_sym, apart_within, apart_strictly_within}
use Rattle.costs.specs.Groups.{span, Group, topmost, last_from, lowest}
use Rattle.kinds.specs.GateMast.{between, farthest}
use Rattle.kinds.specs.Greatest.{greatest_bounded, greatest_first, greatest_last}
use Rattle.costs.proofs.Spans.{rise_within, span_group, span-topmost, span-lowest}

-- the greatest squared distance from the gate at a position to a gate of a span
abbrev pub far_in : List Gate → ℕ → ℕ → ℕ → ℕ
far_in gs i j y = farthest gs y (span i j)

module _ (gs : List Gate) where
  module _ (k : IsCourse gs) where
    -- two gates between two others are no farther apart
    pub between_within : (a b c d : ℕ) → 1 ≤ a → a ≤ b → b ≤ c → c ≤ d → d ≤ length gs → between gs b c ≤ between gs a d
    between_within a b c d h i j l m =
        apart_within (gate_at gs a) (gate_at gs b) (gate_at gs c) (gate_at gs d) (lies_under gs k a b h i (omega arith)) (lies_under gs k b c (omega arith) j (omega arith)) (lies_under gs k c d (omega arith) l m)

    -- the lower of two gates is nearer to one below them
    pub between_falls : (a b c : ℕ) → 1 ≤ a → a < b → b ≤ c → c ≤ length gs → between gs b c < between gs a c
    between_falls a b c h i j m =
        let n = lies_nearer gs k a b h i (omega arith) in
        apart_strictly_within (gate_at gs a) (gate_at gs b) (gate_at gs c) (gate_at gs c) (lies_under gs k a b h (omega arith) (omega arith)) (lies_under gs k b c (omega arith) j m) (lies_under gs k c c (omega arith) (omega arith) m) (omega arith)

    -- from a gate between i and j, none between i and j is farther than both of these
    pub to_an_end : (i j y q : ℕ) → 1 ≤ i → i ≤ y → y ≤ j → i ≤ q → q ≤ j → j ≤ length gs → between gs y q ≤ max (between gs i y) (between gs y j)
    to_an_end i j y q h a b c d m =
        ⊎_elim
        (λ l. let e = apart_sym (gate_at gs y) (gate_at gs q) in let f = between_within i q y y h c l.1 (omega arith) (omega arith) in omega arith)
        (λ l. let f = between_within y y q j (omega arith) (omega arith) (omega arith) d m in omega arith)
        (leb_tells q y)

    -- the farthest of a group is its topmost or its lowest
    pub farthest_end : (ps : List ℕ) (y : ℕ) → Group (length gs) ps → topmost ps ≤ y → y ≤ lowest ps → farthest gs y ps ≡ max (between gs (topmost ps) y) (between gs y (lowest ps))
    unfolding Group
    farthest_end [] y h a b = absurd h
    farthest_end (p ∷ ps) y h a b =
        let m = rise_within (length gs) p ps h.1 in
        let e = apart_sym (gate_at gs p) (gate_at gs y) in
        let l = greatest_last (between gs y) p ps in
        let f = greatest_first (between gs y) p ps in
        let u = greatest_bounded (between gs y) (length gs) (max (between gs p y) (between gs y (last_from p ps))) p ps h.1 (λ q i j. to_an_end p (last_from p ps) y q h.0 a b i j m.1) in
        omega arith

    -- and so in a span
    pub span-farthest : (i j y : ℕ) → 1 ≤ i → i ≤ y → y ≤ j → j ≤ length gs → far_in gs i j y ≡ max (between gs i y) (between gs y j)
    span-farthest i j y h a b m =
        let t = span-topmost i j (omega arith) in
        let l = span-lowest i j (omega arith) in
        let e = farthest_end (span i j) y (span_group (length gs) i j h (omega arith) m) (omega arith) (omega arith) in
        rw (t, l) at e
