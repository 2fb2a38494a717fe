-- The gates of a span by their indices. Assumes nothing.
use Rattle.std.proofs.Common.{◌≡◌, ℕ, ◌+◌, ◌-◌, ◌<◌, true, List, length, get_or, drop, ap, ◌∙◌, arith, length-take, length-drop}
use Rattle.std.specs.Prelude.{slice_range}
use Rattle.std.proofs.lemmas.List.{get_or-take, get_or-drop, get_or_default}
use Rattle.course.specs.declared.gate.Gate.{Gate}
use Rattle.course.specs.Gates.{gate_at, in_range, no_gate}
use Rattle.costs.specs.declared.span.Span.{Span}
use Rattle.costs.proofs.Spans.{within}

module _ (s : Span) where
  -- from the top down
  abbrev gates : List Gate
  gates = slice_range s.gates.now (s.first - 1) s.last

  -- how many there are
  pub gate_count : s.first + length gates ≡ s.last + 1
  gate_count = let w = within s.gates.now s.first s.last s.a_span in simp (length-take, length-drop) (omega arith)

  -- the one at an index, and that it is in range
  pub gate_at_index : (n : ℕ) (d : Gate) → n < length gates → get_or gates n d ≡ gate_at s.gates.now (s.first + n)
  gate_at_index n d h =
      let w = within s.gates.now s.first s.last s.a_span in
      let c = gate_count in
      let at : s.first - 1 + n ≡ s.first + n - 1 = omega arith in
      get_or-take (s.last - (s.first - 1)) (drop (s.first - 1) s.gates.now) n d (omega arith)
      ∙ get_or-drop (s.first - 1) s.gates.now n d
      ∙ get_or_default s.gates.now (s.first - 1 + n) d no_gate (omega arith)
      ∙ ap (λ i. get_or s.gates.now i no_gate) at

  pub in_range_at_index : (n : ℕ) (d : Gate) → n < length gates → in_range (get_or gates n d) ≡ true
  in_range_at_index n d h =
      let w = within s.gates.now s.first s.last s.a_span in
      let c = gate_count in
      rw (gate_at_index n d h) (s.a_course.ranged (s.first + n) (omega (arith, w.counted), omega (arith, w.inside)))
