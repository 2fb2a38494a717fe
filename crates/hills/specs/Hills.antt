-- The two sample hills, a slope, and what the definitions say of the first hill. Assumes nothing.
use Rattle.std.specs.Prelude.{ℕ, List, [], ◌∷◌, map, ℤ, pos, negsuc, ◌-ℤ◌}
use Rattle.course.specs.declared.gate.Gate.{Gate}
use Rattle.costs.specs.Groups.{positions, span}
use Rattle.kinds.specs.Extremes.{greatest}
use Rattle.kinds.specs.GateMast.{gate_mast_group, gate_mast_span, gate_mast_at}
use Rattle.kinds.specs.FreeMast.{free_mast_span}
use Rattle.kinds.specs.Trench.{trench_span}
use Rattle.hills.specs.declared.figures.Figures.{Figures}

-- a gate by its number, its distance and its height
abbrev pub gate : ℕ → ℕ → ℤ → Gate
gate n d h = record { number = n; distance = d; height = h }

-- hill H: (0, 900), (300, 500), (600, 100), (1000, −200)
abbrev pub hill_h : List Gate
hill_h = gate 1 0 (pos 900) ∷ gate 2 300 (pos 500) ∷ gate 3 600 (pos 100) ∷ gate 4 1000 (negsuc 199) ∷ []

-- hill V: distances 0, 10, 20, 21, 22, 23 and 24, and each height the negative of its distance
abbrev pub hill_v : List Gate
hill_v =
    gate 1 0 (pos 0) ∷ gate 2 10 (negsuc 9) ∷ gate 3 20 (negsuc 19) ∷ gate 4 21 (negsuc 20) ∷ gate 5 22 (negsuc 21) ∷ gate 6 23 (negsuc 22) ∷
    gate 7 24 (negsuc 23) ∷ []

-- the gate with this number on a slope: as far from the start as its number, and as much below the finish
abbrev pub slope_gate : ℕ → Gate
slope_gate i = gate i i (pos 0 -ℤ pos i)

-- the first n gates of the slope, from number 0 on
abbrev pub slope : ℕ → List Gate
slope n = map slope_gate (positions 0 n)

-- costs on hill H and positions of its masts, by their definitions; of the trenches of one gate, the greatest
abbrev pub figures_of_h : Figures
figures_of_h = record {
  gate_mast_1_to_3 = (gate_mast_span hill_h 1 3, gate_mast_at hill_h 1 3);
  gate_mast_1_to_4 = (gate_mast_span hill_h 1 4, gate_mast_at hill_h 1 4);
  gate_mast_1_and_3 = gate_mast_group hill_h (1 ∷ 3 ∷ []);
  free_mast_1_to_3 = free_mast_span hill_h 1 3;
  free_mast_2_to_4 = free_mast_span hill_h 2 4;
  free_mast_1_to_4 = free_mast_span hill_h 1 4;
  trench_1_to_4 = trench_span hill_h 1 4;
  trench_of_one = greatest (λ p. trench_span hill_h p p) (span 1 4);
}

-- the figures of hill H as numbers
abbrev pub numbers_of_h : Figures
numbers_of_h = record {
  gate_mast_1_to_3 = (1000000, 2);
  gate_mast_1_to_4 = (3920000, 2);
  gate_mast_1_and_3 = 4000000;
  free_mast_1_to_3 = 1000000;
  free_mast_2_to_4 = 980000;
  free_mast_1_to_4 = 2210000;
  trench_1_to_4 = 2100;
  trench_of_one = 0;
}
