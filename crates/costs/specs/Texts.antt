-- Spans and masts in words. Assumes nothing.
use Rattle.std.specs.Prelude.{ℕ, List, ◌++◌, codes, decimal}
use Rattle.std.specs.Fmt.{signed_decimal}
use Rattle.costs.specs.declared.mast.Mast.{Mast}

-- a span: its first position and its last, joined by a hyphen
abbrev pub span_words : ℕ → ℕ → List ℕ
span_words first last = decimal first ++ (codes "-" ++ decimal last)

-- a mast: its distance and its height in doubled coordinates, with a space between
abbrev pub mast_words : Mast → List ℕ
mast_words m = signed_decimal m.distance ++ (codes " " ++ signed_decimal m.height)
