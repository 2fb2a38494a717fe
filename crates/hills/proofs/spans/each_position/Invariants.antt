use Rattle.std.proofs.Common.{◌≡◌, ℕ, ◌≤◌, List, IfOk, string_bytes}
use Rattle.hills.proofs.Texts.{Along}
use Rattle.hills.proofs.spans.each_position.Given as goal

abbrev pub invariant-loop-position : goal.invariant-loop-position
invariant-loop-position g l = (words : ℕ → List ℕ) → ((p : ℕ) (r : _) → l.from ≤ p → p ≤ l.to → g.F.Fn.post l.text (p, tt) r → IfOk r (λ s. string_bytes s ≡ words p)) → Along words l.from l.position l.to (string_bytes l.all)
