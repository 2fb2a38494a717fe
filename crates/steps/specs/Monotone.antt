-- Steps are in a total order, and a greater number has no smaller step. Assumes nothing.
use Rattle.std.specs.Prelude.{◌≡◌, ℕ, ◌+◌, ◌-◌, ◌≤◌, Bool, true, List, length, nat_le, Some, None, refl}
use Rattle.std.specs.List.{position_or_len}
use Rattle.std.specs.Option.{option_map_or}
use Rattle.std.proofs.Common.{leb, ltb, arith}
use Rattle.std.proofs.lemmas.Bool.{cond_both, leb-true, leb-false, ltb-true, ltb-false}
use Rattle.std.proofs.lemmas.List.Sums.{passes_at_first, fails_before_first}
use Rattle.std.proofs.lemmas.Bool.Decides.{nat_tests}
use Rattle.costs.specs.Laws.{Order}
use Rattle.steps.specs.declared.step.Step.{Step}
use Rattle.steps.specs.declared.step.Step.TheVariants.{At, Beyond}
use Rattle.steps.specs.Steps.{step_not_greater, step_of, Covers, OneStep}

pub step_order : Order step_not_greater
step_order = record {
  reflexive = λ a. grind (arith, nat_tests);
  transitive = λ a b c h k. grind (arith, nat_tests);
  antisymmetric = λ a b h k. grind (arith, nat_tests);
  total = λ a b. grind (arith, nat_tests);
}

-- ---- what covers a number
module _ (ls : List ℕ) where
  -- the step that covers a number no smaller is no smaller
  covering_rises : (a b : ℕ) (r s : Step) → a ≤ b → Covers ls a r → Covers ls b s → step_not_greater r s ≡ true
  covering_rises a b (At i) (At j) h p q = grind (arith, nat_tests, p.first j, q.holds, q.counted)
  covering_rises a b (At i) (Beyond n) h p q = refl
  covering_rises a b (Beyond m) (At j) h p q = grind (arith, nat_tests, p.past j, q.holds, q.counted)
  covering_rises a b (Beyond m) (Beyond n) h p q = grind (arith, nat_tests, p.same, q.same)

  covered_once : (n : ℕ) (r s : Step) → Covers ls n r → Covers ls n s → s ≡ r
  covered_once n r s p q = step_order.antisymmetric s r (covering_rises n n s r (omega arith) q p) (covering_rises n n r s (omega arith) p q)

  covers : (n : ℕ) → Covers ls n (step_of ls n)
  unfolding step_of
  covers n =
      let p : ℕ → Bool = leb n in
      let i : ℕ = position_or_len p ls in
      cond_both (ltb i (length ls)) (Some i) None (λ o. Covers ls n (option_map_or (λ k. At (k + 1)) o (Beyond n)))
      (λ t.
      let inside = ltb-true i (length ls) t in
      let here : i + 1 - 1 ≡ i = omega arith in
      record {
        counted = (omega arith, omega arith);
        holds = rw here (leb-true n _ (passes_at_first p ls 0 inside));
        first = λ k h. leb-false n _ (fails_before_first p ls (k - 1) 0 (omega arith));
      })
      (λ f.
      let past = ltb-false i (length ls) f in
      record { same = refl; past = λ k h. leb-false n _ (fails_before_first p ls (k - 1) 0 (omega arith)) })

  -- the step of a number covers it, and no other does
  pub one_step : (n : ℕ) (s : Step) → s ≡ step_of ls n → OneStep ls n s
  one_step n s e = rw e (record { covers = covers n; only = λ r. covered_once n (step_of ls n) r (covers n) })

  -- a greater number has no smaller step
  pub steps_monotone : (a b : ℕ) → nat_le a b ≡ true → step_not_greater (step_of ls a) (step_of ls b) ≡ true
  steps_monotone a b h = covering_rises a b _ _ (leb-true a b h) (covers a) (covers b)
