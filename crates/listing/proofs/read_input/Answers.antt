use Rattle.std.proofs.Common.{◌≡◌, ℕ, List, ◌++◌, take, length, Option, Some, None, ap, ◌∙◌, arith}
use Rattle.std.specs.Prelude.{IfSome, IfOk, Result}
use Rattle.std.specs.Result.{IsErr}
use Rattle.std.proofs.lemmas.List.{take_at}
use Rattle.std.proofs.lemmas.Option.{IfSome_then}
use Rattle.std.proofs.lemmas.Result.{IfOk-from_err}
use Rattle.listing.proofs.read_input.Goals as goal

-- an error answers no bytes
of_err : {T E : Type 0} (o : Option (List ℕ)) (r : Result T E) (P : List ℕ → T → Type 0) → IsErr r → IfSome o (λ xs. IfOk r (P xs))
of_err None r P e = tt
of_err (Some xs) r P e = IfOk-from_err r (P xs) e

-- the first bytes of a buffer that a vector held whole
kept : (o : Option (List ℕ)) (limit room len n : ℕ) (buffer rest items : List ℕ) → room ≡ limit → len ≡ room → length buffer ≡ len → IfSome o (λ xs. take n buffer ≡ take len xs) → items ≡ take n (take room (buffer ++ rest)) → IfSome o (λ xs. items ≡ take limit xs)
kept o limit room len n buffer rest items whole same long first e =
    IfSome_then o first (λ xs h. e ∙ ap (take n) (take_at buffer rest room (omega arith)) ∙ h ∙ ap (λ m. take m xs) (same ∙ whole))

pub returns-in_err-len-clause-first_bytes : goal.returns-in_err-len-clause-first_bytes
returns-in_err-len-clause-first_bytes g c = of_err _ _ _ c.from_residual-in_err-len.ensures.0

pub returns-clause-first_bytes : goal.returns-clause-first_bytes
returns-clause-first_bytes g c = kept _ 4097 _ _ _ _ _ _ c.in_ok-bytes.ensures.len c.deref_mut.ensures.len c.fill_from.auto.buffer c.in_ok-len.ensures.first_bytes c.truncate.ensures.items
