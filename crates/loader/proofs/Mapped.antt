-- A refusal mapped to another: what is given stays as it was. Assumes nothing.
use mathlib.Core.Path.{◌≡◌}
use Rattle.std.specs.Prelude.{Result, Ok, Err}
use Rattle.std.specs.Result.{MatchResult, is_ok}
use Rattle.program.proofs.Cases.{zero_one}

pub mapped_ok : {T E U : Type 0} (r : Result T E) (m : Result T U) (Q : E → Type 0) → MatchResult r (λ (x : T). m ≡ Ok x) Q → is_ok m ≡ is_ok r → (x : T) → m ≡ Ok x → r ≡ Ok x
mapped_ok (Ok y) m Q c same x e = cc
mapped_ok (Err d) m Q c same x e = absurd (zero_one (cc))
