-- What holds of a check that goes before another, in any Result.
use Rattle.std.specs.Prelude.{◌≡◌, refl, Result, Ok, Err}
use Rattle.elf_parser.specs.Errors.{◌then◌, apart}

-- ---- laws

-- where a check and what follows it pass, the check passes, and what follows it
pub then_both : {A E : Type 0} (v : Result (Unit {0}) E) (w : Result A E) (y : A) → (v then w) ≡ Ok y → (v ≡ Ok tt) × (w ≡ Ok y)
then_both (Ok u) w y e = (refl, e)
then_both (Err r) w y e = absurd (apart r y e)

pub then_ok : {A E : Type 0} (v : Result (Unit {0}) E) (x y : A) → (v then Ok x) ≡ Ok y → (v ≡ Ok tt) × (x ≡ y)
then_ok (Ok u) x y e = (refl, cc)
then_ok (Err r) x y e = absurd (apart r y e)
