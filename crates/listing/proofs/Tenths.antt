-- The digits of a number by those of its tenth, and how many they are. Assumes nothing.
use Prim.Native.Nat.{ℕ, zero, suc, ◌/◌, ◌^◌, ◌≤◌, ◌<◌}
use native.Mathlib.Nat.{pow-suc}
use native.Mathlib.Omega.{arith}
use mathlib.Core.Path.{◌≡◌, ap}
use mathlib.Core.Bool.{Bool, true, false}
use mathlib.Core.List.{List, [], ◌∷◌, ◌++◌}
use lib.ListN.{length, length-append}
use lib.Dec.{ltb}
use borrow.Author.Tests.{lt-ltb, le-ltb}
use Rattle.ebpf.specs.Choice.{◌if◌else◌}
use Rattle.listing.specs.Decimal.{last_digit, digits_in, decimal}

-- one digit more makes no difference where k are enough
enough : (k n : ℕ) → n < 10 ^ suc k → digits_in (suc k) n ≡ digits_in (suc (suc k)) n
unfolding digits_in ◌if◌else◌
enough zero n h = simp (lt-ltb n 10 h)
enough (suc k) n h =
    ap (λ (ds : List ℕ). (last_digit n ∷ []) if ltb n 10 else (ds ++ (last_digit n ∷ []))) (enough k (n / 10) (omega (arith, pow-suc 10 (suc k))))

pub decimal_one : (n : ℕ) → n < 10 → decimal n ≡ last_digit n ∷ []
unfolding decimal digits_in ◌if◌else◌
decimal_one n h = rw (lt-ltb n 10 h)

pub decimal_more : (n : ℕ) → 10 ≤ n → n < 2 ^ 64 → decimal n ≡ decimal (n / 10) ++ (last_digit n ∷ [])
unfolding decimal digits_in ◌if◌else◌
decimal_more n h f = rw (le-ltb n 10 h) (ap (λ (ds : List ℕ). ds ++ (last_digit n ∷ [])) (enough 18 (n / 10) (omega arith)))

few_in : (k n : ℕ) → length (digits_in k n) ≤ k
unfolding digits_in ◌if◌else◌
few_in zero n = omega arith
few_in (suc k) n = go (ltb n 10) (few_in k (n / 10))
  where
    go : (b : Bool) → length (digits_in k (n / 10)) ≤ k → length ((last_digit n ∷ []) if b else (digits_in k (n / 10) ++ (last_digit n ∷ []))) ≤ suc k
    go true h = omega arith
    go false h = simp length-append (omega arith)

pub decimal_few : (n : ℕ) → length (decimal n) ≤ 20
unfolding decimal
decimal_few n = few_in 20 n

-- there is a place left for the last digit
pub tenth_few : (n : ℕ) → 10 ≤ n → n < 2 ^ 64 → length (decimal (n / 10)) < 20
tenth_few n h f = omega (arith, decimal_few n, simp length-append at (ap length (decimal_more n h f)))
