-- Loops over the entries of a table: the state goes from entry to entry, until a step refuses.
use Prim.Native.Nat.{ℕ, zero, suc, ◌+◌, ◌-◌, ◌*◌, ◌≤◌, ◌<◌}
use native.Mathlib.Omega.{arith}
use Rattle.std.proofs.Common.{mul-suc, mul-zero, add-one, ap, sym}
use Rattle.std.specs.Prelude.{◌≡◌, refl, Result, Ok, Err}
use Rattle.elf_parser.specs.Errors.{and_then}

-- of count entries from number i on, one and the others
pub less_one : (count i : ℕ) → i < count → count - i ≡ suc (count - (i + 1))
less_one count i h = omega arith

pub one_further : (from w i : ℕ) → from + w * (i + 1) ≡ from + w * i + w
one_further from w i = rw (add-one, mul-suc) (omega arith)

-- one entry of those that are left, whatever their width
pub one_of : (w n : ℕ) → 0 < n → w * n ≡ w + w * (n - 1)
one_of w zero h = absurd (omega arith)
one_of w (suc n) h = let k : suc n - 1 ≡ n = omega arith in rw (k, mul-suc) (omega arith)

module _ {A E : Type 0} (step : ℕ → A → Result A E) (w : ℕ) where
  -- n entries of w bytes each, from `at` on, with the state x
  unfoldable pub over : ℕ → ℕ → A → Result A E
  over zero at x = Ok x
  over (suc n) at x = and_then (step at x) (over n (at + w))

  -- of those that are left, the first and the others
  pub over_next : (n at : ℕ) (x y : A) → 0 < n → step at x ≡ Ok y → over n at x ≡ over (n - 1) (at + w) y
  unfolding over
  over_next zero at x y h e = absurd (omega arith)
  over_next (suc n) at x y h e = let k : suc n - 1 ≡ n = omega arith in rw (e, k)

  pub over_stop : (n at : ℕ) (x : A) (r : E) → 0 < n → step at x ≡ Err r → over n at x ≡ Err r
  unfolding over
  over_stop zero at x r h e = absurd (omega arith)
  over_stop (suc n) at x r h e = rw e

  pub over_end : (n at : ℕ) (x : A) → n ≤ 0 → over n at x ≡ Ok x
  unfolding over
  over_end zero at x h = refl
  over_end (suc n) at x h = absurd (omega arith)

  module _ (count from : ℕ) where
    -- those from number i on
    abbrev pub rest : ℕ → A → Result A E
    rest i x = over (count - i) (from + w * i) x

    pub rest_all : (x : A) → over count from x ≡ rest 0 x
    rest_all x = let a : count - 0 ≡ count = omega arith in let b : from + w * 0 ≡ from = rw mul-zero (omega arith) in rw (a, b)

    rest_of : (i : ℕ) (x : A) → i < count → rest i x ≡ and_then (step (from + w * i) x) (rest (i + 1))
    unfolding over
    rest_of i x h = rw (less_one count i h) (ap (λ p. and_then (step (from + w * i) x) (over (count - (i + 1)) p)) (sym (one_further from w i)))

    pub rest_next : (i : ℕ) (x y : A) → i < count → step (from + w * i) x ≡ Ok y → rest i x ≡ rest (i + 1) y
    rest_next i x y h e = rw (rest_of i x h, e)

    pub rest_stop : (i : ℕ) (x : A) (r : E) → i < count → step (from + w * i) x ≡ Err r → rest i x ≡ Err r
    rest_stop i x r h e = rw (rest_of i x h, e)

    pub rest_end : (i : ℕ) (x : A) → count ≤ i → rest i x ≡ Ok x
    unfolding over
    rest_end i x h = let a : count - i ≡ 0 = omega arith in rw a
