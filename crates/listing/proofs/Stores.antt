-- Bytes stored in a slice, one part behind another. Assumes nothing.
use Prim.Native.Nat.{ℕ, zero, suc, ◌+◌}
use native.Mathlib.Nat.{add-zero, add-suc, suc-add, zero-sub, sub-zero, suc-sub-suc}
use mathlib.Core.Path.{◌≡◌, refl, ◌∙◌}
use mathlib.Core.List.{List, [], ◌∷◌, ◌++◌}
use lib.ListN.{length, set, replicate}
pub use lib.ListN.{length-append}
use lib.Seq.{sets}
pub use lib.Seq.{length-sets, set_out}
use Rattle.listing.specs.Lines.{filled}

pub sets_append : (xs ys s : List ℕ) (at : ℕ) → sets s at (xs ++ ys) ≡ sets (sets s at xs) (at + length xs) ys
sets_append [] ys s at = rw add-zero
sets_append (x ∷ xs) ys s at = sets_append xs ys (set s at x) (suc at) ∙ rw (suc-add, add-suc)

-- what is stored of one part behind another, and how many bytes they are
pub ruleset parts = (sets_append, length-append, length-sets, set_out)

-- ---- a loop that stores

-- the bytes from `at₀` on in s₀ are stored up to `at` in s, and the rest is left
pub record Storing (bytes rest s₀ s : List ℕ) (at₀ at : ℕ) : Type 0 where
  pub left : at + length rest ≡ at₀ + length bytes
  pub gives : sets s at rest ≡ sets s₀ at₀ bytes
  pub same : length s ≡ length s₀

-- ---- a slice of zeros

sets_none : (xs : List ℕ) (at : ℕ) → sets [] at xs ≡ []
sets_none [] at = refl
sets_none (x ∷ xs) at = sets_none xs (suc at)

sets_behind : (xs s : List ℕ) (y at : ℕ) → sets (y ∷ s) (suc at) xs ≡ y ∷ sets s at xs
sets_behind [] s y at = refl
sets_behind (x ∷ xs) s y at = sets_behind xs (set s at x) y (suc at)

pub sets_filled : (n : ℕ) (xs : List ℕ) → sets (replicate n 0) 0 xs ≡ filled n xs
sets_filled zero xs = sets_none xs 0 ∙ simp zero-sub
sets_filled (suc n) [] = simp sub-zero
sets_filled (suc n) (x ∷ xs) = sets_behind xs (replicate n 0) x 0 ∙ rw (sets_filled n xs, suc-sub-suc)
