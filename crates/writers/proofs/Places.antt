-- Bytes behind a place. Assumes nothing.
use Prim.Native.Nat.{ℕ, ◌+◌, ◌-◌, ◌≤◌}
use native.Mathlib.Omega.{arith}
use mathlib.Core.Path.{◌≡◌, refl, sym}
use mathlib.Core.Bool.{Bool, false, ◌&&◌, ◌||◌}
use mathlib.Core.Logic.{inl, inr}
use lib.Dec.{ltb, leb}
use borrow.Author.Tests.{le-ltb}
use Rattle.program.proofs.Cases.{by_le, by_lt}
use Rattle.loader.specs.Deeds.{is_in}
use Rattle.loader.proofs.Kept.{not_in, in_places}
use Rattle.std.proofs.Math.Bool.{and-false}

-- four of them, by the distance
pub behind : (r n b : ℕ) → r ≤ b → (leb n (b - r) && ltb (b - r) (n + 4)) ≡ is_in (r + n) 4 b
behind r n b h =
    by_le n (b - r) (λ (x : Bool). (x && ltb (b - r) (n + 4)) ≡ is_in (r + n) 4 b)
    (λ l. by_lt (b - r) (n + 4) (λ (x : Bool). x ≡ is_in (r + n) 4 b) (λ m. sym (in_places (r + n) 4 b (omega arith) (omega arith))) (λ m. sym (not_in (r + n) 4 b (inr (omega arith)))))
    (λ l. sym (not_in (r + n) 4 b (inl (omega arith))))

module _ (start n m b : ℕ) where
  abbrev Parts : Type 0
  Parts = is_in start (n + m) b ≡ (is_in start n b || is_in (start + n) m b)

  -- n + m places are n places and the m behind them
  pub parts : Parts
  parts =
      by_lt b start (λ (x : Bool). Parts)
      (λ l. rw (not_in start (n + m) b (inl l), not_in start n b (inl l), not_in (start + n) m b (inl (omega arith))) refl)
      (λ l. by_lt b (start + n) (λ (x : Bool). Parts)
      (λ h. rw (in_places start (n + m) b l (omega arith), in_places start n b l h) refl)
      (λ h. by_lt b (start + n + m) (λ (x : Bool). Parts)
      (λ k. rw (in_places start (n + m) b l (omega arith), not_in start n b (inr h), in_places (start + n) m b h k) refl)
      (λ k. rw (not_in start (n + m) b (inr (omega arith)), not_in start n b (inr h), not_in (start + n) m b (inr k)) refl)))

-- eight places are twice four
pub eight : (r b : ℕ) → is_in r 8 b ≡ (is_in (r + 0) 4 b || is_in (r + 4) 4 b)
eight r b = let e : r + 0 ≡ r = omega arith in rw e (parts r 4 4 b)

pub no_places : (start b : ℕ) → is_in start 0 b ≡ false
no_places start b = by_lt b start (λ (x : Bool). is_in start 0 b ≡ false) (λ l. not_in start 0 b (inl l)) (λ l. not_in start 0 b (inr (omega arith)))

-- none of the places from `start` on is below a len that is not past it
pub past_all : (start n len b : ℕ) → len ≤ start → (is_in start n b && ltb b len) ≡ false
past_all start n len b h =
    by_lt b start (λ (x : Bool). (is_in start n b && ltb b len) ≡ false)
    (λ l. rw (not_in start n b (inl l)) refl)
    (λ l. rw (le-ltb b len (omega arith)) (and-false (is_in start n b)))
