-- A scan of slots.
-- Assumes nothing.
use Prim.Native.Nat.{ℕ, ◌+◌, ◌≤◌, ◌<◌, max}
use mathlib.Core.Path.{◌≡◌, refl, sym}
use mathlib.Core.Bool.{Bool, true, false}
use mathlib.Core.List.{List}
use mathlib.Core.Logic.{◌⊎◌, inl, inr, ⊎_elim}
use native.Mathlib.Omega.{arith}
use native.Mathlib.Numerals.{add-one}
use lib.ListN.{length, get_or, get_or-eq_default}
use lib.Dec.{ltb}
use borrow.Author.Tests.{ltb-true, ltb-false}
use Rattle.call_graph.specs.Words.{FLAG, OverSlots, Scan}

-- below s + 1 is below s, or s itself
pub below_or : (P : ℕ → Type 0) (s t : ℕ) → t < s + 1 → (t < s → P t) → P s → P t
below_or P s t h f p = go (ltb t s) refl
  where
    go : (b : Bool) → ltb t s ≡ b → P t
    go true e = f (ltb-true t s e)
    go false e = let q : s ≡ t = omega (arith, ltb-false t s e) in rw q at p

pub max_or : (m d : ℕ) → (max m d ≡ m) ⊎ (max m d ≡ d)
max_or m d = go (ltb m d) refl
  where
    go : (b : Bool) → ltb m d ≡ b → (max m d ≡ m) ⊎ (max m d ≡ d)
    go true e = let h : m < d = ltb-true m d e in inr (omega arith)
    go false e = let h : d ≤ m = ltb-false m d e in inl (omega arith)

module _ (callee : ℕ → ℕ) (w : List ℕ) (from end : ℕ) where
  pub over_start : OverSlots callee w from end from 0
  over_start = record { small = omega arith; most = λ t a b. omega arith; met = inl refl }

  pub over_next : (s m d k : ℕ) → from ≤ s → s < end → d ≡ get_or w (callee s) 0 → d < FLAG → k ≡ max m d
      → OverSlots callee w from end s m → OverSlots callee w from end (s + 1) k
  over_next s m d k a b e f g o = record {
    small = omega arith;
    most = λ t c l. below_or (λ t. from ≤ t → get_or w (callee t) 0 ≤ k) s t l (λ q c. let h : get_or w (callee t) 0 ≤ m = o.most t c q in omega arith) (λ c. omega arith) c;
    met = ⊎_elim
        (λ h. ⊎_elim (λ z. inl (omega arith)) (λ z. inr (z.0, z.1, z.2, omega arith)) o.met)
        (λ h. inr (s, a, b, omega arith))
        (max_or m d);
  }

  -- a slot that calls no row
  pub over_past : (s m : ℕ) → length w ≤ callee s → from ≤ s → s < end → OverSlots callee w from end s m → OverSlots callee w from end (s + 1) m
  over_past s m l a b o =
      let none : 0 ≡ get_or w (callee s) 0 = sym (get_or-eq_default w 0 l) in
      over_next s m 0 m a b none (omega arith) (omega arith) o

  pub scan_stop : (s d : ℕ) → from ≤ s → s < end → d ≡ get_or w (callee s) 0 → FLAG ≤ d → Scan callee w from end 0
  scan_stop s d a b e f = (s, a, b, omega arith)

  pub scan_end : (s m : ℕ) → end ≤ s → OverSlots callee w from end s m → Scan callee w from end (m + 1)
  scan_end s m l o = rw add-one (record { small = o.small; most = λ t a b. o.most t a (omega arith); met = o.met })
