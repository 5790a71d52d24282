-- The image that a trace ends with, whatever the table says of its rows. Assumes nothing.
use Prim.Native.Nat.{ℕ, zero, suc, ◌+◌, ◌<◌}
use native.Mathlib.Omega.{arith}
use mathlib.Core.Path.{◌≡◌, refl}
use mathlib.Core.List.{List}
use Rattle.loader.specs.Trace.{Trace, done, stop, register, forget, and_then, each}

-- nothing stops the trace, and it ends with this image
abbrev pub Ends : Trace → List ℕ → Type 0
Ends (done im) l = im ≡ l
Ends (stop r) l = ⊥
Ends (register row t) l = Ends t l
Ends (forget key t) l = Ends t l

-- of two parts the first ends, and hands its image to the second
pub ends_then : (T : Trace) (K : List ℕ → Trace) (l : List ℕ) → Ends (and_then T K) l → (im : List ℕ) × Ends T im × Ends (K im) l
unfolding and_then
ends_then (done im) K l e = (im, refl, e)
ends_then (stop r) K l e = absurd e
ends_then (register row T) K l e = ends_then T K l e
ends_then (forget key T) K l e = ends_then T K l e

-- a statement about a number and an image that each part carries to the next number holds of all n parts
module _ (step : ℕ → List ℕ → Trace) (P : ℕ → List ℕ → Type 0) (n : ℕ)
    (next : (i : ℕ) (im im' : List ℕ) → i < n → P i im → Ends (step i im) im' → P (i + 1) im') where
  from : (m i : ℕ) (im im' : List ℕ) → i + m ≡ n → P i im → Ends (each step m i im) im' → P n im'
  unfolding each
  from zero i im im' h p e = let k : i ≡ n = omega arith in rw (← e, ← k) p
  from (suc m) i im im' h p e =
      let both = ends_then (step i im) (λ (l : List ℕ). each step m (i + 1) l) im' e in
      from m (i + 1) both.0 im' (omega arith) (next i im both.0 (omega arith) p both.1) both.2

  pub ends_each : (im im' : List ℕ) → P 0 im → Ends (each step n 0 im) im' → P n im'
  ends_each im im' p e = from n 0 im im' (omega arith) p e
