-- Deeds one after another: the image that they leave, who wrote a byte of it, and the bytes that stay. Assumes nothing.
use Prim.Native.Nat.{ℕ, zero, suc, ◌+◌, ◌<◌}
use native.Mathlib.Omega.{arith}
use native.Mathlib.Numerals.{add-one}
use mathlib.Core.Path.{◌≡◌, refl, sym, ◌∙◌}
use mathlib.Core.Bool.{Bool, false}
use mathlib.Core.List.{List}
use lib.ListN.{length, get_or}
use Rattle.ebpf.specs.Choice.{◌if◌else◌, row_cases}
use Rattle.loader.specs.declared.deeds.Deed.{Deed}
use Rattle.loader.specs.declared.deeds.Deed.TheVariants.{Skip, Halves, Word, Key, Register, RegisterOnly, RegisterOutside}
use Rattle.std.specs.Prelude.{Result, Ok, Err}
use Rattle.loader.specs.declared.error.ElfError.{ElfError}
use Rattle.loader.specs.Deeds.{written, writes, deed_trace}
use Rattle.loader.specs.Trace.{Trace, each}
use Rattle.loader.proofs.Ends.{Ends, ends_then}
use Rattle.loader.proofs.Kept.{written_other, step_ends, step_length}
use Rattle.loader.proofs.Named.{stops}
use Rattle.writers.specs.declared.Writer.{Writer}
use Rattle.writers.specs.declared.Writer.TheVariants.{File}
use Rattle.writers.specs.Named.{last_of}
use Rattle.writers.specs.Writers.{image_after, writer_after}

-- the load goes on behind it
goes_on : (d : Result Deed ElfError) (im l : List ℕ) → Ends (deed_trace d im) l → stops d ≡ false
unfolding deed_trace
goes_on (Ok Skip) im l e = refl
goes_on (Err r) im l e = absurd e
goes_on (Ok (Halves low high v)) im l e = refl
goes_on (Ok (Word at v)) im l e = refl
goes_on (Ok (Key at k)) im l e = refl
goes_on (Ok (Register row at)) im l e = refl
goes_on (Ok (RegisterOnly row)) im l e = refl
goes_on (Ok (RegisterOutside row)) im l e = absurd e

pub last_next : (who : ℕ → Writer) (P : ℕ → Bool) (n : ℕ) (w : Writer) → last_of who P (n + 1) w ≡ (who n if P n else last_of who P n w)
unfolding last_of
last_next who P n w = rw (add-one n) refl

module _ (step : ℕ → List ℕ → Trace) (deed : ℕ → List ℕ → Result Deed ElfError) (is : (i : ℕ) (im : List ℕ) → step i im ≡ deed_trace (deed i im) im) where
  pub image_after_lem : (n i : ℕ) (im im' : List ℕ) → Ends (each step n i im) im' → im' ≡ image_after deed n i im
  unfolding each image_after
  image_after_lem zero i im im' e = sym e
  image_after_lem (suc n) i im im' e =
      let both = ends_then (step i im) (λ (l : List ℕ). each step n (i + 1) l) im' e in
      let m : both.0 ≡ written (deed i im) im = step_ends step deed n is i im both.0 both.1 in
      rw (← m) (image_after_lem n (i + 1) both.0 im' both.2)

  step_goes : (i : ℕ) (im l : List ℕ) → Ends (step i im) l → stops (deed i im) ≡ false
  step_goes i im l e = goes_on (deed i im) im l (rw is at e)

  -- where each deed of a load that goes on writes b exactly if P holds of its number, the writer is the last of these
  module _ (who : ℕ → Writer) (b size top : ℕ) (P : ℕ → Bool)
      (exactly : (i : ℕ) (im : List ℕ) → i < top → length im ≡ size → stops (deed i im) ≡ false → P i ≡ writes (deed i im) b) where
    pub writer_after_lem : (n i : ℕ) (im im' : List ℕ) (w : Writer) → i + n ≡ top → length im ≡ size → Ends (each step n i im) im'
        → writer_after deed who b n i im (last_of who P i w) ≡ last_of who P top w
    unfolding each writer_after
    writer_after_lem zero i im im' w h q e = let k : i ≡ top = omega arith in rw k refl
    writer_after_lem (suc n) i im im' w h q e =
        let both = ends_then (step i im) (λ (l : List ℕ). each step n (i + 1) l) im' e in
        let m : both.0 ≡ written (deed i im) im = step_ends step deed n is i im both.0 both.1 in
        let t : P i ≡ writes (deed i im) b = exactly i im (omega arith) q (step_goes i im both.0 both.1) in
        let again = writer_after_lem n (i + 1) both.0 im' w (omega arith) (step_length step deed n is i im both.0 both.1 ∙ q) both.2 in
        rw (← m, ← t, ← last_next who P i w) again

-- a byte that none of the deeds wrote is as it was, and so is its writer
module _ (deed : ℕ → List ℕ → Result Deed ElfError) (who : ℕ → Writer) (other : (i : ℕ) → who i ≡ File → ⊥) (b : ℕ) where
  pub kept_after : (n i : ℕ) (im : List ℕ) (w : Writer) → writer_after deed who b n i im w ≡ File → (get_or (image_after deed n i im) b 0 ≡ get_or im b 0) × (w ≡ File)
  unfolding writer_after image_after
  kept_after zero i im w e = (refl, e)
  kept_after (suc n) i im w e =
      let later = kept_after n (i + 1) (written (deed i im) im) (who i if writes (deed i im) b else w) e in
      row_cases (writes (deed i im) b) (who i) w File ((get_or (image_after deed n (i + 1) (written (deed i im) im)) b 0 ≡ get_or im b 0) × (w ≡ File))
      (λ h q. absurd (other i q))
      (λ h q. (later.0 ∙ written_other (deed i im) im b h, q))
      later.1
