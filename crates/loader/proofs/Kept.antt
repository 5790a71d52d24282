-- What a deed writes, and that all else of the image stays. Assumes nothing.
use Prim.Native.Nat.{ℕ, zero, suc, ◌+◌, ◌*◌, ◌/◌, ◌%◌, ◌^◌, ◌≤◌, ◌<◌}
use native.Mathlib.Omega.{arith}
use native.Mathlib.Nat.{pow-suc}
use mathlib.Core.Path.{◌≡◌, refl, sym, ap, ap₂, ◌∙◌}
use mathlib.Core.Bool.{Bool, true, false, ◌&&◌}
use mathlib.Core.Logic.{◌⊎◌, inl, inr}
use mathlib.Core.List.{List}
use lib.ListN.{length, get_or, set, length-set}
use lib.Seq.{get_or-set_same, get_or-set_other}
use lib.Dec.{ltb}
use borrow.Author.Tests.{le-leb, lt-leb, lt-ltb, le-ltb}
use Rattle.ebpf.specs.Choice.{or_false}
use Rattle.ebpf.specs.LittleEndian.{le}
use Rattle.program.proofs.Cases.{by_le, by_lt, zero_one}
use Rattle.loader.specs.declared.deeds.Deed.{Deed}
use Rattle.loader.specs.declared.deeds.Deed.TheVariants.{Skip, Halves, Word, Key, Register, RegisterOnly, RegisterOutside}
use Rattle.std.specs.Prelude.{Result, Ok, Err}
use Rattle.loader.specs.declared.error.ElfError.{ElfError}
use Rattle.loader.specs.Bytes.{put}
use Rattle.loader.specs.Trace.{Trace, each}
use Rattle.loader.specs.Deeds.{written, is_in, writes, deed_trace, length_written}
use Rattle.loader.proofs.Ends.{Ends, ends_each}

-- ---- n places from `start` on

pub apart : (start n b : ℕ) → is_in start n b ≡ false → (b < start) ⊎ (start + n ≤ b)
apart start n b = by_le start b (λ (x : Bool). (x && ltb b (start + n)) ≡ false → (b < start) ⊎ (start + n ≤ b))
    (λ l. by_lt b (start + n) (λ (x : Bool). x ≡ false → (b < start) ⊎ (start + n ≤ b)) (λ m e. absurd (zero_one (cc))) (λ m e. inr m))
    (λ l e. inl l)

pub not_in : (start n b : ℕ) → (b < start) ⊎ (start + n ≤ b) → is_in start n b ≡ false
not_in start n b (inl h) = rw (lt-leb start b h) refl
not_in start n b (inr h) = by_le start b (λ (x : Bool). (x && ltb b (start + n)) ≡ false) (λ l. le-ltb b (start + n) h) (λ l. refl)

pub in_places : (start n b : ℕ) → start ≤ b → b < start + n → is_in start n b ≡ true
in_places start n b h l = rw (le-leb start b h, lt-ltb b (start + n) l) refl

-- ---- a number written over bytes

pub put_other : (k : ℕ) (s : List ℕ) (at v b : ℕ) → (b < at) ⊎ (at + k ≤ b) → get_or (put k s at v) b 0 ≡ get_or s b 0
unfolding put
put_other zero s at v b h = refl
put_other (suc k) s at v b (inl h) = put_other k (set s at (v % 256)) (at + 1) (v / 256) b (inl (omega arith)) ∙ get_or-set_other s at b (v % 256) 0 (λ e. omega arith)
put_other (suc k) s at v b (inr h) = put_other k (set s at (v % 256)) (at + 1) (v / 256) b (inr (omega arith)) ∙ get_or-set_other s at b (v % 256) 0 (λ e. omega arith)

-- what was written is read there
pub le_put : (k : ℕ) (s : List ℕ) (at v : ℕ) → at + k ≤ length s → v < 256 ^ k → le k (put k s at v) at ≡ v
unfolding put le
le_put zero s at v l h = omega arith
le_put (suc k) s at v l h =
    let low : get_or (put k (set s at (v % 256)) (at + 1) (v / 256)) at 0 ≡ v % 256 =
    put_other k (set s at (v % 256)) (at + 1) (v / 256) at (inl (omega arith)) ∙ get_or-set_same s at (v % 256) 0 (omega arith) in
    let rest : le k (put k (set s at (v % 256)) (at + 1) (v / 256)) (at + 1) ≡ v / 256 =
    le_put k (set s at (v % 256)) (at + 1) (v / 256) (rw length-set (omega arith)) (omega (arith, pow-suc 256 k)) in
    rw (low, rest) (omega arith)

-- equal bytes, equal numbers
pub le_same : (k : ℕ) (s l : List ℕ) (at : ℕ) → ((b : ℕ) → at ≤ b → b < at + k → get_or s b 0 ≡ get_or l b 0) → le k s at ≡ le k l at
unfolding le
le_same zero s l at h = refl
le_same (suc k) s l at h = ap₂ (λ (a b : ℕ). a + 256 * b) (h at (omega arith) (omega arith)) (le_same k s l (at + 1) (λ b m n. h b (omega arith) (omega arith)))

-- ---- one deed

pub written_other : (d : Result Deed ElfError) (im : List ℕ) (b : ℕ) → writes d b ≡ false → get_or (written d im) b 0 ≡ get_or im b 0
written_other (Ok Skip) im b h = refl
written_other (Err r) im b h = refl
written_other (Ok (Halves low high v)) im b h =
    let e = or_false (is_in low 4 b) (is_in high 4 b) h in
    put_other 4 _ high (v / 2 ^ 32) b (apart high 4 b e.1) ∙ put_other 4 im low (v % 2 ^ 32) b (apart low 4 b e.0)
written_other (Ok (Word at v)) im b h = word (apart at 8 b h)
  where
    word : (b < at) ⊎ (at + 8 ≤ b) → get_or (written (Ok (Word at v)) im) b 0 ≡ get_or im b 0
    word (inl l) = put_other 4 _ (at + 4) (v / 2 ^ 32) b (inl (omega arith)) ∙ put_other 4 im at (v % 2 ^ 32) b (inl l)
    word (inr l) = put_other 4 _ (at + 4) (v / 2 ^ 32) b (inr (omega arith)) ∙ put_other 4 im at (v % 2 ^ 32) b (inr (omega arith))
written_other (Ok (Key at k)) im b h = put_other 4 im at k b (apart at 4 b h)
written_other (Ok (Register row at)) im b h = put_other 4 im at row.key b (apart at 4 b h)
written_other (Ok (RegisterOnly row)) im b h = refl
written_other (Ok (RegisterOutside row)) im b h = refl

-- the image that a deed ends with
pub deed_ends : (d : Result Deed ElfError) (im l : List ℕ) → Ends (deed_trace d im) l → l ≡ written d im
unfolding deed_trace
deed_ends (Ok Skip) im l e = sym e
deed_ends (Err r) im l e = absurd e
deed_ends (Ok (Halves low high v)) im l e = sym e
deed_ends (Ok (Word at v)) im l e = sym e
deed_ends (Ok (Key at k)) im l e = sym e
deed_ends (Ok (Register row at)) im l e = sym e
deed_ends (Ok (RegisterOnly row)) im l e = sym e
deed_ends (Ok (RegisterOutside row)) im l e = absurd e

-- ---- n deeds, each made of its number and the image up to there

module _ (step : ℕ → List ℕ → Trace) (deed : ℕ → List ℕ → Result Deed ElfError) (n : ℕ) (is : (i : ℕ) (im : List ℕ) → step i im ≡ deed_trace (deed i im) im) where
  pub step_ends : (i : ℕ) (im l : List ℕ) → Ends (step i im) l → l ≡ written (deed i im) im
  step_ends i im l e = deed_ends (deed i im) im l (rw is at e)

  pub step_length : (i : ℕ) (im l : List ℕ) → Ends (step i im) l → length l ≡ length im
  step_length i im l e = ap length (step_ends i im l e) ∙ length_written (deed i im) im

  pub deeds_length : (im im' : List ℕ) → Ends (each step n 0 im) im' → length im' ≡ length im
  deeds_length im im' e = ends_each step (λ (i : ℕ) (l : List ℕ). length l ≡ length im) n (λ i l l' h p x. step_length i l l' x ∙ p) im im' refl e

  -- a byte that none of them writes
  pub deeds_other : (im im' : List ℕ) (b : ℕ)
      → ((i : ℕ) (l : List ℕ) → i < n → length l ≡ length im → writes (deed i l) b ≡ false)
      → Ends (each step n 0 im) im'
      → get_or im' b 0 ≡ get_or im b 0
  deeds_other im im' b none e =
      (ends_each step (λ (i : ℕ) (l : List ℕ). (length l ≡ length im) × (get_or l b 0 ≡ get_or im b 0)) n
      (λ i l l' h p x. (step_length i l l' x ∙ p.0, ap (λ (s : List ℕ). get_or s b 0) (step_ends i l l' x) ∙ written_other (deed i l) l b (none i l h p.0) ∙ p.1))
      im im' (refl, refl) e).1

  -- nothing at all is written
  pub deeds_nothing : (im im' : List ℕ) → ((i : ℕ) (l : List ℕ) → written (deed i l) l ≡ l) → Ends (each step n 0 im) im' → im' ≡ im
  deeds_nothing im im' none e = ends_each step (λ (i : ℕ) (l : List ℕ). l ≡ im) n (λ i l l' h p x. step_ends i l l' x ∙ none i l ∙ p) im im' refl e
