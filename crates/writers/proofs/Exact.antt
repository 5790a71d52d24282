-- `writes` says exactly which bytes a deed writes. Not too few: all others stay (`written_other` of the loader). Not too many: a byte that it
-- writes is afterwards the same, whatever stood in the image before. Assumes nothing.
use Prim.Native.Nat.{ℕ, zero, suc, ◌+◌, ◌/◌, ◌%◌, ◌^◌, ◌≤◌, ◌<◌}
use native.Mathlib.Omega.{arith}
use native.Mathlib.Decide.{ℕ_discrete}
use mathlib.Core.Path.{◌≡◌, refl, sym, ◌∙◌}
use mathlib.Core.Bool.{Bool, true, false, ◌&&◌, ◌||◌, true≢false}
use mathlib.Core.Logic.{inl}
use mathlib.Core.List.{List}
use lib.ListN.{length, get_or, set, length-set}
use lib.Seq.{get_or-set_same}
use lib.Dec.{ltb}
use Rattle.program.proofs.Cases.{by_le, by_lt}
use Rattle.loader.specs.declared.deeds.Deed.{Deed}
use Rattle.loader.specs.declared.deeds.Deed.TheVariants.{Skip, Halves, Word, Key, Register, RegisterOnly, RegisterOutside}
use Rattle.std.specs.Prelude.{Result, Ok, Err}
use Rattle.loader.specs.declared.error.ElfError.{ElfError}
use Rattle.loader.specs.Bytes.{put, length_put}
use Rattle.loader.specs.Deeds.{written, is_in, writes, DeedFits}
use Rattle.loader.proofs.Kept.{apart, put_other}
use Rattle.writers.proofs.Places.{parts}

never : {A : Type 0} → ◌≡◌ {A = Bool} false true → A
never e = absurd (true≢false (sym e))

among : (start n b : ℕ) → is_in start n b ≡ true → (start ≤ b) × (b < start + n)
among start n b = by_le start b (λ (x : Bool). (x && ltb b (start + n)) ≡ true → (start ≤ b) × (b < start + n))
    (λ l. by_lt b (start + n) (λ (x : Bool). x ≡ true → (start ≤ b) × (b < start + n)) (λ m e. (l, m)) (λ m e. never e))
    (λ l e. never e)

-- a number put over bytes: those bytes afterwards
put_there : (k : ℕ) (s l : List ℕ) (at v b : ℕ) → at ≤ b → b < at + k → at + k ≤ length s → length s ≡ length l → get_or (put k s at v) b 0 ≡ get_or (put k l at v) b 0
unfolding put
put_there zero s l at v b h g p q = absurd (omega arith)
put_there (suc k) s l at v b h g p q =
    go (ℕ_discrete b at)
    (λ above. put_there k (set s at (v % 256)) (set l at (v % 256)) (at + 1) (v / 256) b above (omega arith) (rw length-set (omega arith)) (length-set s at (v % 256) ∙ q ∙ sym (length-set l at (v % 256))))
  where
    first : (x : List ℕ) → at + suc k ≤ length x → b ≡ at → get_or (put k (set x at (v % 256)) (at + 1) (v / 256)) b 0 ≡ v % 256
    first x r e = put_other k (set x at (v % 256)) (at + 1) (v / 256) b (inl (omega arith)) ∙ rw e (get_or-set_same x at (v % 256) 0 (omega arith))

    go : Dec (b ≡ at)
        → (at + 1 ≤ b → get_or (put k (set s at (v % 256)) (at + 1) (v / 256)) b 0 ≡ get_or (put k (set l at (v % 256)) (at + 1) (v / 256)) b 0)
        → get_or (put k (set s at (v % 256)) (at + 1) (v / 256)) b 0 ≡ get_or (put k (set l at (v % 256)) (at + 1) (v / 256)) b 0
    go (yes e) rest = first s p e ∙ sym (first l (omega arith) e)
    go (no e) rest = rest (omega arith)

-- two numbers, one put after the other
both_there : (s l : List ℕ) (low high v w b : ℕ) → low + 4 ≤ length s → high + 4 ≤ length s → length s ≡ length l
    → (is_in low 4 b || is_in high 4 b) ≡ true
    → get_or (put 4 (put 4 s low v) high w) b 0 ≡ get_or (put 4 (put 4 l low v) high w) b 0
both_there s l low high v w b p r q h = go (is_in high 4 b) refl
  where
    go : (x : Bool) → is_in high 4 b ≡ x → get_or (put 4 (put 4 s low v) high w) b 0 ≡ get_or (put 4 (put 4 l low v) high w) b 0
    go true e =
        let at = among high 4 b e in
        put_there 4 (put 4 s low v) (put 4 l low v) high w b at.0 at.1 (rw (length_put 4 s low v) r) (length_put 4 s low v ∙ q ∙ sym (length_put 4 l low v))
    go false e =
        let other = apart high 4 b e in
        let at = among low 4 b (first (is_in low 4 b) (rw e at h)) in
        put_other 4 (put 4 s low v) high w b other ∙ put_there 4 s l low v b at.0 at.1 p q ∙ sym (put_other 4 (put 4 l low v) high w b other)
      where
        first : (y : Bool) → (y || false) ≡ true → y ≡ true
        first true k = refl
        first false k = k

pub written_same : (d : Result Deed ElfError) (im l : List ℕ) (b : ℕ) → DeedFits (length im) d → length im ≡ length l → writes d b ≡ true → get_or (written d im) b 0 ≡ get_or (written d l) b 0
written_same (Ok Skip) im l b fits q h = never h
written_same (Err r) im l b fits q h = never h
written_same (Ok (Halves low high v)) im l b fits q h = both_there im l low high (v % 2 ^ 32) (v / 2 ^ 32) b fits.0 fits.1 q h
written_same (Ok (Word at v)) im l b fits q h = both_there im l at (at + 4) (v % 2 ^ 32) (v / 2 ^ 32) b (omega arith) (omega arith) q (rw (parts at 4 4 b) at h)
written_same (Ok (Key at k)) im l b fits q h = let p = among at 4 b h in put_there 4 im l at k b p.0 p.1 fits q
written_same (Ok (Register row at)) im l b fits q h = let p = among at 4 b h in put_there 4 im l at row.key b p.0 p.1 fits q
written_same (Ok (RegisterOnly row)) im l b fits q h = never h
written_same (Ok (RegisterOutside row)) im l b fits q h = never h
