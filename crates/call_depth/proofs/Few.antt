-- A load uses few rows: no more than are lent, and no more than it has calls, relocations and labels, and one for the entry.
-- Assumes nothing.
use Prim.Native.Nat.{ℕ, zero, suc, ◌+◌, ◌≤◌, ◌^◌}
use mathlib.Core.Path.{◌≡◌}
use mathlib.Core.Bool.{Bool, true, false}
use mathlib.Core.List.{List, []}
use native.Mathlib.Omega.{arith}
use lib.ListN.{length}
use Rattle.std.specs.Prelude.{Result, Ok, Err}
use Rattle.program.specs.declared.Row.{Row}
use Rattle.program.specs.Rows.{registered, remove, RegisterResult}
use Rattle.program.specs.Rows as table
use Rattle.program.proofs.Cases.{zero_one}
use Rattle.program.proofs.Laws.{by_registered, length_insert, registered_room}
use Rattle.loader.specs.declared.read_only.Placing.TheVariants.{Borrowed, Owned}
use Rattle.loader.specs.declared.read_only.Placing.{Placing}
use Rattle.loader.specs.declared.error.ElfError.{ElfError}
use Rattle.loader.specs.declared.deeds.Deed.{Deed}
use Rattle.loader.specs.declared.deeds.Deed.TheVariants.{Skip, Halves, Word, Key, Register, RegisterOnly, RegisterOutside}
use Rattle.loader.specs.declared.validate.Job.{Job}
use Rattle.loader.specs.Calls.{slot_count, call_deed, slot_trace, calls_trace}
use Rattle.loader.specs.InFile.{InFile}
use Rattle.loader.specs.Deeds.{deed_trace}
use Rattle.loader.specs.Entry.{forget_trace, entry_deed, entry_trace}
use Rattle.loader.specs.Labels.{label_symbols, label_count, label_deed, label_trace, labels_trace, few_symbols}
use Rattle.loader.specs.Parts.{writing_trace, naming_trace, placed_trace, job_trace}
use Rattle.loader.specs.Relocations.{relocation_count, relocation_deed, relocation_trace, relocations_trace}
use Rattle.loader.specs.Trace.{Trace, done, stop, register, forget, and_then, each, accepted, settle}
use Rattle.loader.proofs.Counting.{remove_le}
use Rattle.loader.proofs.Traces.{Went, went}

-- at most n functions are registered
abbrev AtMost : ℕ → Trace → Type 0
AtMost n (done im) = Unit {0}
AtMost n (stop r) = Unit {0}
AtMost zero (register row t) = ⊥
AtMost (suc n) (register row t) = AtMost n t
AtMost n (forget key t) = AtMost n t

more : (n k : ℕ) (T : Trace) → n ≤ k → AtMost n T → AtMost k T
more n k (done im) l a = tt
more n k (stop r) l a = tt
more zero k (register row t) l a = absurd a
more (suc n) zero (register row t) l a = absurd (omega arith)
more (suc n) (suc k) (register row t) l a = more n k t (omega arith) a
more n k (forget key t) l a = more n k t l a

most_then : (n k : ℕ) (T : Trace) (K : List ℕ → Trace) → AtMost n T → ((im : List ℕ) → AtMost k (K im)) → AtMost (n + k) (and_then T K)
unfolding and_then
most_then n k (done im) K a b = more k (n + k) (K im) (omega arith) (b im)
most_then n k (stop r) K a b = tt
most_then zero k (register row t) K a b = absurd a
most_then (suc n) k (register row t) K a b = let e : suc n + k ≡ suc (n + k) = omega arith in rw e (most_then n k t K a b)
most_then n k (forget key t) K a b = most_then n k t K a b

most_each : (step : ℕ → List ℕ → Trace) → ((i : ℕ) (im : List ℕ) → AtMost 1 (step i im)) → (n i : ℕ) (im : List ℕ) → AtMost n (each step n i im)
unfolding each
most_each step s zero i im = tt
most_each step s (suc n) i im = let e : suc n ≡ 1 + n = omega arith in rw e (most_then 1 n (step i im) (λ im'. each step n (i + 1) im') (s i im) (λ im'. most_each step s n (i + 1) im'))

deed_one : (d : Result Deed ElfError) (im : List ℕ) → AtMost 1 (deed_trace d im)
unfolding deed_trace
deed_one (Ok Skip) im = tt
deed_one (Err r) im = tt
deed_one (Ok (Halves low high v)) im = tt
deed_one (Ok (Word at v)) im = tt
deed_one (Ok (Key at k)) im = tt
deed_one (Ok (Register row at)) im = tt
deed_one (Ok (RegisterOnly row)) im = tt
deed_one (Ok (RegisterOutside row)) im = tt

placed_none : (p : Result Placing ElfError) (im : List ℕ) → AtMost 0 (placed_trace p im)
placed_none (Ok (Borrowed offset start n)) im = tt
placed_none (Ok (Owned offset lowest n)) im = tt
placed_none (Err r) im = tt

forget_none : (version2 : Bool) (im : List ℕ) → AtMost 0 (forget_trace version2 im)
forget_none true im = tt
forget_none false im = tt

module _ (file builtins : List ℕ) (j : Job) where
  slot_one : (i : ℕ) (im : List ℕ) → AtMost 1 (slot_trace file builtins j i im)
  unfolding slot_trace
  slot_one i im = deed_one (call_deed file builtins j i) im

  relocation_one : (i : ℕ) (im : List ℕ) → AtMost 1 (relocation_trace file builtins j i im)
  unfolding relocation_trace
  relocation_one i im = deed_one (relocation_deed file builtins j i im) im

  label_one : (i : ℕ) (im : List ℕ) → AtMost 1 (label_trace file builtins j i im)
  unfolding label_trace
  label_one i im = deed_one (label_deed file builtins j (label_symbols file j) i) im

  writing_most : (im : List ℕ) → AtMost (slot_count j + relocation_count j) (writing_trace file builtins j im)
  writing_most im =
      most_then (slot_count j) (relocation_count j) (calls_trace file builtins j im) (relocations_trace file builtins j)
      (most_each (slot_trace file builtins j) slot_one (slot_count j) 0 im)
      (λ im'. most_each (relocation_trace file builtins j) relocation_one (relocation_count j) 0 im')

  entry_most : (im : List ℕ) → AtMost (0 + 1) (entry_trace builtins j im)
  entry_most im = most_then 0 1 (forget_trace j.version2 im) (λ im'. deed_trace (entry_deed builtins j) im') (forget_none j.version2 im) (deed_one (entry_deed builtins j))

  naming_most : (im : List ℕ) → AtMost (label_count file j + (0 + 1)) (naming_trace file builtins j im)
  naming_most im =
      most_then (label_count file j) (0 + 1) (labels_trace file builtins j im) (entry_trace builtins j)
      (most_each (label_trace file builtins j) label_one (label_count file j) 0 im)
      entry_most

  job_most : (im : List ℕ) → AtMost (slot_count j + relocation_count j + (label_count file j + (0 + 1) + 0)) (job_trace file builtins j im)
  unfolding job_trace
  job_most im =
      most_then (slot_count j + relocation_count j) (label_count file j + (0 + 1) + 0) (writing_trace file builtins j im) (λ im₁. and_then (naming_trace file builtins j im₁) (placed_trace j.placing))
      (writing_most im)
      (λ im₁. most_then (label_count file j + (0 + 1)) 0 (naming_trace file builtins j im₁) (placed_trace j.placing) (naming_most im₁) (placed_none j.placing))

registered_le : (cap : ℕ) (r : Row) (rs : List Row) → length (registered cap r rs) ≤ suc (length rs)
registered_le cap r rs = by_registered (λ (l : List Row) (_ : RegisterResult). length l ≤ suc (length rs)) cap r rs
    (λ _ _ _. omega arith) (λ _ _ _. omega arith) (λ _ _. omega arith) (λ _ _. omega (arith, length_insert r rs))

settle_few : (cap : ℕ) (T : Trace) (n : ℕ) (rows : List Row) (m : ℕ) (im : List ℕ) (held : List Row) (k : ℕ) → AtMost n T → settle cap T rows m ≡ accepted im held k → length held ≤ length rows + n
unfolding settle
settle_few cap (done im') n rows m im held k a e = let h : rows ≡ held = cc in rw h (omega arith)
settle_few cap (stop r) n rows m im held k a e = absurd (zero_one (cc))
settle_few cap (register row t) zero rows m im held k a e = absurd a
settle_few cap (register row t) (suc n) rows m im held k a e =
    let w : Went (table.register cap row rows) m (λ (n : ℕ). settle cap t (registered cap row rows) n) (accepted im held k) = went (table.register cap row rows) cap row.key m (λ (n : ℕ). settle cap t (registered cap row rows) n) im held k e in
    omega (arith, settle_few cap t n (registered cap row rows) w.moves im held k a w.on, registered_le cap row rows)
settle_few cap (forget key t) n rows m im held k a e = omega (arith, settle_few cap t n (remove key rows) _ im held k a e, remove_le key rows)

-- they have room
pub settle_room : (cap : ℕ) (T : Trace) (rows : List Row) (m : ℕ) (im : List ℕ) (held : List Row) (k : ℕ) → length rows ≤ cap → settle cap T rows m ≡ accepted im held k → length held ≤ cap
unfolding settle
settle_room cap (done im') rows m im held k l e = let h : rows ≡ held = cc in rw (← h) l
settle_room cap (stop r) rows m im held k l e = absurd (zero_one (cc))
settle_room cap (register row t) rows m im held k l e =
    let w : Went (table.register cap row rows) m (λ (n : ℕ). settle cap t (registered cap row rows) n) (accepted im held k) = went (table.register cap row rows) cap row.key m (λ (n : ℕ). settle cap t (registered cap row rows) n) im held k e in
    settle_room cap t (registered cap row rows) w.moves im held k (registered_room cap row rows l) w.on
settle_room cap (forget key t) rows m im held k l e = settle_room cap t (remove key rows) _ im held k (omega (arith, remove_le key rows)) e

-- THE USED ROWS of an accepted load are few
pub rows_few : (cap : ℕ) (file builtins : List ℕ) (j : Job) (im : List ℕ) (held : List Row) (k : ℕ) → InFile file j
    → settle cap (job_trace file builtins j file) [] 0 ≡ accepted im held k
    → length held ≤ 2 ^ 24
rows_few cap file builtins j im held k f e =
    let s = few_symbols file j in
    omega (arith, settle_few cap (job_trace file builtins j file) (slot_count j + relocation_count j + (label_count file j + (0 + 1) + 0)) [] 0 im held k (job_most file builtins j file) e, s, f.text, f.short, f.relocations, f.relas)
