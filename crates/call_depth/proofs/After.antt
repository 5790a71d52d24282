-- After an accepted load the question has its numbers: the text stands in the image, the used rows are few, and a row has the entry's index.
-- Assumes nothing.
use Prim.Native.Nat.{ℕ, zero, ◌+◌, ◌-◌, ◌≤◌, ◌<◌, ◌^◌}
use mathlib.Core.Path.{◌≡◌, refl, sym, ap, ◌∙◌}
use mathlib.Core.Bool.{Bool, true, false, true≢false}
use mathlib.Core.List.{List, []}
use mathlib.Core.Logic.{◌⊎◌, inl, inr}
use native.Mathlib.Omega.{arith}
use lib.ListN.{length, get_or, take, replicate, length-append, length-replicate}
use lib.Seq.{length-take-le, get_or-take}
use borrow.Author.Tests.{le-leb, lt-ltb, le-ltb}
use Rattle.std.specs.Prelude.{Option, Some, None, Ok, Err, Result}
use Rattle.ebpf.specs.Choice.{◌if◌else◌}
use Rattle.program.specs.declared.Row.{Row}
use Rattle.program.specs.declared.FunctionName.{FunctionName}
use Rattle.program.specs.declared.FunctionName.TheVariants.{Entrypoint}
use Rattle.program.specs.Search.{index_of}
use Rattle.program.specs.Table.{Slices, Lent, Shared, least, capacity, lookup_in, row_ascending_in, row_of_found, row_at, Ready as IsTable}
use Rattle.program.specs.HashedLegacy.{legacy_row, collision}
use Rattle.program.proofs.Cases.{zero_one}
use Rattle.program.proofs.Steps.{row_below}
use Rattle.program.proofs.Tables.{lookups_agree, row_agrees}
use Rattle.loader.specs.declared.read_only.Placing.TheVariants.{Borrowed, Owned}
use Rattle.loader.specs.declared.read_only.Placing.{Placing}
use Rattle.loader.specs.declared.error.ElfError.{ElfError}
use Rattle.loader.specs.declared.answer.Accepted.{Accepted}
use Rattle.loader.specs.declared.validate.Config.{Config}
use Rattle.loader.specs.declared.validate.Job.{Job}
use Rattle.loader.specs.Deeds.{deed_trace}
use Rattle.loader.specs.Demand.{Finds, entry_index, OfEntry, name_key, IsNameKey, Entry, Others, Demand3}
use Rattle.loader.specs.Entry.{forget_trace, entry_deed, entry_trace}
use Rattle.loader.specs.Functions.{row_for}
use Rattle.loader.specs.Labels.{labels_trace}
use Rattle.loader.specs.Load.{accepted_as, Loading, holds, refuses, held_by, on_trace, on_prepared, load_of, answer_of, image_of}
use Rattle.loader.specs.Loads.{OnUsed, Loads}
use Rattle.loader.specs.Parts.{writing_trace, naming_trace, placed_trace, job_trace}
use Rattle.loader.specs.Trace.{Settled, accepted, refused, settle}
use Rattle.loader.specs.Validate.{prepared}
use Rattle.loader.proofs.Ends.{ends_then}
use Rattle.loader.proofs.Readied.{readied}
use Rattle.loader.proofs.Registering.{entry_row}
use Rattle.loader.proofs.Traces.{settle_ends}
use Rattle.call_depth.specs.Asked.{fits_in}
use Rattle.call_depth.proofs.Entries.{first_below}
use Rattle.call_depth.proofs.Few.{rows_few, settle_room}

-- ---- the numbers of an answer

-- what an accepted load's answer keeps to
pub record Kept (file : List ℕ) (n rows : ℕ) (j : Job) (a : Accepted) : Type 0 where
  pub room : a.used ≤ rows
  pub few : a.used ≤ 2 ^ 24
  pub text : a.text.start + a.text.length ≤ length file
  pub short : length file ≤ 2 ^ 24
  pub lent : length file ≤ n
  pub entry_is : a.entry ≡ entry_index j

module _ (file builtins : List ℕ) (c : Config) (n m rows : ℕ) where
  module _ (j : Job) (ready : prepared file builtins c n m ≡ Ok j) (im : List ℕ) (held : List Row) (moves : ℕ) (settles : settle rows (job_trace file builtins j file) [] 0 ≡ accepted im held moves) where
    kept_as : (x : Accepted) → x.used ≡ length held → x.text ≡ j.text → x.entry ≡ entry_index j → Kept file n rows j x
    kept_as x u l t =
        let f = readied file builtins c n m j ready in
        record {
          room = omega (arith, settle_room rows (job_trace file builtins j file) [] 0 im held moves (omega arith) settles);
          few = omega (arith, rows_few rows file builtins j im held moves f.0 settles);
          text = rw l f.0.text;
          short = f.0.short;
          lent = f.1;
          entry_is = t;
        }

    placed_kept : (p : Result Placing ElfError) (a : Accepted) → answer_of (held_by file j m p im held moves) ≡ Ok a → Kept file n rows j a
    placed_kept (Ok (Borrowed offset start k)) a e = let q : accepted_as j false offset start k (length held) moves ≡ a = cc in rw (← q) (kept_as _ refl refl refl)
    placed_kept (Ok (Owned offset lowest k)) a e = let q : accepted_as j true offset 0 k (length held) moves ≡ a = cc in rw (← q) (kept_as _ refl refl refl)
    placed_kept (Err r) a e = absurd (zero_one (cc))

    -- the entry's registration is one of the load's
    entry_registered : (row : Row) × OfEntry builtins j row
    unfolding job_trace
    entry_registered =
        let w = ends_then (writing_trace file builtins j file) _ im (settle_ends rows im held moves (job_trace file builtins j file) [] 0 settles) in
        let p = ends_then (naming_trace file builtins j w.0) (placed_trace j.placing) im w.2 in
        let l = ends_then (labels_trace file builtins j w.0) (entry_trace builtins j) p.0 p.1 in
        let f = ends_then (forget_trace j.version2 l.0) (λ (im' : List ℕ). deed_trace (entry_deed builtins j) im') p.0 l.2 in
        entry_row builtins j f.0 p.0 f.2

  -- a file that an accepted load's answer is of
  pub record From (a : Accepted) : Type 0 where
    pub job : Job
    pub ready : prepared file builtins c n m ≡ Ok job
    pub kept : Kept file n rows job a
    pub row : Row
    pub entered : OfEntry builtins job row

  pub from : (a : Accepted) → answer_of (load_of file builtins c n m rows) ≡ Ok a → From a
  unfolding load_of
  from a e = by_prepared (prepared file builtins c n m) refl e
    where
      by_settled : (j : Job) → prepared file builtins c n m ≡ Ok j
          → (s : Settled)
          → settle rows (job_trace file builtins j file) [] 0 ≡ s
          → answer_of (on_trace file j m s) ≡ Ok a
          → From a
      by_settled j r (refused x) q h = absurd (zero_one (cc))
      by_settled j r (accepted im held moves) q h =
          let d = entry_registered j r im held moves q in
          record { job = j; ready = r; kept = placed_kept j r im held moves q j.placing a h; row = d.0; entered = d.1 }

      by_prepared : (p : Result Job ElfError) → prepared file builtins c n m ≡ p → answer_of (on_prepared file builtins m rows p) ≡ Ok a → From a
      by_prepared (Err r) q h = absurd (zero_one (cc))
      by_prepared (Ok j) q h = by_settled j q (settle rows (job_trace file builtins j file) [] 0) refl h

-- ---- the entry has a row

free_index : (b : Bool) (key : ℕ) (x row : Row) → (Err (collision key) if b else Ok x) ≡ Ok row → x ≡ row
unfolding ◌if◌else◌
free_index true key x row e = absurd (zero_one (cc))
free_index false key x row e = cc

row_index : (builtins : List ℕ) (j : Job) (name : FunctionName) (index : ℕ) (row : Row) → row_for builtins j name index ≡ Ok row → row.index ≡ index
unfolding row_for legacy_row
row_index builtins j name index row e = ap (λ r. r.index) (sym (free_index _ _ _ row e))

-- what a lookup finds is one of the used rows
module _ (t : Slices) (used : ℕ) (table : IsTable t used) where
  at_row : (f : Option ℕ) (row : Row) → row_of_found t f ≡ Some row → (r : ℕ) × (f ≡ Some r) × (row_at t r ≡ row)
  at_row (Some r) row e = (r, refl, cc)
  at_row None row e = absurd (zero_one (cc))

  pub found_row : (key : ℕ) (row : Row) → lookup_in t used key ≡ Some row → (r : ℕ) × (row_ascending_in t.keys used key ≡ Some r) × (r < used) × (get_or t.indices r 0 ≡ row.index)
  found_row key row e =
      let w = at_row (row_ascending_in t.keys used key) row (sym (row_agrees t used table key) ∙ lookups_agree t used table key ∙ e) in
      let b = row_below t.keys used key w.0 w.1 in
      (w.0, w.1, omega (arith, b), ap (λ r. r.index) w.2)

  pub found_first : (key index : ℕ) → used ≤ length t.indices → Finds (lookup_in t used) key index → index_of index (take used t.indices) < length (take used t.indices)
  found_first key index long f =
      let w = found_row key f.0 f.1 in
      let len : length (take used t.indices) ≡ used = length-take-le used t.indices long in
      first_below index (take used t.indices) w.0 (omega (arith, w.2)) (get_or-take used t.indices w.0 0 w.2 ∙ w.3 ∙ f.2)

-- the lent image is as long as it was
image_long : (n : ℕ) (x : Loading) → n ≤ length (image_of n x)
image_long n (holds a im ro rows) = omega (arith, length-append im (replicate (n - length im) 0), length-replicate (n - length im) (zero))
image_long n (refuses r) = omega (arith, length-replicate n (zero))

-- what a load of n lent bytes for the image, m for the read-only bytes, and the table t₀ leaves: its answer, image and table
pub record Made (file builtins : List ℕ) (c : Config) (n m : ℕ) (t₀ : Slices) (im : List ℕ) (t : Slices) (r : Result Accepted ElfError) : Type 0 where
  pub answers : r ≡ answer_of (load_of file builtins c n m (capacity t₀))
  pub image : im ≡ image_of n (load_of file builtins c n m (capacity t₀))
  pub keyed : Demand3 file builtins c n m t₀ im t r
  pub ascending : OnUsed r (λ used. IsTable t used)

pub made : (file : Shared) (builtins : List ℕ) (c : Config) (image ro : Lent) (t₀ t : Slices) (r : Result Accepted ElfError) → Loads file builtins c image ro t₀ t r
    → Made file.entry.now builtins c (length image.entry.now) (length ro.entry.now) t₀ image.exit.now t r
made file builtins c image ro t₀ t r l = record { answers = l.loaded.answers; image = l.loaded.demand_1.image; keyed = l.keyed; ascending = l.ascending }

module _ (file builtins : List ℕ) (c : Config) (n m : ℕ) (t₀ : Slices) (im : List ℕ) (t : Slices) (a : Accepted) (l : Made file builtins c n m t₀ im t (Ok a)) where
  source : From file builtins c n m (capacity t₀) a
  source = from file builtins c n m (capacity t₀) a (sym l.answers)

  -- ITS NUMBERS PASS
  pub fits_after : fits_in (capacity t₀) (length im) a.used a.text.start a.text.length ≡ true
  unfolding fits_in
  fits_after =
      let k = source.kept in
      let long : n ≤ length im = rw l.image (image_long n (load_of file builtins c n m (capacity t₀))) in
      rw (le-leb a.used (capacity t₀) k.room, lt-ltb a.used 0x4000_0000 (omega (arith, k.few)), le-leb a.text.length 0x100_0000 (omega (arith, k.text, k.short)), le-ltb (length im) (a.text.start + a.text.length) (omega (arith, k.text, k.lent, long))) refl

  -- in both versions a key finds the entry
  finds_entry : (key : ℕ) × Finds (lookup_in t a.used) key a.entry
  finds_entry =
      let s = source in
      let others : Others file builtins s.job (lookup_in t a.used) = rw s.ready at l.keyed.others in
      let entry : Entry s.job (lookup_in t a.used) = rw s.ready at l.keyed.entry in
      rw s.kept.entry_is (go s.job.version2 refl entry (others s.row (inr (inr (inr s.entered)))))
    where
      go : (b : Bool) → source.job.version2 ≡ b → Entry source.job (lookup_in t a.used) → IsNameKey source.job source.row.key ⊎ Finds (lookup_in t a.used) source.row.key source.row.index
          → (key : ℕ) × Finds (lookup_in t a.used) key (entry_index source.job)
      go false e f o = (name_key, f e)
      go true e f (inl n) = absurd (true≢false (sym e ∙ n.0))
      go true e f (inr f') = (source.row.key, rw (row_index builtins source.job Entrypoint (entry_index source.job) source.row source.entered) at f')

  -- A ROW HAS THE ENTRY'S INDEX
  pub entry_after : index_of a.entry (take a.used t.indices) < length (take a.used t.indices)
  unfolding capacity least
  entry_after = let f = finds_entry in found_first t a.used l.ascending f.0 a.entry (let r = l.ascending.room in omega arith) f.1
