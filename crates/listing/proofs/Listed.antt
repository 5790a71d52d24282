-- The lines of the rows that columns hold, and of the rows that a load leaves. Assumes nothing.
use Prim.Native.Nat.{ℕ, ◌+◌, ◌≤◌, ◌<◌, zero-le}
use native.Mathlib.Numerals.{add-one}
use native.Mathlib.Omega.{arith}
use mathlib.Core.Path.{◌≡◌, refl, ap}
use mathlib.Core.List.{List, [], ◌++◌}
use lib.ListN.{length, get_or, drop, replicate, drop_of_length-le, length-replicate}
use lib.Seq.{drop-cons}
use borrow.Author.Tests.{lt-ltb, le-ltb}
use Rattle.std.specs.Prelude.{Result, Ok, Err}
use Rattle.ebpf.specs.Choice.{◌if◌else◌}
use Rattle.program.specs.declared.Row.{Row}
use Rattle.program.specs.Rows.{Ascending}
use Rattle.program.specs.Table.{Slices, slices, rows_of, capacity, least, Within, SameLens}
use Rattle.program.proofs.Laying.{zero_row, row_at_lem, length_rows, rows_lay, within_room}
use Rattle.program.proofs.Tables.{capacity_same}
use Rattle.loader.specs.declared.read_only.Placing.TheVariants.{Borrowed, Owned}
use Rattle.loader.specs.declared.read_only.Placing.{Placing}
use Rattle.loader.specs.declared.answer.Accepted.{Accepted}
use Rattle.loader.specs.declared.error.ElfError.{ElfError}
use Rattle.loader.specs.declared.validate.Config.{Config}
use Rattle.loader.specs.declared.validate.Job.{Job}
use Rattle.loader.specs.Load.{Loading, load_of, on_prepared, on_trace, held_by, answer_of, rows_in, Loaded}
use Rattle.loader.specs.Loads.{used_of}
use Rattle.loader.specs.Parts.{job_trace}
use Rattle.loader.specs.Trace.{Settled, accepted, refused, settle}
use Rattle.loader.specs.Validate.{prepared}
use Rattle.loader.proofs.Keyed.{rows_room}
use Rattle.loader.proofs.Traces.{settle_ascends}
use Rattle.listing.specs.Lines.{row_line, row_lines, answer_lines, load_lines, listed_load, all_on, too_long, lines_of, Stored, Listing}
use Rattle.listing.proofs.Stores.{sets_filled}

-- ---- rows in columns

module _ (t : Slices) (n i : ℕ) where
  -- the lines from row i on: its line, and those behind it
  pub lines_from : i < n → row_lines (drop i (rows_of t n)) ≡ row_line (get_or t.keys i 0) (get_or t.indices i 0) (get_or t.kinds i 0) ++ row_lines (drop (i + 1) (rows_of t n))
  unfolding row_lines
  lines_from h =
      let inside : i < length (rows_of t n) = rw length_rows h in
      rw (drop-cons (rows_of t n) i zero_row, row_at_lem t n i h, add-one)

  pub lines_end : n ≤ i → row_lines (drop i (rows_of t n)) ≡ []
  unfolding row_lines
  lines_end h = rw (drop_of_length-le (rows_of t n) {i = i} (rw length_rows h))

-- ---- the rows of a load: the answer counts them, there are no more than n, and their keys rise

record Counted (x : Loading) (n : ℕ) : Type 0 where
  used : used_of (answer_of x) ≡ length (rows_in x)
  room : length (rows_in x) ≤ n
  rising : Ascending (rows_in x)

module _ (file builtins : List ℕ) (m cap : ℕ) where
  counted_held : (j : Job) (p : Result Placing ElfError) (im : List ℕ) (rows : List Row) (moves : ℕ) → length rows ≤ cap → Ascending rows → Counted (held_by file j m p im rows moves) cap
  counted_held j (Ok (Borrowed offset start n)) im rows moves h r = record { used = refl; room = h; rising = r }
  counted_held j (Ok (Owned offset lowest n)) im rows moves h r = record { used = refl; room = h; rising = r }
  counted_held j (Err e) im rows moves h r = record { used = refl; room = zero-le; rising = tt }

  counted_trace : (j : Job) (s : Settled) → settle cap (job_trace file builtins j file) [] 0 ≡ s → Counted (on_trace file j m s) cap
  counted_trace j (accepted im rows moves) e = counted_held j j.placing im rows moves (rows_room file builtins j cap im rows moves e) (settle_ascends cap im rows moves (job_trace file builtins j file) [] 0 tt e)
  counted_trace j (refused r) e = record { used = refl; room = zero-le; rising = tt }

  counted_prepared : (p : Result Job ElfError) → Counted (on_prepared file builtins m cap p) cap
  counted_prepared (Ok j) = counted_trace j (settle cap (job_trace file builtins j file) [] 0) refl
  counted_prepared (Err r) = record { used = refl; room = zero-le; rising = tt }

  counted : (c : Config) (n : ℕ) → Counted (load_of file builtins c n m cap) cap
  unfolding load_of
  counted c n = counted_prepared (prepared file builtins c n m)

-- what a load leaves gives the load's lines
module _ (x : Loading) (im ro : List ℕ) (t : Slices) (im' ro' : List ℕ) (t' : Slices) (a : Result Accepted ElfError) (did : Loaded x im ro t im' ro' t' a) (n : ℕ) (c : Counted x n) (cap : capacity t ≡ n) where
  left_used : used_of a ≤ n
  left_used = rw (did.answers, c.used) c.room

  left_lines : answer_lines a (rows_of t' (used_of a)) ≡ load_lines x
  left_lines = rw (did.answers, c.used, did.demand_1.table) (ap (answer_lines (answer_of x)) (rows_lay t (rows_in x) (rw cap c.room)))

-- ---- the load of a listing, in the slices that it lends

abbrev zeros : List ℕ
zeros = replicate 16384 0

abbrev none : Slices
none = slices (replicate 256 0) (replicate 256 0) (replicate 256 0) (replicate 256 0) (replicate 256 0)

none_rows : capacity none ≡ 256
unfolding capacity least
none_rows = refl

listed_counted : (file : List ℕ) → Counted (listed_load file) 256
listed_counted file = counted file [] 16384 256 all_on 16384

-- the rows listed are by rising key
pub rows_rise : (file : List ℕ) → Ascending (rows_in (listed_load file))
rows_rise file = (listed_counted file).rising

module _ (file im ro : List ℕ) (t : Slices) (a : Result Accepted ElfError) (did : Loaded (load_of file [] all_on (length zeros) (length zeros) (capacity none)) zeros zeros none im ro t a) where
  as_listed : Loaded (listed_load file) zeros zeros none im ro t a
  as_listed = rw (length-replicate {A = ℕ} 16384 0, none_rows) at did

  listed_used : used_of a ≤ 256
  listed_used = left_used (listed_load file) zeros zeros none im ro t a as_listed 256 (listed_counted file) none_rows

  -- of the table as it is lent then: u with n used rows
  module _ (u : Slices) (n : ℕ) (is : u ≡ t) (used : n ≡ used_of a) where
    pub listed_within : SameLens none t → (n ≤ 256) × Within n u
    listed_within lens =
        let few : n ≤ 256 = rw used listed_used in
        (few, rw is (within_room n t (rw (capacity_same none t lens, none_rows) few)))

    pub listed_stored : (s v : List ℕ) (at r : ℕ) → Stored 16221 (answer_lines a (rows_of u n)) s v at r → Stored 16221 (load_lines (listed_load file)) s v at r
    listed_stored s v at r b = rw (is, used, left_lines (listed_load file) zeros zeros none im ro t a as_listed 256 (listed_counted file) none_rows) at b

-- ---- the lines of a file

pub lines_long : (file : List ℕ) → 16384 < length file → lines_of file ≡ too_long
unfolding lines_of ◌if◌else◌
lines_long file h = rw (lt-ltb 16384 (length file) h)

pub lines_load : (file : List ℕ) → length file ≤ 16384 → lines_of file ≡ load_lines (listed_load file)
unfolding lines_of ◌if◌else◌
lines_load file h = rw (le-ltb 16384 (length file) h)

-- the lines stored over zeros, in the slice that is given back
pub lines_listed : (most : ℕ) (file bytes s z u v : List ℕ) (r : ℕ) → lines_of file ≡ bytes → most ≤ 16384 → z ≡ replicate (length s) 0 → Stored most bytes z u 0 r → u ≡ v → Listing file s v r
lines_listed most file bytes s z u v r is few cleared a left = record {
  count = rw is (omega (arith, a.next));
  bytes = rw (← left, a.stores, cleared, is) (sets_filled (length s) bytes);
  few = omega (arith, a.near);
}
