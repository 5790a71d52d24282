-- What the contracts mean for a table, whose used rows ascend with zeros elsewhere: a registration and a removal are those of its rows, and
-- what they leave is a table again. Assumes nothing.
use mathlib.Core.Path.{◌≡◌, refl, sym, ap, subst, ◌∙◌}
use mathlib.Core.Bool.{Bool}
use mathlib.Core.List.{List, [], ◌∷◌, ◌++◌, map}
use Prim.Native.Nat.{ℕ, suc, ◌-◌, ◌≤◌, ◌<◌, min, zero-le}
use native.Mathlib.Omega.{arith}
use lib.ListN.{length, take, drop, get_or, replicate}
use borrow.Author.Tests.{lt-ltb, le-ltb, eq-eqb, ne_eqb}
use Rattle.ebpf.specs.Choice.{◌if◌else◌}
use Rattle.std.specs.Prelude.{Option, Some, None, Ok, Err}
use Rattle.program.specs.declared.Registered.TheVariants.{Inserted, Repeat}
use Rattle.program.specs.declared.RegisterError.TheVariants.{Collision, Full}
use Rattle.program.specs.declared.Row.{Row}
use Rattle.program.specs.Search.{binary_search}
use Rattle.program.specs.Rows.{RegisterResult, rank, Ascending, find, remove, register, registered, unregister}
use Rattle.program.specs.Table.{Slices, SameLens, least, capacity, column, lay, row_at, rows_of, opened_row, closed_row, counted, place_in, register_in, registered_by, registered_in, unregister_at, unregistered_at, unregister_in, unregistered_in, Registers, Unregisters, lookup_in, found_at, lookup_ascending_in, number_at, row_ascending_in, row_of_found, index_of_row, index_ascending_in, index_of_found, ranks_of, holds, Ready, Registration, Removal}
use Rattle.program.proofs.Cases.{by_test}
use Rattle.program.proofs.Searches.{search_place}
use Rattle.program.proofs.Laying.{zero_row, within_room, length_column, length_rows, ranks_rows, row_at_lem, rows_lay, capacity_lay, opened_lay, closed_lay}
use Rattle.program.proofs.Steps.{number_holds, by_holds, by_registered_at}
use Rattle.program.proofs.Rows.{place_of, find_here, find_missing, insert_here, above_missing, remove_here, above_held, remove_missing}
use Rattle.program.proofs.Laws.{registered_ascending, registered_room, remove_ascending, length_remove, gone_iff, absent_iff, above_less}

-- ---- slices of the same lengths

pub same_refl : (t : Slices) → SameLens t t
same_refl t = record { keys_as = refl; indices_as = refl; kinds_as = refl; starts_as = refl; lengths_as = refl }

pub same_trans : (t u v : Slices) → SameLens t u → SameLens u v → SameLens t v
same_trans t u v p q = record {
  keys_as = q.keys_as ∙ p.keys_as;
  indices_as = q.indices_as ∙ p.indices_as;
  kinds_as = q.kinds_as ∙ p.kinds_as;
  starts_as = q.starts_as ∙ p.starts_as;
  lengths_as = q.lengths_as ∙ p.lengths_as;
}

pub capacity_same : (t u : Slices) → SameLens t u → capacity u ≡ capacity t
unfolding capacity
capacity_same t u s = simp (s.keys_as, s.indices_as, s.kinds_as, s.starts_as, s.lengths_as)

pub lay_same : (t u : Slices) (rs : List Row) → SameLens t u → lay u rs ≡ lay t rs
unfolding lay
lay_same t u rs s = simp (s.keys_as, s.indices_as, s.kinds_as, s.starts_as, s.lengths_as)

-- ---- rows that were laid

module _ (t : Slices) (rs : List Row) (room : length rs ≤ capacity t) where
  pub same_lay : SameLens t (lay t rs)
  unfolding lay capacity least
  same_lay = record {
    keys_as = length_column (λ (r : Row). r.key) rs (length t.keys) (omega arith);
    indices_as = length_column (λ (r : Row). r.index) rs (length t.indices) (omega arith);
    kinds_as = length_column (λ (r : Row). r.kind) rs (length t.kinds) (omega arith);
    starts_as = length_column (λ (r : Row). r.start) rs (length t.starts) (omega arith);
    lengths_as = length_column (λ (r : Row). r.length) rs (length t.lengths) (omega arith);
  }

  pub ready_lay : Ascending rs → Ready (lay t rs) (length rs)
  ready_lay a = record {
    room = rw (capacity_lay t rs room) room;
    laid = rw (rows_lay t rs room) (sym (lay_same t (lay t rs) rs same_lay));
    rising = rw (rows_lay t rs room) a;
  }

  -- what was laid is looked up, in ascending rows or not
  pub lookup_lay : (k : ℕ) → lookup_in (lay t rs) (length rs) k ≡ find k rs
  unfolding lookup_in counted
  lookup_lay k =
      let all : min (length rs) (capacity t) ≡ length rs = omega arith in
      rw (capacity_lay t rs room, all, rows_lay t rs room) refl

-- no rows: slices of zeros
pub zeros_lay : (t u : Slices)
    → u.keys ≡ replicate (length t.keys) 0
    → u.indices ≡ replicate (length t.indices) 0
    → u.kinds ≡ replicate (length t.kinds) 0
    → u.starts ≡ replicate (length t.starts) 0
    → u.lengths ≡ replicate (length t.lengths) 0
    → u ≡ lay t []
unfolding lay column
zeros_lay t u a b c d e = λ i. record {
  keys = (a ∙ whole (length t.keys)) i;
  indices = (b ∙ whole (length t.indices)) i;
  kinds = (c ∙ whole (length t.kinds)) i;
  starts = (d ∙ whole (length t.starts)) i;
  lengths = (e ∙ whole (length t.lengths)) i;
}
  where
    whole : (n : ℕ) → replicate {A = ℕ} n 0 ≡ replicate (n - 0) 0
    whole n = let z : n - 0 ≡ n = omega arith in rw z refl

pub ready_none : (t : Slices) → t ≡ lay t [] → Ready t 0
ready_none t z = subst (λ (u : Slices). Ready u 0) (sym z) (ready_lay t [] zero-le tt)

-- ---- the ways that a removal goes at a place, for any statement of the slices afterwards and the answer

by_unregistered_at : (P : Slices → Option ℕ → Type 0) (t : Slices) (n at k : ℕ)
    → ((at < n → rank (row_at t at) ≡ k → ⊥) → P t None)
    → (at < n → rank (row_at t at) ≡ k → P (closed_row at n t) (Some (n - at - 1)))
    → P (unregistered_at t n at k) (unregister_at t n at k)
unfolding unregister_at unregistered_at ◌if◌else◌
by_unregistered_at P t n at k none one =
    by_holds t n at k (λ (b : Bool). P (closed_row at n t if b else t) (Some (n - at - 1) if b else None)) one none

-- ---- a row's number, whatever the slices hold

-- the row that is found at a place
same_row : (t : Slices) (n at k : ℕ) → found_at t n at k ≡ row_of_found t (number_at t.keys n at k)
unfolding found_at ◌if◌else◌
same_row t n at k = rw (number_holds t n at k) (by_test (holds t n at k) (λ (b : Bool). (Some (row_at t at) if b else None) ≡ row_of_found t (Some at if b else None)) (λ _. refl) (λ _. refl))

-- by the keys of the rows that count, the number is that of the row that the search finds
pub row_counted : (t : Slices) (used k : ℕ) → lookup_ascending_in t used k ≡ row_of_found t (row_ascending_in t.keys (counted t used) k)
unfolding lookup_ascending_in row_ascending_in place_in ranks_of counted capacity least
row_counted t used k =
    let n = min used (least (length t.keys) (length t.indices) (length t.kinds) (length t.starts) (length t.lengths)) in
    let all : min n (length t.keys) ≡ n = omega arith in
    rw all (same_row t n (binary_search k (take n t.keys)) k)

-- the index of a row is that in the column of indices at its number
index_at : (t : Slices) (r : Option ℕ) → index_of_row t.indices r ≡ index_of_found (row_of_found t r)
index_at t (Some n) = refl
index_at t None = refl

-- ---- a table

module _ (t : Slices) (used : ℕ) (ready : Ready t used) where
  pub counted_ready : counted t used ≡ used
  unfolding counted
  counted_ready = let r = ready.room in omega arith

  -- the place that the search comes to is the rows' own
  place_ready : (k : ℕ) → place_in t used k ≡ place_of k (rows_of t used)
  unfolding place_in
  place_ready k =
      let ranks = ranks_rows t used (within_room used t ready.room).in_keys in
      rw (← ranks) (search_place k (map rank (rows_of t used)) ready.rising)

  module _ (k at : ℕ) (is : at ≡ place_of k (rows_of t used)) where
    at_rank : at < used → rank (get_or (rows_of t used) at zero_row) ≡ rank (row_at t at)
    at_rank l = ap rank (row_at_lem t used at l)

    -- rank k is not there
    missing : (at < used → rank (row_at t at) ≡ k → ⊥) → find k (rows_of t used) ≡ None
    missing h = find_missing k zero_row (rows_of t used) ready.rising (λ l e.
        let l' : at < used = omega (arith, is, length_rows t used) in
        h l' (sym (at_rank l') ∙ rw is e))

    absent : (at < used → rank (row_at t at) ≡ k → ⊥) → Removal t t used k None
    unfolding unregister
    absent h = record {
      answers = rw (missing h) refl;
      leaves = rw (remove_missing k (rows_of t used) (missing h)) ready.laid;
    }

    -- rank k is there
    module _ (l : at < used) (e : rank (row_at t at) ≡ k) where
      inside : place_of k (rows_of t used) < length (rows_of t used)
      inside = omega (arith, is, length_rows t used)

      same : rank (get_or (rows_of t used) (place_of k (rows_of t used)) zero_row) ≡ k
      same = rw (← is) (at_rank l ∙ e)

      found : find k (rows_of t used) ≡ Some (row_at t at)
      found = find_here k zero_row (rows_of t used) inside same ∙ rw (← is) (ap Some (row_at_lem t used at l))

      gone : Removal t (closed_row at used t) used k (Some (used - at - 1))
      unfolding unregister
      gone = record {
        answers = rw found (ap Some (omega (arith, above_held k zero_row (rows_of t used) ready.rising inside same, is, length_rows t used)));
        leaves =
            let lays : closed_row at used (lay t (rows_of t used)) ≡ lay t (take at (rows_of t used) ++ drop (suc at) (rows_of t used)) =
            rw (length_rows t used) at (closed_lay t (rows_of t used) (rw (length_rows t used) ready.room) at (rw (length_rows t used) l)) in
            ap (closed_row at used) ready.laid ∙ lays ∙ ap (lay t) (rw is (sym (remove_here k zero_row (rows_of t used) inside same)));
      }

  -- THE TWO LOOKUPS AGREE on a table, for every key
  pub lookups_agree : (k : ℕ) → lookup_ascending_in t used k ≡ lookup_in t used k
  unfolding lookup_ascending_in lookup_in found_at ◌if◌else◌
  lookups_agree k =
      let is = place_ready k in
      rw counted_ready
      (by_holds t used (place_in t used k) k (λ (b : Bool). (Some (row_at t (place_in t used k)) if b else None) ≡ find k (rows_of t used))
      (λ l e. sym (found k (place_in t used k) is l e))
      (λ h. sym (missing k (place_in t used k) is h)))

  -- and by the keys alone the number is that of the same row
  pub row_agrees : (k : ℕ) → lookup_ascending_in t used k ≡ row_of_found t (row_ascending_in t.keys used k)
  row_agrees k = row_counted t used k ∙ rw counted_ready refl

  -- and by two columns alone the index is its
  pub index_agrees : (k : ℕ) → index_ascending_in t.keys t.indices used k ≡ index_of_found (lookup_ascending_in t used k)
  unfolding index_ascending_in
  index_agrees k =
      let all : min used (length t.indices) ≡ used = omega (arith, (within_room used t ready.room).in_indices) in
      rw (all, row_agrees k) (index_at t (row_ascending_in t.keys used k))

  module _ (row : Row) (at : ℕ) (is : at ≡ place_of (rank row) (rows_of t used)) where
    repeats : at < used → rank (row_at t at) ≡ rank row → (row_at t at).index ≡ row.index → Registration t t used row (Ok Repeat)
    unfolding register registered ◌if◌else◌
    repeats l e s = record {
      answers = rw (found (rank row) at is l e, eq-eqb (row_at t at).index row.index s) refl;
      leaves = rw (found (rank row) at is l e) ready.laid;
    }

    collides : at < used → rank (row_at t at) ≡ rank row → ((row_at t at).index ≡ row.index → ⊥) → Registration t t used row (Err Collision)
    unfolding register registered ◌if◌else◌
    collides l e o = record {
      answers = rw (found (rank row) at is l e, ne_eqb (row_at t at).index row.index o) refl;
      leaves = rw (found (rank row) at is l e) ready.laid;
    }

    module _ (h : at < used → rank (row_at t at) ≡ rank row → ⊥) where
      full : capacity t ≤ used → Registration t t used row (Err Full)
      unfolding register registered ◌if◌else◌
      full l =
          let none = missing (rank row) at is h in
          let shut = le-ltb (length (rows_of t used)) (capacity t) (rw (length_rows t used) l) in
          record { answers = rw (none, shut) refl; leaves = rw (none, shut) ready.laid }

      inserts : used < capacity t → Registration t (opened_row at used row t) used row (Ok (Inserted (used - at)))
      unfolding register registered ◌if◌else◌
      inserts l =
          let none = missing (rank row) at is h in
          let room = lt-ltb (length (rows_of t used)) (capacity t) (rw (length_rows t used) l) in
          let counts = above_missing (rank row) (rows_of t used) ready.rising none in
          let lays : opened_row at used row (lay t (rows_of t used)) ≡ lay t (take at (rows_of t used) ++ (row ∷ drop at (rows_of t used))) =
          rw (length_rows t used) at (opened_lay t (rows_of t used) (rw (length_rows t used) ready.room) at row (omega (arith, is, counts)) (rw (length_rows t used) l)) in
          record {
            answers = rw (none, room) (ap (λ (m : ℕ). Ok (Inserted m)) (omega (arith, counts, is, length_rows t used)));
            leaves = rw (none, room) (ap (opened_row at used row) ready.laid ∙ lays ∙ ap (lay t) (rw is (sym (insert_here row (rows_of t used) none))));
          }

  -- THE LAWS: for a table the contracts are those of its rows
  pub registration : (row : Row) → Registration t (registered_in t used row) used row (register_in t used row)
  unfolding register_in registered_by
  registration row =
      rw (counted_ready, place_ready (rank row))
      (by_registered_at (λ (u : Slices) (a : RegisterResult). Registration t u used row a) opened_row t used (place_of (rank row) (rows_of t used)) row
      (repeats row (place_of (rank row) (rows_of t used)) refl)
      (collides row (place_of (rank row) (rows_of t used)) refl)
      (full row (place_of (rank row) (rows_of t used)) refl)
      (inserts row (place_of (rank row) (rows_of t used)) refl))

  pub removal : (k : ℕ) → Removal t (unregistered_in t used k) used k (unregister_in t used k)
  unfolding unregister_in unregistered_in
  removal k =
      rw (counted_ready, place_ready k)
      (by_unregistered_at (λ (u : Slices) (a : Option ℕ). Removal t u used k a) t used (place_of k (rows_of t used)) k
      (absent k (place_of k (rows_of t used)) refl)
      (gone k (place_of k (rows_of t used)) refl))

  pub registers_ready : (u : Slices) (row : Row) (a : RegisterResult) → Registers t u used row a → Registration t u used row a
  registers_ready u row a did = rw (did.answers, did.leaves) (registration row)

  pub unregisters_ready : (u : Slices) (k : ℕ) (a : Option ℕ) → Unregisters t u used k a → Removal t u used k a
  unregisters_ready u k a did = rw (did.answers, did.leaves) (removal k)

-- ---- what a registration of a table leaves

module _ (t u : Slices) (used : ℕ) (row : Row) (a : RegisterResult) (ready : Ready t used) (did : Registration t u used row a) where
  abbrev rows' : List Row
  rows' = registered (capacity t) row (rows_of t used)

  room' : length rows' ≤ capacity t
  room' = registered_room (capacity t) row (rows_of t used) (rw (length_rows t used) ready.room)

  pub ready_after : Ready u (length rows')
  ready_after = rw did.leaves (ready_lay t rows' room' (registered_ascending (capacity t) row (rows_of t used) ready.rising))

  pub rows_after_lem : rows_of u (length rows') ≡ rows'
  rows_after_lem = rw did.leaves (rows_lay t rows' room')

  pub same_after : SameLens t u
  same_after = rw did.leaves (same_lay t rows' room')

-- the slices u hold the rows as a table of n rows
pub record IsTable (u : Slices) (n : ℕ) (rows : List Row) : Type 0 where
  pub ready : Ready u n
  pub rows_are : rows_of u n ≡ rows

-- ---- what a removal of a table leaves

module _ (t u : Slices) (used k : ℕ) (ready : Ready t used) where
  -- a row less, and fewer moves than rows
  pub after_gone : (m : ℕ) → Removal t u used k (Some m) → IsTable u (used - 1) (remove k (rows_of t used)) × (m < used)
  after_gone m did =
      let held = (gone_iff k (rows_of t used) m).0 (sym did.answers) in
      let less = length_remove k held.0.0 (rows_of t used) held.0.1 in
      let e : length (remove k (rows_of t used)) ≡ used - 1 = omega (arith, less, length_rows t used) in
      let room : length (remove k (rows_of t used)) ≤ capacity t = let r = ready.room in omega arith in
      let laid : IsTable (lay t (remove k (rows_of t used))) (length (remove k (rows_of t used))) (remove k (rows_of t used)) =
      record { ready = ready_lay t (remove k (rows_of t used)) room (remove_ascending k (rows_of t used) ready.rising); rows_are = rows_lay t (remove k (rows_of t used)) room } in
      (rw (← e, did.leaves) laid, omega (arith, held.1, above_less k held.0.0 (rows_of t used) held.0.1, length_rows t used))

  pub after_absent : Removal t u used k None → u ≡ t
  after_absent did =
      did.leaves
      ∙ ap (lay t) (remove_missing k (rows_of t used) ((absent_iff k (rows_of t used)).0 (sym did.answers)))
      ∙ sym ready.laid

  pub same_removed : (a : Option ℕ) → Removal t u used k a → SameLens t u
  same_removed (Some m) did =
      let held = (gone_iff k (rows_of t used) m).0 (sym did.answers) in
      let less = length_remove k held.0.0 (rows_of t used) held.0.1 in
      let room : length (remove k (rows_of t used)) ≤ capacity t = let r = ready.room in omega (arith, less, length_rows t used) in
      rw did.leaves (same_lay t (remove k (rows_of t used)) room)
  same_removed None did = rw (after_absent did) (same_refl t)
