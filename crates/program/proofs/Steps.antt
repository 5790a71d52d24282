-- What a registration, `unregister_function`, `lookup_by_key` and `row_ascending` answer and leave, by what the searches of the rows that count come to,
-- whatever the slices hold. Assumes nothing.
use mathlib.Core.Path.{◌≡◌, refl, sym, ap, ◌∙◌}
use mathlib.Core.Bool.{Bool, true, false}
use mathlib.Core.List.{List, [], ◌∷◌, map}
use Prim.Native.Nat.{ℕ, ◌+◌, ◌-◌, ◌≤◌, ◌<◌, min}
use native.Mathlib.Omega.{arith}
use lib.ListN.{length, take, get_or}
use lib.Dec.{ltb, leb, eqb}
use borrow.Author.Tests.{lt-ltb, le-ltb, le-leb, lt-leb}
use Rattle.ebpf.specs.Choice.{◌if◌else◌}
use lib.Seq.{length-take-le, get_or-take}
use types.Run.{OneOf}
use denote.Enum.Declared.{tag_of}
use Rattle.std.specs.Prelude.{Option, Some, None, Result, Ok, Err, position, cond}
use Rattle.std.specs.Result.{result_ok}
use Rattle.program.specs.declared.Registered.{Registered}
use Rattle.program.specs.declared.Registered.TheVariants.{Inserted, Repeat}
use Rattle.program.specs.declared.RegisterError.TheVariants.{Collision, Full}
use Rattle.program.specs.declared.Row.{Row}
use Rattle.program.specs.Search.{binary_search, search_result, is_among, index_of}
use Rattle.program.specs.Rows.{RegisterResult, rank, find}
use Rattle.program.specs.Table.{Slices, capacity, Within, row_at, rows_of, ranks_of, Opening, closed_row, counted, place_in, holds, register_at, registered_at, register_in, registered_by, unregister_at, unregistered_at, unregister_in, unregistered_in, lookup_in, row_of_found, number_at, row_ascending_in}
use Rattle.program.specs.contracts.Registered.{the_type}
use Rattle.program.proofs.Cases.{by_test, by_lt, by_le, by_eq, zero_one}
use Rattle.program.proofs.Searches.{search_le, first_is}
use Rattle.program.proofs.Laying.{within_room, zero_row, length_rows, ranks_rows, row_at_lem}
use Rattle.program.proofs.Rows.{find_first, find_none}

pub row_within : (t : Slices) (n at : ℕ) → Within n t → at < n → Within (at + 1) t
row_within t n at w l = record { in_keys = omega arith; in_indices = omega arith; in_kinds = omega arith; in_starts = omega arith; in_lengths = omega arith }

-- a row's number, by the keys alone
pub row_found : (keys : List ℕ) (used n k : ℕ) (r : Result ℕ ℕ) → n ≡ min used (length keys) → r ≡ search_result k (take n keys) → result_ok r ≡ row_ascending_in keys used k
unfolding row_ascending_in number_at search_result is_among ◌if◌else◌
row_found keys used n k r e is =
    rw (is, ← e, length-take-le n keys (omega arith))
    (by_le n (binary_search k (take n keys))
    (λ (b : Bool). result_ok (Ok (binary_search k (take n keys)) if (false if b else eqb (get_or (take n keys) (binary_search k (take n keys)) 0) k) else Err (binary_search k (take n keys)))
    ≡ (None if b else Some (binary_search k (take n keys)) if eqb (get_or keys (binary_search k (take n keys)) 0) k else None))
    (λ _. refl)
    (λ l. rw (get_or-take n keys (binary_search k (take n keys)) 0 l)
    (by_test (eqb (get_or keys (binary_search k (take n keys)) 0) k) (λ (b : Bool). result_ok (Ok (binary_search k (take n keys)) if b else Err (binary_search k (take n keys))) ≡ (Some (binary_search k (take n keys)) if b else None)) (λ _. refl) (λ _. refl))))

-- it is below the rows that count
number_below : (keys : List ℕ) (n at k i : ℕ) → number_at keys n at k ≡ Some i → i < n
unfolding number_at ◌if◌else◌
number_below keys n at k i =
    by_le n at (λ (b : Bool). (None if b else Some at if eqb (get_or keys at 0) k else None) ≡ Some i → i < n)
    (λ _ e. absurd (zero_one (cc)))
    (λ l. by_eq (get_or keys at 0) k (λ (b : Bool). (Some at if b else None) ≡ Some i → i < n)
    (λ _ e. let same : at ≡ i = cc in omega arith)
    (λ _ e. absurd (zero_one (cc))))

pub row_below : (keys : List ℕ) (used k i : ℕ) → row_ascending_in keys used k ≡ Some i → i < min used (length keys)
unfolding row_ascending_in
row_below keys used k i = number_below keys (min used (length keys)) (binary_search k (take (min used (length keys)) keys)) k i

-- so it is in the column of keys too
pub row_inside : (keys : List ℕ) (n k i : ℕ) (r : Option ℕ) → r ≡ row_ascending_in keys n k → r ≡ Some i → (i < length keys) × (i < n)
row_inside keys n k i r is e =
    let l = row_below keys n k i (sym is ∙ e) in
    (omega arith, omega arith)

-- it is the place of the search, where the row there has the key
pub number_holds : (t : Slices) (n at k : ℕ) → number_at t.keys n at k ≡ (Some at if holds t n at k else None)
unfolding number_at holds rank ◌if◌else◌
number_holds t n at k =
    by_le n at
    (λ (b : Bool). (None if b else Some at if eqb (get_or t.keys at 0) k else None) ≡ (Some at if (eqb (get_or t.keys at 0) k if ltb at n else false) else None))
    (λ l. rw (le-ltb at n l) refl)
    (λ l. rw (lt-ltb at n l) refl)

-- ---- by what the searches of the rows that count come to

counted_within : (t : Slices) (used : ℕ) → Within (counted t used) t
unfolding counted
counted_within t used = within_room (min used (capacity t)) t (omega arith)

-- a registration's answer, by the search of the keys
abbrev pub answer_by : Slices → ℕ → Row → Result ℕ ℕ → RegisterResult
answer_by t n row (Ok at) = Ok Repeat if eqb (get_or t.indices at 0) row.index else Err Collision
answer_by t n row (Err at) = Err Full if leb (capacity t) n else Ok (Inserted (n - at))

pub register_counted : (t : Slices) (used : ℕ) (row : Row) → register_in t used row ≡ answer_by t (counted t used) row (search_result row.key (take (counted t used) t.keys))
unfolding register_in register_at place_in ranks_of holds rank search_result is_among ◌if◌else◌
register_counted t used row =
    let n : ℕ = counted t used in
    let at : ℕ = binary_search row.key (take n t.keys) in
    rw (length-take-le n t.keys (counted_within t used).in_keys)
    (by_lt at n
    (λ (b : Bool). ((Ok Repeat if eqb (get_or t.indices at 0) row.index else Err Collision) if (eqb (get_or t.keys at 0) row.key if b else false) else Err Full if leb (capacity t) n else Ok (Inserted (n - at)))
    ≡ answer_by t n row (Ok at if (false if leb n at else eqb (get_or (take n t.keys) at 0) row.key) else Err at))
    (λ l. rw (lt-leb n at l, get_or-take n t.keys at 0 l)
    (by_test (eqb (get_or t.keys at 0) row.key)
    (λ (b : Bool). ((Ok Repeat if eqb (get_or t.indices at 0) row.index else Err Collision) if b else Err Full if leb (capacity t) n else Ok (Inserted (n - at))) ≡ answer_by t n row (Ok at if b else Err at))
    (λ _. refl) (λ _. refl)))
    (λ l. rw (le-leb n at l) refl))

-- a removal, by the number of the row
abbrev pub closed_by : Slices → ℕ → Option ℕ → Slices
closed_by t n (Some i) = closed_row i n t
closed_by t n None = t

abbrev pub moved_by : ℕ → Option ℕ → Option ℕ
moved_by n (Some i) = Some (n - i - 1)
moved_by n None = None

module _ (t : Slices) (used k : ℕ) where
  number_is : row_ascending_in t.keys (counted t used) k ≡ (Some (place_in t (counted t used) k) if holds t (counted t used) (place_in t (counted t used) k) k else None)
  unfolding row_ascending_in place_in ranks_of
  number_is =
      let all : min (counted t used) (length t.keys) ≡ counted t used = omega (arith, (counted_within t used).in_keys) in
      rw all (number_holds t (counted t used) (binary_search k (take (counted t used) t.keys)) k)

  pub unregister_counted : unregister_in t used k ≡ moved_by (counted t used) (row_ascending_in t.keys (counted t used) k)
  unfolding unregister_in unregister_at ◌if◌else◌
  unregister_counted = rw number_is
      (by_test (holds t (counted t used) (place_in t (counted t used) k) k)
      (λ (b : Bool). (Some (counted t used - place_in t (counted t used) k - 1) if b else None) ≡ moved_by (counted t used) (Some (place_in t (counted t used) k) if b else None))
      (λ _. refl) (λ _. refl))

  pub unregistered_counted : unregistered_in t used k ≡ closed_by t (counted t used) (row_ascending_in t.keys (counted t used) k)
  unfolding unregistered_in unregistered_at ◌if◌else◌
  unregistered_counted = rw number_is
      (by_test (holds t (counted t used) (place_in t (counted t used) k) k)
      (λ (b : Bool). (closed_row (place_in t (counted t used) k) (counted t used) t if b else t) ≡ closed_by t (counted t used) (Some (place_in t (counted t used) k) if b else None))
      (λ _. refl) (λ _. refl))

-- a lookup, by the first place of the key
pub lookup_counted : (t : Slices) (used k : ℕ) → lookup_in t used k ≡ row_of_found t (position (λ x. eqb x k) (take (counted t used) t.keys))
unfolding lookup_in ranks_of
lookup_counted t used k =
    let n : ℕ = counted t used in
    let ranks : map rank (rows_of t n) ≡ take n t.keys = ranks_rows t n (counted_within t used).in_keys in
    let long : length (map rank (rows_of t n)) ≡ n = ap length ranks ∙ length-take-le n t.keys (counted_within t used).in_keys in
    let first : ℕ = index_of k (map rank (rows_of t n)) in
    rw (← ranks, ← first_is k (map rank (rows_of t n)))
    (by_lt first (length (map rank (rows_of t n))) (λ (b : Bool). find k (rows_of t n) ≡ row_of_found t (cond b (Some first) None))
    (λ l. find_first k zero_row (rows_of t n) (omega (arith, long, length_rows t n)) ∙ ap Some (row_at_lem t n first (omega (arith, long))))
    (λ l. find_none k (rows_of t n) (omega (arith, long, length_rows t n))))

-- ---- the ways that a registration goes at a place, for any statement of the slices afterwards and the answer

pub by_holds : (t : Slices) (n at k : ℕ) (P : Bool → Type 0) → (at < n → rank (row_at t at) ≡ k → P true) → ((at < n → rank (row_at t at) ≡ k → ⊥) → P false) → P (holds t n at k)
unfolding holds ◌if◌else◌
by_holds t n at k P yes-here not_here = by_lt at n (λ (b : Bool). P (eqb (rank (row_at t at)) k if b else false))
    (λ l. by_eq (rank (row_at t at)) k P (yes-here l) (λ ne. not_here (λ _. ne)))
    (λ g. not_here (λ l _. absurd (omega arith)))

pub by_registered_at : (P : Slices → RegisterResult → Type 0) (opening : Opening) (t : Slices) (n at : ℕ) (row : Row)
    → (at < n → rank (row_at t at) ≡ rank row → (row_at t at).index ≡ row.index → P t (Ok Repeat))
    → (at < n → rank (row_at t at) ≡ rank row → ((row_at t at).index ≡ row.index → ⊥) → P t (Err Collision))
    → ((at < n → rank (row_at t at) ≡ rank row → ⊥) → capacity t ≤ n → P t (Err Full))
    → ((at < n → rank (row_at t at) ≡ rank row → ⊥) → n < capacity t → P (opening at n row t) (Ok (Inserted (n - at))))
    → P (registered_at opening t n at row) (register_at t n at row)
unfolding register_at registered_at ◌if◌else◌
by_registered_at P opening t n at row same other full more =
    by_holds t n at (rank row)
    (λ (b : Bool). P (t if b else t if leb (capacity t) n else opening at n row t)
    ((Ok Repeat if eqb (row_at t at).index row.index else Err Collision) if b else Err Full if leb (capacity t) n else Ok (Inserted (n - at))))
    (λ l e. by_eq (row_at t at).index row.index (λ (b : Bool). P t (Ok Repeat if b else Err Collision)) (same l e) (other l e))
    (λ h. by_le (capacity t) n (λ (b : Bool). P (t if b else opening at n row t) (Err Full if b else Ok (Inserted (n - at)))) (full h) (more h))

-- ---- what a registration leaves, by its answer

-- the other answers, as the code tells them: a refusal, or the number of the variant
pub not_inserted : (a : RegisterResult) → ((b : Registered) → a ≡ Ok b → OneOf (1 ∷ []) (tag_of the_type b)) → (m : ℕ) → a ≡ Ok (Inserted m) → ⊥
not_inserted a o m e = let z = o (Inserted m) e in omega arith

module _ (opening : Opening) (t : Slices) (used : ℕ) (row : Row) where
  -- no insertion: the slices as they came
  pub kept : ((m : ℕ) → register_in t used row ≡ Ok (Inserted m) → ⊥) → registered_by opening t used row ≡ t
  unfolding register_in registered_by
  kept = by_registered_at (λ (u : Slices) (a : RegisterResult). ((m : ℕ) → a ≡ Ok (Inserted m) → ⊥) → u ≡ t) opening t (counted t used) (place_in t (counted t used) (rank row)) row
      (λ _ _ _ _. refl) (λ _ _ _ _. refl) (λ _ _ _. refl) (λ _ _ h. absurd (h _ refl))

  -- an insertion: all used rows count
  all_count : counted t used < capacity t → counted t used ≡ used
  unfolding counted
  all_count l = omega arith

  place_used : counted t used < capacity t → place_in t used (rank row) ≤ used
  unfolding place_in ranks_of
  place_used l = search_le t.keys used (rank row) (within_room used t (omega (arith, all_count l))).in_keys

  -- there is room for one row more, and as many rows as moved stand behind the place
  pub inserted : (m : ℕ) → register_in t used row ≡ Ok (Inserted m) → (m ≤ used) × Within (used + 1) t × (registered_by opening t used row ≡ opening (used - m) used row t)
  unfolding register_in registered_by
  inserted m = by_registered_at (λ (u : Slices) (a : RegisterResult). a ≡ Ok (Inserted m) → (m ≤ used) × Within (used + 1) t × (u ≡ opening (used - m) used row t)) opening t (counted t used) (place_in t (counted t used) (rank row)) row
      (λ _ _ _ h. absurd (zero_one (cc)))
      (λ _ _ _ h. absurd (zero_one (cc)))
      (λ _ _ h. absurd (zero_one (cc)))
      (λ _ l h.
      let all = all_count l in
      let e : m ≡ counted t used - place_in t (counted t used) (rank row) = cc in
      let e' : m ≡ used - place_in t used (rank row) = rw all at e in
      let back : place_in t used (rank row) ≡ used - m = omega (arith, place_used l) in
      (omega arith, within_room (used + 1) t (omega arith), rw (all, back) refl))

  -- what is opened, by the answer
  abbrev pub opened_by : RegisterResult → Slices
  opened_by (Ok (Inserted m)) = opening (used - m) used row t
  opened_by (Ok Repeat) = t
  opened_by (Err e) = t

  pub registered_counted : registered_by opening t used row ≡ opened_by (register_in t used row)
  unfolding register_in registered_by
  registered_counted = by_registered_at (λ (u : Slices) (a : RegisterResult). u ≡ opened_by a) opening t (counted t used) (place_in t (counted t used) (rank row)) row
      (λ _ _ _. refl) (λ _ _ _. refl) (λ _ _. refl)
      (λ _ l.
      let all = all_count l in
      let back : used - (used - place_in t used (rank row)) ≡ place_in t used (rank row) = omega (arith, place_used l) in
      rw (all, back) refl)
