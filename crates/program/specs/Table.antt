-- The table: five slices of numbers that hold rows, and what a registration, a removal and a lookup make of them, whatever they hold.
use Rattle.std.specs.Prelude.{ℕ, zero, suc, ◌+◌, ◌-◌, ◌≤◌, ◌<◌, min, ◌≡◌, Bool, true, false, List, [], ◌∷◌, ◌++◌, map, length, get_or, set, replicate, take, drop, ltb, leb, eqb, Option, Some, None, Ok, Err}
use denote.Triple.Both.{Both}
use Rattle.std.specs.Borrow.{Bor, MutBor}
use Rattle.ebpf.specs.Choice.{◌if◌else◌}
use Rattle.program.specs.declared.Registered.TheVariants.{Inserted, Repeat}
use Rattle.program.specs.declared.RegisterError.TheVariants.{Collision, Full}
use Rattle.program.specs.Search.{binary_search}
use Rattle.program.specs.Rows.{RegisterResult, rank, Ascending, find, register, registered, remove, unregister}
use Rattle.program.specs.declared.Row.{Row}
use Rattle.program.specs.declared.FunctionTable.{FunctionTable}
use Rattle.program.specs.declared.FunctionRegistry.{FunctionRegistry}

-- what the five slices hold
pub record Slices : Type 0 where
  pub keys : List ℕ
  pub indices : List ℕ
  pub kinds : List ℕ
  pub starts : List ℕ
  pub lengths : List ℕ

abbrev pub slices : List ℕ → List ℕ → List ℕ → List ℕ → List ℕ → Slices
slices a b c d e = record { keys = a; indices = b; kinds = c; starts = d; lengths = e }

-- a slice lent for writing, at the call and on return; and one lent for reading
abbrev pub Lent : Type 0
Lent = Both (MutBor (List ℕ)) (MutBor (List ℕ))

abbrev pub Shared : Type 0
Shared = Both (Bor (List ℕ)) (Bor (List ℕ))

-- the table that five slices lent for writing hold: in a `requires`; in an `ensures` at the call, and on return
abbrev pub table_of : MutBor (List ℕ) → MutBor (List ℕ) → MutBor (List ℕ) → MutBor (List ℕ) → MutBor (List ℕ) → Slices
table_of k i n s l = slices k.now i.now n.now s.now l.now

abbrev pub table_before : Lent → Lent → Lent → Lent → Lent → Slices
table_before k i n s l = slices k.entry.now i.entry.now n.entry.now s.entry.now l.entry.now

abbrev pub table_after : Lent → Lent → Lent → Lent → Lent → Slices
table_after k i n s l = slices k.exit.now i.exit.now n.exit.now s.exit.now l.exit.now

-- what a registry's columns hold, and those of a table lent for reading
abbrev pub columns_of : FunctionRegistry → Slices
columns_of r = slices r.keys.now r.indices.now r.kinds.now r.starts.now r.lengths.now

abbrev pub columns_in : FunctionTable → Slices
columns_in t = slices t.keys.now t.indices.now t.kinds.now t.starts.now t.lengths.now

-- the registry still has the slices that it had, whatever they hold now: so whoever lent them knows that it was they that were written
abbrev pub SameColumns : FunctionRegistry → FunctionRegistry → Type 0
SameColumns r r' =
    (r'.keys.ghost_name ≡ r.keys.ghost_name)
    × (r'.indices.ghost_name ≡ r.indices.ghost_name)
    × (r'.kinds.ghost_name ≡ r.kinds.ghost_name)
    × (r'.starts.ghost_name ≡ r.starts.ghost_name)
    × (r'.lengths.ghost_name ≡ r.lengths.ghost_name)

unfoldable pub least : ℕ → ℕ → ℕ → ℕ → ℕ → ℕ
least a b c d e = min a (min b (min c (min d e)))

-- as many rows as the shortest slice has numbers
unfoldable pub capacity : Slices → ℕ
capacity t = least (length t.keys) (length t.indices) (length t.kinds) (length t.starts) (length t.lengths)

-- n is the least of five numbers; the bounds, which follow, stand beside it for the proofs
pub record Least (n a b c d e : ℕ) : Type 0 where
  pub is : n ≡ least a b c d e
  pub in_a : n ≤ a
  pub in_b : n ≤ b
  pub in_c : n ≤ c
  pub in_d : n ≤ d
  pub in_e : n ≤ e

-- each slice has as many numbers as before
pub record SameLens (t u : Slices) : Type 0 where
  pub keys_as : length u.keys ≡ length t.keys
  pub indices_as : length u.indices ≡ length t.indices
  pub kinds_as : length u.kinds ≡ length t.kinds
  pub starts_as : length u.starts ≡ length t.starts
  pub lengths_as : length u.lengths ≡ length t.lengths

-- each slice has at least n numbers
pub record Within (n : ℕ) (t : Slices) : Type 0 where
  pub in_keys : n ≤ length t.keys
  pub in_indices : n ≤ length t.indices
  pub in_kinds : n ≤ length t.kinds
  pub in_starts : n ≤ length t.starts
  pub in_lengths : n ≤ length t.lengths

-- ---- the rows that the slices hold

-- the row at a place
abbrev pub row_at : Slices → ℕ → Row
row_at t i = record {
  key = get_or t.keys i 0;
  index = get_or t.indices i 0;
  kind = get_or t.kinds i 0;
  start = get_or t.starts i 0;
  length = get_or t.lengths i 0;
}

-- f at 0, 1, .. n - 1
abbrev pub tab : {A : Type 0} → ℕ → (ℕ → A) → List A
tab zero f = []
tab (suc n) f = f 0 ∷ tab n (λ (k : ℕ). f (suc k))

-- the first n rows, and their ranks
unfoldable pub rows_of : Slices → ℕ → List Row
rows_of t n = tab n (row_at t)

unfoldable pub ranks_of : Slices → ℕ → List ℕ
ranks_of t n = take n t.keys

-- a slice of n numbers that holds the field f of the rows, and zeros behind them
unfoldable pub column : (Row → ℕ) → List Row → ℕ → List ℕ
column f rs n = map f rs ++ replicate (n - length rs) 0

-- slices as long as t's that hold the rows, and zeros behind them
unfoldable pub lay : Slices → List Row → Slices
lay t rs = record {
  keys = column (λ (r : Row). r.key) rs (length t.keys);
  indices = column (λ (r : Row). r.index) rs (length t.indices);
  kinds = column (λ (r : Row). r.kind) rs (length t.kinds);
  starts = column (λ (r : Row). r.start) rs (length t.starts);
  lengths = column (λ (r : Row). r.length) rs (length t.lengths);
}

-- ---- a place opened and closed

-- v put at the place `at` of the first n numbers, those from there on one place further, and the number at n gone
unfoldable pub opened : ℕ → ℕ → ℕ → List ℕ → List ℕ
opened at n v s = take at s ++ (v ∷ (drop at (take n s) ++ drop (suc n) s))

-- the number at `at` gone from the first n, those behind it one place nearer, and a zero at the last place
unfoldable pub closed : ℕ → ℕ → List ℕ → List ℕ
closed at n s = take at s ++ (drop (suc at) (take n s) ++ (0 ∷ drop n s))

-- how a row goes to a place among the first n
abbrev pub Opening : Type 0
Opening = ℕ → ℕ → Row → Slices → Slices

unfoldable pub opened_row : Opening
opened_row at n r t = record {
  keys = opened at n r.key t.keys;
  indices = opened at n r.index t.indices;
  kinds = opened at n r.kind t.kinds;
  starts = opened at n r.start t.starts;
  lengths = opened at n r.length t.lengths;
}

-- the same of the key and the index alone; the name goes behind the n rows, which is the same where they all have it
unfoldable pub opened_alike : Opening
opened_alike at n r t = record {
  keys = opened at n r.key t.keys;
  indices = opened at n r.index t.indices;
  kinds = set t.kinds n r.kind;
  starts = set t.starts n r.start;
  lengths = set t.lengths n r.length;
}

-- where all rows have one name, and where they need not
abbrev pub opening_of : Bool → Opening
opening_of true = opened_alike
opening_of false = opened_row

unfoldable pub closed_row : ℕ → ℕ → Slices → Slices
closed_row at n t = record {
  keys = closed at n t.keys;
  indices = closed at n t.indices;
  kinds = closed at n t.kinds;
  starts = closed at n t.starts;
  lengths = closed at n t.lengths;
}

-- ---- what the functions promise, whatever the slices hold

-- the rows that count: at most those lent
unfoldable pub counted : Slices → ℕ → ℕ
counted t used = min used (capacity t)

-- where the binary search comes to for rank k, among n rows
unfoldable pub place_in : Slices → ℕ → ℕ → ℕ
place_in t n k = binary_search k (ranks_of t n)

-- whether the row at a place is one of n, and of rank k
unfoldable pub holds : Slices → ℕ → ℕ → ℕ → Bool
holds t n at k = eqb (rank (row_at t at)) k if ltb at n else false

-- a registration of a row at a place, in a table of n rows
unfoldable pub register_at : Slices → ℕ → ℕ → Row → RegisterResult
register_at t n at row =
    (Ok Repeat if eqb (row_at t at).index row.index else Err Collision) if holds t n at (rank row)
    else Err Full if leb (capacity t) n
    else Ok (Inserted (n - at))

unfoldable pub registered_at : Opening → Slices → ℕ → ℕ → Row → Slices
registered_at opening t n at row = t if holds t n at (rank row) else t if leb (capacity t) n else opening at n row t

unfoldable pub register_in : Slices → ℕ → Row → RegisterResult
register_in t used row = register_at t (counted t used) (place_in t (counted t used) (rank row)) row

unfoldable pub registered_by : Opening → Slices → ℕ → Row → Slices
registered_by opening t used row = registered_at opening t (counted t used) (place_in t (counted t used) (rank row)) row

abbrev pub registered_in : Slices → ℕ → Row → Slices
registered_in t used row = registered_by opened_row t used row

abbrev pub registered_alike_in : Slices → ℕ → Row → Slices
registered_alike_in t used row = registered_by opened_alike t used row

-- where a row is inserted the rows that move are among the used ones, behind which there is room
abbrev pub HasRoom : Slices → ℕ → RegisterResult → Type 0
HasRoom t used (Ok (Inserted m)) = (m ≤ used) × Within (used + 1) t
HasRoom t used (Ok Repeat) = Unit {0}
HasRoom t used (Err e) = Unit {0}

-- a removal of rank k at a place, from a table of n rows
unfoldable pub unregister_at : Slices → ℕ → ℕ → ℕ → Option ℕ
unregister_at t n at k = Some (n - at - 1) if holds t n at k else None

unfoldable pub unregistered_at : Slices → ℕ → ℕ → ℕ → Slices
unregistered_at t n at k = closed_row at n t if holds t n at k else t

unfoldable pub unregister_in : Slices → ℕ → ℕ → Option ℕ
unregister_in t used k = unregister_at t (counted t used) (place_in t (counted t used) k) k

unfoldable pub unregistered_in : Slices → ℕ → ℕ → Slices
unregistered_in t used k = unregistered_at t (counted t used) (place_in t (counted t used) k) k

-- the slices t become u by a registration of the row, and the answer is a
pub record RegistersBy (opening : Opening) (t u : Slices) (used : ℕ) (row : Row) (a : RegisterResult) : Type 0 where
  pub answers : a ≡ register_in t used row
  pub leaves : u ≡ registered_by opening t used row

abbrev pub Registers : Slices → Slices → ℕ → Row → RegisterResult → Type 0
Registers t u used row a = RegistersBy opened_row t u used row a

abbrev pub RegistersAlike : Slices → Slices → ℕ → Row → RegisterResult → Type 0
RegistersAlike t u used row a = RegistersBy opened_alike t u used row a

-- the slices t become u by a removal of rank k, and the answer is a
pub record Unregisters (t u : Slices) (used k : ℕ) (a : Option ℕ) : Type 0 where
  pub answers : a ≡ unregister_in t used k
  pub leaves : u ≡ unregistered_in t used k

-- how many rows are used afterwards: one more where a row was inserted, one less of those that counted where one was removed
abbrev pub used_after : ℕ → RegisterResult → ℕ
used_after used (Ok (Inserted m)) = used + 1
used_after used (Ok Repeat) = used
used_after used (Err e) = used

abbrev pub used_without : Slices → ℕ → Option ℕ → ℕ
used_without t used (Some m) = counted t used - 1
used_without t used None = used

-- a lookup of rank k: the first used row
unfoldable pub lookup_in : Slices → ℕ → ℕ → Option Row
lookup_in t used k = find k (rows_of t (counted t used))

-- the same by a binary search over the used keys: the row that it comes to, if it has the key. On a table whose rows ascend both answer the same
-- (`lookups_agree` in proofs/Tables.antt)
unfoldable pub found_at : Slices → ℕ → ℕ → ℕ → Option Row
found_at t n at k = Some (row_at t at) if holds t n at k else None

unfoldable pub lookup_ascending_in : Slices → ℕ → ℕ → Option Row
lookup_ascending_in t used k = found_at t (counted t used) (place_in t (counted t used) k) k

-- the row's number alone, by the column of keys; as many rows count as it has numbers. On every table it is the number of the row that
-- `lookup_ascending_in` gives (`row_agrees` in proofs/Tables.antt)
unfoldable pub number_at : List ℕ → ℕ → ℕ → ℕ → Option ℕ
number_at keys n at k = None if leb n at else Some at if eqb (get_or keys at 0) k else None

unfoldable pub row_ascending_in : List ℕ → ℕ → ℕ → Option ℕ
row_ascending_in keys used k =
    let n = min used (length keys) in
    number_at keys n (binary_search k (take n keys)) k

abbrev pub row_of_found : Slices → Option ℕ → Option Row
row_of_found t (Some n) = Some (row_at t n)
row_of_found t None = None

-- the index alone, by the columns of keys and indices; as many rows count as the shorter has numbers. On every table it is the index of the row that
-- `lookup_ascending_in` gives (`index_agrees` in proofs/Tables.antt)
abbrev pub index_of_row : List ℕ → Option ℕ → Option ℕ
index_of_row indices (Some n) = Some (get_or indices n 0)
index_of_row indices None = None

unfoldable pub index_ascending_in : List ℕ → List ℕ → ℕ → ℕ → Option ℕ
index_ascending_in keys indices used k = index_of_row indices (row_ascending_in keys (min used (length indices)) k)

abbrev pub index_of_found : Option Row → Option ℕ
index_of_found (Some r) = Some r.index
index_of_found None = None

-- ---- tables: slices whose used rows ascend, with zeros elsewhere

pub record Ready (t : Slices) (used : ℕ) : Type 0 where
  pub room : used ≤ capacity t
  pub laid : t ≡ lay t (rows_of t used)
  pub rising : Ascending (rows_of t used)

-- the first n rows have the row's name
pub record Alike (t : Slices) (n : ℕ) (row : Row) : Type 0 where
  pub kinds_alike : (i : ℕ) → i < n → get_or t.kinds i 0 ≡ row.kind
  pub starts_alike : (i : ℕ) → i < n → get_or t.starts i 0 ≡ row.start
  pub lengths_alike : (i : ℕ) → i < n → get_or t.lengths i 0 ≡ row.length

-- what a registration and a removal are for a table, in the words of its rows
pub record Registration (t u : Slices) (used : ℕ) (row : Row) (a : RegisterResult) : Type 0 where
  pub answers : a ≡ register (capacity t) row (rows_of t used)
  pub leaves : u ≡ lay t (registered (capacity t) row (rows_of t used))

pub record Removal (t u : Slices) (used k : ℕ) (a : Option ℕ) : Type 0 where
  pub answers : a ≡ unregister k (rows_of t used)
  pub leaves : u ≡ lay t (remove k (rows_of t used))
