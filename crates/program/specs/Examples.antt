-- Worked examples, by computation: a table of three rows, of which two are used. The fourth number of two slices is past the rows.
use Rattle.std.specs.Prelude.{ℕ, ◌≡◌, refl, Bool, true, false, List, [], ◌∷◌, Some, None, Ok, Err}
use Rattle.ebpf.specs.Choice.{◌if◌else◌}
use Rattle.ebpf.specs.IndexKeys.{index_key, key_in}
use Rattle.ebpf.specs.LittleEndian.{bytes_of}
use Rattle.ebpf.specs.Murmur3.{body, murmur3}
use Rattle.program.specs.declared.Registered.TheVariants.{Inserted, Repeat}
use Rattle.program.specs.declared.RegisterError.TheVariants.{Collision, Full}
use Rattle.program.specs.declared.Row.{Row}
use Rattle.program.specs.declared.KeptName.{KeptName}
use Rattle.program.specs.declared.FunctionName.TheVariants.{Symbol, OfIndex, Entrypoint}
use Rattle.program.specs.Search.{narrowed, binary_search, is_among}
use Rattle.program.specs.Rows.{rank}
use Rattle.program.specs.Table.{Slices, slices, least, capacity, rows_of, ranks_of, opened, closed, opened_row, opened_alike, closed_row, counted, place_in, holds, register_at, registered_at, register_in, registered_by, registered_in, registered_alike_in, unregister_at, unregistered_at, unregister_in, unregistered_in, lookup_in, found_at, lookup_ascending_in, number_at, row_ascending_in, index_ascending_in}
use Rattle.program.specs.HashedLegacy.{kept, kept_symbol, kept_name, legacy_key, is_taken}

-- a row with a name that is made from the index
abbrev row : ℕ → ℕ → Row
row k i = record { key = k; index = i; kind = 3; start = 0; length = 0 }

-- rows 10 and 30; rows 10, 20 and 30; row 30
abbrev two : Slices
two = slices (10 ∷ 30 ∷ 0 ∷ []) (1 ∷ 3 ∷ 0 ∷ 0 ∷ []) (3 ∷ 3 ∷ 0 ∷ 0 ∷ []) (0 ∷ 0 ∷ 0 ∷ []) (0 ∷ 0 ∷ 0 ∷ [])

abbrev three : Slices
three = slices (10 ∷ 20 ∷ 30 ∷ []) (1 ∷ 2 ∷ 3 ∷ 0 ∷ []) (3 ∷ 3 ∷ 3 ∷ 0 ∷ []) (0 ∷ 0 ∷ 0 ∷ []) (0 ∷ 0 ∷ 0 ∷ [])

abbrev one : Slices
one = slices (30 ∷ 0 ∷ 0 ∷ []) (3 ∷ 0 ∷ 0 ∷ 0 ∷ []) (3 ∷ 0 ∷ 0 ∷ 0 ∷ []) (0 ∷ 0 ∷ 0 ∷ []) (0 ∷ 0 ∷ 0 ∷ [])

-- keys in no order, 5 twice
abbrev mixed : Slices
mixed = slices (5 ∷ 9 ∷ 5 ∷ []) (1 ∷ 2 ∷ 3 ∷ []) (3 ∷ 3 ∷ 3 ∷ []) (0 ∷ 0 ∷ 0 ∷ []) (0 ∷ 0 ∷ 0 ∷ [])

-- one row moves for key 20 and none for 40; key 30 repeats or collides by its index; the table is full with three rows, also by a count
-- past the rows
registrations : register_in two 2 (row 20 2) ∷ register_in two 2 (row 40 4) ∷ register_in two 2 (row 30 3) ∷ register_in two 2 (row 30 4) ∷ register_in three 3 (row 40 4) ∷ register_in three 9 (row 40 4) ∷ []
    ≡ Ok (Inserted 1) ∷ Ok (Inserted 0) ∷ Ok Repeat ∷ Err Collision ∷ Err Full ∷ Err Full ∷ []
unfolding register_in register_at counted place_in holds binary_search narrowed ranks_of capacity least rank ◌if◌else◌
registrations = refl

-- a repeat under another name changes nothing
registered : registered_in two 2 (row 20 2) ∷ registered_in two 2 (record { key = 30; index = 3; kind = 1; start = 64; length = 5 }) ∷ []
    ≡ three ∷ two ∷ []
unfolding registered_by registered_at counted place_in holds binary_search narrowed ranks_of capacity least rank opened_row opened ◌if◌else◌
registered = refl

-- the name at the last place: as before where the rows all have it, and another table where they do not
alike : registered_alike_in two 2 (row 20 2) ∷ registered_alike_in two 2 (row 30 3) ∷ [] ≡ registered_in two 2 (row 20 2) ∷ two ∷ []
unfolding registered_by registered_at counted place_in holds binary_search narrowed ranks_of capacity least rank opened_row opened_alike opened ◌if◌else◌
alike = refl

abbrev named : Row
named = record { key = 20; index = 2; kind = 1; start = 64; length = 5 }

unlike : registered_alike_in two 2 named ∷ registered_in two 2 named ∷ []
    ≡ slices (10 ∷ 20 ∷ 30 ∷ []) (1 ∷ 2 ∷ 3 ∷ 0 ∷ []) (3 ∷ 3 ∷ 1 ∷ 0 ∷ []) (0 ∷ 0 ∷ 64 ∷ []) (0 ∷ 0 ∷ 5 ∷ [])
    ∷ slices (10 ∷ 20 ∷ 30 ∷ []) (1 ∷ 2 ∷ 3 ∷ 0 ∷ []) (3 ∷ 1 ∷ 3 ∷ 0 ∷ []) (0 ∷ 64 ∷ 0 ∷ []) (0 ∷ 5 ∷ 0 ∷ [])
    ∷ []
unfolding registered_by registered_at counted place_in holds binary_search narrowed ranks_of capacity least rank opened_row opened_alike opened ◌if◌else◌
unlike = refl

removals : unregister_in two 2 10 ∷ unregister_in two 2 30 ∷ unregister_in two 2 20 ∷ [] ≡ Some 1 ∷ Some 0 ∷ None ∷ []
unfolding unregister_in unregister_at counted place_in holds binary_search narrowed ranks_of capacity least rank ◌if◌else◌
removals = refl

removed : unregistered_in two 2 10 ∷ unregistered_in two 2 20 ∷ [] ≡ one ∷ two ∷ []
unfolding unregistered_in unregistered_at counted place_in holds binary_search narrowed ranks_of capacity least rank closed_row closed ◌if◌else◌
removed = refl

-- the first of two rows with the key; a row that is not used; a count past the rows
lookups : lookup_in mixed 3 5 ∷ lookup_in mixed 1 9 ∷ lookup_in mixed 9 9 ∷ [] ≡ Some (row 5 1) ∷ None ∷ Some (row 9 2) ∷ []
unfolding lookup_in counted rows_of capacity least rank ◌if◌else◌
lookups = refl

-- a binary search in ascending rows: the first row, the last, one that is not used, and keys between the rows and behind them
ascending_lookups : lookup_ascending_in three 3 10 ∷ lookup_ascending_in three 3 30 ∷ lookup_ascending_in three 2 30 ∷ lookup_ascending_in three 3 25 ∷ lookup_ascending_in three 9 40 ∷ []
    ≡ Some (row 10 1) ∷ Some (row 30 3) ∷ None ∷ None ∷ None ∷ []
unfolding lookup_ascending_in found_at counted place_in holds binary_search narrowed ranks_of capacity least rank ◌if◌else◌
ascending_lookups = refl

-- in rows that fall it misses one that the scan finds
abbrev falling : Slices
falling = slices (30 ∷ 20 ∷ 10 ∷ []) (3 ∷ 2 ∷ 1 ∷ []) (3 ∷ 3 ∷ 3 ∷ []) (0 ∷ 0 ∷ 0 ∷ []) (0 ∷ 0 ∷ 0 ∷ [])

missed : lookup_ascending_in falling 3 30 ∷ lookup_in falling 3 30 ∷ [] ≡ None ∷ Some (row 30 3) ∷ []
unfolding lookup_ascending_in found_at lookup_in counted place_in holds binary_search narrowed rows_of ranks_of capacity least rank ◌if◌else◌
missed = refl

-- the row's number alone: of the first row, of the last, of a key between the rows, of a row that is not used, by a count past the column, and by no rows
row_lookups : row_ascending_in (10 ∷ 20 ∷ 30 ∷ []) 3 10 ∷ row_ascending_in (10 ∷ 20 ∷ 30 ∷ []) 3 30 ∷ row_ascending_in (10 ∷ 20 ∷ 30 ∷ []) 3 25 ∷ row_ascending_in (10 ∷ 20 ∷ 30 ∷ []) 2 30 ∷ row_ascending_in (10 ∷ 20 ∷ 30 ∷ []) 9 30 ∷ row_ascending_in (10 ∷ 20 ∷ 30 ∷ []) 0 10 ∷ []
    ≡ Some 0 ∷ Some 2 ∷ None ∷ None ∷ Some 2 ∷ None ∷ []
unfolding row_ascending_in number_at binary_search narrowed ◌if◌else◌
row_lookups = refl

-- in keys that fall it misses rows that are there; of two equal keys it gives one
row_misses : row_ascending_in (30 ∷ 20 ∷ 10 ∷ []) 3 30 ∷ row_ascending_in (30 ∷ 20 ∷ 10 ∷ []) 3 20 ∷ row_ascending_in (5 ∷ 9 ∷ 5 ∷ []) 3 5 ∷ [] ≡ None ∷ None ∷ Some 0 ∷ []
unfolding row_ascending_in number_at binary_search narrowed ◌if◌else◌
row_misses = refl

-- the index alone: of a row, of a row that is not used, of a key between the rows, and by a column of indices that is too short
index_lookups : index_ascending_in (10 ∷ 20 ∷ 30 ∷ []) (1 ∷ 2 ∷ 3 ∷ []) 3 30 ∷ index_ascending_in (10 ∷ 20 ∷ 30 ∷ []) (1 ∷ 2 ∷ 3 ∷ []) 2 30 ∷ index_ascending_in (10 ∷ 20 ∷ 30 ∷ []) (1 ∷ 2 ∷ 3 ∷ []) 3 25 ∷ index_ascending_in (10 ∷ 20 ∷ 30 ∷ []) (1 ∷ 2 ∷ []) 3 30 ∷ []
    ≡ Some 3 ∷ None ∷ None ∷ None ∷ []
unfolding index_ascending_in row_ascending_in number_at binary_search narrowed ◌if◌else◌
index_lookups = refl

-- the binary search in nineteen ascending numbers: the first, the last, one in the middle, and numbers below, between and behind them
abbrev nineteen : List ℕ
nineteen = 10 ∷ 20 ∷ 30 ∷ 40 ∷ 50 ∷ 60 ∷ 70 ∷ 80 ∷ 90 ∷ 100 ∷ 110 ∷ 120 ∷ 130 ∷ 140 ∷ 150 ∷ 160 ∷ 170 ∷ 180 ∷ 190 ∷ []

searches : binary_search 10 nineteen ∷ binary_search 190 nineteen ∷ binary_search 100 nineteen ∷ binary_search 5 nineteen ∷ binary_search 105 nineteen ∷ binary_search 200 nineteen ∷ [] ≡ 0 ∷ 18 ∷ 9 ∷ 0 ∷ 10 ∷ 19 ∷ []
unfolding binary_search narrowed ◌if◌else◌
searches = refl

-- a symbol's name, the name entrypoint, an empty name, a name of the index, the entry's own: with labels, and without
abbrev names : Bool → List KeptName
names labels = kept_name labels (Symbol 64 5 false) ∷ kept_name labels (Symbol 70 10 true) ∷ kept_name labels (Symbol 64 0 false) ∷ kept_name labels OfIndex ∷ kept_name labels Entrypoint ∷ []

labelled : names true ≡ kept 1 64 5 ∷ kept 1 70 10 ∷ kept 0 0 0 ∷ kept 3 0 0 ∷ kept 2 0 10 ∷ []
unfolding kept_symbol ◌if◌else◌
labelled = refl

unlabelled : names false ≡ kept 0 0 0 ∷ kept 1 70 10 ∷ kept 0 0 0 ∷ kept 0 0 0 ∷ kept 2 0 10 ∷ []
unfolding kept_symbol ◌if◌else◌
unlabelled = refl

-- a built-in's key is taken in version 1 with the check on only; a key that is no built-in's never is
taken : is_taken (5 ∷ 9 ∷ []) false true 9 ∷ is_taken (5 ∷ 9 ∷ []) false true 7 ∷ is_taken (5 ∷ 9 ∷ []) false false 9 ∷ is_taken (5 ∷ 9 ∷ []) true true 9 ∷ [] ≡ true ∷ false ∷ false ∷ false ∷ []
unfolding is_taken is_among binary_search narrowed ◌if◌else◌
taken = refl

-- keys: in version 2 the index, in version 1 the index's hash, but for the name entrypoint
keys : legacy_key [] true Entrypoint 3 ∷ legacy_key [] true OfIndex 3 ∷ legacy_key [] false Entrypoint 3 ∷ legacy_key [] false (Symbol 70 10 true) 3 ∷ legacy_key [] false OfIndex 0 ∷ [] ≡ 3 ∷ 3 ∷ 0x71e3cf81 ∷ 0x71e3cf81 ∷ 0x63852afc ∷ []
unfolding legacy_key key_in index_key murmur3 body bytes_of ◌if◌else◌
keys = refl
