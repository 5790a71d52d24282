-- The key and the name of a registration, as `register_function_hashed_legacy` decides them.
use Rattle.std.specs.Prelude.{ℕ, Bool, true, false, ◌||◌, List, [], ◌∷◌, eqb, Result, Ok, Err}
use Rattle.ebpf.specs.Choice.{◌if◌else◌}
use Rattle.ebpf.specs.Murmur3.{murmur3}
use Rattle.ebpf.specs.IndexKeys.{key_in}
use Rattle.program.specs.declared.SymbolHashCollision.{SymbolHashCollision}
use Rattle.program.specs.Search.{is_among}
use Rattle.program.specs.declared.Row.{Row}
use Rattle.program.specs.declared.KeptName.{KeptName}
use Rattle.program.specs.declared.FunctionName.{FunctionName}
use Rattle.program.specs.declared.FunctionName.TheVariants.{Symbol, OfIndex, Entrypoint}

-- the bytes of the name entrypoint
abbrev pub entrypoint : List ℕ
entrypoint = 101 ∷ 110 ∷ 116 ∷ 114 ∷ 121 ∷ 112 ∷ 111 ∷ 105 ∷ 110 ∷ 116 ∷ []

abbrev pub is_entrypoint : FunctionName → Bool
is_entrypoint (Symbol start length entry) = entry
is_entrypoint OfIndex = false
is_entrypoint Entrypoint = true

-- version 2: the index; version 1: the hash of the name entrypoint for that name, else the index's key by the lent table
unfoldable pub legacy_key : List ℕ → Bool → FunctionName → ℕ → ℕ
legacy_key table version2 name index = index if version2 else murmur3 entrypoint if is_entrypoint name else key_in table index

-- ---- what a row keeps of a name: kind, start and length

abbrev pub kept : ℕ → ℕ → ℕ → KeptName
kept k s l = record { kind = k; start = s; length = l }

-- an empty name, or one that is not kept
abbrev pub name_empty : KeptName
name_empty = kept 0 0 0

abbrev pub name_in_file : ℕ → ℕ → KeptName
name_in_file start length = kept 1 start length

abbrev pub name_entrypoint : KeptName
name_entrypoint = kept 2 0 10

abbrev pub name_of_index : KeptName
name_of_index = kept 3 0 0

-- without labels only the name entrypoint is kept
unfoldable pub kept_symbol : Bool → ℕ → ℕ → Bool → KeptName
kept_symbol labels start length entry = name_empty if eqb length 0 else name_in_file start length if (labels || entry) else name_empty

abbrev pub kept_name : Bool → FunctionName → KeptName
kept_name labels (Symbol start length entry) = kept_symbol labels start length entry
kept_name labels OfIndex = name_of_index if labels else name_empty
kept_name labels Entrypoint = name_entrypoint

-- ---- the row, or the key that a built-in has already

-- the collision check is version 1's
unfoldable pub is_taken : List ℕ → Bool → Bool → ℕ → Bool
is_taken builtins version2 check key = false if version2 else is_among key builtins if check else false

abbrev pub row_of : ℕ → ℕ → KeptName → Row
row_of k i name = record { key = k; index = i; kind = name.kind; start = name.start; length = name.length }

-- what a registration comes to: the row to register, or the key that a built-in has
abbrev pub LegacyResult : Type 0
LegacyResult = Result Row SymbolHashCollision

abbrev pub collision : ℕ → SymbolHashCollision
collision k = record { key = k }

-- under a key
abbrev pub row_under : List ℕ → Bool → Bool → Bool → ℕ → FunctionName → ℕ → LegacyResult
row_under builtins version2 check labels key name index = Err (collision key) if is_taken builtins version2 check key else Ok (row_of key index (kept_name labels name))

-- under that of the name and the index
unfoldable pub legacy_row : List ℕ → List ℕ → Bool → Bool → Bool → FunctionName → ℕ → LegacyResult
legacy_row table builtins version2 check labels name index = row_under builtins version2 check labels (legacy_key table version2 name index) name index
