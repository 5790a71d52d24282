-- Demand 3: one claim about a whole load, in the scope's words.
use Rattle.program.specs.declared.RegisterError.TheVariants.{Collision, Full}
use Rattle.program.specs.declared.Registered.TheVariants.{Inserted, Repeat}
use Rattle.std.specs.Prelude.{ℕ, suc, ◌+◌, ◌-◌, ◌/◌, ◌%◌, ◌<◌, ◌^◌, ◌≡◌, Bool, true, false, ◌||◌, not, ◌⊎◌, ◌↔◌, List, [], ◌∷◌, map, take, drop, get_or, eqb, Option, Some, Ok, Err, Result, None}
use Rattle.std.specs.Int.Bits.{bit_and}
use Rattle.ebpf.specs.Choice.{◌if◌else◌}
use Rattle.ebpf.specs.LittleEndian.{le}
use Rattle.ebpf.specs.Instructions.{insn_at}
use Rattle.ebpf.specs.IndexKeys.{index_key}
use Rattle.ebpf.specs.Murmur3.{murmur3}
use Rattle.elf_parser.specs.declared.layout.Layout.{Layout}
use Rattle.elf_parser.specs.declared.types.Elf64Sym.{Elf64Sym}
use Rattle.elf_parser.specs.Names.{symbol_name, dynamic_symbol_name}
use Rattle.elf_parser.specs.Records.{dynamic_symbol_of, entry_of}
use Rattle.elf_parser.specs.Types.{sym}
use Rattle.program.specs.declared.FunctionName.TheVariants.{OfIndex, Entrypoint}
use Rattle.program.specs.declared.Row.{Row}
use Rattle.program.specs.HashedLegacy.{entrypoint}
use Rattle.program.specs.Rows.{registered, remove, RegisterResult}
use Rattle.program.specs.Rows as table
use Rattle.program.specs.Table.{Slices, capacity, lookup_in}
use Rattle.loader.specs.declared.error.ElfError.{ElfError}
use Rattle.loader.specs.declared.answer.Accepted.{Accepted}
use Rattle.loader.specs.declared.error.ElfError.TheVariants.{SymbolHashCollision, TableFull}
use Rattle.loader.specs.declared.validate.Config.{Config}
use Rattle.loader.specs.declared.validate.Job.{Job}
use Rattle.loader.specs.Deeds.{is_in}
use Rattle.loader.specs.Calls.{local_call_in, call_at, text_of, slot_count, immediate}
use Rattle.loader.specs.Functions.{row_for, symbol_function, index_of}
use Rattle.loader.specs.Labels.{label_symbols, labels_trace}
use Rattle.loader.specs.Relocations.{relocation_at, relocation_count, place_in, within, is_function}
use Rattle.loader.specs.Parts.{writing_trace, job_trace}
use Rattle.loader.specs.Trace.{Trace, done, stop, register, forget, and_then}
use Rattle.loader.specs.Validate.{prepared}
use Rattle.elf_parser.specs.Parts.{stands}

-- ---- local calls

-- slot number i is, in the file, a local call
abbrev pub LocalCall : List ℕ → Job → ℕ → Type 0
LocalCall file j i = (i < slot_count j) × (local_call_in j.version2 (insn_at (text_of file j) i) ≡ true)

-- and its target is slot number `to`
abbrev pub CallsTo : List ℕ → Job → ℕ → ℕ → Type 0
CallsTo file j i to = (i < slot_count j) × (call_at (text_of file j) j.version2 i ≡ Ok (Some to))

-- ---- the bytes that a relocation names

-- an instruction's two halves
abbrev pub in_halves : ℕ → ℕ → Bool
in_halves r b = is_in (r + 4) 4 b || is_in (r + 12) 4 b

-- by the version, whether the place r is in the text, and the relocation's type
unfoldable pub named_by : Bool → Bool → ℕ → ℕ → ℕ → Bool
named_by version2 in_text_lem type r b =
    (in_halves r b if in_text_lem || not version2 else is_in r 8 b) if eqb type 1 else
    (in_halves r b if in_text_lem else is_in r 8 b) if eqb type 8 else
    is_in (r + 4) 4 b if eqb type 10 else
    false

-- in a file whose text is the n bytes from `start` on
abbrev pub named_in : Bool → ℕ → ℕ → Option ℕ → ℕ → ℕ → Bool
named_in version2 start n (Some r) type b = named_by version2 (within start n r) type r b
named_in version2 start n None type b = false

abbrev pub names_in : List ℕ → Layout → Bool → ℕ → ℕ → ℕ → ℕ → Bool
names_in file l version2 start n i b = named_in version2 start n (place_in file l version2 i) ((relocation_at file l i).r_info % 2 ^ 32) b

abbrev pub named_at : Job → Option ℕ → ℕ → ℕ → Bool
named_at j p type b = named_in j.version2 j.text.start j.text.length p type b

abbrev pub info_of : List ℕ → Job → ℕ → ℕ
info_of file j i = (relocation_at file j.layout i).r_info

abbrev pub addend_of : List ℕ → Job → ℕ → Option ℕ
addend_of file j i = (relocation_at file j.layout i).addend

-- the relocation number i names the byte b
abbrev pub names : List ℕ → Job → ℕ → ℕ → Bool
names file j i b = names_in file j.layout j.version2 j.text.start j.text.length i b

-- no relocation names the byte b
abbrev pub Unnamed : List ℕ → Job → ℕ → Type 0
Unnamed file j b = (i : ℕ) → i < relocation_count j → names file j i b ≡ false

-- ---- registrations: each a row, with its key and its index

-- the target of the local call in slot number i
abbrev pub OfCall : List ℕ → List ℕ → Job → ℕ → Row → Type 0
OfCall file builtins j i row = (to : ℕ) × CallsTo file j i to × (row_for builtins j OfIndex to ≡ Ok row)

-- the function symbol of the relocation number i, of type 10
abbrev pub OfRelocation : List ℕ → List ℕ → Job → ℕ → Row → Type 0
OfRelocation file builtins j i row =
    (i < relocation_count j)
    × (info_of file j i % 2 ^ 32 ≡ 10)
    × (y : Elf64Sym)
    × (dynamic_symbol_of file j.layout (info_of file j i / 2 ^ 32) ≡ Ok y)
    × (is_function y ≡ true)
    × (start : ℕ)
    × (n : ℕ)
    × (dynamic_symbol_name file j.layout y.st_name ≡ stands start n)
    × (row_for builtins j (symbol_function (take n (drop start file)) start n) (index_of j y.st_value) ≡ Ok row)

-- with labels on, the symbol number i of .symtab, where st_info & 0xEF = 2
abbrev pub OfLabel : List ℕ → List ℕ → Job → ℕ → Row → Type 0
OfLabel file builtins j i row =
    (i < (label_symbols file j).count)
    × (y : Elf64Sym)
    × (entry_of 24 sym file (label_symbols file j) i ≡ Ok y)
    × (bit_and y.st_info 0xef ≡ 2)
    × (start : ℕ)
    × (n : ℕ)
    × (symbol_name file j.layout y.st_name ≡ stands start n)
    × (row_for builtins j (symbol_function (take n (drop start file)) start n) (index_of j y.st_value) ≡ Ok row)

-- e_entry less the text's sh_addr, in slots
abbrev pub entry_index : Job → ℕ
entry_index j = (j.e_entry - j.sh_addr) / 8

abbrev pub OfEntry : List ℕ → Job → Row → Type 0
OfEntry builtins j row = row_for builtins j Entrypoint (entry_index j) ≡ Ok row

-- one of the load's registrations
abbrev pub Registers : List ℕ → List ℕ → Job → Row → Type 0
Registers file builtins j row =
    ((i : ℕ) × OfCall file builtins j i row)
    ⊎ ((i : ℕ) × OfRelocation file builtins j i row)
    ⊎ ((i : ℕ) × OfLabel file builtins j i row)
    ⊎ OfEntry builtins j row

-- ---- keys

-- the key of the name entrypoint
abbrev pub name_key : ℕ
name_key = murmur3 entrypoint

-- the key of an instruction index
unfoldable pub key_of : Bool → ℕ → ℕ
key_of version2 index = index if version2 else index_key index

-- the key finds the index, by a lookup
abbrev pub Finds : (ℕ → Option Row) → ℕ → ℕ → Type 0
Finds look key index = (row : Row) × (look key ≡ Some row) × (row.index ≡ index)

-- the key is the table's, by a lookup
abbrev pub Has : (ℕ → Option Row) → ℕ → Type 0
Has look key = (row : Row) × (look key ≡ Some row)

-- version 1's key of the name entrypoint
abbrev pub IsNameKey : Job → ℕ → Type 0
IsNameKey j key = (j.version2 ≡ false) × (key ≡ name_key)

-- ---- the sentences about an accepted load

-- each slot that was a local call in the file, of whose immediate no relocation names a byte, has its target among the slots, and holds
-- a key that finds it, unless in version 1 it is the key of the name entrypoint
abbrev pub Calls : List ℕ → Job → List ℕ → (ℕ → Option Row) → Type 0
Calls file j im look =
    (i : ℕ) → LocalCall file j i
    → ((b : ℕ) → is_in (immediate j i) 4 b ≡ true → Unnamed file j b)
    → (to : ℕ) × CallsTo file j i to × (to < slot_count j) × (IsNameKey j (le 4 im (immediate j i)) ⊎ Finds look (le 4 im (immediate j i)) to)

-- the table's keys are those of the registrations: local call targets, function symbols and the entry
abbrev pub Keys : List ℕ → List ℕ → Job → (ℕ → Option Row) → Type 0
Keys file builtins j look = (key : ℕ) → Has look key ↔ ((row : Row) × Registers file builtins j row × (row.key ≡ key))

-- in version 1 the name's key finds the entry
abbrev pub Entry : Job → (ℕ → Option Row) → Type 0
Entry j look = j.version2 ≡ false → Finds look name_key (entry_index j)

-- every other key finds the index registered under it
abbrev pub Others : List ℕ → List ℕ → Job → (ℕ → Option Row) → Type 0
Others file builtins j look = (row : Row) → Registers file builtins j row → IsNameKey j row.key ⊎ Finds look row.key row.index

-- outside local call immediates and the bytes that relocations name, the image holds the file's bytes; behind them both are read as 0
abbrev pub Bytes : List ℕ → Job → List ℕ → Type 0
Bytes file j im =
    (b : ℕ) → ((i : ℕ) → LocalCall file j i → is_in (immediate j i) 4 b ≡ false)
    → Unnamed file j b
    → get_or im b 0 ≡ get_or file b 0

-- in either version no two indices below 2 ^ 32 share an index key
abbrev pub Injective : Type 0
Injective = (version2 : Bool) (x y : ℕ) → x < 2 ^ 32 → y < 2 ^ 32 → key_of version2 x ≡ key_of version2 y → x ≡ y

-- an accepted load has a file that passed the checks, and this holds of it and of the rows used
abbrev pub OnAccepted : Result Accepted ElfError → Result Job ElfError → (Job → ℕ → Type 0) → Type 0
OnAccepted (Ok x) (Ok j) P = P j x.used
OnAccepted (Ok x) (Err r) P = ⊥
OnAccepted (Err r) p P = Unit {0}

-- ---- the registrations reached: no refusal stands ahead of them

abbrev pub on_reached : RegisterResult → List Row → List Row
on_reached (Ok (Inserted m)) more = more
on_reached (Ok Repeat) more = more
on_reached (Err Collision) more = []
on_reached (Err Full) more = []

-- of a trace, in a table of n rows that holds `rows`. One that is refused for a built-in's key is no registration of the trace
unfoldable pub reached : ℕ → Trace → List Row → List Row
reached n (done im) rows = []
reached n (stop r) rows = []
reached n (register row t) rows = row ∷ on_reached (table.register n row rows) (reached n t (registered n row rows))
reached n (forget key t) rows = reached n t (remove key rows)

-- of a load
abbrev pub reached_in : List ℕ → List ℕ → ℕ → Result Job ElfError → List Row
reached_in file builtins n (Ok j) = reached n (job_trace file builtins j file) []
reached_in file builtins n (Err r) = []

-- of a load, before the entry's: calls, relocations and labels
abbrev pub early_trace : List ℕ → List ℕ → Job → Trace
early_trace file builtins j = and_then (writing_trace file builtins j file) (labels_trace file builtins j)

abbrev pub reached_early : List ℕ → List ℕ → ℕ → Result Job ElfError → List Row
reached_early file builtins n (Ok j) = reached n (early_trace file builtins j) []
reached_early file builtins n (Err r) = []

-- a row of the list
abbrev pub Among : Row → List Row → Type 0
Among row [] = ⊥
Among row (x ∷ xs) = (row ≡ x) ⊎ Among row xs

-- two of them have the name's key and different indices
abbrev pub Clash : List Row → Type 0
Clash rows = (x : Row) × (y : Row) × Among x rows × Among y rows × (x.key ≡ name_key) × (y.key ≡ name_key) × (x.index ≡ y.index → ⊥)

-- how many distinct numbers
abbrev pub is_one_of : ℕ → List ℕ → Bool
is_one_of k [] = false
is_one_of k (x ∷ xs) = eqb k x || is_one_of k xs

unfoldable pub distinct : List ℕ → ℕ
distinct [] = 0
distinct (x ∷ xs) = distinct xs if is_one_of x xs else suc (distinct xs)

-- ---- the claim

-- of a load with n bytes lent for the image, m for the read-only bytes, and a table t: the image and the table are im' and t' afterwards, the
-- answer is a, and `lookup` is the lookup by which a key finds an index in a table of so many used rows
pub record Demand3By (lookup : Slices → ℕ → ℕ → Option Row) (file builtins : List ℕ) (c : Config) (n m : ℕ) (t : Slices) (im' : List ℕ) (t' : Slices) (a : Result Accepted ElfError) : Type 0 where
  pub calls : OnAccepted a (prepared file builtins c n m) (λ j used. Calls file j im' (lookup t' used))
  pub keys : OnAccepted a (prepared file builtins c n m) (λ j used. Keys file builtins j (lookup t' used))
  pub entry : OnAccepted a (prepared file builtins c n m) (λ j used. Entry j (lookup t' used))
  pub others : OnAccepted a (prepared file builtins c n m) (λ j used. Others file builtins j (lookup t' used))
  pub bytes : OnAccepted a (prepared file builtins c n m) (λ j used. Bytes file j im')
  pub injective : Injective
  -- of accepted and of refused loads, where the collision check is off
  pub collision : c.external_internal_function_hash_collision ≡ false
      → ((key : ℕ) × (a ≡ Err (SymbolHashCollision key))) ↔ Clash (reached_early file builtins (capacity t) (prepared file builtins c n m))
  pub full : c.external_internal_function_hash_collision ≡ false
      → ((rows : ℕ) × (a ≡ Err (TableFull rows))) ↔ (capacity t < distinct (map (λ r. r.key) (reached_in file builtins (capacity t) (prepared file builtins c n m))))

-- DEMAND 3, by the lookup that is right on any table
abbrev pub Demand3 : List ℕ → List ℕ → Config → ℕ → ℕ → Slices → List ℕ → Slices → Result Accepted ElfError → Type 0
Demand3 = Demand3By lookup_in
