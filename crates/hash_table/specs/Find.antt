-- A dynamic symbol by its name, through the hash table under tag 4.
use Rattle.std.specs.Prelude.{ℕ, zero, suc, ◌+◌, ◌-◌, ◌*◌, ◌%◌, ◌≤◌, ◌<◌, not, List, length, ltb, leb, eqb, Bool, true, false, Option, Some, None, Result, Ok, Err, ◌≡◌}
use Rattle.std.specs.declared.ops.ControlFlow.{ControlFlow}
use Rattle.std.specs.declared.ops.ControlFlow.TheVariants.{Break, Continue}
use Rattle.std.proofs.Common.{arith, ltb-false}
use Rattle.std.proofs.lemmas.Bool.{eqb-false}
use Rattle.ebpf.specs.Choice.{◌if◌else◌, row_rest, not_first}
use Rattle.ebpf.specs.LittleEndian.{le}
use Rattle.elf_parser.specs.declared.layout.Layout.{Layout}
use Rattle.elf_parser.specs.declared.parts.Place.{Place}
use Rattle.elf_parser.specs.declared.error.ElfParserError.{ElfParserError}
use Rattle.elf_parser.specs.declared.error.Report.{Report}
use Rattle.elf_parser.specs.Dynamic.{file_offset}
use Rattle.elf_parser.specs.Errors.{and_then as then_read, valued}
use Rattle.elf_parser.specs.Names.{dynamic_symbol_name}
use Rattle.elf_parser.specs.Parts.{bytes_at}
use Rattle.elf_parser.specs.Records.{dynamic_symbol_of}
use Rattle.elf_parser.specs.SectionNames.{same_bytes}
use Rattle.hash_table.specs.declared.HashTable.{HashTable}
use Rattle.hash_table.specs.declared.BadHashTable.{BadHashTable}
use Rattle.hash_table.specs.Hash.{elf_hash}

-- the table cannot be used
abbrev pub bad_table : BadHashTable
bad_table = record {}

-- its number
abbrev pub report_of : BadHashTable → Report
report_of bad = valued 48 0

-- ---- the table

-- at a place: it has buckets, as many chains as there are symbols, and lies in the file
unfoldable pub table_at : List ℕ → ℕ → ℕ → Result HashTable BadHashTable
table_at s symbols at =
    Err bad_table if ltb (length s) (at + 8) else
    Err bad_table if eqb (le 4 s at) 0 else
    Err bad_table if not (eqb (le 4 s (at + 4)) symbols) else
    Err bad_table if ltb (length s) (at + (8 + (le 4 s at + le 4 s (at + 4)) * 4)) else
    Ok (record { buckets = at + 8; nbucket = le 4 s at; nchain = le 4 s (at + 4) })

abbrev pub table_by : List ℕ → ℕ → Result (Option ℕ) ElfParserError → Result HashTable BadHashTable
table_by s symbols (Ok (Some at)) = table_at s symbols at
table_by s symbols (Ok None) = Err bad_table
table_by s symbols (Err r) = Err bad_table

-- by the address under tag 4, located as the relocations are
abbrev pub hash_table_at : List ℕ → Layout → Option ℕ → Result HashTable BadHashTable
hash_table_at s l None = Err bad_table
hash_table_at s l (Some vaddr) = table_by s l.dynamic_symbols.count (file_offset s l vaddr)

unfoldable pub hash_table_of : List ℕ → Layout → Result HashTable BadHashTable
hash_table_of s l = hash_table_at s l l.hash_table

-- such a table has buckets and lies in the file
pub record Usable (len : ℕ) (t : HashTable) : Type 0 where
  pub some : 0 < t.nbucket
  pub within : t.buckets + (t.nbucket + t.nchain) * 4 ≤ len

-- its numbers: first the buckets, then the chains
abbrev pub number_at : List ℕ → HashTable → ℕ → ℕ
number_at s t i = le 4 s (t.buckets + i * 4)

abbrev pub bucket_at : List ℕ → HashTable → ℕ → ℕ
bucket_at s t hash = number_at s t (hash % t.nbucket)

abbrev pub chain_at : List ℕ → HashTable → ℕ → ℕ
chain_at s t index = number_at s t (t.nbucket + index)

-- ---- a symbol's name

abbrev pub name_at : List ℕ → Layout → ℕ → Result Place ElfParserError
name_at s l index = then_read (dynamic_symbol_of s l index) (λ y. dynamic_symbol_name s l y.st_name)

-- whether the bytes at a place are the name; a place that is refused is bad
abbrev pub carries_at : List ℕ → Result Place ElfParserError → List ℕ → Result Bool BadHashTable
carries_at s (Ok p) name = Ok (same_bytes (bytes_at s p.start p.length) name)
carries_at s (Err r) name = Err bad_table

abbrev pub carries : List ℕ → Layout → List ℕ → ℕ → Result Bool BadHashTable
carries s l name index = carries_at s (name_at s l index) name

-- ---- the walk

-- the end of the walk with the symbol, or the next index
abbrev pub link_by : Result Bool BadHashTable → ℕ → ℕ → Result (ControlFlow (Option ℕ) ℕ) BadHashTable
link_by (Ok true) index next = Ok (Break (Some index))
link_by (Ok false) index next = Ok (Continue next)
link_by (Err r) index next = Err r

-- a chain ends at index 0; an index that is no symbol's, and a name that cannot be read, are bad
unfoldable pub link_at : List ℕ → Layout → List ℕ → HashTable → ℕ → Result (ControlFlow (Option ℕ) ℕ) BadHashTable
link_at s l name t index =
    Ok (Break None) if eqb index 0 else
    Err bad_table if leb t.nchain index else
    link_by (carries s l name index) index (chain_at s t index)

-- what a link says, and how the walk goes on
unfoldable pub on_link : (ℕ → Result (Option ℕ) BadHashTable) → Result (ControlFlow (Option ℕ) ℕ) BadHashTable → Result (Option ℕ) BadHashTable
on_link rest (Ok (Break found)) = Ok found
on_link rest (Ok (Continue index)) = rest index
on_link rest (Err r) = Err r

-- n links at most, from a symbol on: more are bad
unfoldable pub walked : List ℕ → Layout → List ℕ → HashTable → ℕ → ℕ → Result (Option ℕ) BadHashTable
walked s l name t zero index = Err bad_table
walked s l name t (suc n) index = on_link (walked s l name t n) (link_at s l name t index)

-- no chain without a circle has more than `nchain` links, of which one is its end
abbrev pub found_in : List ℕ → Layout → List ℕ → Result HashTable BadHashTable → Result (Option ℕ) BadHashTable
found_in s l name (Err r) = Err r
found_in s l name (Ok t) = walked s l name t (t.nchain + 1) (bucket_at s t (elf_hash name))

-- THE SYMBOL WITH A NAME: the first on the name's chain that carries it
abbrev pub find_symbol : List ℕ → Layout → List ℕ → Result (Option ℕ) BadHashTable
find_symbol s l name = found_in s l name (hash_table_of s l)

-- ---- a table that is found has buckets and lies in the file

not_found : (r : BadHashTable) (t : HashTable) → Err r ≡ Ok t → ⊥
not_found r t e = let z : ◌≡◌ {A = ℕ} 0 1 = cc in omega arith

above : (i : ℕ) → (i ≡ 0 → ⊥) → 0 < i
above i d = omega (arith, d)

table_at_lies : (s : List ℕ) (symbols at : ℕ) (t : HashTable) → table_at s symbols at ≡ Ok t → Usable (length s) t
unfolding table_at
table_at_lies s symbols at t e =
    let e1 = row_rest _ _ _ _ (not_found _ t) e in
    let e2 = row_rest _ _ _ _ (not_found _ t) e1 in
    let e3 = row_rest _ _ _ _ (not_found _ t) e2 in
    let e4 = row_rest _ _ _ _ (not_found _ t) e3 in
    let p : record { buckets = at + 8; nbucket = le 4 s at; nchain = le 4 s (at + 4) } ≡ t = cc in
    let q = ltb-false (length s) (at + (8 + (le 4 s at + le 4 s (at + 4)) * 4)) (not_first _ _ _ _ (not_found _ t) e3) in
    let n = eqb-false (le 4 s at) 0 (not_first _ _ _ _ (not_found _ t) e1) in
    rw (← p) (record { some = above (le 4 s at) n; within = omega (arith, q) })

pub table_lies : (s : List ℕ) (l : Layout) (t : HashTable) → hash_table_of s l ≡ Ok t → Usable (length s) t
unfolding hash_table_of
table_lies s l t = at l.hash_table
  where
    go : (m : Result (Option ℕ) ElfParserError) → table_by s l.dynamic_symbols.count m ≡ Ok t → Usable (length s) t
    go (Ok (Some at)) q = table_at_lies s l.dynamic_symbols.count at t q
    go (Ok None) q = absurd (not_found _ t q)
    go (Err r) q = absurd (not_found _ t q)

    at : (address : Option ℕ) → hash_table_at s l address ≡ Ok t → Usable (length s) t
    at None q = absurd (not_found _ t q)
    at (Some vaddr) q = go (file_offset s l vaddr) q

-- ---- the walk from the i-th link of n on, for a loop over the links
module _ (s : List ℕ) (l : Layout) (name : List ℕ) (t : HashTable) (n : ℕ) where
  pub walked_is : (i index : ℕ) → i < n → walked s l name t (n - i) index ≡ on_link (walked s l name t (n - (i + 1))) (link_at s l name t index)
  unfolding walked
  walked_is i index h = let k : n - i ≡ suc (n - (i + 1)) = omega arith in rw k

  pub walked_end : (i index : ℕ) → n ≤ i → walked s l name t (n - i) index ≡ Err bad_table
  unfolding walked
  walked_end i index h = let k : n - i ≡ 0 = omega arith in rw k
