-- Labels: what a symbol of .symtab asks for where labels are kept.
use Rattle.program.specs.HashedLegacy.{LegacyResult}
use Rattle.std.specs.Prelude.{ℕ, ◌*◌, ◌≤◌, ◌≡◌, refl, Bool, true, false, not, List, length, take, drop, eqb, Ok, Err, Result}
use Rattle.std.proofs.Common.{arith}
use Rattle.std.specs.Int.Bits.{bit_and}
use Rattle.ebpf.specs.Choice.{◌if◌else◌}
use Rattle.elf_parser.specs.declared.types.Elf64Sym.{Elf64Sym}
use Rattle.elf_parser.specs.declared.records.Entries.{Entries}
use Rattle.elf_parser.specs.Records.{no_entries, entry_of, symbol_table_of, symbol_table_few}
use Rattle.elf_parser.specs.Names.{symbol_name}
use Rattle.elf_parser.specs.Types.{sym}
use Rattle.loader.specs.declared.error.ElfError.TheVariants.{SymbolHashCollision, UnknownSymbol, ValueOutOfBounds}
use Rattle.loader.specs.declared.validate.Job.{Job}
use Rattle.loader.specs.declared.deeds.Deed.{Deed}
use Rattle.loader.specs.declared.deeds.Deed.TheVariants.{Skip, RegisterOnly}
use Rattle.loader.specs.declared.error.ElfError.{ElfError}
use Rattle.loader.specs.Functions.{row_for, symbol_function, in_text, index_of}
use Rattle.loader.specs.Trace.{Trace, each}
use Rattle.loader.specs.Deeds.{DeedFits, deed_trace}
use Rattle.loader.specs.Relocations.{either}
use Rattle.elf_parser.specs.declared.error.ElfParserError.{ElfParserError}
use Rattle.elf_parser.specs.declared.parts.Place.{Place}

abbrev pub label_row : LegacyResult → Result Deed ElfError
label_row (Err taken) = Err (SymbolHashCollision taken.key)
label_row (Ok row) = Ok (RegisterOnly row)

-- a function whose name is the n bytes `part` at `start`
abbrev pub label_as : List ℕ → List ℕ → Job → ℕ → ℕ → ℕ → Result Deed ElfError
label_as part builtins j index start n = label_row (row_for builtins j (symbol_function part start n) index)

abbrev pub named_label : List ℕ → List ℕ → Job → ℕ → ℕ → Result Place ElfParserError → Result Deed ElfError
named_label s builtins j index st-name (Ok p) = label_as (take p.length (drop p.start s)) builtins j index p.start p.length
named_label s builtins j index st-name (Err e) = Err (UnknownSymbol st-name)

-- st_info & 0xEF = 2; the value is an address of the text
unfoldable pub label_of : List ℕ → List ℕ → Job → Elf64Sym → Result Deed ElfError
label_of s builtins j y =
    Ok Skip if not (eqb (bit_and y.st_info 0xef) 2) else
    Err ValueOutOfBounds if not (in_text j y.st_value) else
    named_label s builtins j (index_of j y.st_value) y.st_name (symbol_name s j.layout y.st_name)

abbrev pub label_by : List ℕ → List ℕ → Job → Result Elf64Sym ElfParserError → Result Deed ElfError
label_by s builtins j (Ok y) = label_of s builtins j y
label_by s builtins j (Err e) = Ok Skip

-- what a load does about the symbol number i of a symbol table
unfoldable pub label_deed : List ℕ → List ℕ → Job → Entries → ℕ → Result Deed ElfError
label_deed s builtins j symbols i = label_by s builtins j (entry_of 24 sym s symbols i)

-- the symbols of .symtab where labels are kept; none where the table is unreadable
abbrev pub symbols_by : Result Entries ElfParserError → Entries
symbols_by (Ok x) = x
symbols_by (Err e) = no_entries

unfoldable pub label_symbols : List ℕ → Job → Entries
label_symbols s j = symbols_by (symbol_table_of s j.layout) if j.labels else no_entries

abbrev pub label_count : List ℕ → Job → ℕ
label_count s j = (label_symbols s j).count

unfoldable pub label_trace : List ℕ → List ℕ → Job → ℕ → List ℕ → Trace
label_trace s builtins j i im = deed_trace (label_deed s builtins j (label_symbols s j) i) im

-- THE LABELS' PART OF A LOAD
abbrev pub labels_trace : List ℕ → List ℕ → Job → List ℕ → Trace
labels_trace s builtins j im = each (label_trace s builtins j) (label_symbols s j).count 0 im

-- ---- laws

-- nothing is written
pub row_fits : (n : ℕ) (row : LegacyResult) → DeedFits n (label_row row)
row_fits n (Err taken) = tt
row_fits n (Ok row) = tt

named_fits : (n : ℕ) (s builtins : List ℕ) (j : Job) (index st-name : ℕ) (p : Result Place ElfParserError) → DeedFits n (named_label s builtins j index st-name p)
named_fits n s builtins j index st-name (Ok p) = row_fits n (row_for builtins j (symbol_function (take p.length (drop p.start s)) p.start p.length) index)
named_fits n s builtins j index st-name (Err e) = tt

of_fits : (n : ℕ) (s builtins : List ℕ) (j : Job) (y : Elf64Sym) → DeedFits n (label_of s builtins j y)
unfolding label_of
of_fits n s builtins j y =
    either n _ _ _ (λ e. tt)
    (λ e. either n _ _ _ (λ f. tt) (λ f. named_fits n s builtins j (index_of j y.st_value) y.st_name (symbol_name s j.layout y.st_name)))

by_fits : (n : ℕ) (s builtins : List ℕ) (j : Job) (y : Result Elf64Sym ElfParserError) → DeedFits n (label_by s builtins j y)
by_fits n s builtins j (Ok y) = of_fits n s builtins j y
by_fits n s builtins j (Err e) = tt

pub label_fits : (n : ℕ) (s builtins : List ℕ) (j : Job) (symbols : Entries) (i : ℕ) → DeedFits n (label_deed s builtins j symbols i)
unfolding label_deed
label_fits n s builtins j symbols i = by_fits n s builtins j (entry_of 24 sym s symbols i)

-- a file has few symbols
pub few_symbols : (s : List ℕ) (j : Job) → 24 * (label_symbols s j).count ≤ length s
unfolding label_symbols ◌if◌else◌
few_symbols s j = go j.labels (symbol_table_of s j.layout) refl
  where
    go : (b : Bool) (t : Result Entries ElfParserError) → symbol_table_of s j.layout ≡ t → 24 * (symbols_by t if b else no_entries).count ≤ length s
    go false t e = omega arith
    go true (Ok x) e = symbol_table_few s j.layout x e
    go true (Err r) e = omega arith
