-- Records by index, and the contents of sections. In a layout that no parse made, a place outside the file is refused.
use Rattle.std.specs.Prelude.{ℕ, ◌+◌, ◌*◌, ◌/◌, ◌%◌, ◌≤◌, Bool, true, false, ◌&&◌, not, List, ◌≡◌, refl, length, ltb, leb, eqb, Option, Some, None, Result, Ok, Err}
use Rattle.std.proofs.Common.{ltb-false, le-ltb, arith, subst}
use Rattle.std.proofs.Math.Nat.{div-add-mod}
use Rattle.ebpf.specs.Choice.{◌if◌else◌, not_first, row_rest, row_cases, past_word}
use Rattle.elf_parser.specs.declared.error.ElfParserError.{ElfParserError}
use Rattle.elf_parser.specs.declared.error.ElfParserError.TheVariants.{OutOfBounds, InvalidSize, InvalidAlignment, InvalidSectionHeader, NoSuchIndex, NotASection}
use Rattle.elf_parser.specs.declared.parts.Place.{Place}
use Rattle.elf_parser.specs.declared.types.Elf64Phdr.{Elf64Phdr}
use Rattle.elf_parser.specs.declared.types.Elf64Shdr.{Elf64Shdr}
use Rattle.elf_parser.specs.declared.types.Elf64Sym.{Elf64Sym}
use Rattle.elf_parser.specs.declared.types.Elf64Rel.{Elf64Rel}
use Rattle.elf_parser.specs.declared.types.Elf64Rela.{Elf64Rela}
use Rattle.elf_parser.specs.declared.layout.Layout.{Layout}
use Rattle.elf_parser.specs.declared.records.Entries.{Entries}
use Rattle.elf_parser.specs.Errors.{and_then, apart}
use Rattle.elf_parser.specs.Parts.{stands}
use Rattle.elf_parser.specs.Types.{program_header, section_header, sym, rel, rela, SHT_NULL, SHT_SYMTAB, SHT_DYNSYM, SHT_NOBITS}

-- where an entry of a table starts, the entries `width` bytes each
unfoldable pub entry_at : ℕ → Entries → ℕ → ℕ → Result ℕ ElfParserError
entry_at len table width index =
    Err NoSuchIndex if leb table.count index else
    Err OutOfBounds if ltb len (table.offset + (index * width + width)) else
    Ok (table.offset + index * width)

-- the entry number `index` of a table, as `read` reads an entry at a place
abbrev pub entry_of : {A : Type 0} → ℕ → (List ℕ → ℕ → A) → List ℕ → Entries → ℕ → Result A ElfParserError
entry_of width read s table index = and_then (entry_at (length s) table width index) (λ at. Ok (read s at))

abbrev pub program_header_of : List ℕ → Layout → ℕ → Result Elf64Phdr ElfParserError
program_header_of s l index = entry_of 56 program_header s l.program_headers index

abbrev pub section_header_of : List ℕ → Layout → ℕ → Result Elf64Shdr ElfParserError
section_header_of s l index = entry_of 64 section_header s l.section_headers index

abbrev pub dynamic_symbol_of : List ℕ → Layout → ℕ → Result Elf64Sym ElfParserError
dynamic_symbol_of s l index = entry_of 24 sym s l.dynamic_symbols index

abbrev pub dynamic_relocation_of : List ℕ → Layout → ℕ → Result Elf64Rel ElfParserError
dynamic_relocation_of s l index = entry_of 16 rel s l.dynamic_relocations index

abbrev pub dynamic_rela_of : List ℕ → Layout → ℕ → Result Elf64Rela ElfParserError
dynamic_rela_of s l index = entry_of 24 rela s l.dynamic_relas index

-- `size` bytes from `offset` on as entries of `width` bytes
unfoldable pub sliced : ℕ → ℕ → ℕ → ℕ → Result Entries ElfParserError
sliced len offset size width =
    Err OutOfBounds if past_word (offset + size) else
    Err InvalidSize if ltb 0 (size % width) else
    Err OutOfBounds if ltb len (offset + size) else
    Err InvalidAlignment if ltb 0 (offset % 8) else
    Ok (record { offset = offset; count = size / width })

-- no entries
abbrev pub no_entries : Entries
no_entries = record { offset = 0; count = 0 }

-- the symbol table that a section header describes; a type other than SHT_SYMTAB and SHT_DYNSYM is 3
unfoldable pub symbol_table_in : ℕ → Elf64Shdr → Result Entries ElfParserError
symbol_table_in len h =
    Err InvalidSectionHeader if not (eqb h.sh_type SHT_SYMTAB) && not (eqb h.sh_type SHT_DYNSYM) else
    sliced len h.sh_offset h.sh_size 24

-- the symbols of the section whose header stands at a place: none where there is no such section
unfoldable pub symbols_at : List ℕ → Option ℕ → Result Entries ElfParserError
symbols_at s None = Ok no_entries
symbols_at s (Some at) =
    Err OutOfBounds if ltb (length s) (at + 64) else
    symbol_table_in (length s) (section_header s at)

-- the symbols of `.symtab`
unfoldable pub symbol_table_of : List ℕ → Layout → Result Entries ElfParserError
symbol_table_of s l = symbols_at s l.symtab

-- where a section's bytes stand in the file: none for NOBITS
unfoldable pub file_range : ℕ → Elf64Shdr → Result Place ElfParserError
file_range len h =
    stands 0 0 if eqb h.sh_type SHT_NOBITS else
    Err OutOfBounds if ltb len (h.sh_offset + h.sh_size) else
    stands h.sh_offset h.sh_size

abbrev pub file_range_of : List ℕ → Layout → ℕ → Result Place ElfParserError
file_range_of s l index = and_then (section_header_of s l index) (file_range (length s))

-- contents by index: their range in the file, none for a header of type SHT_NULL, whose other members have no meaning
unfoldable pub contents_place : ℕ → Elf64Shdr → Result Place ElfParserError
contents_place len h =
    Err NotASection if eqb h.sh_type SHT_NULL else
    file_range len h

abbrev pub section_place_of : List ℕ → Layout → ℕ → Result Place ElfParserError
section_place_of s l index = and_then (section_header_of s l index) (contents_place (length s))

-- ---- laws

-- an entry that is given lies in the file
pub entry_within : (len : ℕ) (table : Entries) (width index at : ℕ) → entry_at len table width index ≡ Ok at → at + width ≤ len
unfolding entry_at
entry_within len table width index at e =
    let e1 = row_rest _ _ _ _ (apart _ _) e in
    let e2 : Ok (table.offset + index * width) ≡ Ok at = row_rest _ _ _ _ (apart _ _) e1 in
    let p : table.offset + index * width ≡ at = cc in
    let q = ltb-false len (table.offset + (index * width + width)) (not_first _ _ _ _ (apart _ _) e1) in
    omega arith

-- entries that are given lie in the file
abbrev pub InFile : ℕ → ℕ → (Result Entries ElfParserError) → Type 0
InFile len width a = (x : Entries) → a ≡ Ok x → x.offset + width * x.count ≤ len

pub slice_in_file : (len offset size width : ℕ) → InFile len width (sliced len offset size width)
unfolding sliced
slice_in_file len offset size width x e =
    let e1 = row_rest _ _ _ _ (apart _ _) e in
    let e2 = row_rest _ _ _ _ (apart _ _) e1 in
    let e3 = row_rest _ _ _ _ (apart _ _) e2 in
    let e4 : Ok (record { offset = offset; count = size / width }) ≡ Ok x = row_rest _ _ _ _ (apart _ _) e3 in
    let p : record { offset = offset; count = size / width } ≡ x = cc in
    let q = ltb-false len (offset + size) (not_first _ _ _ _ (apart _ _) e2) in
    rw (← p) (omega (arith, div-add-mod size width))

pub symbol_table_in_file : (len : ℕ) (h : Elf64Shdr) → InFile len 24 (symbol_table_in len h)
unfolding symbol_table_in
symbol_table_in_file len h x e = slice_in_file len h.sh_offset h.sh_size 24 x (row_rest _ _ _ _ (apart _ _) e)

pub symbol_table_few : (s : List ℕ) (l : Layout) (x : Entries) → symbol_table_of s l ≡ Ok x → 24 * x.count ≤ length s
unfolding symbol_table_of symbols_at
symbol_table_few s l x e = go l.symtab e
  where
    go : (at : Option ℕ) → symbols_at s at ≡ Ok x → 24 * x.count ≤ length s
    go None q = let p : no_entries ≡ x = cc in rw (← p) (omega arith)
    go (Some at) q = omega (arith, symbol_table_in_file (length s) (section_header s at) x (row_rest _ _ _ _ (apart _ _) q))

-- a section's bytes: where the whole range lies in the file, they are that range or none
pub range_stands : (len : ℕ) (h : Elf64Shdr) → h.sh_offset + h.sh_size ≤ len
    → file_range len h ≡ stands (0 if eqb h.sh_type SHT_NOBITS else h.sh_offset) (0 if eqb h.sh_type SHT_NOBITS else h.sh_size)
unfolding file_range ◌if◌else◌
range_stands len h lies = rw (le-ltb len (h.sh_offset + h.sh_size) lies) (go (eqb h.sh_type SHT_NOBITS))
  where
    go : (b : Bool) → (stands 0 0 if b else stands h.sh_offset h.sh_size) ≡ stands (0 if b else h.sh_offset) (0 if b else h.sh_size)
    go true = refl
    go false = refl

-- the two ways in which they are found
module _ (len : ℕ) (h : Elf64Shdr) (p : Place) (e : file_range len h ≡ Ok p) (G : Place → Type 0) where
  pub range_cases : G (record { start = 0; length = 0 }) → (h.sh_offset + h.sh_size ≤ len → G (record { start = h.sh_offset; length = h.sh_size })) → G p
  unfolding file_range
  range_cases none some =
      row_cases _ _ _ _ _
      (λ b q. let r : record { start = 0; length = 0 } ≡ p = cc in subst G r none)
      (λ b q. row_cases _ _ _ _ _ (λ c r. absurd (apart _ _ r))
      (λ c r. let k : record { start = h.sh_offset; length = h.sh_size } ≡ p = cc in subst G k (some (ltb-false len (h.sh_offset + h.sh_size) c)))
      q)
      e

-- their end stays in the file also from the section's own offset on
pub range_lies : (len : ℕ) (h : Elf64Shdr) (p : Place) → h.sh_offset + h.sh_size ≤ len → file_range len h ≡ Ok p → h.sh_offset + p.length ≤ len
range_lies len h p lies e = range_cases len h p e (λ q. h.sh_offset + q.length ≤ len) (omega (arith, lies)) (λ _. lies)

range_in : (len : ℕ) (h : Elf64Shdr) (p : Place) → file_range len h ≡ Ok p → p.start + p.length ≤ len
range_in len h p e = range_cases len h p e (λ r. r.start + r.length ≤ len) (omega arith) (λ w. w)

-- and they lie in the file
pub range_within : (s : List ℕ) (l : Layout) (index : ℕ) (p : Place) → file_range_of s l index ≡ Ok p → p.start + p.length ≤ length s
range_within s l index p e = go (section_header_of s l index) e
  where
    go : (h : Result Elf64Shdr ElfParserError) → and_then h (file_range (length s)) ≡ Ok p → p.start + p.length ≤ length s
    go (Ok h) q = range_in (length s) h p q
    go (Err r) q = absurd (apart _ _ q)
