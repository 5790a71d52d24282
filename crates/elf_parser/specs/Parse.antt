-- The parse: every check in the order of the Rust, and the layout that it leaves.
use Rattle.std.specs.Prelude.{ℕ, ◌+◌, ◌*◌, ◌≤◌, ◌<◌, ◌≡◌, refl, not, List, length, eqb, Some, Result, Ok, Err}
use Rattle.std.proofs.Common.{sym, arith}
use Rattle.ebpf.specs.Choice.{◌if◌else◌, yes, no_go, eq_not, ne_not}
use Rattle.ebpf.specs.LittleEndian.{le}
use Rattle.elf_parser.specs.declared.error.ElfParserError.{ElfParserError}
use Rattle.elf_parser.specs.declared.error.ElfParserError.TheVariants.{InvalidSectionHeader, NoSectionNameStringTable}
use Rattle.elf_parser.specs.declared.types.Elf64Ehdr.{Elf64Ehdr}
use Rattle.elf_parser.specs.declared.types.Elf64Shdr.{Elf64Shdr}
use Rattle.elf_parser.specs.declared.section_headers.Ranges.{Ranges}
use Rattle.elf_parser.specs.declared.section_names.Named.{Named}
use Rattle.elf_parser.specs.declared.dynamic.Tables.{Tables}
use Rattle.elf_parser.specs.declared.dynamic.Linked.{Linked}
use Rattle.elf_parser.specs.declared.layout.Layout.{Layout}
use Rattle.elf_parser.specs.Errors.{Check, and_then, ◌then◌, pass_first, pass_rest}
use Rattle.elf_parser.specs.Types.{file_header, section_header, SHT_NULL}
use Rattle.elf_parser.specs.FileHeader.{header_check, tables_check, header_sections, tables_within}
use Rattle.elf_parser.specs.ProgramHeaders.{loads_check}
use Rattle.elf_parser.specs.SectionHeaders.{sections_check}
use Rattle.elf_parser.specs.SectionNames.{names_of}
use Rattle.elf_parser.specs.Dynamic.{dynamic_of}

abbrev pub ranges_of : Elf64Ehdr → Ranges
ranges_of h = record {
  program_headers = record { start = h.e_phoff; end = h.e_phoff + h.e_phnum * 56 };
  section_headers = record { start = h.e_shoff; end = h.e_shoff + h.e_shnum * 64 };
}

-- the first section header has the type SHT_NULL; nothing else of it is looked at
unfoldable pub first_check : Elf64Shdr → Check
first_check h = Err InvalidSectionHeader if not (eqb h.sh_type SHT_NULL) else Ok tt

-- the file header; the places of the tables; the first section header; PT_LOAD; the sections
unfoldable pub file_check : List ℕ → Check
file_check s =
    let h : Elf64Ehdr = file_header s in
    header_check s
    then tables_check (length s) h.e_phoff h.e_phnum h.e_shoff h.e_shnum
    then first_check (section_header s h.e_shoff)
    then loads_check s h.e_phnum h.e_phoff
    then sections_check s (ranges_of h) h.e_shnum h.e_shoff

abbrev pub tables_of : Elf64Ehdr → Tables
tables_of h = record { program_headers = record { offset = h.e_phoff; count = h.e_phnum }; section_headers = record { offset = h.e_shoff; count = h.e_shnum } }

abbrev pub layout_of : Elf64Ehdr → ℕ → Named → Linked → Layout
layout_of h names n d =
    record {
      program_headers = (tables_of h).program_headers;
      section_headers = (tables_of h).section_headers;
      shstrtab = Some names;
      symtab = n.symtab;
      strtab = n.strtab;
      dynstr = n.dynstr;
      dynamic_relocations = d.relocations;
      dynamic_relas = d.relas;
      dynamic_symbols = d.symbols;
      hash_table = d.hash_table;
    }

-- the dynamic part, with the name table's header at `names` and the named sections found
abbrev pub linked_layout : List ℕ → Elf64Ehdr → ℕ → Named → Result Layout ElfParserError
linked_layout s h names n = and_then (dynamic_of s (tables_of h)) (λ d. Ok (layout_of h names n d))

-- the section name table, the names, the dynamic part
unfoldable pub named_layout : List ℕ → Elf64Ehdr → Result Layout ElfParserError
named_layout s h =
    let names : ℕ = h.e_shoff + h.e_shstrndx * 64 in
    Err NoSectionNameStringTable if eqb h.e_shstrndx 0 else
    and_then (names_of s (section_header s names) h.e_shnum h.e_shoff) (linked_layout s h names)

unfoldable pub parsed : List ℕ → Result Layout ElfParserError
parsed s = and_then (file_check s) (λ x. named_layout s (file_header s))

-- ---- laws

-- what the checks of a file's headers leave: the tables lie in the file, and the name table is one of the sections
pub record Room (len : ℕ) (h : Elf64Ehdr) : Type 0 where
  pub ph : h.e_phoff + h.e_phnum * 56 ≤ len
  pub sh : h.e_shoff + h.e_shnum * 64 ≤ len
  pub names : h.e_shstrndx < h.e_shnum

pub room : (s : List ℕ) → file_check s ≡ Ok tt → Room (length s) (file_header s)
unfolding file_check file_header
room s e =
    let t = tables_within _ _ _ _ _ (pass_first _ _ (pass_rest _ _ e)) in
    record { ph = t.0; sh = t.1; names = header_sections s (pass_first _ _ e) }

pub first_refused : (s : List ℕ) (shoff : ℕ) → (le 4 s (shoff + 4) ≡ 0 → ⊥) → first_check (section_header s shoff) ≡ Err InvalidSectionHeader
unfolding first_check section_header
first_refused s shoff h = sym (yes _ _ _ (ne_not _ _ h))

pub first_passes : (s : List ℕ) (shoff : ℕ) → le 4 s (shoff + 4) ≡ 0 → first_check (section_header s shoff) ≡ Ok tt
unfolding first_check section_header
first_passes s shoff h = sym (no_go _ _ _ _ (eq_not _ _ h) refl)

pub some_section : (s : List ℕ) → header_check s ≡ Ok tt → 0 < (file_header s).e_shnum
unfolding file_header
some_section s e = omega (arith, header_sections s e)
