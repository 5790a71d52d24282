-- Names by string offset.
use Rattle.std.specs.Prelude.{ℕ, ◌+◌, ◌<◌, ◌≡◌, List, length, ltb, Option, Some, None, Result, Ok, Err}
use Rattle.ebpf.specs.Choice.{◌if◌else◌, row_rest}
use Rattle.elf_parser.specs.declared.error.ElfParserError.{ElfParserError}
use Rattle.elf_parser.specs.declared.error.ElfParserError.TheVariants.{OutOfBounds, NoSectionNameStringTable, NoStringTable, NoDynamicStringTable}
use Rattle.elf_parser.specs.declared.parts.Place.{Place}
use Rattle.elf_parser.specs.declared.layout.Layout.{Layout}
use Rattle.elf_parser.specs.Types.{section_header}
use Rattle.elf_parser.specs.Errors.{apart}
use Rattle.elf_parser.specs.Strings.{string_in, string_within}

-- the name at `offset` of the string table whose header stands at `at`; `missing` where there is no such header. In a layout
-- that no parse made the header may lie outside the file
unfoldable pub name_by : List ℕ → Option ℕ → ℕ → ℕ → ElfParserError → Result Place ElfParserError
name_by s None offset most missing = Err missing
name_by s (Some at) offset most missing =
    Err OutOfBounds if ltb (length s) (at + 64) else
    string_in s (section_header s at) offset most

abbrev pub section_name : List ℕ → Layout → ℕ → Result Place ElfParserError
section_name s l sh-name = name_by s l.shstrtab sh-name 16 NoSectionNameStringTable

abbrev pub symbol_name : List ℕ → Layout → ℕ → Result Place ElfParserError
symbol_name s l st-name = name_by s l.strtab st-name 64 NoStringTable

abbrev pub dynamic_symbol_name : List ℕ → Layout → ℕ → Result Place ElfParserError
dynamic_symbol_name s l st-name = name_by s l.dynstr st-name 64 NoDynamicStringTable

-- ---- laws

-- a name that was found lies in the file with its zero byte, and is shorter than the limit
pub name_within : (s : List ℕ) (at : Option ℕ) (offset most : ℕ) (missing : ElfParserError) (p : Place)
    → name_by s at offset most missing ≡ Ok p
    → (p.start + p.length < length s) × (p.length < most)
unfolding name_by
name_within s None offset most missing p e = absurd (apart _ _ e)
name_within s (Some at) offset most missing p e = string_within s (section_header s at) offset most p (row_rest _ _ _ _ (apart _ _) e)
