-- Examples on names, tables and sections beside the scope's marked ones, which stand in one table (`worked` in the loader's specs): each holds by computation.
use Rattle.std.specs.Prelude.{ℕ, ◌+◌, ◌-◌, ◌^◌, List, [], ◌∷◌, ◌++◌, ◌≡◌, refl, replicate, set, Option, Some, None, Result, Ok, Err}
use Rattle.ebpf.specs.Choice.{◌if◌else◌}
use Rattle.ebpf.specs.LittleEndian.{le, bytes_of}
use Rattle.elf_parser.specs.declared.error.ElfParserError.TheVariants.{InvalidFileHeader, StringTooLong, StringUnterminated, OutOfBounds, Overlap, SectionNotInOrder, NoSectionNameStringTable, InvalidDynamicSectionTable, InvalidAlignment, InvalidSize, NoSuchIndex, NotASection}
use Rattle.elf_parser.specs.declared.types.Elf64Ehdr.{Elf64Ehdr}
use Rattle.elf_parser.specs.declared.types.Elf64Shdr.{Elf64Shdr}
use Rattle.elf_parser.specs.declared.layout.Layout.{Layout}
use Rattle.elf_parser.specs.declared.parts.Place.{Place}
use Rattle.elf_parser.specs.declared.section_headers.Ranges.{Ranges}
use Rattle.elf_parser.specs.declared.records.Entries.{Entries}
use Rattle.elf_parser.specs.declared.dynamic.Linked.{Linked}
use Rattle.elf_parser.specs.declared.error.ElfParserError.{ElfParserError}
use Rattle.elf_parser.specs.FileHeader.{header_check, header_right, header_fixed, tables_check}
use Rattle.elf_parser.specs.SectionHeaders.{section_check}
use Rattle.elf_parser.specs.Strings.{string_in, string_check, terminated, no_zero, before_zero}
use Rattle.elf_parser.specs.Records.{sliced, no_entries, symbol_table_in, entry_of, entry_at, file_range, file_range_of, contents_place, section_place_of}
use Rattle.elf_parser.specs.Parts.{bytes_at, stands, part_of}
use Rattle.elf_parser.specs.Types.{program_header, section_header, rela, dynamic}
use Rattle.elf_parser.specs.ProgramHeaders.{contains_step, header_for_vaddr}
use Rattle.elf_parser.specs.Dynamic.{with_tag, values_from, dynamic_values, first_with, relocations_at, relocations_by, relocations_of, symbols_by, symbols_of, linked_by, file_offset}
use Rattle.elf_parser.specs.Parse.{named_layout, parsed, file_check}

-- a file without a zero byte, and a table of n bytes at 4
abbrev long_names : List ℕ
long_names = replicate 200 97

abbrev names_of : ℕ → Elf64Shdr
names_of n = record { sh_name = 0; sh_type = 3; sh_flags = 0; sh_addr = 0; sh_offset = 4; sh_size = n }

-- so many bytes from a place on
abbrev part : ℕ → ℕ → Place
part start n = record { start = start; length = n }

-- no zero byte from the fourth of a table on: it ends one byte before the 16th byte of the name, at it, and one behind; the same for 64
cut_off :
    string_in long_names (names_of 18) 3 16 ∷ string_in long_names (names_of 19) 3 16 ∷ string_in long_names (names_of 20) 3 16
    ∷ string_in long_names (names_of 66) 3 64 ∷ string_in long_names (names_of 67) 3 64 ∷ string_in long_names (names_of 68) 3 64 ∷ []
    ≡ Err (StringUnterminated (part 7 15)) ∷ Err (StringTooLong (part 7 16)) ∷ Err (StringTooLong (part 7 16))
    ∷ Err (StringUnterminated (part 7 63)) ∷ Err (StringTooLong (part 7 64)) ∷ Err (StringTooLong (part 7 64)) ∷ []
unfolding string_in string_check terminated no_zero before_zero ◌if◌else◌
cut_off = refl

-- a name that starts where the table ends is cut off with no bytes, and one further it is outside, for either limit
name_at_end : string_in (replicate 120 0) (names_of 40) 40 16 ∷ string_in (replicate 120 0) (names_of 40) 41 16 ∷ string_in (replicate 120 0) (names_of 40) 40 64 ∷ string_in (replicate 120 0) (names_of 40) 41 64 ∷ []
    ≡ Err (StringUnterminated (part 44 0)) ∷ Err OutOfBounds ∷ Err (StringUnterminated (part 44 0)) ∷ Err OutOfBounds ∷ []
unfolding string_in string_check terminated no_zero before_zero ◌if◌else◌
name_at_end = refl

-- an empty section at the end of the file header does not overlap it, one inside the section headers does
tables : Ranges
tables = record { program_headers = record { start = 64; end = 64 }; section_headers = record { start = 512; end = 704 } }

empty_at_64 : section_check 1000 0 tables 64 0 ≡ Ok tt
unfolding section_check ◌if◌else◌ tables
empty_at_64 = refl

empty_in_headers : section_check 1000 0 tables 513 0 ≡ Err Overlap
unfolding section_check ◌if◌else◌ tables
empty_in_headers = refl

behind_its_place : section_check 1000 100 tables 99 1 ≡ Err SectionNotInOrder
unfolding section_check ◌if◌else◌ tables
behind_its_place = refl

-- a file shorter than its header, and 64 zero bytes
too_short : parsed (replicate 63 0) ≡ Err OutOfBounds
unfolding parsed file_check header_check ◌if◌else◌
too_short = refl

zeros : header_check (replicate 64 0) ≡ Err InvalidFileHeader
unfolding header_check header_right header_fixed ◌if◌else◌ le
zeros = refl

-- header tables: inside the file header, outside the file, unaligned
table_in_header : tables_check 1000 32 1 512 3 ≡ Err Overlap
unfolding tables_check ◌if◌else◌
table_in_header = refl

table_outside : tables_check 700 64 0 512 3 ≡ Err OutOfBounds
unfolding tables_check ◌if◌else◌
table_outside = refl

table_unaligned : tables_check 1000 64 0 513 3 ≡ Err InvalidAlignment
unfolding tables_check ◌if◌else◌
table_unaligned = refl

-- e_shstrndx 0 of 3
header : Elf64Ehdr
header =
    record {
      ei_osabi = 0;
      e_type = 3;
      e_machine = 263;
      e_entry = 0;
      e_phoff = 64;
      e_shoff = 512;
      e_flags = 0;
      e_phnum = 0;
      e_shnum = 3;
      e_shstrndx = 0;
    }

no_name_table : named_layout [] header ≡ Err NoSectionNameStringTable
unfolding named_layout ◌if◌else◌ header
no_name_table = refl

-- symbols: a size that is no multiple of 24 comes before a place outside
odd_size : sliced 100 96 25 24 ≡ Err InvalidSize
unfolding sliced ◌if◌else◌
odd_size = refl

outside : sliced 100 96 24 24 ≡ Err OutOfBounds
unfolding sliced ◌if◌else◌
outside = refl

-- the last of equal tags wins, a tag of 35 is skipped, DT_NULL ends the table
dynamic_values_lem : dynamic_values (6 ∷ replicate 7 0 ++ (1 ∷ replicate 7 0) ++ (35 ∷ replicate 7 0) ++ (9 ∷ replicate 7 0) ++ (6 ∷ replicate 7 0) ++ (2 ∷ replicate 7 0) ++ replicate 16 0 ++ (6 ∷ replicate 7 0) ++ (3 ∷ replicate 7 0)) 5 0 ≡ replicate 6 0 ++ (2 ∷ replicate 28 0)
unfolding values_from with_tag dynamic ◌if◌else◌ le
dynamic_values_lem = refl

-- three section headers from byte 0 on: of type 0 with odd numbers, twice, and of type 1
abbrev shdr : ℕ → ℕ → ℕ → List ℕ
shdr type offset size = replicate 4 0 ++ (type ∷ replicate 19 0) ++ (offset ∷ replicate 7 0) ++ (size ∷ replicate 31 0)

three_headers : List ℕ
three_headers = shdr 0 4 10 ++ shdr 0 200 200 ++ shdr 1 4 10

three_layout : Layout
three_layout = record {
  program_headers = no_entries;
  section_headers = record { offset = 0; count = 3 };
  shstrtab = None;
  symtab = None;
  strtab = None;
  dynstr = None;
  dynamic_relocations = no_entries;
  dynamic_relas = no_entries;
  dynamic_symbols = no_entries;
  hash_table = None;
}

-- contents by index: a header of type 0 has none, whatever its numbers are and at whichever index; past the table it is 45
blank_headers : section_place_of three_headers three_layout 0 ∷ section_place_of three_headers three_layout 1 ∷ section_place_of three_headers three_layout 2 ∷ section_place_of three_headers three_layout 3 ∷ []
    ≡ Err NotASection ∷ Err NotASection ∷ stands 4 10 ∷ Err NoSuchIndex ∷ []
unfolding three_headers three_layout contents_place file_range entry_at section_header le ◌if◌else◌
blank_headers = refl

-- the part is empty; the range in the file, which a load reads, is that of its numbers
blank_part : part_of three_headers (section_place_of three_headers three_layout 0) ≡ []
unfolding three_headers three_layout contents_place entry_at section_header le bytes_at ◌if◌else◌
blank_part = refl

blank_range : file_range_of three_headers three_layout 0 ≡ stands 4 10
unfolding three_headers three_layout file_range entry_at section_header le ◌if◌else◌
blank_range = refl

-- ---- the relocations that bring an addend: two of them at 64, where a section header with the address 0x1000 stands at 0, and a program header behind them whose
-- end passes 64 bits

abbrev two_relas : ℕ → List ℕ
two_relas offset =
    (replicate 4 0 ++ bytes_of 4 11 ++ replicate 8 0 ++ bytes_of 8 0x1000 ++ bytes_of 8 offset ++ bytes_of 8 48 ++ replicate 24 0)
    ++ (bytes_of 8 8 ++ bytes_of 8 10 ++ bytes_of 8 (2 ^ 64 - 1))
    ++ (bytes_of 8 16 ++ bytes_of 8 1 ++ bytes_of 8 7)
    ++ (replicate 16 0 ++ bytes_of 8 (2 ^ 64 - 1) ++ replicate 16 0 ++ bytes_of 8 1 ++ replicate 8 0)

-- by the address, the size and the size of an entry, the section's contents at `offset`, with `n` program headers
abbrev relas_by : ℕ → ℕ → ℕ → ℕ → ℕ → Result Entries ElfParserError
relas_by offset n vaddr size entry-size = relocations_of (two_relas offset) (record { program_headers = record { offset = 112; count = n }; section_headers = record { offset = 0; count = 1 } }) 24 vaddr size entry-size

-- the address 0 is none, whatever the others are; an entry size other than 24, in 64 bits, a size of 0, an address nowhere, a size that is no multiple of 24, a
-- place outside the file, and one that is no multiple of 8 are 10; an end past 64 bits, of the table or of a program header on the way, is 5
relas_located :
    relas_by 64 0 0 1 1
    ∷ relas_by 64 0 0x1000 48 24
    ∷ relas_by 64 0 0x1000 48 16
    ∷ relas_by 64 0 0x1000 48 (24 + 2 ^ 32)
    ∷ relas_by 64 0 0x1000 0 24
    ∷ relas_by 64 0 0x2000 48 24
    ∷ relas_by 64 0 0x1000 40 24
    ∷ relas_by 64 0 0x1000 120 24
    ∷ relas_by 68 0 0x1000 48 24
    ∷ relas_by 64 0 0x1000 (2 ^ 64 - 64) 24
    ∷ relas_by 64 1 0x1000 48 24
    ∷ []
    ≡ Ok no_entries
    ∷ Ok (record { offset = 64; count = 2 })
    ∷ Err InvalidDynamicSectionTable
    ∷ Err InvalidDynamicSectionTable
    ∷ Err InvalidDynamicSectionTable
    ∷ Err InvalidDynamicSectionTable
    ∷ Err InvalidDynamicSectionTable
    ∷ Err InvalidDynamicSectionTable
    ∷ Err InvalidDynamicSectionTable
    ∷ Err OutOfBounds
    ∷ Err OutOfBounds
    ∷ []
unfolding relocations_of relocations_by relocations_at first_with header_for_vaddr contains_step sliced program_header section_header le bytes_of ◌if◌else◌
relas_located = refl

-- by the address, size and entry size of tag 17, then of tag 7, and the addresses of tags 6 and 4
abbrev links_by : ℕ → ℕ → ℕ → ℕ → ℕ → ℕ → ℕ → ℕ → Result Linked ElfParserError
links_by rel relsz relent rela relasz relaent symtab hash =
    linked_by (two_relas 64) (record { program_headers = record { offset = 0; count = 0 }; section_headers = record { offset = 0; count = 1 } })
    (set (set (set (set (set (set (set (set (replicate 35 0) 17 rel) 18 relsz) 19 relent) 7 rela) 8 relasz) 9 relaent) 6 symtab) 4 hash)

-- the older table is refused before the newer one, and that before the symbols; all three may be one place. The address under tag 4 is kept, wherever it leads
relas_between :
    links_by 0x1000 (2 ^ 64 - 64) 16 0x2000 48 24 0 0
    ∷ links_by 0x2000 48 16 0x1000 (2 ^ 64 - 64) 24 0 0
    ∷ links_by 0x1000 48 16 0x1000 (2 ^ 64 - 64) 24 0x2000 0
    ∷ links_by 0 0 0 0x1000 48 24 0x2000 0
    ∷ links_by 0x1000 48 16 0x1000 48 24 0x1000 0x3000
    ∷ []
    ≡ Err OutOfBounds
    ∷ Err InvalidDynamicSectionTable
    ∷ Err OutOfBounds
    ∷ Err InvalidDynamicSectionTable
    ∷ Ok (record { relocations = record { offset = 64; count = 3 }; relas = record { offset = 64; count = 2 }; symbols = record { offset = 64; count = 2 }; hash_table = Some 0x3000 })
    ∷ []
unfolding relocations_of relocations_by relocations_at symbols_of symbols_by symbol_table_in first_with header_for_vaddr sliced section_header le bytes_of ◌if◌else◌
relas_between = refl

-- one by its number: -1 is 2^64 - 1; past the table it is 45, past the file's end 5
rela_by_number :
    entry_of 24 rela (two_relas 64) (record { offset = 64; count = 2 }) 0
    ∷ entry_of 24 rela (two_relas 64) (record { offset = 64; count = 2 }) 1
    ∷ entry_of 24 rela (two_relas 64) (record { offset = 64; count = 2 }) 2
    ∷ entry_of 24 rela (two_relas 64) (record { offset = 152; count = 2 }) 0
    ∷ []
    ≡ Ok (record { r_offset = 8; r_info = 10; r_addend = 2 ^ 64 - 1 })
    ∷ Ok (record { r_offset = 16; r_info = 1; r_addend = 7 })
    ∷ Err NoSuchIndex
    ∷ Err OutOfBounds
    ∷ []
unfolding entry_at rela le bytes_of ◌if◌else◌
rela_by_number = refl

-- ---- an address in a file of 184 bytes: a program header of 16 bytes from 0x1000 on, which stand at 8, and two section headers, at 0x1008 and at 0x2000

abbrev mapped_file : List ℕ
mapped_file =
    (replicate 8 0 ++ bytes_of 8 8 ++ bytes_of 8 0x1000 ++ replicate 16 0 ++ bytes_of 8 16 ++ replicate 8 0)
    ++ (replicate 16 0 ++ bytes_of 8 0x1008 ++ bytes_of 8 99 ++ replicate 32 0)
    ++ (replicate 16 0 ++ bytes_of 8 0x2000 ++ bytes_of 8 24 ++ replicate 32 0)

abbrev offset_by : ℕ → ℕ → ℕ → Result (Option ℕ) ElfParserError
offset_by segments sections vaddr =
    file_offset mapped_file
    (record {
      program_headers = record { offset = 0; count = segments };
      section_headers = record { offset = 56; count = sections };
      shstrtab = None;
      symtab = None;
      strtab = None;
      dynstr = None;
      dynamic_relocations = no_entries;
      dynamic_relas = no_entries;
      dynamic_symbols = no_entries;
      hash_table = None;
    })
    vaddr

-- the last byte of the program header, one further, a section's, one that both have; without the program header; header tables that end past the file
addresses :
    offset_by 1 2 0x100f ∷ offset_by 1 2 0x1010 ∷ offset_by 1 2 0x2000 ∷ offset_by 1 2 0x1008 ∷ offset_by 0 2 0x1008 ∷ offset_by 4 2 0x2000 ∷ offset_by 1 3 0x2000 ∷ []
    ≡ Ok (Some 23) ∷ Ok None ∷ Ok (Some 24) ∷ Ok (Some 16) ∷ Ok (Some 99) ∷ Err OutOfBounds ∷ Err OutOfBounds ∷ []
unfolding file_offset first_with header_for_vaddr contains_step program_header section_header le bytes_of ◌if◌else◌
addresses = refl
