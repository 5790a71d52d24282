-- The lists that the scope has of two files, and that of a file that is too long, by computation: from the bytes of the file to those of the lines.
use Rattle.std.specs.Prelude.{ℕ, ◌≡◌, refl, List, [], ◌∷◌, ◌++◌, replicate}
use Rattle.ebpf.specs.Choice.{◌if◌else◌}
use Rattle.ebpf.specs.IndexKeys.{index_key, key_in}
use Rattle.ebpf.specs.Instructions.{slot_at, insn_at}
use Rattle.ebpf.specs.LittleEndian.{le, bytes_of}
use Rattle.ebpf.specs.Murmur3.{body, murmur3}
use Rattle.elf_parser.specs.Dynamic.{first_with, segment_slice, section_slice, or_else, with_tag, values_from, relocations_at, relocations_by, relocations_of, symbols_by, symbols_of}
use Rattle.elf_parser.specs.FileHeader.{header_fixed, header_right, header_check as reader-headerCheck, tables_check}
use Rattle.elf_parser.specs.Loops.{over}
use Rattle.elf_parser.specs.Names.{name_by}
use Rattle.elf_parser.specs.Parse.{first_check, file_check, named_layout, parsed}
use Rattle.elf_parser.specs.Parts.{bytes_at}
use Rattle.elf_parser.specs.ProgramHeaders.{load_step, contains_step, header_for_vaddr}
use Rattle.elf_parser.specs.Records.{entry_at, sliced, symbol_table_in, symbol_table_of, symbols_at, file_range}
use Rattle.elf_parser.specs.SectionHeaders.{section_check, section_step}
use Rattle.elf_parser.specs.SectionNames.{same_bytes, role_of}
use Rattle.elf_parser.specs.Strings.{string_check, before_zero, terminated, string_in}
use Rattle.elf_parser.specs.Types.{file_header, program_header, section_header, sym, rel, dynamic}
use Rattle.program.specs.HashedLegacy.{legacy_key, kept_symbol, is_taken, legacy_row}
use Rattle.program.specs.Rows.{rank, register, registered, unregister}
use Rattle.program.specs.Search.{narrowed, binary_search, is_among}
use Rattle.loader.specs.Addresses.{machine_addr}
use Rattle.loader.specs.Bytes.{put}
use Rattle.loader.specs.Calls.{inside, target, is_local_call, call_of, call_at, call_deed, slot_trace}
use Rattle.loader.specs.Deeds.{deed_trace}
use Rattle.loader.specs.Entry.{entry_deed}
use Rattle.loader.specs.Functions.{row_for}
use Rattle.loader.specs.Labels.{label_of, label_deed, label_symbols, label_trace}
use Rattle.loader.specs.Load.{load_of}
use Rattle.loader.specs.Parts.{job_trace}
use Rattle.loader.specs.ReadOnly.{read_only, gives as loader-gives, invalid_by, end_of, grown, taken, gather_step, from_start, can_borrow, borrowed, owned, placed as loader-placed, placing, copied_to, copy_step, copied_from}
use Rattle.loader.specs.Relocations.{relocation_at, header_at, first_from, used_header, used_before, place_of, within, program_address, immediate_at, halves_deed, word_deed, address_deed, plan6464, relative_text, relative_value, plan_relative, function_call, builtin_call, call_by_name, plan6432, plan_at, relocation_trace}
use Rattle.loader.specs.Sections.{section_at, starts_with, unsupported, outside_file, survey_step, survey_from}
use Rattle.loader.specs.Trace.{and_then, each, settle}
use Rattle.loader.specs.Validate.{size_check, ascends, header_check as loader-headerCheck, sections_check, text_check, job_of, validated, prepared}
use Rattle.listing.specs.Decimal.{decimal, digits_in}
use Rattle.listing.specs.Lines.{spaced, word_line, row_line, row_lines, too_long, lines_of}

-- no bytes: refused 33 0 0 0
empty_file : lines_of [] ≡ 114 ∷ 101 ∷ 102 ∷ 117 ∷ 115 ∷ 101 ∷ 100 ∷ 32 ∷ 51 ∷ 51 ∷ 32 ∷ 48 ∷ 32 ∷ 48 ∷ 32 ∷ 48 ∷ 10 ∷ []
unfolding lines_of word_line spaced decimal digits_in ◌if◌else◌ load_of prepared size_check ascends parsed file_check reader-headerCheck
empty_file = refl

-- one byte more than is read
long_file : lines_of (replicate 16385 0) ≡ too_long
unfolding lines_of ◌if◌else◌
long_file = refl

-- a section header: name, type, flags, address, offset, size, alignment
abbrev section : ℕ → ℕ → ℕ → ℕ → ℕ → ℕ → ℕ → List ℕ
section name kind flags addr offset size align =
    bytes_of 4 name
    ++ bytes_of 4 kind
    ++ bytes_of 8 flags
    ++ bytes_of 8 addr
    ++ bytes_of 8 offset
    ++ bytes_of 8 size
    ++ replicate 8 0
    ++ bytes_of 8 align
    ++ replicate 8 0

-- the input of `crates/loadlist`, of version 2: the file header; two zero slots; the names .text and .shstrtab; the section headers of none, .text at
-- 0x100000000, where the entry is, and .shstrtab
file : List ℕ
file =
    (127 ∷ 69 ∷ 76 ∷ 70 ∷ 2 ∷ 1 ∷ 1 ∷ [])
    ++ replicate 9 0
    ++ bytes_of 2 3
    ++ bytes_of 2 247
    ++ bytes_of 4 1
    ++ bytes_of 8 0x1_0000_0000
    ++ bytes_of 8 0
    ++ bytes_of 8 104
    ++ bytes_of 4 0x20
    ++ bytes_of 2 64
    ++ bytes_of 2 56
    ++ bytes_of 2 0
    ++ bytes_of 2 64
    ++ bytes_of 2 3
    ++ bytes_of 2 2
    ++ replicate 16 0
    ++ (0 ∷ 46 ∷ 116 ∷ 101 ∷ 120 ∷ 116 ∷ 0 ∷ 46 ∷ 115 ∷ 104 ∷ 115 ∷ 116 ∷ 114 ∷ 116 ∷ 97 ∷ 98 ∷ 0 ∷ [])
    ++ replicate 7 0
    ++ section 0 0 0 0 0 0 0
    ++ section 1 1 6 0x1_0000_0000 64 16 8
    ++ section 7 3 0 0 80 17 1

-- accepted 2 0 1 0, and 0 0 2
two_slots : lines_of file ≡ 97 ∷ 99 ∷ 99 ∷ 101 ∷ 112 ∷ 116 ∷ 101 ∷ 100 ∷ 32 ∷ 50 ∷ 32 ∷ 48 ∷ 32 ∷ 49 ∷ 32 ∷ 48 ∷ 10 ∷ 48 ∷ 32 ∷ 48 ∷ 32 ∷ 50 ∷ 10 ∷ []
unfolding file lines_of word_line row_line row_lines spaced decimal digits_in ◌if◌else◌ index_key key_in slot_at insn_at le bytes_of body murmur3 first_with segment_slice section_slice or_else with_tag values_from relocations_at relocations_by relocations_of symbols_by symbols_of header_fixed header_right reader-headerCheck tables_check over name_by first_check file_check named_layout parsed bytes_at load_step contains_step entry_at sliced symbol_table_in symbol_table_of file_range section_check section_step same_bytes role_of string_check before_zero terminated string_in file_header program_header section_header sym rel legacy_key kept_symbol is_taken legacy_row rank register registered unregister narrowed binary_search is_among machine_addr put inside target is_local_call call_of call_at call_deed slot_trace deed_trace entry_deed row_for label_of label_deed label_symbols label_trace load_of job_trace read_only loader-gives invalid_by end_of grown taken gather_step from_start can_borrow borrowed owned loader-placed placing copied_to copy_step copied_from relocation_at header_at first_from used_header used_before place_of within program_address immediate_at halves_deed word_deed address_deed plan6464 relative_text relative_value plan_relative function_call builtin_call call_by_name plan6432 plan_at relocation_trace section_at starts_with unsupported outside_file survey_step survey_from and_then each settle size_check ascends loader-headerCheck sections_check text_check job_of validated prepared dynamic header_for_vaddr symbols_at
two_slots = refl
