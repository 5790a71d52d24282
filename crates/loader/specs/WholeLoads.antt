-- Whole loads in the scope's numbers, each by computation: what its checks ahead of a load, its worked examples that are not marked, and its
-- refusals come to on a small file. A byte changed in a good file shows each check on both sides.
use Rattle.ebpf.specs.Choice.{◌if◌else◌}
use Rattle.ebpf.specs.IndexKeys.{index_key, key_in}
use Rattle.ebpf.specs.Instructions.{slot_at, insn_at}
use Rattle.ebpf.specs.LittleEndian.{le, bytes_of}
use Rattle.ebpf.specs.Murmur3.{body, murmur3}
use Rattle.elf_parser.specs.Dynamic.{first_with, segment_slice, section_slice, or_else, with_tag, values_from, relocations_at, relocations_by, relocations_of, symbols_by, symbols_of}
use Rattle.elf_parser.specs.FileHeader.{header_fixed, header_right, header_check as reader-headerCheck, tables_check}
use Rattle.elf_parser.specs.Loops.{over}
use Rattle.elf_parser.specs.Names.{name_by}
use Rattle.elf_parser.specs.Parse.{first_check, file_check, named_layout, parsed}
use Rattle.elf_parser.specs.Parts.{bytes_at}
use Rattle.elf_parser.specs.ProgramHeaders.{load_step, contains_step, header_for_vaddr}
use Rattle.elf_parser.specs.Records.{entry_at, sliced, symbol_table_in, symbol_table_of, symbols_at, file_range}
use Rattle.elf_parser.specs.SectionHeaders.{section_check, section_step}
use Rattle.elf_parser.specs.SectionNames.{same_bytes, role_of}
use Rattle.elf_parser.specs.Strings.{string_check, before_zero, terminated, string_in}
use Rattle.elf_parser.specs.Types.{file_header, program_header, section_header, sym, rel, dynamic}
use Rattle.program.specs.HashedLegacy.{legacy_key, kept_symbol, is_taken, legacy_row}
use Rattle.program.specs.Rows.{rank, register, registered, unregister}
use Rattle.program.specs.Search.{narrowed, binary_search, is_among}
use Rattle.loader.specs.Addresses.{machine_addr}
use Rattle.loader.specs.Bytes.{put}
use Rattle.loader.specs.Calls.{inside, target, is_local_call, call_of, call_at, call_deed, slot_trace}
use Rattle.loader.specs.Deeds.{deed_trace}
use Rattle.loader.specs.Entry.{entry_deed}
use Rattle.loader.specs.Functions.{row_for}
use Rattle.loader.specs.Labels.{label_of, label_deed, label_symbols, label_trace}
use Rattle.loader.specs.Load.{load_of}
use Rattle.loader.specs.Parts.{job_trace}
use Rattle.loader.specs.ReadOnly.{read_only, gives as loader-gives, invalid_by, end_of, grown, taken, gather_step, from_start, can_borrow, borrowed, owned, placed as loader-placed, placing, copied_to, copy_step, copied_from}
use Rattle.loader.specs.Relocations.{relocation_at, header_at, first_from, used_header, used_before, place_of, within, program_address, immediate_at, halves_deed, word_deed, address_deed, plan6464, relative_text, relative_value, plan_relative, function_call, builtin_call, call_by_name, plan6432, plan_at, relocation_trace}
use Rattle.loader.specs.Sections.{section_at, starts_with, unsupported, outside_file, survey_step, survey_from}
use Rattle.loader.specs.Trace.{and_then, each, settle}
use Rattle.loader.specs.Validate.{size_check, ascends, header_check as loader-headerCheck, sections_check, text_check, job_of, validated, prepared}
use Rattle.std.specs.Prelude.{ℕ, ◌+◌, ◌*◌, true, false, List, [], ◌∷◌, ◌++◌, ◌≡◌, refl, length, Ok, Err}
use Rattle.elf_parser.specs.declared.error.Report.{Report}
use Rattle.loader.specs.declared.validate.Config.{Config}
use Rattle.loader.specs.declared.error.ElfError.TheVariants.{FileTooLong, BufferShort}
use Rattle.loader.specs.Errors.{report_of}
use Rattle.loader.specs.Load.{Loading, holds, refuses}
use Rattle.loader.specs.SmallFiles.{settings, all_on, unchecked, one_call, version_1, version_2, with_rodata, two_labels}

-- accepted: 0, version, entry, rows and moves; refused: number, value, and the name's start and length
abbrev numbered : Report → List ℕ
numbered r = r.number ∷ r.value ∷ r.start ∷ r.length ∷ []

abbrev numbers : Loading → List ℕ
numbers (holds a im ro rows) = 0 ∷ a.version ∷ a.entry ∷ a.used ∷ a.moves ∷ []
numbers (refuses e) = numbered (report_of e)

-- a load into buffers as long as the file and so many rows
abbrev loaded : Config → ℕ → List ℕ → List ℕ
loaded c rows file = numbers (load_of file [] c (length file) (length file) rows)

abbrev load : List ℕ → List ℕ
load file = loaded all_on 4 file

-- the two good files: the entry's row comes last and moves that of the call's target
good : load version_2 ∷ load version_1 ∷ [] ≡ (0 ∷ 2 ∷ 0 ∷ 2 ∷ 1 ∷ []) ∷ (0 ∷ 1 ∷ 0 ∷ 2 ∷ 1 ∷ []) ∷ []
unfolding ◌if◌else◌ index_key key_in slot_at insn_at le bytes_of body murmur3 first_with segment_slice section_slice or_else with_tag values_from relocations_at relocations_by relocations_of symbols_by symbols_of header_fixed header_right reader-headerCheck tables_check over name_by first_check file_check named_layout parsed bytes_at load_step contains_step entry_at sliced symbol_table_in symbol_table_of file_range section_check section_step same_bytes role_of string_check before_zero terminated string_in file_header program_header section_header sym rel legacy_key kept_symbol is_taken legacy_row rank register registered unregister narrowed binary_search is_among machine_addr put inside target is_local_call call_of call_at call_deed slot_trace deed_trace entry_deed row_for label_of label_deed label_symbols label_trace load_of job_trace read_only loader-gives invalid_by end_of grown taken gather_step from_start can_borrow borrowed owned loader-placed placing copied_to copy_step copied_from relocation_at header_at first_from used_header used_before place_of within program_address immediate_at halves_deed word_deed address_deed plan6464 relative_text relative_value plan_relative function_call builtin_call call_by_name plan6432 plan_at relocation_trace section_at starts_with unsupported outside_file survey_step survey_from and_then each settle size_check ascends loader-headerCheck sections_check text_check job_of validated prepared dynamic header_for_vaddr symbols_at
good = refl

-- ABI; machines 247 and 248; type; each version switched off, and version 2 without optimize
header :
    load (put 1 version_2 7 1)
    ∷ load (put 2 version_2 18 247)
    ∷ load (put 2 version_2 18 248)
    ∷ load (put 2 version_2 16 2)
    ∷ loaded (settings true true true true false true) 4 version_1
    ∷ loaded (settings true true true true false true) 4 version_2
    ∷ loaded (settings true true true true true false) 4 version_2
    ∷ loaded (settings true true true true true false) 4 version_1
    ∷ loaded (settings true true true false true true) 4 version_2
    ∷ loaded (settings true true true false true true) 4 version_1
    ∷ []
    ≡ (25 ∷ 0 ∷ 0 ∷ 0 ∷ [])
    ∷ (0 ∷ 2 ∷ 0 ∷ 2 ∷ 1 ∷ [])
    ∷ (26 ∷ 0 ∷ 0 ∷ 0 ∷ [])
    ∷ (31 ∷ 0 ∷ 0 ∷ 0 ∷ [])
    ∷ (34 ∷ 0 ∷ 0 ∷ 0 ∷ [])
    ∷ (0 ∷ 2 ∷ 0 ∷ 2 ∷ 1 ∷ [])
    ∷ (34 ∷ 0 ∷ 0 ∷ 0 ∷ [])
    ∷ (0 ∷ 1 ∷ 0 ∷ 2 ∷ 1 ∷ [])
    ∷ (34 ∷ 0 ∷ 0 ∷ 0 ∷ [])
    ∷ (0 ∷ 1 ∷ 0 ∷ 2 ∷ 1 ∷ [])
    ∷ []
unfolding ◌if◌else◌ index_key key_in slot_at insn_at le bytes_of body murmur3 first_with segment_slice section_slice or_else with_tag values_from relocations_at relocations_by relocations_of symbols_by symbols_of header_fixed header_right reader-headerCheck tables_check over name_by first_check file_check named_layout parsed bytes_at load_step contains_step entry_at sliced symbol_table_in symbol_table_of file_range section_check section_step same_bytes role_of string_check before_zero terminated string_in file_header program_header section_header sym rel legacy_key kept_symbol is_taken legacy_row rank register registered unregister narrowed binary_search is_among machine_addr put inside target is_local_call call_of call_at call_deed slot_trace deed_trace entry_deed row_for label_of label_deed label_symbols label_trace load_of job_trace read_only loader-gives invalid_by end_of grown taken gather_step from_start can_borrow borrowed owned loader-placed placing copied_to copy_step copied_from relocation_at header_at first_from used_header used_before place_of within program_address immediate_at halves_deed word_deed address_deed plan6464 relative_text relative_value plan_relative function_call builtin_call call_by_name plan6432 plan_at relocation_trace section_at starts_with unsupported outside_file survey_step survey_from and_then each settle size_check ascends loader-headerCheck sections_check text_check job_of validated prepared dynamic header_for_vaddr symbols_at
header = refl

-- with so many program headers behind the sections' headers
abbrev program_headers : ℕ → List ℕ → List ℕ
program_headers n file = put 2 (put 8 file 32 304) 56 n ++ bytes_of (56 * n) 0

-- version 2 with nine program headers passes, with ten it is 2; version 1 may have ten
segments :
    load (program_headers 9 version_2)
    ∷ load (program_headers 10 version_2)
    ∷ load (program_headers 10 version_1)
    ∷ []
    ≡ (0 ∷ 2 ∷ 0 ∷ 2 ∷ 1 ∷ [])
    ∷ (2 ∷ 0 ∷ 0 ∷ 0 ∷ [])
    ∷ (0 ∷ 1 ∷ 0 ∷ 2 ∷ 1 ∷ [])
    ∷ []
unfolding ◌if◌else◌ index_key key_in slot_at insn_at le bytes_of body murmur3 first_with segment_slice section_slice or_else with_tag values_from relocations_at relocations_by relocations_of symbols_by symbols_of header_fixed header_right reader-headerCheck tables_check over name_by first_check file_check named_layout parsed bytes_at load_step contains_step entry_at sliced symbol_table_in symbol_table_of file_range section_check section_step same_bytes role_of string_check before_zero terminated string_in file_header program_header section_header sym rel legacy_key kept_symbol is_taken legacy_row rank register registered unregister narrowed binary_search is_among machine_addr put inside target is_local_call call_of call_at call_deed slot_trace deed_trace entry_deed row_for label_of label_deed label_symbols label_trace load_of job_trace read_only loader-gives invalid_by end_of grown taken gather_step from_start can_borrow borrowed owned loader-placed placing copied_to copy_step copied_from relocation_at header_at first_from used_header used_before place_of within program_address immediate_at halves_deed word_deed address_deed plan6464 relative_text relative_value plan_relative function_call builtin_call call_by_name plan6432 plan_at relocation_trace section_at starts_with unsupported outside_file survey_step survey_from and_then each settle size_check ascends loader-headerCheck sections_check text_check job_of validated prepared dynamic header_for_vaddr symbols_at
segments = refl

-- these bytes over those from `at` on
abbrev puts : List ℕ → List ℕ → ℕ → List ℕ
puts [] file at = file
puts (b ∷ bs) file at = puts bs (put 1 file at b) (at + 1)

-- section 2, which holds the names, is itself given this name, behind the others at offset 17, and so many bytes
abbrev section_named : ℕ → List ℕ → List ℕ
section_named size name = puts name (put 8 (put 4 version_2 240 17) 272 size) 105

-- no .text, and two; a section named .bss, whatever its flags; .data where it is writable and allocated, at its flags 3, 1 and 2; .data.rel; e_shstrndx 0
sections :
    load (put 1 version_2 90 120)
    ∷ load (put 4 version_2 240 1)
    ∷ load (put 8 (section_named 22 (46 ∷ 98 ∷ 115 ∷ 115 ∷ [])) 248 0)
    ∷ load (put 8 (section_named 23 (46 ∷ 100 ∷ 97 ∷ 116 ∷ 97 ∷ [])) 248 3)
    ∷ load (put 8 (section_named 23 (46 ∷ 100 ∷ 97 ∷ 116 ∷ 97 ∷ [])) 248 1)
    ∷ load (put 8 (section_named 23 (46 ∷ 100 ∷ 97 ∷ 116 ∷ 97 ∷ [])) 248 2)
    ∷ load (put 2 version_2 62 0)
    ∷ []
    ≡ (27 ∷ 0 ∷ 0 ∷ 0 ∷ [])
    ∷ (27 ∷ 0 ∷ 0 ∷ 0 ∷ [])
    ∷ (28 ∷ 0 ∷ 105 ∷ 4 ∷ [])
    ∷ (28 ∷ 0 ∷ 105 ∷ 5 ∷ [])
    ∷ (0 ∷ 2 ∷ 0 ∷ 2 ∷ 1 ∷ [])
    ∷ (0 ∷ 2 ∷ 0 ∷ 2 ∷ 1 ∷ [])
    ∷ (9 ∷ 0 ∷ 0 ∷ 0 ∷ [])
    ∷ []
unfolding ◌if◌else◌ index_key key_in slot_at insn_at le bytes_of body murmur3 first_with segment_slice section_slice or_else with_tag values_from relocations_at relocations_by relocations_of symbols_by symbols_of header_fixed header_right reader-headerCheck tables_check over name_by first_check file_check named_layout parsed bytes_at load_step contains_step entry_at sliced symbol_table_in symbol_table_of file_range section_check section_step same_bytes role_of string_check before_zero terminated string_in file_header program_header section_header sym rel legacy_key kept_symbol is_taken legacy_row rank register registered unregister narrowed binary_search is_among machine_addr put inside target is_local_call call_of call_at call_deed slot_trace deed_trace entry_deed row_for label_of label_deed label_symbols label_trace load_of job_trace read_only loader-gives invalid_by end_of grown taken gather_step from_start can_borrow borrowed owned loader-placed placing copied_to copy_step copied_from relocation_at header_at first_from used_header used_before place_of within program_address immediate_at halves_deed word_deed address_deed plan6464 relative_text relative_value plan_relative function_call builtin_call call_by_name plan6432 plan_at relocation_trace section_at starts_with unsupported outside_file survey_step survey_from and_then each settle size_check ascends loader-headerCheck sections_check text_check job_of validated prepared dynamic header_for_vaddr symbols_at
sections = refl

-- the entry at the text's last slot, at its end, one byte before the text, and four bytes behind its start: 20 and 21
entry :
    load (put 8 version_2 24 0x1_0000_0010)
    ∷ load (put 8 version_2 24 0x1_0000_0018)
    ∷ load (put 8 version_2 24 0xffff_ffff)
    ∷ load (put 8 version_2 24 0x1_0000_0004)
    ∷ []
    ≡ (0 ∷ 2 ∷ 2 ∷ 1 ∷ 0 ∷ [])
    ∷ (20 ∷ 0 ∷ 0 ∷ 0 ∷ [])
    ∷ (20 ∷ 0 ∷ 0 ∷ 0 ∷ [])
    ∷ (21 ∷ 0 ∷ 0 ∷ 0 ∷ [])
    ∷ []
unfolding ◌if◌else◌ index_key key_in slot_at insn_at le bytes_of body murmur3 first_with segment_slice section_slice or_else with_tag values_from relocations_at relocations_by relocations_of symbols_by symbols_of header_fixed header_right reader-headerCheck tables_check over name_by first_check file_check named_layout parsed bytes_at load_step contains_step entry_at sliced symbol_table_in symbol_table_of file_range section_check section_step same_bytes role_of string_check before_zero terminated string_in file_header program_header section_header sym rel legacy_key kept_symbol is_taken legacy_row rank register registered unregister narrowed binary_search is_among machine_addr put inside target is_local_call call_of call_at call_deed slot_trace deed_trace entry_deed row_for label_of label_deed label_symbols label_trace load_of job_trace read_only loader-gives invalid_by end_of grown taken gather_step from_start can_borrow borrowed owned loader-placed placing copied_to copy_step copied_from relocation_at header_at first_from used_header used_before place_of within program_address immediate_at halves_deed word_deed address_deed plan6464 relative_text relative_value plan_relative function_call builtin_call call_by_name plan6432 plan_at relocation_trace section_at starts_with unsupported outside_file survey_step survey_from and_then each settle size_check ascends loader-headerCheck sections_check text_check job_of validated prepared dynamic header_for_vaddr symbols_at
entry = refl

-- version 2's text ends at 0x200000000, and eight bytes and one byte behind it; version 1's stands at its place in the file where broken files are rejected, and at most at the program's start
place :
    load (one_call 0x20 0x1_ffff_ffe8)
    ∷ load (one_call 0x20 0x1_ffff_fff0)
    ∷ load (one_call 0x20 0x1_ffff_ffe9)
    ∷ load (one_call 0 72)
    ∷ loaded (settings true false true true true true) 4 (one_call 0 72)
    ∷ loaded (settings true false true true true true) 4 (one_call 0 0x1_0000_0001)
    ∷ []
    ≡ (0 ∷ 2 ∷ 0 ∷ 2 ∷ 1 ∷ [])
    ∷ (33 ∷ 0 ∷ 0 ∷ 0 ∷ [])
    ∷ (33 ∷ 0 ∷ 0 ∷ 0 ∷ [])
    ∷ (33 ∷ 0 ∷ 0 ∷ 0 ∷ [])
    ∷ (0 ∷ 1 ∷ 0 ∷ 2 ∷ 1 ∷ [])
    ∷ (33 ∷ 0 ∷ 0 ∷ 0 ∷ [])
    ∷ []
unfolding ◌if◌else◌ index_key key_in slot_at insn_at le bytes_of body murmur3 first_with segment_slice section_slice or_else with_tag values_from relocations_at relocations_by relocations_of symbols_by symbols_of header_fixed header_right reader-headerCheck tables_check over name_by first_check file_check named_layout parsed bytes_at load_step contains_step entry_at sliced symbol_table_in symbol_table_of file_range section_check section_step same_bytes role_of string_check before_zero terminated string_in file_header program_header section_header sym rel legacy_key kept_symbol is_taken legacy_row rank register registered unregister narrowed binary_search is_among machine_addr put inside target is_local_call call_of call_at call_deed slot_trace deed_trace entry_deed row_for label_of label_deed label_symbols label_trace load_of job_trace read_only loader-gives invalid_by end_of grown taken gather_step from_start can_borrow borrowed owned loader-placed placing copied_to copy_step copied_from relocation_at header_at first_from used_header used_before place_of within program_address immediate_at halves_deed word_deed address_deed plan6464 relative_text relative_value plan_relative function_call builtin_call call_by_name plan6432 plan_at relocation_trace section_at starts_with unsupported outside_file survey_step survey_from and_then each settle size_check ascends loader-headerCheck sections_check text_check job_of validated prepared dynamic header_for_vaddr symbols_at
place = refl

-- where the read-only bytes stand in the image, and how many they are
abbrev read_only_at : Loading → List ℕ
read_only_at (holds a im ro rows) = 0 ∷ a.ro_start ∷ a.ro_length ∷ []
read_only_at (refuses e) = numbered (report_of e)

-- a .rodata counts among the read-only sections also where its header is of type 0; contents by index refuse such a header, a load does not
rodata : read_only_at (load_of (with_rodata 1) [] all_on 368 368 4) ∷ read_only_at (load_of (with_rodata 0) [] all_on 368 368 4) ∷ [] ≡ (0 ∷ 64 ∷ 16 ∷ []) ∷ (0 ∷ 64 ∷ 16 ∷ []) ∷ []
unfolding ◌if◌else◌ index_key key_in slot_at insn_at le bytes_of body murmur3 first_with segment_slice section_slice or_else with_tag values_from relocations_at relocations_by relocations_of symbols_by symbols_of header_fixed header_right reader-headerCheck tables_check over name_by first_check file_check named_layout parsed bytes_at load_step contains_step entry_at sliced symbol_table_in symbol_table_of file_range section_check section_step same_bytes role_of string_check before_zero terminated string_in file_header program_header section_header sym rel legacy_key kept_symbol is_taken legacy_row rank register registered unregister narrowed binary_search is_among machine_addr put inside target is_local_call call_of call_at call_deed slot_trace deed_trace entry_deed row_for label_of label_deed label_symbols label_trace load_of job_trace read_only loader-gives invalid_by end_of grown taken gather_step from_start can_borrow borrowed owned loader-placed placing copied_to copy_step copied_from relocation_at header_at first_from used_header used_before place_of within program_address immediate_at halves_deed word_deed address_deed plan6464 relative_text relative_value plan_relative function_call builtin_call call_by_name plan6432 plan_at relocation_trace section_at starts_with unsupported outside_file survey_step survey_from and_then each settle size_check ascends loader-headerCheck sections_check text_check job_of validated prepared dynamic header_for_vaddr symbols_at
rodata = refl

-- the call's target: the last slot, one behind it, its own slot, and one before the first
call_target :
    load (put 4 version_2 68 1)
    ∷ load (put 4 version_2 68 2)
    ∷ load (put 4 version_2 68 0xffff_ffff)
    ∷ load (put 4 version_2 68 0xffff_fffe)
    ∷ load (put 1 version_2 65 0)
    ∷ load (put 1 version_1 65 0)
    ∷ []
    ≡ (0 ∷ 2 ∷ 0 ∷ 2 ∷ 1 ∷ [])
    ∷ (23 ∷ 0 ∷ 0 ∷ 0 ∷ [])
    ∷ (0 ∷ 2 ∷ 0 ∷ 1 ∷ 0 ∷ [])
    ∷ (23 ∷ 0 ∷ 0 ∷ 0 ∷ [])
    ∷ (0 ∷ 2 ∷ 0 ∷ 1 ∷ 0 ∷ [])
    ∷ (0 ∷ 1 ∷ 0 ∷ 2 ∷ 1 ∷ [])
    ∷ []
unfolding ◌if◌else◌ index_key key_in slot_at insn_at le bytes_of body murmur3 first_with segment_slice section_slice or_else with_tag values_from relocations_at relocations_by relocations_of symbols_by symbols_of header_fixed header_right reader-headerCheck tables_check over name_by first_check file_check named_layout parsed bytes_at load_step contains_step entry_at sliced symbol_table_in symbol_table_of file_range section_check section_step same_bytes role_of string_check before_zero terminated string_in file_header program_header section_header sym rel legacy_key kept_symbol is_taken legacy_row rank register registered unregister narrowed binary_search is_among machine_addr put inside target is_local_call call_of call_at call_deed slot_trace deed_trace entry_deed row_for label_of label_deed label_symbols label_trace load_of job_trace read_only loader-gives invalid_by end_of grown taken gather_step from_start can_borrow borrowed owned loader-placed placing copied_to copy_step copied_from relocation_at header_at first_from used_header used_before place_of within program_address immediate_at halves_deed word_deed address_deed plan6464 relative_text relative_value plan_relative function_call builtin_call call_by_name plan6432 plan_at relocation_trace section_at starts_with unsupported outside_file survey_step survey_from and_then each settle size_check ascends loader-headerCheck sections_check text_check job_of validated prepared dynamic header_for_vaddr symbols_at
call_target = refl

-- too few rows for two keys: 43 with the rows; two symbols named entrypoint: 24 with the key; with one of them a table of one row is full, and the entry still fits
room :
    loaded all_on 2 version_2
    ∷ loaded all_on 1 version_2
    ∷ loaded all_on 0 version_1
    ∷ loaded unchecked 4 two_labels
    ∷ loaded unchecked 1 (put 1 two_labels 148 0)
    ∷ []
    ≡ (0 ∷ 2 ∷ 0 ∷ 2 ∷ 1 ∷ [])
    ∷ (43 ∷ 1 ∷ 0 ∷ 0 ∷ [])
    ∷ (43 ∷ 0 ∷ 0 ∷ 0 ∷ [])
    ∷ (24 ∷ 0x71e3_cf81 ∷ 0 ∷ 0 ∷ [])
    ∷ (0 ∷ 1 ∷ 0 ∷ 1 ∷ 0 ∷ [])
    ∷ []
unfolding ◌if◌else◌ index_key key_in slot_at insn_at le bytes_of body murmur3 first_with segment_slice section_slice or_else with_tag values_from relocations_at relocations_by relocations_of symbols_by symbols_of header_fixed header_right reader-headerCheck tables_check over name_by first_check file_check named_layout parsed bytes_at load_step contains_step entry_at sliced symbol_table_in symbol_table_of file_range section_check section_step same_bytes role_of string_check before_zero terminated string_in file_header program_header section_header sym rel legacy_key kept_symbol is_taken legacy_row rank register registered unregister narrowed binary_search is_among machine_addr put inside target is_local_call call_of call_at call_deed slot_trace deed_trace entry_deed row_for label_of label_deed label_symbols label_trace load_of job_trace read_only loader-gives invalid_by end_of grown taken gather_step from_start can_borrow borrowed owned loader-placed placing copied_to copy_step copied_from relocation_at header_at first_from used_header used_before place_of within program_address immediate_at halves_deed word_deed address_deed plan6464 relative_text relative_value plan_relative function_call builtin_call call_by_name plan6432 plan_at relocation_trace section_at starts_with unsupported outside_file survey_step survey_from and_then each settle size_check ascends loader-headerCheck sections_check text_check job_of validated prepared dynamic header_for_vaddr symbols_at
room = refl

-- ---- sizes and built-ins: 16,777,216 bytes and one more, a buffer shorter than the file, keys that do not ascend

sizes : size_check 16777216 16777216 16777216 ∷ size_check 16777217 16777217 16777217 ∷ size_check 2 1 2 ∷ size_check 2 2 1 ∷ []
    ≡ Ok tt ∷ Err FileTooLong ∷ Err BufferShort ∷ Err BufferShort ∷ []
unfolding size_check ◌if◌else◌
sizes = refl

builtins : ascends [] ∷ ascends (5 ∷ []) ∷ ascends (1 ∷ 2 ∷ 3 ∷ []) ∷ ascends (1 ∷ 1 ∷ []) ∷ ascends (2 ∷ 1 ∷ 3 ∷ []) ∷ [] ≡ true ∷ true ∷ true ∷ false ∷ false ∷ []
unfolding ascends ◌if◌else◌
builtins = refl
