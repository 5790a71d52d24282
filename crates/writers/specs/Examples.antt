-- Worked examples: who wrote a byte.
-- Whole loads need many definitions unfolded; they stand first.
use Rattle.ebpf.specs.Choice.{◌if◌else◌}
use Rattle.ebpf.specs.IndexKeys.{index_key, key_in}
use Rattle.ebpf.specs.Instructions.{slot_at, insn_at}
use Rattle.ebpf.specs.LittleEndian.{le, bytes_of}
use Rattle.ebpf.specs.Murmur3.{body, murmur3}
use Rattle.elf_parser.specs.Dynamic.{first_with, segment_slice, section_slice, or_else, with_tag, values_from, relocations_at, relocations_by, relocations_of, symbols_by, symbols_of}
use Rattle.elf_parser.specs.FileHeader.{header_fixed, header_right, header_check as reader-headerCheck, tables_check}
use Rattle.elf_parser.specs.Loops.{over}
use Rattle.elf_parser.specs.Names.{name_by}
use Rattle.elf_parser.specs.Parse.{first_check, file_check, named_layout, parsed}
use Rattle.elf_parser.specs.Parts.{bytes_at}
use Rattle.elf_parser.specs.ProgramHeaders.{load_step, contains_step, header_for_vaddr}
use Rattle.elf_parser.specs.Records.{entry_at, sliced, symbol_table_in, symbol_table_of, symbols_at, file_range}
use Rattle.elf_parser.specs.SectionHeaders.{section_check, section_step}
use Rattle.elf_parser.specs.SectionNames.{same_bytes, role_of}
use Rattle.elf_parser.specs.Strings.{string_check, before_zero, terminated, string_in}
use Rattle.elf_parser.specs.Types.{file_header, program_header, section_header, sym, rel, dynamic}
use Rattle.program.specs.HashedLegacy.{legacy_key, kept_symbol, is_taken, legacy_row}
use Rattle.program.specs.Rows.{rank, register, registered, unregister}
use Rattle.program.specs.Search.{narrowed, binary_search, is_among}
use Rattle.loader.specs.Addresses.{machine_addr}
use Rattle.loader.specs.Bytes.{put}
use Rattle.loader.specs.Calls.{inside, target, is_local_call, call_of, call_at, call_deed, slot_trace}
use Rattle.loader.specs.Deeds.{deed_trace}
use Rattle.loader.specs.Entry.{entry_deed}
use Rattle.loader.specs.Functions.{row_for}
use Rattle.loader.specs.Labels.{label_of, label_deed, label_symbols, label_trace}
use Rattle.loader.specs.Load.{load_of}
use Rattle.loader.specs.Parts.{job_trace}
use Rattle.loader.specs.ReadOnly.{read_only, gives as loader-gives, invalid_by, end_of, grown, taken, gather_step, from_start, can_borrow, borrowed, owned, placed as loader-placed, placing, copied_to, copy_step, copied_from}
use Rattle.loader.specs.Relocations.{relocation_at, header_at, first_from, used_header, used_before, place_of, within, program_address, immediate_at, halves_deed, word_deed, address_deed, plan6464, relative_text, relative_value, plan_relative, function_call, builtin_call, call_by_name, plan6432, plan_at, relocation_trace}
use Rattle.loader.specs.Sections.{section_at, starts_with, unsupported, outside_file, survey_step, survey_from}
use Rattle.loader.specs.Trace.{and_then, each, settle}
use Rattle.loader.specs.Validate.{size_check, ascends, header_check as loader-headerCheck, sections_check, text_check, job_of, validated, prepared}
use Rattle.loader.specs.declared.error.ElfError.{ElfError}
use Rattle.std.specs.Prelude.{ℕ, zero, suc, List, [], ◌∷◌, map, ◌≡◌, refl, Result, Ok, Err}
use Rattle.loader.specs.SmallFiles.{all_on, version_1, version_2}
use Rattle.elf_parser.specs.declared.error.ElfParserError.TheVariants.{NoSuchIndex as reader-NoSuchIndex}
use Rattle.loader.specs.declared.deeds.Deed.{Deed}
use Rattle.loader.specs.declared.deeds.Deed.TheVariants.{Halves, Word, Key}
use Rattle.loader.specs.declared.error.ElfError.TheVariants.{FailedToParse, TableFull, BufferShort}
use Rattle.loader.specs.Load.{answer_of}
use Rattle.writers.specs.declared.Writer.{Writer}
use Rattle.writers.specs.declared.Writer.TheVariants.{File, Call, Relocation}
use Rattle.writers.specs.declared.error.WhoWroteError.TheVariants.{NoSuchIndex, Refused}
use Rattle.writers.specs.Writers.{image_after, writer_after, writer_of, wrote_of}
use Rattle.writers.specs.Named.{call_to, last_of, by_names}
use Rattle.writers.specs.Asked.{text_in, text_of, asked}
use Rattle.writers.specs.Whole.{code_by, filled_of}

-- ---- deeds one after another

-- eight bytes at 0; a key at 4, over the word's upper half; and the halves of 0 at 0 and at 12, where zeros stand already
abbrev three : ℕ → List ℕ → Result Deed ElfError
three zero im = Ok (Word 0 0x8_0000_0007)
three (suc zero) im = Ok (Key 4 9)
three (suc (suc i)) im = Ok (Halves 0 12 0)

-- with the first, with the first two, and with all three of them, in sixteen zeros
abbrev zeros : List ℕ
zeros = 0 ∷ 0 ∷ 0 ∷ 0 ∷ 0 ∷ 0 ∷ 0 ∷ 0 ∷ 0 ∷ 0 ∷ 0 ∷ 0 ∷ 0 ∷ 0 ∷ 0 ∷ 0 ∷ []

images : image_after three 1 0 zeros ∷ image_after three 2 0 zeros ∷ image_after three 3 0 zeros ∷ []
    ≡ (7 ∷ 0 ∷ 0 ∷ 0 ∷ 8 ∷ 0 ∷ 0 ∷ 0 ∷ 0 ∷ 0 ∷ 0 ∷ 0 ∷ 0 ∷ 0 ∷ 0 ∷ 0 ∷ [])
    ∷ (7 ∷ 0 ∷ 0 ∷ 0 ∷ 9 ∷ 0 ∷ 0 ∷ 0 ∷ 0 ∷ 0 ∷ 0 ∷ 0 ∷ 0 ∷ 0 ∷ 0 ∷ 0 ∷ [])
    ∷ (0 ∷ 0 ∷ 0 ∷ 0 ∷ 9 ∷ 0 ∷ 0 ∷ 0 ∷ 0 ∷ 0 ∷ 0 ∷ 0 ∷ 0 ∷ 0 ∷ 0 ∷ 0 ∷ [])
    ∷ []
unfolding image_after put
images = refl

-- the last counts, a zero written over a zero too (byte 12); byte 8 has none
abbrev by_three : ℕ → Writer
by_three b = writer_after three Relocation b 3 0 zeros File

writers : map by_three (0 ∷ 3 ∷ 4 ∷ 7 ∷ 8 ∷ 11 ∷ 12 ∷ 15 ∷ []) ≡ Relocation 2 ∷ Relocation 2 ∷ Relocation 1 ∷ Relocation 1 ∷ File ∷ File ∷ Relocation 2 ∷ Relocation 2 ∷ []
unfolding writer_after put ◌if◌else◌
writers = refl

-- a byte that a call wrote stays the call's where no relocation writes it
over_calls : writer_after three Relocation 0 3 0 zeros (Call 5) ∷ writer_after three Relocation 8 3 0 zeros (Call 5) ∷ [] ≡ Relocation 2 ∷ Call 5 ∷ []
unfolding writer_after put ◌if◌else◌
over_calls = refl

-- ---- a whole load: three slots at byte 64, of which the first calls the last

abbrev asks : List ℕ
asks = 0 ∷ 63 ∷ 64 ∷ 67 ∷ 68 ∷ 71 ∷ 72 ∷ 76 ∷ 303 ∷ 304 ∷ []

-- by what is written: the bytes of the call's immediate are the call's, and 304 is past the file's end; a load that is refused gives its refusal
by_deeds : map (wrote_of version_2 [] all_on 310 304 4) asks
    ≡ Ok File ∷ Ok File ∷ Ok File ∷ Ok File ∷ Ok (Call 0) ∷ Ok (Call 0) ∷ Ok File ∷ Ok File ∷ Ok File ∷ Err NoSuchIndex ∷ []
unfolding ◌if◌else◌ index_key key_in slot_at insn_at le bytes_of body murmur3 first_with segment_slice section_slice or_else with_tag values_from relocations_at relocations_by relocations_of symbols_by symbols_of header_fixed header_right reader-headerCheck tables_check over name_by first_check file_check named_layout parsed bytes_at load_step contains_step entry_at sliced symbol_table_in symbol_table_of file_range section_check section_step same_bytes role_of string_check before_zero terminated string_in file_header program_header section_header sym rel legacy_key kept_symbol is_taken legacy_row rank register registered unregister narrowed binary_search is_among machine_addr put inside target is_local_call call_of call_at call_deed slot_trace deed_trace entry_deed row_for label_of label_deed label_symbols label_trace load_of job_trace read_only loader-gives invalid_by end_of grown taken gather_step from_start can_borrow borrowed owned loader-placed placing copied_to copy_step copied_from relocation_at header_at first_from used_header used_before place_of within program_address immediate_at halves_deed word_deed address_deed plan6464 relative_text relative_value plan_relative function_call builtin_call call_by_name plan6432 plan_at relocation_trace section_at starts_with unsupported outside_file survey_step survey_from and_then each settle size_check ascends loader-headerCheck sections_check text_check job_of validated prepared dynamic header_for_vaddr symbols_at wrote_of writer_of writer_after image_after
by_deeds = refl

by_refusal : wrote_of version_2 [] all_on 304 304 1 0 ∷ wrote_of version_2 [] all_on 303 304 1 304 ∷ [] ≡ Err (Refused (TableFull 1)) ∷ Err (Refused BufferShort) ∷ []
unfolding ◌if◌else◌ index_key key_in slot_at insn_at le bytes_of body murmur3 first_with segment_slice section_slice or_else with_tag values_from relocations_at relocations_by relocations_of symbols_by symbols_of header_fixed header_right reader-headerCheck tables_check over name_by first_check file_check named_layout parsed bytes_at load_step contains_step entry_at sliced symbol_table_in symbol_table_of file_range section_check section_step same_bytes role_of string_check before_zero terminated string_in file_header program_header section_header sym rel legacy_key kept_symbol is_taken legacy_row rank register registered unregister narrowed binary_search is_among machine_addr put inside target is_local_call call_of call_at call_deed slot_trace deed_trace entry_deed row_for label_of label_deed label_symbols label_trace load_of job_trace read_only loader-gives invalid_by end_of grown taken gather_step from_start can_borrow borrowed owned loader-placed placing copied_to copy_step copied_from relocation_at header_at first_from used_header used_before place_of within program_address immediate_at halves_deed word_deed address_deed plan6464 relative_text relative_value plan_relative function_call builtin_call call_by_name plan6432 plan_at relocation_trace section_at starts_with unsupported outside_file survey_step survey_from and_then each settle size_check ascends loader-headerCheck sections_check text_check job_of validated prepared dynamic header_for_vaddr symbols_at wrote_of
by_refusal = refl

-- by the load's answer and the file, the same
by_answer : map (asked version_1 (answer_of (load_of version_1 [] all_on 304 304 4))) asks
    ≡ Ok File ∷ Ok File ∷ Ok File ∷ Ok File ∷ Ok (Call 0) ∷ Ok (Call 0) ∷ Ok File ∷ Ok File ∷ Ok File ∷ Err NoSuchIndex ∷ []
unfolding ◌if◌else◌ index_key key_in slot_at insn_at le bytes_of body murmur3 first_with segment_slice section_slice or_else with_tag values_from relocations_at relocations_by relocations_of symbols_by symbols_of header_fixed header_right reader-headerCheck tables_check over name_by first_check file_check named_layout parsed bytes_at load_step contains_step entry_at sliced symbol_table_in symbol_table_of file_range section_check section_step same_bytes role_of string_check before_zero terminated string_in file_header program_header section_header sym rel legacy_key kept_symbol is_taken legacy_row rank register registered unregister narrowed binary_search is_among machine_addr put inside target is_local_call call_of call_at call_deed slot_trace deed_trace entry_deed row_for label_of label_deed label_symbols label_trace load_of job_trace read_only loader-gives invalid_by end_of grown taken gather_step from_start can_borrow borrowed owned loader-placed placing copied_to copy_step copied_from relocation_at header_at first_from used_header used_before place_of within program_address immediate_at halves_deed word_deed address_deed plan6464 relative_text relative_value plan_relative function_call builtin_call call_by_name plan6432 plan_at relocation_trace section_at starts_with unsupported outside_file survey_step survey_from and_then each settle size_check ascends loader-headerCheck sections_check text_check job_of validated prepared dynamic header_for_vaddr symbols_at text_of text_in by_names last_of call_to
by_answer = refl

-- a refusal that is given is told again, also the reader's own of that name; an offset at the file's end is apart from it
by_answer_refused : asked version_1 (Err (FailedToParse reader-NoSuchIndex)) 304 ∷ asked version_1 (answer_of (load_of version_1 [] all_on 304 304 4)) 304 ∷ []
    ≡ Err (Refused (FailedToParse reader-NoSuchIndex)) ∷ Err NoSuchIndex ∷ []
unfolding ◌if◌else◌ index_key key_in slot_at insn_at le bytes_of body murmur3 first_with segment_slice section_slice or_else with_tag values_from relocations_at relocations_by relocations_of symbols_by symbols_of header_fixed header_right reader-headerCheck tables_check over name_by first_check file_check named_layout parsed bytes_at load_step contains_step entry_at sliced symbol_table_in symbol_table_of file_range section_check section_step same_bytes role_of string_check before_zero terminated string_in file_header program_header section_header sym rel legacy_key kept_symbol is_taken legacy_row rank register registered unregister narrowed binary_search is_among machine_addr put inside target is_local_call call_of call_at call_deed slot_trace deed_trace entry_deed row_for label_of label_deed label_symbols label_trace load_of job_trace read_only loader-gives invalid_by end_of grown taken gather_step from_start can_borrow borrowed owned loader-placed placing copied_to copy_step copied_from relocation_at header_at first_from used_header used_before place_of within program_address immediate_at halves_deed word_deed address_deed plan6464 relative_text relative_value plan_relative function_call builtin_call call_by_name plan6432 plan_at relocation_trace section_at starts_with unsupported outside_file survey_step survey_from and_then each settle size_check ascends loader-headerCheck sections_check text_check job_of validated prepared dynamic header_for_vaddr symbols_at text_of text_in by_names last_of call_to
by_answer_refused = refl

-- and as numbers
by_number : map (λ b. code_by (asked version_1 (answer_of (load_of version_1 [] all_on 304 304 4)) b)) (67 ∷ 68 ∷ 71 ∷ 72 ∷ 304 ∷ []) ≡ 0 ∷ 1 ∷ 1 ∷ 0 ∷ 0 ∷ []
unfolding ◌if◌else◌ index_key key_in slot_at insn_at le bytes_of body murmur3 first_with segment_slice section_slice or_else with_tag values_from relocations_at relocations_by relocations_of symbols_by symbols_of header_fixed header_right reader-headerCheck tables_check over name_by first_check file_check named_layout parsed bytes_at load_step contains_step entry_at sliced symbol_table_in symbol_table_of file_range section_check section_step same_bytes role_of string_check before_zero terminated string_in file_header program_header section_header sym rel legacy_key kept_symbol is_taken legacy_row rank register registered unregister narrowed binary_search is_among machine_addr put inside target is_local_call call_of call_at call_deed slot_trace deed_trace entry_deed row_for label_of label_deed label_symbols label_trace load_of job_trace read_only loader-gives invalid_by end_of grown taken gather_step from_start can_borrow borrowed owned loader-placed placing copied_to copy_step copied_from relocation_at header_at first_from used_header used_before place_of within program_address immediate_at halves_deed word_deed address_deed plan6464 relative_text relative_value plan_relative function_call builtin_call call_by_name plan6432 plan_at relocation_trace section_at starts_with unsupported outside_file survey_step survey_from and_then each settle size_check ascends loader-headerCheck sections_check text_check job_of validated prepared dynamic header_for_vaddr symbols_at text_of text_in by_names last_of call_to
by_number = refl

filled : filled_of version_1 303 (answer_of (load_of version_1 [] all_on 304 304 4)) ∷ filled_of version_1 304 (answer_of (load_of version_1 [] all_on 304 304 4)) ∷ [] ≡ Err BufferShort ∷ Ok tt ∷ []
unfolding ◌if◌else◌ index_key key_in slot_at insn_at le bytes_of body murmur3 first_with segment_slice section_slice or_else with_tag values_from relocations_at relocations_by relocations_of symbols_by symbols_of header_fixed header_right reader-headerCheck tables_check over name_by first_check file_check named_layout parsed bytes_at load_step contains_step entry_at sliced symbol_table_in symbol_table_of file_range section_check section_step same_bytes role_of string_check before_zero terminated string_in file_header program_header section_header sym rel legacy_key kept_symbol is_taken legacy_row rank register registered unregister narrowed binary_search is_among machine_addr put inside target is_local_call call_of call_at call_deed slot_trace deed_trace entry_deed row_for label_of label_deed label_symbols label_trace load_of job_trace read_only loader-gives invalid_by end_of grown taken gather_step from_start can_borrow borrowed owned loader-placed placing copied_to copy_step copied_from relocation_at header_at first_from used_header used_before place_of within program_address immediate_at halves_deed word_deed address_deed plan6464 relative_text relative_value plan_relative function_call builtin_call call_by_name plan6432 plan_at relocation_trace section_at starts_with unsupported outside_file survey_step survey_from and_then each settle size_check ascends loader-headerCheck sections_check text_check job_of validated prepared dynamic header_for_vaddr symbols_at text_of text_in
filled = refl
