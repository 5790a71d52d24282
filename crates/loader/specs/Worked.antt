-- The scope's worked examples that are marked to be proved: one table, in its order and its numbers, by one computation.
use Rattle.std.specs.Prelude.{ℕ, ◌+◌, ◌-◌, ◌*◌, ◌/◌, ◌%◌, ◌^◌, true, false, List, [], ◌∷◌, ◌++◌, ◌≡◌, refl, replicate, Result, Ok, Err}
use Rattle.ebpf.specs.Choice.{◌if◌else◌}
use Rattle.ebpf.specs.Instructions.{insn_at, slot_at}
use Rattle.ebpf.specs.LittleEndian.{le, bytes_of}
use Rattle.ebpf.specs.Murmur3.{body, murmur3}
use Rattle.elf_parser.specs.declared.error.Report.{Report}
use Rattle.elf_parser.specs.declared.section_headers.Ranges.{Ranges}
use Rattle.elf_parser.specs.declared.types.Elf64Shdr.{Elf64Shdr}
use Rattle.elf_parser.specs.Errors as parser
use Rattle.elf_parser.specs.Records.{entry_at}
use Rattle.elf_parser.specs.SectionHeaders.{section_check}
use Rattle.elf_parser.specs.Strings.{string_in, string_check, terminated, no_zero, before_zero}
use Rattle.elf_parser.specs.Types.{rel, sym}
use Rattle.program.specs.HashedLegacy.{legacy_row, legacy_key, is_taken}
use Rattle.loader.specs.declared.deeds.Deed.{Deed}
use Rattle.loader.specs.declared.deeds.Deed.TheVariants.{Skip, Halves, Word, Key, Register, RegisterOnly, RegisterOutside}
use Rattle.loader.specs.declared.validate.Job.{Job}
use Rattle.loader.specs.declared.error.ElfError.{ElfError}
use Rattle.loader.specs.Errors.{report_of}
use Rattle.loader.specs.Calls.{inside, target, is_local_call, call_of, call_at, call_deed}
use Rattle.loader.specs.Functions.{row_for}
use Rattle.loader.specs.Relocations.{relocation_at, used_before, used_header, place_of, plan_at, plan6464, address_deed, halves_deed, word_deed, plan_relative, relative_text, immediate_at, program_address, within}
use Rattle.loader.specs.RelocationExamples.{layout, job, image, zeros, asked}
use Rattle.elf_parser.specs.declared.error.ElfParserError.{ElfParserError}
use Rattle.elf_parser.specs.Errors.{Check}
use Rattle.elf_parser.specs.declared.parts.Place.{Place}

-- ---- an answer in numbers: a refusal by `report_of`, else 0 and what the example speaks of

abbrev reported : Report → List ℕ
reported r = r.number ∷ r.value ∷ r.start ∷ r.length ∷ []

-- where a name stands, and its length
abbrev of_place : Result Place ElfParserError → List ℕ
of_place (Ok p) = 0 ∷ p.start ∷ p.length ∷ []
of_place (Err e) = reported (parser.report_of e)

abbrev of_check : Check → List ℕ
of_check (Ok tt) = 0 ∷ []
of_check (Err e) = reported (parser.report_of e)

-- the index that a call goes to; the two halves that are written; nothing
abbrev of_deed : Result Deed ElfError → List ℕ
of_deed (Ok Skip) = []
of_deed (Err e) = reported (report_of e)
of_deed (Ok (Halves low high value)) = 0 ∷ value % 2 ^ 32 ∷ value / 2 ^ 32 ∷ []
of_deed (Ok (Word at value)) = 0 ∷ value ∷ []
of_deed (Ok (Key at key)) = 0 ∷ key ∷ []
of_deed (Ok (Register row at)) = 0 ∷ row.index ∷ []
of_deed (Ok (RegisterOnly row)) = 0 ∷ row.index ∷ []
of_deed (Ok (RegisterOutside row)) = 0 ∷ row.index ∷ []

-- ---- what the examples are asked of

-- a name of n bytes at the front of a name table, the 40 bytes at 4
abbrev names : Elf64Shdr
names = record { sh_name = 0; sh_type = 3; sh_flags = 0; sh_addr = 0; sh_offset = 4; sh_size = 40 }

abbrev section_named : ℕ → List ℕ
section_named n = of_place (string_in (replicate 4 9 ++ (replicate n 65 ++ (0 ∷ replicate 30 1))) names 0 16)

-- slot 3 of 8 is a call with this immediate; in version 2, where the key is the index
abbrev eight : ℕ → List ℕ
eight imm = replicate 24 0 ++ (bytes_of 8 (0x1085 + imm * 2 ^ 32) ++ replicate 32 0)

abbrev whole : Job
whole =
    record {
      version2 = true;
      labels = false;
      reject_broken = true;
      check_collision = true;
      layout = layout;
      e_entry = 0;
      sh_addr = 0;
      sh_size = 64;
      text = record { start = 0; length = 64 };
      addr = 0x1_0000_0000;
      placing = (job true).placing;
    }

abbrev called : ℕ → List ℕ
called imm = of_deed (call_deed (eight imm) [] whole 3)

-- a relocation of this type at 0, in version 1, over the bytes `im`; the symbol's value is 0x20
abbrev relocated : List ℕ → ℕ → List ℕ
relocated im type = of_deed (asked im 0 type)

abbrev tables : Ranges
tables = record { program_headers = record { start = 64; end = 64 }; section_headers = record { start = 512; end = 704 } }

-- ---- THE TABLE, in the scope's order

worked :
    -- the hash of no bytes
    (murmur3 [] ∷ [])
    -- a section name of 15 bytes, and one of 16
    ∷ section_named 15
    ∷ section_named 16
    -- slot 3 of 8: immediates −4, −5, 3, 4 and −1
    ∷ called (2 ^ 32 - 4)
    ∷ called (2 ^ 32 - 5)
    ∷ called 3
    ∷ called 4
    ∷ called (2 ^ 32 - 1)
    -- version 1, type 1, symbol 0x20, bytes 4; type 8 in the text, both halves 0; type 0
    ∷ relocated image 1
    ∷ relocated zeros 8
    ∷ relocated image 0
    -- an empty section at offset 10
    ∷ of_check (section_check 1000 0 tables 10 0)
    ∷ []
    ≡ (0 ∷ [])
    ∷ (0 ∷ 4 ∷ 15 ∷ [])
    ∷ (4 ∷ 0 ∷ 4 ∷ 16 ∷ [])
    ∷ (0 ∷ 0 ∷ [])
    ∷ (23 ∷ 3 ∷ 0 ∷ 0 ∷ [])
    ∷ (0 ∷ 7 ∷ [])
    ∷ (23 ∷ 3 ∷ 0 ∷ 0 ∷ [])
    ∷ []
    ∷ (0 ∷ 0x24 ∷ 1 ∷ [])
    ∷ (29 ∷ 0 ∷ 0 ∷ 0 ∷ [])
    ∷ (30 ∷ 0 ∷ 0 ∷ 0 ∷ [])
    ∷ (7 ∷ 0 ∷ 0 ∷ 0 ∷ [])
    ∷ []
unfolding murmur3 body string_in string_check terminated no_zero before_zero call_deed call_at insn_at slot_at call_of is_local_call target inside row_for legacy_row legacy_key is_taken relocation_at used_before used_header place_of plan_at plan6464 address_deed halves_deed word_deed plan_relative relative_text immediate_at program_address within section_check entry_at rel sym ◌if◌else◌ le bytes_of
worked = refl
