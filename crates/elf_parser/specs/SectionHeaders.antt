-- The sections that have bytes in the file.
use Rattle.std.specs.Prelude.{ℕ, ◌+◌, ◌≤◌, ◌≡◌, List, length, ltb, eqb, Result, Ok, Err}
use Rattle.std.proofs.Common.{ltb-false}
use Rattle.ebpf.specs.Choice.{◌if◌else◌, not_first, row_rest, past_word}
use Rattle.elf_parser.specs.declared.error.ElfParserError.{ElfParserError}
use Rattle.elf_parser.specs.declared.error.ElfParserError.TheVariants.{OutOfBounds, Overlap, SectionNotInOrder}
use Rattle.elf_parser.specs.declared.section_headers.Ranges.{Ranges}
use Rattle.elf_parser.specs.declared.types.Elf64Shdr.{Elf64Shdr}
use Rattle.elf_parser.specs.Errors.{Check, and_then, apart}
use Rattle.elf_parser.specs.Loops.{over}
use Rattle.elf_parser.specs.Types.{section_header, SHT_NOBITS}
use Rattle.elf_parser.specs.FileHeader.{overlap}
use Rattle.elf_parser.specs.ProgramHeaders.{check_of}

-- the section's bytes are apart from the file header and both tables, stand behind those of the section before, and lie in
-- the file
unfoldable pub section_check : ℕ → ℕ → Ranges → ℕ → ℕ → Check
section_check len low t offset size =
    Err OutOfBounds if past_word (offset + size) else
    Err Overlap if overlap offset (offset + size) 0 64 else
    Err Overlap if overlap offset (offset + size) t.program_headers.start t.program_headers.end else
    Err Overlap if overlap offset (offset + size) t.section_headers.start t.section_headers.end else
    Err SectionNotInOrder if ltb offset low else
    Err OutOfBounds if ltb len (offset + size) else
    Ok tt

-- a section that passes lies in the file
pub section_within : (len low : ℕ) (t : Ranges) (offset size : ℕ) → section_check len low t offset size ≡ Ok tt → offset + size ≤ len
unfolding section_check
section_within len low t offset size e =
    ltb-false _ _
    (not_first _ _ _ _ (apart _ _)
    (row_rest _ _ _ _ (apart _ _) (row_rest _ _ _ _ (apart _ _) (row_rest _ _ _ _ (apart _ _) (row_rest _ _ _ _ (apart _ _) (row_rest _ _ _ _ (apart _ _) e))))))

-- one section header: SHT_NOBITS has no bytes in the file, and is passed over. What it leaves is where the next may begin
unfoldable pub section_step : ℕ → Ranges → Elf64Shdr → ℕ → Result ℕ ElfParserError
section_step len t h low =
    Ok low if eqb h.sh_type SHT_NOBITS else
    and_then (section_check len low t h.sh_offset h.sh_size) (λ x. Ok (h.sh_offset + h.sh_size))

-- n section headers from `at` on
abbrev pub sections_check : List ℕ → Ranges → ℕ → ℕ → Check
sections_check s t n at = check_of (over (λ p low. section_step (length s) t (section_header s p) low) 64 n at 0)
