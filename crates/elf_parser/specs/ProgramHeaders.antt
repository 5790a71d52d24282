-- The program headers: PT_LOAD's checks, and the header that contains an address.
use Rattle.std.proofs.Common.{arith}
use Rattle.std.specs.Prelude.{ℕ, ◌*◌, ◌≤◌, ◌<◌, ◌≡◌, zero, suc, ◌+◌, ◌-◌, not, List, length, ltb, leb, eqb, Option, Some, None, Result, Ok, Err}
use Rattle.ebpf.specs.Choice.{◌if◌else◌, past_word}
use Rattle.elf_parser.specs.declared.error.ElfParserError.{ElfParserError}
use Rattle.elf_parser.specs.declared.error.ElfParserError.TheVariants.{OutOfBounds, InvalidProgramHeader}
use Rattle.elf_parser.specs.declared.types.Elf64Phdr.{Elf64Phdr}
use Rattle.elf_parser.specs.Errors.{Check, and_then}
use Rattle.elf_parser.specs.Loops.{over, less_one, one_further}
use Rattle.elf_parser.specs.Types.{program_header, PT_LOAD}

-- a loop of checks as one check: what the last of them leaves is not asked for
abbrev pub check_of : {A : Type 0} → Result A ElfParserError → Check
check_of a = and_then a (λ x. Ok tt)

-- one program header: other types are passed over. Addresses ascend, and the contents lie in the file
unfoldable pub load_step : ℕ → Elf64Phdr → ℕ → Result ℕ ElfParserError
load_step len h low =
    Ok low if not (eqb h.p_type PT_LOAD) else
    Err InvalidProgramHeader if ltb h.p_vaddr low else
    Err OutOfBounds if past_word (h.p_offset + h.p_filesz) else
    Err OutOfBounds if ltb len (h.p_offset + h.p_filesz) else
    Ok h.p_vaddr

-- n program headers from `at` on
abbrev pub loads_check : List ℕ → ℕ → ℕ → Check
loads_check s n at = check_of (over (λ p low. load_step (length s) (program_header s p) low) 56 n at 0)

-- whether a header contains an address, and where it then stands in the file
unfoldable pub contains_step : ℕ → Elf64Phdr → Result (Option ℕ) ElfParserError
contains_step vaddr h =
    Err OutOfBounds if past_word (h.p_vaddr + h.p_memsz) else
    Ok None if ltb vaddr h.p_vaddr else
    Ok None if leb (h.p_vaddr + h.p_memsz) vaddr else
    Err OutOfBounds if past_word (vaddr - h.p_vaddr + h.p_offset) else
    Ok (Some (vaddr - h.p_vaddr + h.p_offset))

-- what was found or refused, and where nothing was found what comes next
abbrev pub or_next : {A : Type 0} → Result (Option A) ElfParserError → Result (Option A) ElfParserError → Result (Option A) ElfParserError
or_next (Ok (Some x)) next = Ok (Some x)
or_next (Ok None) next = next
or_next (Err r) next = Err r

-- the first of n program headers from `at` on that contains the address, or a refusal on the way
unfoldable pub header_for_vaddr : List ℕ → ℕ → ℕ → ℕ → Result (Option ℕ) ElfParserError
header_for_vaddr s vaddr zero at = Ok None
header_for_vaddr s vaddr (suc n) at = or_next (contains_step vaddr (program_header s at)) (header_for_vaddr s vaddr n (at + 56))

-- ---- laws

-- the headers from number i on, as a loop over them meets them
module _ (s : List ℕ) (vaddr count from : ℕ) where
  abbrev pub found_from : ℕ → Result (Option ℕ) ElfParserError
  found_from i = header_for_vaddr s vaddr (count - i) (from + 56 * i)

  pub found_is : (i : ℕ) → i < count → found_from i ≡ or_next (contains_step vaddr (program_header s (from + 56 * i))) (found_from (i + 1))
  unfolding header_for_vaddr
  found_is i h = rw (less_one count i h, one_further from 56 i)

  pub found_end : (i : ℕ) → count ≤ i → found_from i ≡ Ok None
  unfolding header_for_vaddr
  found_end i h = let a : count - i ≡ 0 = omega arith in rw a
