-- The file header's checks, and the places of the two header tables.
use Rattle.std.specs.Prelude.{ℕ, ◌+◌, ◌*◌, ◌%◌, ◌≤◌, ◌<◌, ◌≡◌, Bool, ◌&&◌, not, List, length, ltb, eqb, Ok, Err}
use Rattle.std.proofs.Common.{ltb-true, ltb-false}
use Rattle.std.proofs.lemmas.Bool.{not-false}
use Rattle.ebpf.specs.Choice.{◌if◌else◌, not_first, row_rest, and_right, past_word}
use Rattle.elf_parser.specs.declared.error.ElfParserError.TheVariants.{InvalidFileHeader, OutOfBounds, Overlap, InvalidAlignment}
use Rattle.elf_parser.specs.Errors.{Check, apart}
use Rattle.elf_parser.specs.Types.{ei_mag, ei_class, ei_data, ei_version, e_version, e_ehsize, e_phentsize, e_shentsize, e_shnum, e_shstrndx}

-- the magic number, class 64, little-endian, version 1 twice, and the three sizes
unfoldable pub header_fixed : List ℕ → Bool
header_fixed s =
    eqb (ei_mag s) 0x464c_457f
    && eqb (ei_class s) 2
    && eqb (ei_data s) 1
    && eqb (ei_version s) 1
    && eqb (e_version s) 1
    && eqb (e_ehsize s) 64
    && eqb (e_phentsize s) 56
    && eqb (e_shentsize s) 64

-- and a name table among the sections
unfoldable pub header_right : List ℕ → Bool
header_right s = header_fixed s && ltb (e_shstrndx s) (e_shnum s)

unfoldable pub header_check : List ℕ → Check
header_check s =
    Err OutOfBounds if ltb (length s) 64 else
    Err InvalidFileHeader if not (header_right s) else
    Ok tt

-- the ranges from a to b and from c to d share a byte, or one is empty and strictly inside the other
abbrev pub overlap : ℕ → ℕ → ℕ → ℕ → Bool
overlap a b c d = ltb c b && ltb a d

-- the program header table stands from phoff to phend, the section header table from shoff to shend
unfoldable pub tables_check : ℕ → ℕ → ℕ → ℕ → ℕ → Check
tables_check len phoff phnum shoff shnum =
    let phend : ℕ = phoff + phnum * 56 in
    let shend : ℕ = shoff + shnum * 64 in
    Err OutOfBounds if past_word phend else
    Err Overlap if overlap 0 64 phoff phend else
    Err OutOfBounds if ltb len phend else
    Err InvalidAlignment if ltb 0 (phoff % 8) else
    Err OutOfBounds if past_word shend else
    Err Overlap if overlap 0 64 shoff shend else
    Err Overlap if overlap phoff phend shoff shend else
    Err OutOfBounds if ltb len shend else
    Err InvalidAlignment if ltb 0 (shoff % 8) else
    Ok tt

-- the name table of a header that passes is one of its sections
pub header_sections : (s : List ℕ) → header_check s ≡ Ok tt → e_shstrndx s < e_shnum s
unfolding header_check header_right
header_sections s e = ltb-true _ _ (and_right (header_fixed s) _ (not-false (header_right s) (not_first _ _ _ _ (apart _ _) (row_rest _ _ _ _ (apart _ _) e))))

-- tables that pass lie in the file
pub tables_within : (len phoff phnum shoff shnum : ℕ) → tables_check len phoff phnum shoff shnum ≡ Ok tt → (phoff + phnum * 56 ≤ len) × (shoff + shnum * 64 ≤ len)
unfolding tables_check
tables_within len phoff phnum shoff shnum e =
    let e2 = row_rest _ _ _ _ (apart _ _) (row_rest _ _ _ _ (apart _ _) e) in
    let e7 = row_rest _ _ _ _ (apart _ _) (row_rest _ _ _ _ (apart _ _) (row_rest _ _ _ _ (apart _ _) (row_rest _ _ _ _ (apart _ _) (row_rest _ _ _ _ (apart _ _) e2)))) in
    (ltb-false _ _ (not_first _ _ _ _ (apart _ _) e2), ltb-false _ _ (not_first _ _ _ _ (apart _ _) e7))
