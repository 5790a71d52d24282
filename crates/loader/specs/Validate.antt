-- The checks ahead of a load, in the order of the Rust, and what they leave.
use Rattle.std.specs.Prelude.{ℕ, Bool, true, false, ◌&&◌, not, List, [], ◌∷◌, length, ltb, leb, eqb, Result, Ok, Err, is_some}
use Rattle.std.specs.Option.{unwrap_or}
use Rattle.ebpf.specs.Choice.{◌if◌else◌}
use Rattle.elf_parser.specs.declared.error.ElfParserError.TheVariants.{InvalidProgramHeader}
use Rattle.elf_parser.specs.declared.types.Elf64Ehdr.{Elf64Ehdr}
use Rattle.elf_parser.specs.declared.types.Elf64Shdr.{Elf64Shdr}
use Rattle.elf_parser.specs.declared.layout.Layout.{Layout}
use Rattle.elf_parser.specs.Types.{file_header, SHT_NOBITS}
use Rattle.elf_parser.specs.Names.{section_name}
use Rattle.elf_parser.specs.Parse.{parsed}
use Rattle.loader.specs.declared.read_only.Placing.{Placing}
use Rattle.loader.specs.declared.error.ElfError.{ElfError}
use Rattle.loader.specs.declared.error.ElfError.TheVariants.{FailedToParse, EntrypointOutOfBounds, WrongAbi, WrongMachine, NotOneTextSection, WritableSectionNotSupported, WrongType, ValueOutOfBounds, UnsupportedSBPFVersion, FileTooLong, BufferShort, BuiltinsNotAscending}
use Rattle.loader.specs.declared.sections.Survey.{Survey}
use Rattle.loader.specs.declared.validate.Config.{Config}
use Rattle.loader.specs.declared.validate.Job.{Job}
use Rattle.elf_parser.specs.Errors.{◌then◌}
use Rattle.loader.specs.Errors.{from_parser}
use Rattle.loader.specs.Sections.{section_at, survey}
use Rattle.loader.specs.Addresses.{sum_up_to, machine_addr, MM_STACK_START}
use Rattle.loader.specs.ReadOnly.{placing}
use Rattle.elf_parser.specs.declared.error.ElfParserError.{ElfParserError}
use Rattle.elf_parser.specs.declared.parts.Place.{Place}

-- 40 and 41
unfoldable pub size_check : ℕ → ℕ → ℕ → Result (Unit {0}) ElfError
size_check len image ro =
    Err FileTooLong if ltb 0x100_0000 len else
    Err BufferShort if ltb image len else
    Err BufferShort if ltb ro len else
    Ok tt

-- the numbers ascend strictly
unfoldable pub ascends : List ℕ → Bool
ascends [] = true
ascends (x ∷ []) = true
ascends (x ∷ y ∷ s) = false if leb y x else ascends (y ∷ s)

-- ABI, machine, type, the version enabled, and version 2's limits
unfoldable pub header_check : Elf64Ehdr → Config → Bool → Result (Unit {0}) ElfError
header_check h c version2 =
    Err WrongAbi if not (eqb h.ei_osabi 0) else
    Err WrongMachine if not (eqb h.e_machine 247) && not (eqb h.e_machine 263) else
    Err WrongType if not (eqb h.e_type 3) else
    Err UnsupportedSBPFVersion if version2 && not c.enable_sbpf_v2 else
    Err UnsupportedSBPFVersion if not version2 && not c.enable_sbpf_v1 else
    Err UnsupportedSBPFVersion if version2 && not c.optimize_rodata else
    Err (FailedToParse InvalidProgramHeader) if version2 && leb 10 h.e_phnum else
    Ok tt

abbrev pub writable_by : Result Place ElfParserError → ElfError
writable_by (Ok p) = WritableSectionNotSupported p
writable_by (Err r) = WritableSectionNotSupported (record { start = 0; length = 0 })

abbrev pub writable_error : List ℕ → Layout → ℕ → ElfError
writable_error s l sh-name = writable_by (section_name s l sh-name)

-- exactly one .text, no section that is not supported (`unsupported`), every section in the file
unfoldable pub sections_check : List ℕ → Layout → Survey → Result (Unit {0}) ElfError
sections_check s l v =
    Err NotOneTextSection if not (eqb v.texts 1) else
    Err (writable_error s l (unwrap_or v.unsupported 0)) if is_some v.unsupported else
    Err ValueOutOfBounds if v.outside else
    Ok tt

-- the entry is one of the text's addresses; the text ends (in version 1: starts) at the stack at the latest, and in version 1
-- stands at its file offset where broken files are rejected
unfoldable pub text_check : Bool → Bool → ℕ → Elf64Shdr → Result (Unit {0}) ElfError
text_check version2 reject-broken e_entry h =
    Err EntrypointOutOfBounds if ltb e_entry h.sh_addr else
    Err EntrypointOutOfBounds if leb (sum_up_to h.sh_addr h.sh_size) e_entry else
    Err ValueOutOfBounds if (reject-broken && not version2) && not (eqb h.sh_addr h.sh_offset) else
    Err ValueOutOfBounds if version2 && ltb MM_STACK_START (sum_up_to (machine_addr version2 h.sh_addr) h.sh_size) else
    Err ValueOutOfBounds if not version2 && ltb MM_STACK_START (machine_addr version2 h.sh_addr) else
    Ok tt

-- what a load needs afterwards
unfoldable pub job_of : Config → Bool → Layout → ℕ → Elf64Shdr → Result Placing ElfError → Job
job_of c version2 l e_entry h p =
    let nobits : Bool = eqb h.sh_type SHT_NOBITS in
    record {
      version2 = version2;
      labels = c.enable_symbol_and_section_labels;
      reject_broken = c.reject_broken_elfs;
      check_collision = c.external_internal_function_hash_collision;
      layout = l;
      e_entry = e_entry;
      sh_addr = h.sh_addr;
      sh_size = h.sh_size;
      text = record { start = 0 if nobits else h.sh_offset; length = 0 if nobits else h.sh_size };
      addr = machine_addr version2 h.sh_addr;
      placing = p;
    }

abbrev pub file_check : List ℕ → Config → Layout → Elf64Ehdr → Bool → Survey → Result (Unit {0}) ElfError
file_check s c l h version2 v =
    header_check h c version2
    then sections_check s l v
    then text_check version2 c.reject_broken_elfs h.e_entry (section_at s l v.text)

abbrev pub is_version2 : Elf64Ehdr → Bool
is_version2 h = eqb h.e_flags 0x20

unfoldable pub validated : List ℕ → Config → Layout → Result Job ElfError
validated s c l =
    let h : Elf64Ehdr = file_header s in
    let count : ℕ = h.e_shnum in
    let v : Survey = survey s l count in
    file_check s c l h (is_version2 h) v
    then Ok (job_of c (is_version2 h) l h.e_entry (section_at s l v.text) (placing s l count (is_version2 h) c.reject_broken_elfs c.optimize_rodata))

abbrev pub parsed_then : List ℕ → Config → Result Layout ElfParserError → Result Job ElfError
parsed_then s c (Err e) = Err (from_parser e)
parsed_then s c (Ok l) = validated s c l

unfoldable pub prepared : List ℕ → List ℕ → Config → ℕ → ℕ → Result Job ElfError
prepared s builtins c image ro =
    size_check (length s) image ro
    then (Err BuiltinsNotAscending if not (ascends builtins) else parsed_then s c (parsed s))
