-- Only a registration is refused as a table refuses: no check ahead of a load is, and no placing of the read-only sections.
-- Assumes nothing.
use Prim.Native.Nat.{ℕ, zero, suc, ◌+◌}
use mathlib.Core.Path.{◌≡◌, refl}
use mathlib.Core.Bool.{Bool, true, false, not}
use mathlib.Core.List.{List}
use lib.ListN.{length}
use Rattle.std.specs.Prelude.{Result, Ok, Err}
use Rattle.std.specs.Option.{unwrap_or}
use Rattle.ebpf.specs.Choice.{◌if◌else◌}
use Rattle.elf_parser.specs.declared.error.ElfParserError.{ElfParserError}
use Rattle.elf_parser.specs.declared.error.ElfParserError.TheVariants.{InvalidFileHeader, InvalidProgramHeader, InvalidSectionHeader, StringTooLong, OutOfBounds, InvalidSize, Overlap, SectionNotInOrder, NoSectionNameStringTable, InvalidDynamicSectionTable, InvalidAlignment, NoStringTable, NoDynamicStringTable, NoSuchIndex, NotASection, StringUnterminated}
use Rattle.elf_parser.specs.declared.types.Elf64Ehdr.{Elf64Ehdr}
use Rattle.elf_parser.specs.declared.types.Elf64Shdr.{Elf64Shdr}
use Rattle.elf_parser.specs.declared.layout.Layout.{Layout}
use Rattle.elf_parser.specs.Errors.{and_then, ◌then◌}
use Rattle.elf_parser.specs.Loops.{over}
use Rattle.elf_parser.specs.Names.{section_name}
use Rattle.elf_parser.specs.Parse.{parsed}
use Rattle.elf_parser.specs.Records.{file_range_of}
use Rattle.elf_parser.specs.Types.{file_header}
use Rattle.loader.specs.declared.read_only.Placing.TheVariants.{Borrowed, Owned}
use Rattle.loader.specs.declared.read_only.Placing.{Placing}
use Rattle.loader.specs.declared.error.ElfError.{ElfError}
use Rattle.loader.specs.declared.error.ElfError.TheVariants.{FailedToParse, EntrypointOutOfBounds, InvalidEntrypoint, UnresolvedSymbol, RelativeJumpOutOfBounds, SymbolHashCollision, WrongAbi, WrongMachine, NotOneTextSection, WritableSectionNotSupported, InvalidVirtualAddress, UnknownRelocation, WrongType, UnknownSymbol, ValueOutOfBounds, UnsupportedSBPFVersion, FileTooLong, BufferShort, BuiltinsNotAscending, TableFull, TextOutsideReadOnly, AddendNegative}
use Rattle.loader.specs.declared.sections.Survey.{Survey}
use Rattle.loader.specs.declared.read_only.Extent.{Extent}
use Rattle.loader.specs.declared.validate.Config.{Config}
use Rattle.loader.specs.declared.validate.Job.{Job}
use Rattle.loader.specs.Errors.{from_parser}
use Rattle.loader.specs.Sections.{section_at, survey}
use Rattle.loader.specs.ReadOnly.{taken, taken_at, gather_step, nothing, gathered, borrowed, owned, placed, placing_by, placing}
use Rattle.loader.specs.Validate.{size_check, ascends, header_check, writable_by, sections_check, text_check, job_of, file_check, is_version2, validated, parsed_then, prepared}
use Rattle.elf_parser.specs.declared.parts.Place.{Place}

-- the refusals that a registration gives
abbrev pub of_table : ElfError → Bool
of_table (FailedToParse e) = false
of_table EntrypointOutOfBounds = false
of_table InvalidEntrypoint = false
of_table (UnresolvedSymbol p offset) = false
of_table (RelativeJumpOutOfBounds slot) = false
of_table (SymbolHashCollision key) = true
of_table WrongAbi = false
of_table WrongMachine = false
of_table NotOneTextSection = false
of_table (WritableSectionNotSupported p) = false
of_table InvalidVirtualAddress = false
of_table (UnknownRelocation n) = false
of_table WrongType = false
of_table (UnknownSymbol n) = false
of_table ValueOutOfBounds = false
of_table UnsupportedSBPFVersion = false
of_table FileTooLong = false
of_table BufferShort = false
of_table BuiltinsNotAscending = false
of_table (TableFull rows) = true
of_table TextOutsideReadOnly = false
of_table AddendNegative = false

abbrev pub Plain : ElfError → Type 0
Plain r = of_table r ≡ false

-- a choice is as its two sides are, each where its test is so
pub picks : {A : Type 0} (P : A → Type 0) (b : Bool) (x y : A) → (b ≡ true → P x) → (b ≡ false → P y) → P (x if b else y)
unfolding ◌if◌else◌
picks P true x y p q = p refl
picks P false x y p q = q refl

-- ---- the checks

abbrev PlainVerdict : Result (Unit {0}) ElfError → Type 0
PlainVerdict (Ok u) = Unit {0}
PlainVerdict (Err r) = Plain r

refuse_or : (b : Bool) (r : ElfError) (v : Result (Unit {0}) ElfError) → Plain r → PlainVerdict v → PlainVerdict (Err r if b else v)
refuse_or b r v p q = picks PlainVerdict b (Err r) v (λ _. p) (λ _. q)

then_plain : (v w : Result (Unit {0}) ElfError) → PlainVerdict v → PlainVerdict w → PlainVerdict (v then w)
then_plain (Ok u) w p q = q
then_plain (Err r) w p q = p

size_plain : (len image ro : ℕ) → PlainVerdict (size_check len image ro)
unfolding size_check
size_plain len image ro = refuse_or _ _ _ refl (refuse_or _ _ _ refl (refuse_or _ _ _ refl tt))

header_plain : (h : Elf64Ehdr) (c : Config) (version2 : Bool) → PlainVerdict (header_check h c version2)
unfolding header_check
header_plain h c version2 =
    refuse_or _ _ _ refl (refuse_or _ _ _ refl (refuse_or _ _ _ refl (refuse_or _ _ _ refl (refuse_or _ _ _ refl (refuse_or _ _ _ refl (refuse_or _ _ _ refl tt))))))

writable_plain : (p : Result Place ElfParserError) → Plain (writable_by p)
writable_plain (Ok p) = refl
writable_plain (Err r) = refl

sections_plain : (s : List ℕ) (l : Layout) (v : Survey) → PlainVerdict (sections_check s l v)
unfolding sections_check
sections_plain s l v = refuse_or _ _ _ refl (refuse_or _ _ _ (writable_plain (section_name s l (unwrap_or v.unsupported 0))) (refuse_or _ _ _ refl tt))

text_plain : (version2 reject-broken : Bool) (e_entry : ℕ) (h : Elf64Shdr) → PlainVerdict (text_check version2 reject-broken e_entry h)
unfolding text_check
text_plain version2 reject-broken e_entry h =
    refuse_or _ _ _ refl (refuse_or _ _ _ refl (refuse_or _ _ _ refl (refuse_or _ _ _ refl (refuse_or _ _ _ refl tt))))

parser_plain : (e : ElfParserError) → Plain (from_parser e)
parser_plain InvalidFileHeader = refl
parser_plain InvalidProgramHeader = refl
parser_plain InvalidSectionHeader = refl
parser_plain (StringTooLong p) = refl
parser_plain OutOfBounds = refl
parser_plain InvalidSize = refl
parser_plain Overlap = refl
parser_plain SectionNotInOrder = refl
parser_plain NoSectionNameStringTable = refl
parser_plain InvalidDynamicSectionTable = refl
parser_plain InvalidAlignment = refl
parser_plain NoStringTable = refl
parser_plain NoDynamicStringTable = refl
parser_plain NoSuchIndex = refl
parser_plain NotASection = refl
parser_plain (StringUnterminated p) = refl

-- ---- the placing

abbrev PlainGathering : Result Extent ElfError → Type 0
PlainGathering (Ok x) = Unit {0}
PlainGathering (Err r) = Plain r

abbrev pub PlainPlacing : Result Placing ElfError → Type 0
PlainPlacing (Ok (Borrowed offset start n)) = Unit {0}
PlainPlacing (Ok (Owned offset lowest n)) = Unit {0}
PlainPlacing (Err r) = Plain r

gather_then_plain : (a : Result Extent ElfError) (f : Extent → Result Extent ElfError) → PlainGathering a → ((x : Extent) → PlainGathering (f x)) → PlainGathering (and_then a f)
gather_then_plain (Ok x) f p q = q x
gather_then_plain (Err r) f p q = p

over_plain : (step : ℕ → Extent → Result Extent ElfError) → ((i : ℕ) (x : Extent) → PlainGathering (step i x)) → (w n at : ℕ) (x : Extent) → PlainGathering (over step w n at x)
unfolding over
over_plain step p w zero at x = tt
over_plain step p w (suc n) at x = gather_then_plain (step at x) (over step w n (at + w)) (p at x) (λ y. over_plain step p w n (at + w) y)

taken_plain : (version2 reject-broken : Bool) (i : ℕ) (h : Elf64Shdr) (x : Extent) (p : Result Place ElfParserError) → PlainGathering (taken_at version2 reject-broken i h x p)
unfolding taken
taken_plain version2 reject-broken i h x (Ok p) = picks PlainGathering _ _ _ (λ _. refl) (λ _. picks PlainGathering _ _ _ (λ _. refl) (λ _. tt))
taken_plain version2 reject-broken i h x (Err r) = refl

gather_plain : (s : List ℕ) (l : Layout) (version2 reject-broken : Bool) (i : ℕ) (x : Extent) → PlainGathering (gather_step s l version2 reject-broken i x)
unfolding gather_step
gather_plain s l version2 reject-broken i x =
    picks PlainGathering _ _ _ (λ _. tt) (λ _. taken_plain version2 reject-broken i (section_at s l i) x (file_range_of s l i))

gathered_plain : (s : List ℕ) (l : Layout) (count : ℕ) (version2 reject-broken : Bool) → PlainGathering (gathered s l count version2 reject-broken)
gathered_plain s l count version2 reject-broken =
    over_plain (gather_step s l version2 reject-broken) (λ i x. gather_plain s l version2 reject-broken i x) 1 count 0 nothing

borrowed_plain : (version2 : Bool) (x : Extent) → PlainPlacing (borrowed version2 x)
unfolding borrowed
borrowed_plain version2 x = picks PlainPlacing _ _ _ (λ _. refl) (λ _. tt)

owned_plain : (len : ℕ) (optimize : Bool) (x : Extent) → PlainPlacing (owned len optimize x)
unfolding owned
owned_plain len optimize x = picks PlainPlacing _ _ _ (λ _. refl) (λ _. tt)

placed_plain : (len : ℕ) (version2 reject-broken optimize : Bool) (g : Result Extent ElfError) → PlainGathering g → PlainPlacing (placing_by len version2 reject-broken optimize g)
unfolding placed
placed_plain len version2 reject-broken optimize (Err r) p = p
placed_plain len version2 reject-broken optimize (Ok x) p =
    picks PlainPlacing _ _ _ (λ _. refl)
    (λ _. picks PlainPlacing _ _ _ (λ _. refl)
    (λ _. picks PlainPlacing _ _ _ (λ _. borrowed_plain version2 x) (λ _. owned_plain len optimize x)))

placing_plain : (s : List ℕ) (l : Layout) (count : ℕ) (version2 reject-broken optimize : Bool) → PlainPlacing (placing s l count version2 reject-broken optimize)
unfolding placing
placing_plain s l count version2 reject-broken optimize =
    placed_plain (length s) version2 reject-broken optimize (gathered s l count version2 reject-broken) (gathered_plain s l count version2 reject-broken)

-- ---- all checks

-- a plain refusal, or a job that checks for collisions with built-ins as the configuration says, and whose placing refuses plainly
abbrev pub PlainlyPrepared : Config → Result Job ElfError → Type 0
PlainlyPrepared c (Err r) = Plain r
PlainlyPrepared c (Ok j) = (j.check_collision ≡ c.external_internal_function_hash_collision) × PlainPlacing j.placing

passed_plain : (c : Config) (v : Result (Unit {0}) ElfError) (p : Result Job ElfError) → PlainVerdict v → PlainlyPrepared c p → PlainlyPrepared c (v then p)
passed_plain c (Ok u) p v q = q
passed_plain c (Err r) p v q = v

file_plain : (s : List ℕ) (c : Config) (l : Layout) (h : Elf64Ehdr) (version2 : Bool) (v : Survey) → PlainVerdict (file_check s c l h version2 v)
file_plain s c l h version2 v =
    let text : Result (Unit {0}) ElfError = text_check version2 c.reject_broken_elfs h.e_entry (section_at s l v.text) in
    then_plain (header_check h c version2) (sections_check s l v then text) (header_plain h c version2)
    (then_plain (sections_check s l v) text (sections_plain s l v) (text_plain version2 c.reject_broken_elfs h.e_entry (section_at s l v.text)))

job_plain : (c : Config) (version2 : Bool) (l : Layout) (e_entry : ℕ) (h : Elf64Shdr) (p : Result Placing ElfError) → PlainPlacing p → PlainlyPrepared c (Ok (job_of c version2 l e_entry h p))
unfolding job_of
job_plain c version2 l e_entry h p q = (refl, q)

validated_plain : (s : List ℕ) (c : Config) (l : Layout) → PlainlyPrepared c (validated s c l)
unfolding validated
validated_plain s c l = passed_plain c (file_check s c l h version2 v) (Ok (job_of c version2 l h.e_entry text place))
    (file_plain s c l h version2 v)
    (job_plain c version2 l h.e_entry text place (placing_plain s l h.e_shnum version2 c.reject_broken_elfs c.optimize_rodata))
  where
    h : Elf64Ehdr
    h = file_header s

    version2 : Bool
    version2 = is_version2 h

    v : Survey
    v = survey s l h.e_shnum

    text : Elf64Shdr
    text = section_at s l v.text

    place : Result Placing ElfError
    place = placing s l h.e_shnum version2 c.reject_broken_elfs c.optimize_rodata

parsed_plain : (s : List ℕ) (c : Config) (p : Result Layout ElfParserError) → PlainlyPrepared c (parsed_then s c p)
parsed_plain s c (Err e) = parser_plain e
parsed_plain s c (Ok l) = validated_plain s c l

pub prepared_plain : (s builtins : List ℕ) (c : Config) (image ro : ℕ) → PlainlyPrepared c (prepared s builtins c image ro)
unfolding prepared
prepared_plain s builtins c image ro =
    passed_plain c (size_check (length s) image ro) _ (size_plain (length s) image ro)
    (picks (PlainlyPrepared c) (not (ascends builtins)) _ _ (λ _. refl) (λ _. parsed_plain s c (parsed s)))
