-- What holds of every name in the table. Assumes nothing.
use mathlib.Core.Path.{◌≡◌, refl, sym, ap, ◌∙◌}
use mathlib.Core.Bool.{Bool, true, false, not, ◌&&◌}
use mathlib.Core.List.{List, [], ◌∷◌}
use Prim.Native.Nat.{ℕ, suc, max, ◌≤◌, ◌<◌}
use Prim.Native.String.{String}
use native.Mathlib.Nat.{not-suc-le-zero}
use native.Mathlib.Omega.{arith}
use lib.ListN.{length}
use lib.Dec.{eqb, ltb}
use borrow.Author.Tests.{ne_eqb, ltb-true, eqb-true}
use Rattle.ebpf.specs.Choice.{◌if◌else◌, and_left, and_right}
use Rattle.elf_parser.specs.declared.error.ElfParserError.{ElfParserError}
use Rattle.elf_parser.specs.declared.error.ElfParserError.TheVariants.{InvalidFileHeader, InvalidProgramHeader, InvalidSectionHeader, StringTooLong, OutOfBounds, InvalidSize, Overlap, SectionNotInOrder, NoSectionNameStringTable, InvalidDynamicSectionTable, InvalidAlignment, NoStringTable, NoDynamicStringTable, NoSuchIndex, NotASection, StringUnterminated}
use Rattle.elf_parser.specs.SectionNames.{same_bytes}
use Rattle.elf_parser.specs.Errors as parser
use Rattle.loader.specs.declared.error.ElfError.{ElfError}
use Rattle.loader.specs.declared.error.ElfError.TheVariants.{FailedToParse, EntrypointOutOfBounds, InvalidEntrypoint, UnresolvedSymbol, RelativeJumpOutOfBounds, SymbolHashCollision, WrongAbi, WrongMachine, NotOneTextSection, WritableSectionNotSupported, InvalidVirtualAddress, UnknownRelocation, WrongType, UnknownSymbol, ValueOutOfBounds, UnsupportedSBPFVersion, FileTooLong, BufferShort, BuiltinsNotAscending, TableFull, TextOutsideReadOnly, AddendNegative}
use Rattle.loader.specs.Errors as load
use Rattle.writers.specs.declared.error.WhoWroteError.{WhoWroteError}
use Rattle.writers.specs.declared.error.WhoWroteError.TheVariants.{NoSuchIndex as NoByte, Refused as NotTold}
use Rattle.writers.specs.Errors as writers
use Rattle.call_depth.specs.declared.error.CallDepthError.{CallDepthError}
use Rattle.call_depth.specs.declared.error.CallDepthError.TheVariants.{RecursiveCall, TooDeep, Refused}
use Rattle.call_depth.specs.Errors as depth
use Rattle.exports.specs.Names.{names, names_from_45, bytes, name_in, refusal_name}

-- one more than the largest number of the table
unfoldable pub past : List (ℕ × String) → ℕ
past [] = 0
past ((k, text) ∷ rows) = max (suc k) (past rows)

pub no_name : (rows : List (ℕ × String)) (n : ℕ) → past rows ≤ n → name_in rows n ≡ []
unfolding past name_in ◌if◌else◌
no_name [] n h = refl
no_name ((k, text) ∷ rows) n h = simp (ne_eqb k n (λ e. omega arith)) (no_name rows n (omega arith))

-- a test of every name, and of any that a number finds
module _ (test : List ℕ → Bool) where
  unfoldable pub every : List (ℕ × String) → Bool
  every [] = test []
  every ((k, text) ∷ rows) = test (bytes text) && every rows

  either : (b : Bool) (x y : List ℕ) → test x ≡ true → test y ≡ true → test (x if b else y) ≡ true
  unfolding ◌if◌else◌
  either true x y p q = p
  either false x y p q = q

  pub each : (rows : List (ℕ × String)) (n : ℕ) → every rows ≡ true → test (name_in rows n) ≡ true
  unfolding every name_in
  each [] n h = h
  each ((k, text) ∷ rows) n h = either (eqb k n) (bytes text) (name_in rows n) (and_left (test (bytes text)) (every rows) h) (each rows n (and_right (test (bytes text)) (every rows) h))

abbrev short : List ℕ → Bool
short name = ltb (length name) 64

pub name_short : (n : ℕ) → length (refusal_name n) < 64
unfolding refusal_name names names_from_45 bytes every
name_short n = ltb-true _ _ (each short names n refl)

-- a name without a zero byte: a text of C holds it whole
unfoldable pub whole : List ℕ → Bool
whole [] = true
whole (byte ∷ rest) = not (eqb byte 0) && whole rest

pub name_whole : (n : ℕ) → whole (refusal_name n) ≡ true
unfolding refusal_name names names_from_45 bytes every whole
name_whole n = each whole names n refl

-- ---- every refusal has a name

named : (n : ℕ) → ltb 0 (length (refusal_name n)) ≡ true → 0 < length (refusal_name n)
named n h = ltb-true 0 (length (refusal_name n)) h

pub parse_named : (e : ElfParserError) → 0 < length (refusal_name (parser.report_of e).number)
unfolding refusal_name names names_from_45 name_in bytes ◌if◌else◌
parse_named InvalidFileHeader = named 1 refl
parse_named InvalidProgramHeader = named 2 refl
parse_named InvalidSectionHeader = named 3 refl
parse_named (StringTooLong p) = named 4 refl
parse_named OutOfBounds = named 5 refl
parse_named InvalidSize = named 6 refl
parse_named Overlap = named 7 refl
parse_named SectionNotInOrder = named 8 refl
parse_named NoSectionNameStringTable = named 9 refl
parse_named InvalidDynamicSectionTable = named 10 refl
parse_named InvalidAlignment = named 11 refl
parse_named NoStringTable = named 12 refl
parse_named NoDynamicStringTable = named 13 refl
parse_named NoSuchIndex = named 45 refl
parse_named NotASection = named 46 refl
parse_named (StringUnterminated p) = named 49 refl

pub load_named : (e : ElfError) → 0 < length (refusal_name (load.report_of e).number)
unfolding refusal_name names names_from_45 name_in bytes ◌if◌else◌
load_named (FailedToParse e) = parse_named e
load_named EntrypointOutOfBounds = named 20 refl
load_named InvalidEntrypoint = named 21 refl
load_named (UnresolvedSymbol p offset) = named 22 refl
load_named (RelativeJumpOutOfBounds slot) = named 23 refl
load_named (SymbolHashCollision key) = named 24 refl
load_named WrongAbi = named 25 refl
load_named WrongMachine = named 26 refl
load_named NotOneTextSection = named 27 refl
load_named (WritableSectionNotSupported p) = named 28 refl
load_named InvalidVirtualAddress = named 29 refl
load_named (UnknownRelocation k) = named 30 refl
load_named WrongType = named 31 refl
load_named (UnknownSymbol k) = named 32 refl
load_named ValueOutOfBounds = named 33 refl
load_named UnsupportedSBPFVersion = named 34 refl
load_named FileTooLong = named 40 refl
load_named BufferShort = named 41 refl
load_named BuiltinsNotAscending = named 42 refl
load_named (TableFull rows) = named 43 refl
load_named TextOutsideReadOnly = named 44 refl
load_named AddendNegative = named 47 refl

pub wrote_named : (e : WhoWroteError) → 0 < length (refusal_name (writers.report_of e).number)
unfolding refusal_name names names_from_45 name_in bytes ◌if◌else◌
wrote_named NoByte = named 45 refl
wrote_named (NotTold e) = load_named e

pub depth_named : (e : CallDepthError) → 0 < length (refusal_name (depth.report_of e).number)
unfolding refusal_name names names_from_45 name_in bytes ◌if◌else◌
depth_named (RecursiveCall index) = named 50 refl
depth_named (TooDeep chain) = named 51 refl
depth_named (Refused e) = load_named e

-- ---- no two refusals share a name

-- the number beside a name, 0 where it stands in no row
unfoldable number_in : List (ℕ × String) → List ℕ → ℕ
number_in [] name = 0
number_in ((k, text) ∷ rows) name = k if same_bytes (bytes text) name else number_in rows name

-- the name of each of these rows finds its number in the table
unfoldable back : List (ℕ × String) → Bool
back [] = true
back ((k, text) ∷ rows) = eqb (number_in names (bytes text)) k && back rows

finds : (rows : List (ℕ × String)) (n : ℕ) → back rows ≡ true → 0 < length (name_in rows n) → number_in names (name_in rows n) ≡ n
unfolding back name_in ◌if◌else◌
finds [] n h i = absurd (not-suc-le-zero i)
finds ((k, text) ∷ rows) n h i = go (eqb k n) refl (finds rows n (and_right (eqb (number_in names (bytes text)) k) (back rows) h)) i
  where
    go : (b : Bool) → eqb k n ≡ b → (0 < length (name_in rows n) → number_in names (name_in rows n) ≡ n) → 0 < length (bytes text if b else name_in rows n) → number_in names (bytes text if b else name_in rows n) ≡ n
    go true e f j = eqb-true _ _ (and_left (eqb (number_in names (bytes text)) k) (back rows) h) ∙ eqb-true k n e
    go false e f j = f j

pub apart : (m n : ℕ) → 0 < length (refusal_name m) → refusal_name m ≡ refusal_name n → m ≡ n
unfolding refusal_name names names_from_45 bytes number_in back same_bytes ◌if◌else◌
apart m n h e =
    let f : (k : ℕ) → 0 < length (refusal_name k) → number_in names (refusal_name k) ≡ k = λ k i. finds names k refl i in
    sym (f m h) ∙ ap (number_in names) e ∙ f n (rw e at h)
