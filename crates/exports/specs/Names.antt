-- The names of the refusals, for people.
use Rattle.std.specs.Prelude.{ℕ, ◌≡◌, refl, List, [], ◌∷◌, length, eqb}
use Prim.Native.Char.{code}
use Prim.Native.String.{String, [] as empty, ◌∷◌ as ◌then◌}
use Rattle.ebpf.specs.Choice.{◌if◌else◌}
use Rattle.program.specs.Table.{Lent}
use Rattle.exports.specs.Answers.{written}

-- the numbers from 45 on
unfoldable pub names_from_45 : List (ℕ × String)
names_from_45 =
    (45, "NoSuchIndex")
    ∷ (46, "NotASection")
    ∷ (47, "AddendNegative")
    ∷ (48, "BadHashTable")
    ∷ (49, "StringUnterminated")
    ∷ (50, "RecursiveCall")
    ∷ (51, "TooDeep")
    ∷ []

-- THE NAMES, each beside its number. A new one is a line here, in src/names.rt, in include/sbpf.h and in rust/src/refusal.rs
unfoldable pub names : List (ℕ × String)
names =
    (1, "InvalidFileHeader")
    ∷ (2, "InvalidProgramHeader")
    ∷ (3, "InvalidSectionHeader")
    ∷ (4, "StringTooLong")
    ∷ (5, "OutOfBounds")
    ∷ (6, "InvalidSize")
    ∷ (7, "Overlap")
    ∷ (8, "SectionNotInOrder")
    ∷ (9, "NoSectionNameStringTable")
    ∷ (10, "InvalidDynamicSectionTable")
    ∷ (11, "InvalidAlignment")
    ∷ (12, "NoStringTable")
    ∷ (13, "NoDynamicStringTable")
    ∷ (20, "EntrypointOutOfBounds")
    ∷ (21, "InvalidEntrypoint")
    ∷ (22, "UnresolvedSymbol")
    ∷ (23, "RelativeJumpOutOfBounds")
    ∷ (24, "SymbolHashCollision")
    ∷ (25, "WrongAbi")
    ∷ (26, "WrongMachine")
    ∷ (27, "NotOneTextSection")
    ∷ (28, "WritableSectionNotSupported")
    ∷ (29, "InvalidVirtualAddress")
    ∷ (30, "UnknownRelocation")
    ∷ (31, "WrongType")
    ∷ (32, "UnknownSymbol")
    ∷ (33, "ValueOutOfBounds")
    ∷ (34, "UnsupportedSBPFVersion")
    ∷ (40, "FileTooLong")
    ∷ (41, "BufferShort")
    ∷ (42, "BuiltinsNotAscending")
    ∷ (43, "TableFull")
    ∷ (44, "TextOutsideReadOnly")
    ∷ names_from_45

-- the bytes of a text whose characters are one byte long
unfoldable pub bytes : String → List ℕ
bytes empty = []
bytes (c then s) = code c ∷ bytes s

-- the name beside a number, empty where no name stands there
unfoldable pub name_in : List (ℕ × String) → ℕ → List ℕ
name_in [] n = []
name_in ((k, text) ∷ rows) n = bytes text if eqb k n else name_in rows n

unfoldable pub refusal_name : ℕ → List ℕ
refusal_name n = name_in names n

-- a name given: its length is the result r, and a lent slice that held `before` holds its bytes, as many as there is room for, and zeros behind them
pub record NameGiven (name before after : List ℕ) (r : ℕ) : Type 0 where
  pub result : r ≡ length name
  pub held : after ≡ written (length before) name

abbrev pub Named : List ℕ → Lent → ℕ → Type 0
Named name lent r = NameGiven name lent.entry.now lent.exit.now r

-- ---- examples

-- Overlap
name_of_7 : refusal_name 7 ≡ 79 ∷ 118 ∷ 101 ∷ 114 ∷ 108 ∷ 97 ∷ 112 ∷ []
unfolding refusal_name names names_from_45 name_in bytes ◌if◌else◌
name_of_7 = refl

-- UnresolvedSymbol
name_of_22 : refusal_name 22 ≡ 85 ∷ 110 ∷ 114 ∷ 101 ∷ 115 ∷ 111 ∷ 108 ∷ 118 ∷ 101 ∷ 100 ∷ 83 ∷ 121 ∷ 109 ∷ 98 ∷ 111 ∷ 108 ∷ []
unfolding refusal_name names names_from_45 name_in bytes ◌if◌else◌
name_of_22 = refl

-- NoSuchIndex
name_of_45 : refusal_name 45 ≡ 78 ∷ 111 ∷ 83 ∷ 117 ∷ 99 ∷ 104 ∷ 73 ∷ 110 ∷ 100 ∷ 101 ∷ 120 ∷ []
unfolding refusal_name names names_from_45 name_in bytes ◌if◌else◌
name_of_45 = refl

-- RecursiveCall
name_of_50 : refusal_name 50 ≡ 82 ∷ 101 ∷ 99 ∷ 117 ∷ 114 ∷ 115 ∷ 105 ∷ 118 ∷ 101 ∷ 67 ∷ 97 ∷ 108 ∷ 108 ∷ []
unfolding refusal_name names names_from_45 name_in bytes ◌if◌else◌
name_of_50 = refl

-- no refusal has these numbers
no_name_of_0 : refusal_name 0 ≡ []
unfolding refusal_name names names_from_45 name_in ◌if◌else◌
no_name_of_0 = refl

no_name_of_14 : refusal_name 14 ≡ []
unfolding refusal_name names names_from_45 name_in ◌if◌else◌
no_name_of_14 = refl
