-- The lines that `loadlist` prints of a file.
use Rattle.std.specs.Prelude.{ℕ, ◌+◌, ◌-◌, ◌≤◌, ◌≡◌, true, List, [], ◌∷◌, ◌++◌, length, take, replicate, ltb, Result, Ok, Err}
use Rattle.std.proofs.lemmas.List.Edits.{sets}
use Rattle.ebpf.specs.Choice.{◌if◌else◌}
use Rattle.elf_parser.specs.declared.error.Report.{Report}
use Rattle.program.specs.declared.Row.{Row}
use Rattle.program.specs.Table.{Lent, Shared}
use Rattle.loader.specs.declared.error.ElfError.{ElfError}
use Rattle.loader.specs.declared.answer.Accepted.{Accepted}
use Rattle.loader.specs.declared.validate.Config.{Config}
use Rattle.loader.specs.Errors.{report_of}
use Rattle.loader.specs.Load.{Loading, load_of, answer_of, rows_in}
use Rattle.listing.specs.declared.storing.Lines.{Lines}
use Rattle.listing.specs.Decimal.{decimal}

-- ---- the bytes of a line

-- refused, accepted; too long and the end of its line
abbrev pub refused_word : List ℕ
refused_word = 114 ∷ 101 ∷ 102 ∷ 117 ∷ 115 ∷ 101 ∷ 100 ∷ []

abbrev pub accepted_word : List ℕ
accepted_word = 97 ∷ 99 ∷ 99 ∷ 101 ∷ 112 ∷ 116 ∷ 101 ∷ 100 ∷ []

abbrev pub too_long : List ℕ
too_long = 116 ∷ 111 ∷ 111 ∷ 32 ∷ 108 ∷ 111 ∷ 110 ∷ 103 ∷ 10 ∷ []

-- a space and a number
unfoldable pub spaced : ℕ → List ℕ
spaced n = 32 ∷ decimal n

-- a word and four numbers
unfoldable pub word_line : List ℕ → ℕ → ℕ → ℕ → ℕ → List ℕ
word_line word a b c d = word ++ (spaced a ++ (spaced b ++ (spaced c ++ (spaced d ++ (10 ∷ [])))))

-- a row: key, index, name kind
unfoldable pub row_line : ℕ → ℕ → ℕ → List ℕ
row_line key index kind = decimal key ++ (spaced index ++ (spaced kind ++ (10 ∷ [])))

unfoldable pub row_lines : List Row → List ℕ
row_lines [] = []
row_lines (r ∷ rs) = row_line r.key r.index r.kind ++ row_lines rs

-- ---- the lines of a load

-- number, value, name start and name length of a refusal
abbrev pub refused_line : Report → List ℕ
refused_line r = word_line refused_word r.number r.value r.start r.length

-- version, entry, keys and moves of an accepted load
abbrev pub accepted_line : Accepted → List ℕ
accepted_line a = word_line accepted_word a.version a.entry a.used a.moves

-- by the answer and the rows
abbrev pub answer_lines : Result Accepted ElfError → List Row → List ℕ
answer_lines (Ok a) rows = accepted_line a ++ row_lines rows
answer_lines (Err e) rows = refused_line (report_of e)

abbrev pub load_lines : Loading → List ℕ
load_lines x = answer_lines (answer_of x) (rows_in x)

-- all settings on
abbrev pub all_on : Config
all_on = record {
  enable_symbol_and_section_labels = true;
  reject_broken_elfs = true;
  external_internal_function_hash_collision = true;
  optimize_rodata = true;
  enable_sbpf_v1 = true;
  enable_sbpf_v2 = true;
}

-- a load with all settings on, no built-ins, 16,384 bytes lent for the image and as many for the read-only bytes, and 256 rows
abbrev pub listed_load : List ℕ → Loading
listed_load file = load_of file [] all_on 16384 16384 256

-- WHAT `loadlist` PRINTS of a file. The rows of a load are by rising key
unfoldable pub lines_of : List ℕ → List ℕ
lines_of file = too_long if ltb 16384 (length file) else load_lines (listed_load file)

-- ---- bytes in a lent slice

-- bytes stored in a slice from the place `at` on, those for which there is room; r is the place behind them all, at most `most` further
pub record Stored (most : ℕ) (bytes before after : List ℕ) (at r : ℕ) : Type 0 where
  pub next : r ≡ at + length bytes
  pub near : r ≤ at + most
  pub stores : after ≡ sets before at bytes

-- the slice lent is still the one that it was
abbrev pub SameSlice : Lines → Lines → Type 0
SameSlice before after = after.out.ghost_name ≡ before.out.ghost_name

-- there, behind what was stored
abbrev pub Stores : ℕ → List ℕ → Lines → Lines → Type 0
Stores most bytes before after = SameSlice before after × Stored most bytes before.out.now after.out.now before.at after.at

-- a slice of n bytes that holds these, as many as there is room for, and zeros behind them
abbrev pub filled : ℕ → List ℕ → List ℕ
filled n bytes = take n bytes ++ replicate (n - length bytes) 0

-- WHAT `list_file` PROMISES: a lent slice that held `before` holds the lines of the file, and r is the number of their bytes. These are at
-- most 16,384, which the programs lend
pub record Listing (file before after : List ℕ) (r : ℕ) : Type 0 where
  pub count : r ≡ length (lines_of file)
  pub bytes : after ≡ filled (length before) (lines_of file)
  pub few : r ≤ 16384

abbrev pub Lists : Shared → Lent → ℕ → Type 0
Lists file out r = Listing file.entry.now out.entry.now out.exit.now r
