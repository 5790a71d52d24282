-- Who wrote each byte of the file, as one number a byte.
use Rattle.std.specs.Prelude.{ℕ, ◌+◌, ◌≡◌, Bool, ◌&&◌, List, length, get_or, ltb, Result, Ok, Err}
use Rattle.ebpf.specs.Choice.{◌if◌else◌}
use Rattle.program.specs.Table.{Lent, Shared}
use Rattle.loader.specs.declared.error.ElfError.{ElfError}
use Rattle.loader.specs.declared.answer.Accepted.{Accepted}
use Rattle.loader.specs.declared.error.ElfError.TheVariants.{BufferShort}
use Rattle.writers.specs.declared.Writer.{Writer}
use Rattle.writers.specs.declared.error.WhoWroteError.{WhoWroteError}
use Rattle.writers.specs.declared.Writer.TheVariants.{File, Call, Relocation}
use Rattle.elf_parser.specs.declared.layout.Layout.{Layout}
use Rattle.writers.specs.declared.text.LoadedText.{LoadedText}
use Rattle.writers.specs.Named.{call_writer, by_names}
use Rattle.writers.specs.Asked.{text_loaded, text_of, asked_by, asked}

-- the number of a writer
abbrev pub code_of : Writer → ℕ
code_of File = 0
code_of (Call i) = i + 1
code_of (Relocation k) = 0x8000_0000 + k

-- and of an answer: 0 where there is none
abbrev pub code_by : Result Writer WhoWroteError → ℕ
code_by (Ok w) = code_of w
code_by (Err r) = 0

-- whether n numbers are filled for so many bytes
abbrev pub filled_in : ℕ → ℕ → Result Layout ElfError → Result (Unit {0}) ElfError
filled_in len n (Err r) = Err r
filled_in len n (Ok l) = Err BufferShort if ltb n len else Ok tt

-- WHAT THE NUMBERS TELL, n of them: at b stands the number of who wrote that byte, and only zeros where n is too small
pub record Filling (file : Shared) (numbers : Lent) (wrote : ℕ → Result Writer WhoWroteError) (filled r : Result (Unit {0}) ElfError) : Type 0 where
  pub answers : r ≡ filled
  pub length_as : length numbers.exit.now ≡ length numbers.entry.now
  pub tells : (b : ℕ) → get_or numbers.exit.now b 0 ≡ (0 if ltb (length numbers.entry.now) (length file.entry.now) else code_by (wrote b))

-- WHAT `who_wrote_all_by` PROMISES, and `who_wrote_all`
abbrev pub FillsBy : Shared → LoadedText → Lent → Result (Unit {0}) ElfError → Type 0
FillsBy file x numbers r =
    Filling file numbers (asked_by file.entry.now x) (filled_in (length file.entry.now) (length numbers.entry.now) (text_of file.entry.now x)) r

abbrev pub filled_of : List ℕ → ℕ → Result Accepted ElfError → Result (Unit {0}) ElfError
filled_of file n (Err r) = Err r
filled_of file n (Ok a) = filled_in (length file) n (text_of file (text_loaded a))

abbrev pub Fills : Shared → Result Accepted ElfError → Lent → Result (Unit {0}) ElfError → Type 0
Fills file answer numbers r = Filling file numbers (asked file.entry.now answer) (filled_of file.entry.now (length numbers.entry.now) answer) r

-- ---- the steps

abbrev pub OnlyZeros : List ℕ → Type 0
OnlyZeros s = (b : ℕ) → ◌≡◌ {A = ℕ} (get_or s b 0) 0

-- `code` stands at each place of which P holds, and all else is as it was
pub record Marked (P : ℕ → Bool) (code : ℕ) (s s' : List ℕ) : Type 0 where
  pub length_as : length s' ≡ length s
  pub at : (b : ℕ) → get_or s' b 0 ≡ (code if P b && ltb b (length s) else get_or s b 0)

abbrev pub Marks : (ℕ → Bool) → ℕ → Lent → Type 0
Marks P code numbers = Marked P code numbers.entry.now numbers.exit.now

-- the numbers are those of these writers
pub record Holds (w : ℕ → Writer) (s s' : List ℕ) : Type 0 where
  pub length_as : length s' ≡ length s
  pub at : (b : ℕ) → get_or s' b 0 ≡ (code_of (w b) if ltb b (length s) else 0)

abbrev pub HoldsCalls : List ℕ → LoadedText → Lent → Type 0
HoldsCalls file t numbers = Holds (call_writer file t) numbers.entry.now numbers.exit.now

abbrev pub HoldsAll : List ℕ → Layout → LoadedText → Lent → Type 0
HoldsAll file l t numbers = Holds (by_names file l t) numbers.entry.now numbers.exit.now
