-- The question about a load already made: its answer and the file. On every input, an answer too that no load of this file gave.
use Rattle.std.specs.Prelude.{ℕ, ◌+◌, ◌*◌, ◌≤◌, ◌^◌, ◌&&◌, List, length, eqb, ltb, leb, Result, Ok, Err}
use Rattle.ebpf.specs.Choice.{◌if◌else◌}
use Rattle.elf_parser.specs.declared.error.ElfParserError.TheVariants.{InvalidProgramHeader}
use Rattle.elf_parser.specs.declared.layout.Layout.{Layout}
use Rattle.elf_parser.specs.Parse.{parsed}
use Rattle.loader.specs.declared.error.ElfError.{ElfError}
use Rattle.loader.specs.declared.answer.Accepted.{Accepted}
use Rattle.loader.specs.declared.error.ElfError.TheVariants.{FailedToParse, FileTooLong, ValueOutOfBounds}
use Rattle.loader.specs.Errors.{from_parser}
use Rattle.writers.specs.declared.Writer.{Writer}
use Rattle.writers.specs.declared.error.WhoWroteError.{WhoWroteError}
use Rattle.writers.specs.declared.error.WhoWroteError.TheVariants.{NoSuchIndex, Refused}
use Rattle.writers.specs.declared.text.LoadedText.{LoadedText}
use Rattle.writers.specs.Named.{by_names}
use Rattle.elf_parser.specs.declared.error.ElfParserError.{ElfParserError}

-- what a load's answer says of the text
abbrev pub text_loaded : Accepted → LoadedText
text_loaded a = record { version2 = eqb a.version 2; place = a.text }

-- version 2 has at most nine program headers
unfoldable pub text_in : Layout → LoadedText → Result Layout ElfError
text_in l x =
    Err (FailedToParse InvalidProgramHeader) if x.version2 && leb 10 l.program_headers.count else
    Ok l

abbrev pub text_by : Result Layout ElfParserError → LoadedText → Result Layout ElfError
text_by (Err e) x = Err (from_parser e)
text_by (Ok l) x = text_in l x

-- the layout of the file, by the version, and the text's place and length in the file; refused where no load of this file can have given these: the file is too long, the text
-- is not in it, or it can't be read
unfoldable pub text_of : List ℕ → LoadedText → Result Layout ElfError
text_of file x =
    Err FileTooLong if ltb 0x100_0000 (length file) else
    Err ValueOutOfBounds if ltb (length file) (x.place.start + x.place.length) else
    text_by (parsed file) x

-- an offset past the file's end is no index of a byte
abbrev pub asked_in : List ℕ → LoadedText → ℕ → Result Layout ElfError → Result Writer WhoWroteError
asked_in file x b (Err r) = Err (Refused r)
asked_in file x b (Ok l) = Ok (by_names file l x b) if ltb b (length file) else Err NoSuchIndex

abbrev pub asked_by : List ℕ → LoadedText → ℕ → Result Writer WhoWroteError
asked_by file x b = asked_in file x b (text_of file x)

-- WHO WROTE THE BYTE b, by a load's answer
abbrev pub asked : List ℕ → Result Accepted ElfError → ℕ → Result Writer WhoWroteError
asked file (Err r) b = Err (Refused r)
asked file (Ok a) b = asked_by file (text_loaded a) b

-- what the functions behind `text_of` may count on
pub record Askable (file : List ℕ) (l : Layout) (x : LoadedText) : Type 0 where
  pub short : length file ≤ 2 ^ 24
  pub text : x.place.start + x.place.length ≤ length file
  pub relocations : 16 * l.dynamic_relocations.count ≤ length file
  pub relas : 24 * l.dynamic_relas.count ≤ length file
