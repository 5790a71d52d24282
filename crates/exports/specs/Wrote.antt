-- Who wrote a byte, in words.
use Rattle.std.specs.Prelude.{ℕ, ◌≡◌, List, [], ◌∷◌, length, get_or, ltb, eqb, Result, Ok, Err}
use Rattle.ebpf.specs.Choice.{◌if◌else◌}
use Rattle.program.specs.Table.{Slices, Lent, Shared, table_before, table_after, capacity}
use Rattle.elf_parser.specs.Errors.{valued}
use Rattle.loader.specs.declared.error.ElfError.{ElfError}
use Rattle.loader.specs.declared.answer.Accepted.{Accepted}
use Rattle.loader.specs.declared.validate.Config.{Config}
use Rattle.loader.specs.Errors as load
use Rattle.loader.specs.Load.{load_of_lent, answer_of}
use Rattle.loader.specs.declared.answer.LoadAnd.{LoadAnd}
use Rattle.writers.specs.declared.Writer.{Writer}
use Rattle.writers.specs.declared.Writer.TheVariants.{File, Call, Relocation}
use Rattle.writers.specs.declared.error.WhoWroteError.{WhoWroteError}
use Rattle.writers.specs.declared.error.WhoWroteError.TheVariants.{NoSuchIndex, Refused}
use Rattle.writers.specs.Errors as writers
use Rattle.writers.specs.Asked.{text_loaded, text_of, asked_by}
use Rattle.writers.specs.Loads.{LoadsAndTells}
use Rattle.writers.specs.Whole.{code_by, filled_in}
use Rattle.writers.specs.Writers.{wrote_of}
use Rattle.exports.specs.declared.answers.Answer.{Answer}
use Rattle.exports.specs.Answers.{answer_with, reported, accepted, loaded_with, Gives}
use Rattle.loader.specs.Settings.{config_of}
use Rattle.exports.specs.Told.{refusal_in, refused_in, accepted_told}

-- 0 the file, 1 a call, 2 a relocation; and the number of the slot or of the relocation
abbrev pub kind_of : Writer → ℕ
kind_of File = 0
kind_of (Call i) = 1
kind_of (Relocation k) = 2

abbrev pub number_in : Writer → ℕ
number_in File = 0
number_in (Call i) = i
number_in (Relocation k) = k

abbrev pub wrote_answer : Result Writer WhoWroteError → Answer
wrote_answer (Ok w) = accepted (kind_of w ∷ number_in w ∷ [])
wrote_answer (Err e) = reported (writers.report_of e)

-- ---- by the words of a load's answer

abbrev pub wrote_in : List ℕ → List ℕ → ℕ → Result Writer WhoWroteError
wrote_in file loaded b = asked_by file (text_loaded (accepted_told loaded)) b

-- WHO WROTE THE BYTE b
unfoldable pub who_wrote_answer : List ℕ → List ℕ → ℕ → Answer
who_wrote_answer file loaded b = wrote_answer (wrote_in file loaded b) if eqb (refusal_in loaded) 0 else refused_in loaded

abbrev pub filled_answer : Result (Unit {0}) ElfError → Answer
filled_answer (Ok filled) = answer_with 0 (0 ∷ [])
filled_answer (Err e) = reported (load.report_of e)

-- WHO WROTE EACH BYTE, in n numbers: the answer, and the number at b
unfoldable pub all_answer : List ℕ → List ℕ → ℕ → Answer
all_answer file loaded n = filled_answer (filled_in (length file) n (text_of file (text_loaded (accepted_told loaded)))) if eqb (refusal_in loaded) 0 else refused_in loaded

unfoldable pub all_number : List ℕ → List ℕ → ℕ → ℕ → ℕ
all_number file loaded n b = (0 if ltb n (length file) else code_by (wrote_in file loaded b)) if eqb (refusal_in loaded) 0 else 0

-- the numbers, as they are filled
pub record Filling (file loaded : Shared) (numbers : Lent) : Type 0 where
  pub length_as : length numbers.exit.now ≡ length numbers.entry.now
  pub tells : (b : ℕ) → get_or numbers.exit.now b 0 ≡ all_number file.entry.now loaded.entry.now (length numbers.entry.now) b

abbrev pub Numbers : Shared → Shared → Lent → Answer → Type 0
Numbers file loaded numbers a = Filling file loaded numbers × (a ≡ all_answer file.entry.now loaded.entry.now (length numbers.entry.now))

-- WHAT `sbpf_who_wrote_all` PROMISES
pub record GivesNumbers (file loaded : Shared) (numbers answer : Lent) (r : ℕ) : Type 0 where
  pub fills : Filling file loaded numbers
  pub gives : Gives (all_answer file.entry.now loaded.entry.now (length numbers.entry.now)) answer r

-- ---- with a load: the load's words as they are, and behind them the writer's two; 45 keeps the load's

abbrev pub accepted_wrote : Accepted → Result Writer WhoWroteError → Answer
accepted_wrote a (Ok w) = loaded_with (valued 0 0) a (kind_of w) (number_in w)
accepted_wrote a (Err NoSuchIndex) = loaded_with (valued 45 0) a 0 0
accepted_wrote a (Err (Refused e)) = reported (load.report_of e)

abbrev pub load_wrote_answer : Result Accepted ElfError → Result Writer WhoWroteError → Answer
load_wrote_answer (Ok a) wrote = accepted_wrote a wrote
load_wrote_answer (Err e) wrote = reported (load.report_of e)

-- what comes of the load, in a table that holds t, and who wrote the byte
abbrev pub load_wrote_of : Shared → List ℕ → Config → Lent → Lent → Slices → ℕ → LoadAnd (Result Writer WhoWroteError)
load_wrote_of file builtins c image ro t offset = record {
  load = answer_of (load_of_lent file builtins c image ro t);
  asked = wrote_of file.entry.now builtins c (length image.entry.now) (length ro.entry.now) (capacity t) offset;
}

-- WHAT `sbpf_load_who_wrote` PROMISES
pub record GivesLoadWrote (file builtins : Shared) (settings : ℕ) (image ro keys indices kinds starts lengths : Lent) (offset : ℕ) (answer : Lent) (r : ℕ) : Type 0 where
  pub loads :
      let before = table_before keys indices kinds starts lengths in
      LoadsAndTells file builtins.entry.now (config_of settings) image ro before (table_after keys indices kinds starts lengths) offset (load_wrote_of file builtins.entry.now (config_of settings) image ro before offset)
  pub gives :
      let x : LoadAnd (Result Writer WhoWroteError) = load_wrote_of file builtins.entry.now (config_of settings) image ro (table_before keys indices kinds starts lengths) offset in
      Gives (load_wrote_answer x.load x.asked) answer r
