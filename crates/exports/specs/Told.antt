-- What the words of a load's answer tell, as `load_answer` lays them out. Words that are missing count as 0.
use Rattle.std.specs.Prelude.{ℕ, ◌%◌, ◌^◌, Bool, List, [], ◌∷◌, get_or, eqb, ltb, not, Result, Ok, Err}
use Rattle.ebpf.specs.Choice.{◌if◌else◌}
use Rattle.elf_parser.specs.declared.error.Report.{Report}
use Rattle.loader.specs.declared.answer.Accepted.{Accepted}
use Rattle.exports.specs.declared.answers.Answer.{Answer}
use Rattle.exports.specs.Answers.{answer_with}

-- the number of the refusal that it is, or 0; and that refusal again, with its value and its name
abbrev pub refusal_in : List ℕ → ℕ
refusal_in loaded = get_or loaded 0 0 % 2 ^ 32

abbrev pub report_in : List ℕ → Report
report_in loaded = record { number = refusal_in loaded; value = get_or loaded 1 0; start = get_or loaded 2 0; length = get_or loaded 3 0 }

abbrev pub refused_in : List ℕ → Answer
refused_in loaded = answer_with (refusal_in loaded) (get_or loaded 1 0 ∷ get_or loaded 2 0 ∷ get_or loaded 3 0 ∷ [])

-- whether the version is 2
abbrev pub version2_in : List ℕ → Bool
version2_in loaded = eqb (get_or loaded 4 0) 2

-- the version; a word too large for its number is read as 0, so that it is 2 where the word is 2, and nowhere else (`version_2_told` in proofs/Told.antt)
unfoldable pub version_in : List ℕ → ℕ
version_in loaded = get_or loaded 4 0 if ltb (get_or loaded 4 0) (2 ^ 32) else 0

-- the accepted load whose answer is in these words (`told_again` in proofs/Told.antt); of the entry the lower 32 bits
abbrev pub accepted_told : List ℕ → Accepted
accepted_told loaded = record {
  version = version_in loaded;
  entry = get_or loaded 5 0 % 2 ^ 32;
  used = get_or loaded 6 0;
  moves = get_or loaded 7 0;
  ro_copied = not (eqb (get_or loaded 8 0) 0);
  ro_offset = get_or loaded 9 0;
  ro_start = get_or loaded 10 0;
  ro_length = get_or loaded 11 0;
  text_addr = get_or loaded 12 0;
  text = record { start = get_or loaded 13 0; length = get_or loaded 14 0 };
}

-- the accepted load, or the refusal
abbrev pub told : List ℕ → Result Accepted Report
told loaded = Ok (accepted_told loaded) if eqb (refusal_in loaded) 0 else Err (report_in loaded)
