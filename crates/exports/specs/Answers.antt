-- What the exported functions answer: a number, 0 or why there is nothing, and 23 words behind it.
use Rattle.program.specs.declared.Row.{Row}
use Rattle.std.specs.Prelude.{ℕ, zero, suc, unwrap_or, ◌-◌, ◌^◌, ◌≡◌, List, [], ◌∷◌, length, Option, Some, None, Result, Ok, Err}
use Rattle.std.specs.Int.{from_bool}
use Rattle.elf_parser.specs.declared.error.ElfParserError.{ElfParserError}
use Rattle.elf_parser.specs.declared.error.Report.{Report}
use Rattle.elf_parser.specs.declared.layout.Layout.{Layout}
use Rattle.elf_parser.specs.Errors.{valued, report_of}
use Rattle.elf_parser.specs.Parse.{parsed}
use Rattle.hash_table.specs.declared.BadHashTable.{BadHashTable}
use Rattle.program.specs.Table.{Lent, Shared, table_before, table_after}
use Rattle.loader.specs.declared.error.ElfError.{ElfError}
use Rattle.loader.specs.declared.answer.Accepted.{Accepted}
use Rattle.loader.specs.Errors as load
use Rattle.loader.specs.Load.{load_of_lent, answer_of}
use Rattle.loader.specs.Loads.{Loads}
use Rattle.loader.specs.Settings.{config_of}
use Rattle.exports.specs.declared.answers.Answer.{Answer}
use Rattle.elf_parser.specs.declared.records.Entries.{Entries}
use Rattle.elf_parser.specs.declared.parts.Place.{Place}

-- the words of an answer, all 24
abbrev pub words_of : Answer → List ℕ
words_of a = a.number ∷ a.words

-- what a lent slice of n words holds after an answer: its words, as many as there is room for, and zeros behind them
unfoldable pub written : ℕ → List ℕ → List ℕ
written zero ws = []
written (suc n) [] = 0 ∷ written n []
written (suc n) (w ∷ ws) = w ∷ written n ws

-- an answer given: its number is the result r, and a lent slice that held `before` holds its words
pub record Given (a : Answer) (before after : List ℕ) (r : ℕ) : Type 0 where
  pub number : r ≡ a.number
  pub words : after ≡ written (length before) (words_of a)

abbrev pub Gives : Answer → Lent → ℕ → Type 0
Gives a answer r = Given a answer.entry.now answer.exit.now r

-- ---- the answers, with zeros where a word is not used

-- a number and these words, with zeros behind them
abbrev pub answer_with : ℕ → List ℕ → Answer
answer_with n ws = record { number = n; words = written 23 ws }

-- a refusal: its number and value, and the place of the name that it speaks of
abbrev pub reported : Report → Answer
reported r = answer_with r.number (r.value ∷ r.start ∷ r.length ∷ [])

abbrev pub refused : ElfParserError → Answer
refused e = reported (report_of e)

-- nothing is refused: zeros where a refusal has its value and its name, and these words
abbrev pub accepted : List ℕ → Answer
accepted ws = answer_with 0 (0 ∷ 0 ∷ 0 ∷ ws)

-- a layout: its numbers, in the order of `Layout`, 0 for a section header that is not there, but for the relocations that bring an addend, which come last
abbrev pub laid_out : Layout → Answer
laid_out l =
    accepted
    (l.program_headers.offset
    ∷ l.program_headers.count
    ∷ l.section_headers.offset
    ∷ l.section_headers.count
    ∷ unwrap_or l.shstrtab 0
    ∷ unwrap_or l.symtab 0
    ∷ unwrap_or l.strtab 0
    ∷ unwrap_or l.dynstr 0
    ∷ l.dynamic_relocations.offset
    ∷ l.dynamic_relocations.count
    ∷ l.dynamic_symbols.offset
    ∷ l.dynamic_symbols.count
    ∷ l.dynamic_relas.offset
    ∷ l.dynamic_relas.count
    ∷ unwrap_or l.hash_table 0
    ∷ [])

abbrev pub parse_answer : Result Layout ElfParserError → Answer
parse_answer (Ok l) = laid_out l
parse_answer (Err e) = refused e

-- a place: its start and its length
abbrev pub place_words : Place → Answer
place_words p = accepted (p.start ∷ p.length ∷ [])

-- a place in the file
abbrev pub place_answer : Result Place ElfParserError → Answer
place_answer (Ok p) = place_words p
place_answer (Err e) = refused e

-- a table: its offset and its number of entries
abbrev pub table_answer : Result Entries ElfParserError → Answer
table_answer (Ok t) = accepted (t.offset ∷ t.count ∷ [])
table_answer (Err e) = refused e

-- a question to a file that parses; else the refusal of the parse
abbrev pub asked : Result Layout ElfParserError → (Layout → Answer) → Answer
asked (Ok l) question = question l
asked (Err e) question = refused e

-- WHAT A QUESTION TO A FILE GIVES
abbrev pub GivesAsked : Shared → (List ℕ → Layout → Answer) → Lent → ℕ → Type 0
GivesAsked file question answer r = Gives (asked (parsed file.entry.now) (question file.entry.now)) answer r

-- WHAT A QUESTION FOR A PLACE GIVES, by what the question may answer of a layout
abbrev pub GivesPlaceBy : Result Layout ElfParserError → (Layout → Result Place ElfParserError → Type 0) → Lent → ℕ → Type 0
GivesPlaceBy (Ok l) Says answer r = (place : Result Place ElfParserError) × Says l place × Gives (place_answer place) answer r
GivesPlaceBy (Err e) Says answer r = Gives (refused e) answer r

-- a row: 1, its index, and its name's kind, start and length; 0 where there is none
abbrev pub row_answer : Option Row → Answer
row_answer (Some r) = accepted (1 ∷ r.index ∷ r.kind ∷ r.start ∷ r.length ∷ [])
row_answer None = accepted (0 ∷ [])

-- a symbol by its name: 1 and its number, 0 where there is none; 48 where the hash table cannot be used
abbrev pub symbol_answer : Result (Option ℕ) BadHashTable → Answer
symbol_answer (Ok (Some index)) = accepted (1 ∷ index ∷ [])
symbol_answer (Ok None) = accepted (0 ∷ [])
symbol_answer (Err bad) = answer_with 48 (0 ∷ [])

-- the word where there is none: the largest, which is no index and no row's number (`row_told` in proofs/Told.antt)
abbrev pub none_word : ℕ
none_word = 2 ^ 64 - 1

-- an index as a word, or the number of a row
abbrev pub word_or_none : Option ℕ → ℕ
word_or_none (Some n) = n
word_or_none None = none_word

-- ---- a load

-- an accepted load: its numbers, in the order of `Accepted`, with a refusal's before them, all 0 where there is none, and two words behind them
abbrev pub loaded_with : Report → Accepted → ℕ → ℕ → Answer
loaded_with r a last behind =
    answer_with r.number
    (r.value
    ∷ r.start
    ∷ r.length
    ∷ a.version
    ∷ a.entry
    ∷ a.used
    ∷ a.moves
    ∷ from_bool a.ro_copied
    ∷ a.ro_offset
    ∷ a.ro_start
    ∷ a.ro_length
    ∷ a.text_addr
    ∷ a.text.start
    ∷ a.text.length
    ∷ last
    ∷ behind
    ∷ [])

abbrev pub load_answer : Result Accepted ElfError → Answer
load_answer (Ok a) = loaded_with (valued 0 0) a 0 0
load_answer (Err e) = reported (load.report_of e)

-- WHAT `sbpf_load` PROMISES: what `load` promises, with demands 1 and 3, and its answer in words
pub record GivesLoad (file builtins : Shared) (settings : ℕ) (image ro keys indices kinds starts lengths answer : Lent) (r : ℕ) : Type 0 where
  pub loads :
      let before = table_before keys indices kinds starts lengths in
      Loads file builtins.entry.now (config_of settings) image ro before (table_after keys indices kinds starts lengths) (answer_of (load_of_lent file builtins.entry.now (config_of settings) image ro before))
  pub gives : Gives (load_answer (answer_of (load_of_lent file builtins.entry.now (config_of settings) image ro (table_before keys indices kinds starts lengths)))) answer r

-- the text's place
abbrev pub text_answer : Result Place ElfError → Answer
text_answer (Ok p) = place_words p
text_answer (Err e) = reported (load.report_of e)

-- ---- what private contracts cite

-- the first nine words of a row's answer, its number the first; behind them are zeros
abbrev pub nine_words : ℕ → ℕ → ℕ → ℕ → ℕ → List ℕ
nine_words found index kind start size = 0 ∷ 0 ∷ 0 ∷ 0 ∷ found ∷ index ∷ kind ∷ start ∷ size ∷ []
