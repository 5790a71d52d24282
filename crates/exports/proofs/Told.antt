-- What words tell: the word where there is none is no row's number, and the words of a load's answer tell that load and ask what the answer itself asks.
-- Assumes nothing.
use Rattle.std.specs.Prelude.{Result, Ok, Err}
use Rattle.loader.specs.declared.error.ElfError.{ElfError}
use Rattle.loader.specs.declared.answer.Accepted.{Accepted}
use mathlib.Core.Path.{◌≡◌, refl, ap}
use mathlib.Core.Bool.{Bool, true, false, not}
use lib.Dec.{eqb, ltb}
use Prim.Native.Nat.{ℕ, ◌-◌, ◌%◌, ◌≤◌, ◌<◌, ◌^◌}
use mathlib.Core.List.{List}
use native.Mathlib.Omega.{arith}
use lib.ListN.{length, get_or}
use borrow.Author.Tests.{ne_eqb, lt-ltb}
use Rattle.std.specs.Prelude.{Option, Some, None}
use Rattle.std.specs.Int.{from_bool}
use Rattle.elf_parser.specs.declared.error.Report.{Report}
use Rattle.elf_parser.specs.Errors.{valued}
use Rattle.ebpf.specs.Choice.{◌if◌else◌}
use Rattle.program.specs.Table.{Slices, capacity, row_ascending_in}
use Rattle.program.proofs.Steps.{row_below}
use Rattle.program.proofs.Cases.{by_lt, zero_one}
use Rattle.loader.specs.Errors as load
use Rattle.loader.specs.declared.read_only.Placing.TheVariants.{Borrowed, Owned}
use Rattle.loader.specs.declared.read_only.Placing.{Placing}
use Rattle.loader.specs.declared.validate.Config.{Config}
use Rattle.loader.specs.declared.validate.Job.{Job}
use Rattle.loader.specs.Load.{accepted_as, answer_by, on_prepared, load_of, answer_of}
use Rattle.loader.specs.Validate.{prepared}
use Rattle.loader.proofs.Answered.{by_load}
use Rattle.loader.proofs.Readied.{readied}
use Rattle.writers.specs.Asked.{asked_by, asked}
use Rattle.call_depth.specs.Asked.{depth_by, depth_asked}
use Rattle.exports.specs.Answers.{none_word, word_or_none, written, words_of, loaded_with, load_answer}
use Rattle.exports.specs.Names.{names, names_from_45, bytes, name_in, refusal_name}
use Rattle.exports.specs.Wrote.{wrote_answer, who_wrote_answer}
use Rattle.exports.specs.Told.{version2_in, version_in, accepted_told}
use Rattle.exports.specs.Depth.{depth_answer, call_depth_answer}
use Rattle.exports.proofs.Named.{past, no_name, load_named}

number_told : (f : Option ℕ) (used : ℕ) → used < 2 ^ 64 → ((i : ℕ) → f ≡ Some i → i < used) → word_or_none f ≡ none_word → f ≡ None
number_told (Some i) used fits below e = absurd (let l = below i refl in omega arith)
number_told None used fits below e = refl

pub row_told : (keys : List ℕ) (used k : ℕ) → used < 2 ^ 64 → word_or_none (row_ascending_in keys used k) ≡ none_word → row_ascending_in keys used k ≡ None
row_told keys used k fits = number_told (row_ascending_in keys used k) used fits (λ i e. omega (arith, row_below keys used k i e))

-- a number that has a name is not 0, and small
number_small : (n : ℕ) → 0 < length (refusal_name n) → n < 52
unfolding refusal_name names names_from_45 past
number_small n h = by_lt n 52 (λ (x : Bool). n < 52) (λ l. l) (λ l. absurd (let e = no_name names n l in let k : length (refusal_name n) ≡ 0 = ap length e in omega arith))

number_some : (n : ℕ) → 0 < length (refusal_name n) → n ≡ 0 → ⊥
unfolding refusal_name names names_from_45 name_in bytes ◌if◌else◌
number_some n h e = let k : length (refusal_name 0) ≡ 0 = refl in omega (arith, rw e at h)

-- a version that has room is told as it is, and of every word whether it is 2
version_told : (n : ℕ) → n < 2 ^ 32 → (n if ltb n (2 ^ 32) else 0) ≡ n
unfolding ◌if◌else◌
version_told n h = rw (lt-ltb n (2 ^ 32) h) refl

is_2_told : (n : ℕ) → eqb (n if ltb n (2 ^ 32) else 0) 2 ≡ eqb n 2
unfolding ◌if◌else◌
is_2_told n = by_lt n (2 ^ 32) (λ (x : Bool). eqb (n if x else 0) 2 ≡ eqb n 2) (λ l. refl) (λ l. rw (ne_eqb n 2 (λ e. omega (arith, e))) refl)

-- VERSION 2 IS TOLD EXACTLY WHERE THE WORD IS 2
pub version_2_told : (loaded : List ℕ) → eqb (version_in loaded) 2 ≡ version2_in loaded
unfolding version_in
version_2_told loaded = is_2_told (get_or loaded 4 0)

copied_told : (copied : Bool) → not (eqb (from_bool copied) 0) ≡ copied
copied_told true = refl
copied_told false = refl

version_small : (version2 : Bool) → (2 if version2 else 1) < 2 ^ 32
unfolding ◌if◌else◌
version_small true = omega arith
version_small false = omega arith

-- the words of any answer tell it, where its version and its entry have room
pub any_told_again : (r : Report) (a : Accepted) (last behind : ℕ) → a.version < 2 ^ 32 → a.entry < 2 ^ 32 → accepted_told (words_of (loaded_with r a last behind)) ≡ a
unfolding written version_in
any_told_again r a last behind v h =
    let small : a.entry % 2 ^ 32 ≡ a.entry = omega arith in
    λ x. record {
      version = version_told a.version v x;
      entry = small x;
      used = a.used;
      moves = a.moves;
      ro_copied = copied_told a.ro_copied x;
      ro_offset = a.ro_offset;
      ro_start = a.ro_start;
      ro_length = a.ro_length;
      text_addr = a.text_addr;
      text = a.text;
    }

-- an answer of either version
abbrev pub in_version : Bool → Accepted → Accepted
in_version version2 a = record {
  version = 2 if version2 else 1;
  entry = a.entry;
  used = a.used;
  moves = a.moves;
  ro_copied = a.ro_copied;
  ro_offset = a.ro_offset;
  ro_start = a.ro_start;
  ro_length = a.ro_length;
  text_addr = a.text_addr;
  text = a.text;
}

-- THE WORDS OF AN ACCEPTED LOAD TELL THAT LOAD, whatever refusal and whatever words stand around them
pub told_again : (r : Report) (version2 : Bool) (a : Accepted) (last behind : ℕ) → a.entry < 2 ^ 32 → accepted_told (words_of (loaded_with r (in_version version2 a) last behind)) ≡ in_version version2 a
told_again r version2 a last behind h = any_told_again r (in_version version2 a) last behind (version_small version2) h

-- what a load answers has room in the words
answer_small : (j : Job) (p : Result Placing ElfError) (used moves : ℕ) (a : Accepted) → j.e_entry - j.sh_addr ≤ 2 ^ 24 → answer_by j p used moves ≡ Ok a → (a.version < 2 ^ 32) × (a.entry < 2 ^ 32)
answer_small j (Ok (Borrowed offset start k)) used moves a h e = let q : accepted_as j false offset start k used moves ≡ a = cc in rw (← q) (version_small j.version2, omega arith)
answer_small j (Ok (Owned offset lowest k)) used moves a h e = let q : accepted_as j true offset 0 k used moves ≡ a = cc in rw (← q) (version_small j.version2, omega arith)
answer_small j (Err r) used moves a h e = absurd (zero_one (cc))

-- SO THE WORDS OF A LOAD'S OWN ANSWER TELL IT, whatever stands around them
pub load_told_again : (file builtins : List ℕ) (c : Config) (n m rows : ℕ) (r : Report) (a : Accepted) (last behind : ℕ) → answer_of (load_of file builtins c n m rows) ≡ Ok a
    → accepted_told (words_of (loaded_with r a last behind)) ≡ a
unfolding load_of
load_told_again file builtins c n m rows r a last behind e = by_prepared (prepared file builtins c n m) refl e
  where
    by_prepared : (p : Result Job ElfError) → prepared file builtins c n m ≡ p → answer_of (on_prepared file builtins m rows p) ≡ Ok a → accepted_told (words_of (loaded_with r a last behind)) ≡ a
    by_prepared (Err q) p h = absurd (zero_one (cc))
    by_prepared (Ok j) q h =
        let w = by_load file builtins c n m rows j a q e in
        let s = answer_small j j.placing (length w.rows) w.moves a (readied file builtins c n m j q).0.entry w.answers in
        any_told_again r a last behind s.0 s.1

pub loaded_again : (file builtins : List ℕ) (c : Config) (n m rows : ℕ) (a : Accepted) → answer_of (load_of file builtins c n m rows) ≡ Ok a → accepted_told (words_of (load_answer (Ok a))) ≡ a
loaded_again file builtins c n m rows a e = load_told_again file builtins c n m rows (valued 0 0) a 0 0 e

-- THE WORDS OF A LOAD'S ANSWER, all 24, ask who wrote a byte as the answer does
pub wrote_told : (file : List ℕ) (a : Result Accepted ElfError) (b : ℕ) → who_wrote_answer file (words_of (load_answer a)) b ≡ wrote_answer (asked file a b)
unfolding who_wrote_answer written version_in ◌if◌else◌
wrote_told file (Ok a) b = ap (λ (v : Bool). wrote_answer (asked_by file (record { version2 = v; place = a.text }) b)) (is_2_told a.version)
wrote_told file (Err e) b =
    let n = (load.report_of e).number in
    let small = number_small n (load_named e) in
    let k : n % 2 ^ 32 ≡ n = omega arith in
    rw (k, ne_eqb n 0 (number_some n (load_named e))) refl

-- AND HOW DEEP THE PROFILE CALLS, as the answer does
abbrev pub EntrySmall : Result Accepted ElfError → Type 0
EntrySmall (Ok a) = a.entry < 2 ^ 32
EntrySmall (Err e) = Unit {0}

-- of an answer's version the question asks only whether it is 2
depth_as : (work rows : ℕ) (image keys indices : List ℕ) (limit : ℕ) (a b : Accepted) → eqb a.version 2 ≡ eqb b.version 2 → a.entry ≡ b.entry → a.used ≡ b.used → a.text ≡ b.text
    → depth_by work rows image keys indices a limit ≡ depth_by work rows image keys indices b limit
unfolding depth_by
depth_as work rows image keys indices limit a b v e u t = rw (v, e, u, t) refl

pub depth_told_by : (work : ℕ) (image : List ℕ) (t : Slices) (limit : ℕ) (a : Result Accepted ElfError) → EntrySmall a
    → call_depth_answer work image t (words_of (load_answer a)) limit ≡ depth_answer (depth_asked work (capacity t) image t.keys t.indices a limit)
unfolding written version_in ◌if◌else◌
depth_told_by work image t limit (Ok a) h =
    let small : a.entry % 2 ^ 32 ≡ a.entry = omega arith in
    ap depth_answer (depth_as work (capacity t) image t.keys t.indices limit (accepted_told (words_of (load_answer (Ok a)))) a (is_2_told a.version) small refl refl)
depth_told_by work image t limit (Err e) h =
    let n = (load.report_of e).number in
    let small = number_small n (load_named e) in
    let k : n % 2 ^ 32 ≡ n = omega arith in
    rw (k, ne_eqb n 0 (number_some n (load_named e))) refl
