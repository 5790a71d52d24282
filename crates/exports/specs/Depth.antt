-- How deep a profile calls, in words.
use Rattle.std.specs.Prelude.{ℕ, ◌≡◌, List, [], ◌∷◌, length, eqb, Result, Ok, Err}
use Rattle.ebpf.specs.Choice.{◌if◌else◌}
use Rattle.elf_parser.specs.Errors.{valued}
use Rattle.program.specs.Table.{Slices, Lent, Shared, table_before, table_after, capacity}
use Rattle.loader.specs.declared.error.ElfError.{ElfError}
use Rattle.loader.specs.declared.answer.Accepted.{Accepted}
use Rattle.loader.specs.declared.answer.LoadAnd.{LoadAnd}
use Rattle.loader.specs.declared.validate.Config.{Config}
use Rattle.loader.specs.Errors as load
use Rattle.loader.specs.Load.{load_of_lent, answer_of}
use Rattle.loader.specs.Settings.{config_of}
use Rattle.call_depth.specs.declared.error.CallDepthError.{CallDepthError}
use Rattle.call_depth.specs.Errors as depth
use Rattle.call_depth.specs.Asked.{CallDepth, depth_asked}
use Rattle.call_depth.specs.Meaning.{MeansAsked}
use Rattle.call_depth.specs.Loads.{LoadsAndMeasures}
use Rattle.exports.specs.declared.answers.Answer.{Answer}
use Rattle.exports.specs.Answers.{reported, accepted, loaded_with, Gives}
use Rattle.exports.specs.Told.{refusal_in, refused_in, accepted_told}

-- the chain; or 50, 51 or another refusal
abbrev pub depth_answer : CallDepth → Answer
depth_answer (Ok chain) = accepted (chain ∷ [])
depth_answer (Err e) = reported (depth.report_of e)

-- ---- by the words of a load's answer, and the image and the table that it left

-- how deep the profile of the load that the words tell calls, with so many numbers of `work`
abbrev pub depth_told : ℕ → List ℕ → Slices → List ℕ → ℕ → CallDepth
depth_told work image t loaded limit = depth_asked work (capacity t) image t.keys t.indices (Ok (accepted_told loaded)) limit

-- HOW DEEP THE PROFILE CALLS
abbrev pub call_depth_answer : ℕ → List ℕ → Slices → List ℕ → ℕ → Answer
call_depth_answer work image t loaded limit = depth_answer (depth_told work image t loaded limit) if eqb (refusal_in loaded) 0 else refused_in loaded

-- the answer, and what it means of the calls in the image
pub record Measured (work : Lent) (image : Shared) (t : Slices) (loaded : List ℕ) (limit : ℕ) (a : Answer) : Type 0 where
  pub answers : a ≡ call_depth_answer (length work.entry.now) image.entry.now t loaded limit
  pub means : refusal_in loaded ≡ 0 → MeansAsked (Ok (accepted_told loaded)) image.entry.now t limit (depth_told (length work.entry.now) image.entry.now t loaded limit)

-- WHAT `sbpf_call_depth` PROMISES. What `work` holds afterwards is left free
pub record GivesDepth (work : Lent) (image : Shared) (t : Slices) (loaded : List ℕ) (limit : ℕ) (answer : Lent) (r : ℕ) : Type 0 where
  pub gives : Gives (call_depth_answer (length work.entry.now) image.entry.now t loaded limit) answer r
  pub means : refusal_in loaded ≡ 0 → MeansAsked (Ok (accepted_told loaded)) image.entry.now t limit (depth_told (length work.entry.now) image.entry.now t loaded limit)

-- ---- with a load: the load's words as they are, and the chain behind them; 41, 50 and 51 keep the load's

abbrev pub accepted_depth : Accepted → CallDepth → Answer
accepted_depth a (Ok chain) = loaded_with (valued 0 0) a chain 0
accepted_depth a (Err e) = loaded_with (depth.report_of e) a 0 0

abbrev pub load_depth_answer : Result Accepted ElfError → CallDepth → Answer
load_depth_answer (Ok a) x = accepted_depth a x
load_depth_answer (Err e) x = reported (load.report_of e)

-- what comes of the load, in a table that holds t, and how deep the profile calls, by the image and the table t' that the load leaves
abbrev pub load_depth_of : Shared → List ℕ → Config → Lent → Lent → Slices → Slices → ℕ → ℕ → LoadAnd (Result ℕ CallDepthError)
load_depth_of file builtins c image ro t t' work limit = record {
  load = answer_of (load_of_lent file builtins c image ro t);
  asked = depth_asked work (capacity t) image.exit.now t'.keys t'.indices (answer_of (load_of_lent file builtins c image ro t)) limit;
}

-- WHAT `sbpf_load_call_depth` PROMISES
pub record GivesLoadDepth (file builtins : Shared) (settings : ℕ) (image ro keys indices kinds starts lengths work : Lent) (limit : ℕ) (answer : Lent) (r : ℕ) : Type 0 where
  pub loads :
      let before = table_before keys indices kinds starts lengths in
      let after = table_after keys indices kinds starts lengths in
      LoadsAndMeasures file builtins.entry.now (config_of settings) image ro before after work limit (load_depth_of file builtins.entry.now (config_of settings) image ro before after (length work.entry.now) limit)
  pub gives :
      let before = table_before keys indices kinds starts lengths in
      let x : LoadAnd (Result ℕ CallDepthError) = load_depth_of file builtins.entry.now (config_of settings) image ro before (table_after keys indices kinds starts lengths) (length work.entry.now) limit in
      Gives (load_depth_answer x.load x.asked) answer r
