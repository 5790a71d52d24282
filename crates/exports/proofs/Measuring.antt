-- How deep a profile calls, given in words: by a load's words, and with a load. Assumes nothing.
use Prim.Native.Nat.{ℕ}
use mathlib.Core.Path.{◌≡◌, refl, ap, ◌∙◌, subst}
use mathlib.Core.List.{List}
use lib.ListN.{length}
use mathlib.Core.Path.{sym}
use mathlib.Core.Bool.{true≢false}
use lib.Dec.{eqb}
use Rattle.std.specs.Prelude.{Result, Ok, Err}
use Rattle.ebpf.specs.Choice.{◌if◌else◌}
use Rattle.elf_parser.specs.declared.error.Report.{Report}
use Rattle.program.proofs.Cases.{by_test, zero_one}
use Rattle.program.specs.Table.{Slices, Lent, Shared, table_before, table_after, capacity}
use Rattle.loader.specs.declared.error.ElfError.{ElfError}
use Rattle.loader.specs.declared.answer.Accepted.{Accepted}
use Rattle.loader.specs.declared.answer.LoadAnd.{LoadAnd}
use Rattle.loader.specs.declared.validate.Config.{Config}
use Rattle.loader.specs.Load.{answer_of, load_of_lent}
use Rattle.loader.specs.Settings.{config_of}
use Rattle.call_depth.specs.declared.error.CallDepthError.{CallDepthError}
use Rattle.call_depth.specs.Asked.{CallDepth, depth_asked}
use Rattle.call_depth.specs.Meaning.{MeansAsked}
use Rattle.call_depth.specs.Loads.{LoadsAndMeasures, MeansOf}
use Rattle.exports.specs.declared.answers.Answer.{Answer}
use Rattle.exports.specs.Answers.{reported, Gives}
use Rattle.exports.specs.Told.{refusal_in, report_in, accepted_told, told}
use Rattle.exports.specs.Depth.{depth_answer, Measured, GivesDepth, load_depth_answer, load_depth_of, GivesLoadDepth}
use Rattle.exports.proofs.Giving.{loads_given}
use Rattle.exports.proofs.GivingBoth.{both_given}

-- by the words of a load's answer, a refusal and an accepted load
module _ (work : Lent) (image : Shared) (t : Slices) (loaded : List ℕ) (limit : ℕ) (a : Answer) where
  pub measured_err : (r : Report) → told loaded ≡ Err r → a ≡ reported r → Measured work image t loaded limit a
  unfolding ◌if◌else◌
  measured_err r e is = by_test (eqb (refusal_in loaded) 0) (λ b. (Ok (accepted_told loaded) if b else Err (report_in loaded)) ≡ Err r → Measured work image t loaded limit a)
      (λ h k. absurd (zero_one (cc)))
      (λ h k. let q : report_in loaded ≡ r = cc in record {
        answers = is ∙ ap reported (sym q) ∙ rw h refl;
        means = λ z. absurd (true≢false (sym (rw z refl) ∙ h));
      })
      e

  pub measured_ok : (b : Accepted) → told loaded ≡ Ok b
      → (x : CallDepth)
      → x ≡ depth_asked (length work.entry.now) (capacity t) image.entry.now t.keys t.indices (Ok b) limit
      → MeansAsked (Ok b) image.entry.now t limit x
      → a ≡ depth_answer x
      → Measured work image t loaded limit a
  unfolding ◌if◌else◌
  measured_ok b e x is m given = by_test (eqb (refusal_in loaded) 0) (λ c. (Ok (accepted_told loaded) if c else Err (report_in loaded)) ≡ Ok b → Measured work image t loaded limit a)
      (λ h k. let q : accepted_told loaded ≡ b = cc in record {
        answers = given ∙ ap depth_answer (is ∙ ap (λ (y : Accepted). depth_asked (length work.entry.now) (capacity t) image.entry.now t.keys t.indices (Ok y) limit) (sym q)) ∙ rw h refl;
        means = λ z. subst (λ (y : Accepted). MeansAsked (Ok y) image.entry.now t limit (depth_asked (length work.entry.now) (capacity t) image.entry.now t.keys t.indices (Ok y) limit)) (sym q) (subst (λ (y : CallDepth). MeansAsked (Ok b) image.entry.now t limit y) is m);
      })
      (λ h k. absurd (zero_one (cc)))
      e

-- given
pub measured_given : (work : Lent) (image : Shared) (t : Slices) (loaded : List ℕ) (limit : ℕ) (answer : Lent) (r : ℕ) (a : Answer)
    → Measured work image t loaded limit a
    → Gives a answer r
    → GivesDepth work image t loaded limit answer r
measured_given work image t loaded limit answer r a m g = record { gives = subst (λ (y : Answer). Gives y answer r) m.answers g; means = m.means }

-- with a load
pub given : (file builtins : Shared) (settings : ℕ) (image ro keys indices kinds starts lengths work : Lent) (limit : ℕ) (answer : Lent) (r : ℕ) (c : Config) → c ≡ config_of settings
    → (t : Slices) (a : LoadAnd (Result ℕ CallDepthError)) → LoadsAndMeasures file builtins.entry.now c image ro (table_before keys indices kinds starts lengths) t work limit a
    → t ≡ table_after keys indices kinds starts lengths
    → (b : Answer)
    → b ≡ load_depth_answer a.load a.asked
    → Gives b answer r
    → GivesLoadDepth file builtins settings image ro keys indices kinds starts lengths work limit answer r
given file builtins settings image ro keys indices kinds starts lengths work limit answer r c e t a did left b is g =
    let before = table_before keys indices kinds starts lengths in
    let after = table_after keys indices kinds starts lengths in
    let d = config_of settings in
    let here : LoadsAndMeasures file builtins.entry.now c image ro before after work limit a = subst (λ (u : Slices). LoadsAndMeasures file builtins.entry.now c image ro before u work limit a) left did in
    let answers : a.load ≡ answer_of (load_of_lent file builtins.entry.now d image ro before) = here.loads.loaded.answers ∙ ap (λ (k : Config). answer_of (load_of_lent file builtins.entry.now k image ro before)) e in
    let asked : a.asked ≡ (load_depth_of file builtins.entry.now d image ro before after (length work.entry.now) limit).asked =
    here.measures ∙ ap (λ (x : Result Accepted ElfError). depth_asked (length work.entry.now) (capacity before) image.exit.now after.keys after.indices x limit) answers in
    record {
      loads = record {
        loads = loads_given file builtins image ro before after c d e a.load here.loads;
        measures = refl;
        means = subst (λ (x : Result ℕ CallDepthError). MeansOf (answer_of (load_of_lent file builtins.entry.now d image ro before)) image.exit.now after (capacity before) (length work.entry.now) limit x) asked
            (subst (λ (x : Result Accepted ElfError). MeansOf x image.exit.now after (capacity before) (length work.entry.now) limit a.asked) answers here.means);
      };
      gives = both_given file.entry.now builtins.entry.now image.entry.now ro.entry.now before load_depth_answer c d e image.exit.now ro.exit.now after a.load here.loads.loaded a.asked (load_depth_of file builtins.entry.now d image ro before after (length work.entry.now) limit).asked asked b answer.entry.now answer.exit.now r is g;
    }
