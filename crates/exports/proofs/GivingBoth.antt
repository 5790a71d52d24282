-- A load with the question who wrote a byte, under the settings that its bits stand for. Assumes nothing.
use Prim.Native.Nat.{ℕ}
use mathlib.Core.Path.{◌≡◌, refl, ap, ◌∙◌, subst}
use mathlib.Core.List.{List}
use lib.ListN.{length}
use Rattle.std.specs.Prelude.{Result}
use Rattle.program.specs.Table.{Slices, Lent, Shared, table_before, table_after, capacity}
use Rattle.loader.specs.declared.error.ElfError.{ElfError}
use Rattle.loader.specs.declared.answer.Accepted.{Accepted}
use Rattle.loader.specs.declared.validate.Config.{Config}
use Rattle.loader.specs.Load.{Loading, load_of, answer_of, Loaded}
use Rattle.loader.specs.declared.answer.LoadAnd.{LoadAnd}
use Rattle.writers.specs.declared.Writer.{Writer}
use Rattle.writers.specs.declared.error.WhoWroteError.{WhoWroteError}
use Rattle.writers.specs.Loads.{LoadsAndTells}
use Rattle.writers.specs.Writers.{wrote_of}
use Rattle.exports.specs.declared.answers.Answer.{Answer}
use Rattle.exports.specs.Answers.{Given, Gives}
use Rattle.loader.specs.Settings.{config_of}
use Rattle.exports.specs.Wrote.{load_wrote_answer, GivesLoadWrote}
use Rattle.exports.proofs.Giving.{loads_given}

pub wrote_by : (file builtins : List ℕ) (n m rows : ℕ) (c d : Config) → c ≡ d → (offset : ℕ) (w : Result Writer WhoWroteError) → w ≡ wrote_of file builtins c n m rows offset → w ≡ wrote_of file builtins d n m rows offset
wrote_by file builtins n m rows c d e offset w is = is ∙ ap (λ (k : Config). wrote_of file builtins k n m rows offset) e

module _ (file builtins im ro : List ℕ) (t : Slices) where
  abbrev whole : Config → Loading
  whole c = load_of file builtins c (length im) (length ro) (capacity t)

  pub both_given : {T : Type 0} (tell : Result Accepted ElfError → T → Answer) (c d : Config) (e : c ≡ d) (im' ro' : List ℕ) (t' : Slices) (a : Result Accepted ElfError) → Loaded (whole c) im ro t im' ro' t' a
      → (w v : T)
      → w ≡ v
      → (b : Answer) (before after : List ℕ) (r : ℕ)
      → b ≡ tell a w
      → Given b before after r
      → Given (tell (answer_of (whole d)) v) before after r
  both_given tell c d e im' ro' t' a did w v q b before after r is g =
      subst (λ (y : Answer). Given y before after r)
      (is ∙ ap (λ (x : Result Accepted ElfError). tell x w) (did.answers ∙ ap (λ (k : Config). answer_of (whole k)) e) ∙ ap (tell (answer_of (whole d))) q) g

-- a load's answer and the question's given, with the columns that it left
pub given : (file builtins : Shared) (settings : ℕ) (image ro keys indices kinds starts lengths : Lent) (offset : ℕ) (answer : Lent) (r : ℕ) (c : Config) → c ≡ config_of settings
    → (t : Slices) (a : LoadAnd (Result Writer WhoWroteError)) → LoadsAndTells file builtins.entry.now c image ro (table_before keys indices kinds starts lengths) t offset a
    → t ≡ table_after keys indices kinds starts lengths
    → (b : Answer)
    → b ≡ load_wrote_answer a.load a.asked
    → Gives b answer r
    → GivesLoadWrote file builtins settings image ro keys indices kinds starts lengths offset answer r
given file builtins settings image ro keys indices kinds starts lengths offset answer r c e t a did left b is g =
    let before = table_before keys indices kinds starts lengths in
    let after = table_after keys indices kinds starts lengths in
    let d = config_of settings in
    let here : LoadsAndTells file builtins.entry.now c image ro before after offset a = subst (λ (u : Slices). LoadsAndTells file builtins.entry.now c image ro before u offset a) left did in
    let n = length image.entry.now in
    let m = length ro.entry.now in
    let wrote : a.asked ≡ wrote_of file.entry.now builtins.entry.now d n m (capacity before) offset = wrote_by file.entry.now builtins.entry.now n m (capacity before) c d e offset a.asked here.tells in
    record {
      loads = record {
        loads = loads_given file builtins image ro before after c d e a.load here.loads;
        tells = refl;
        kept = λ h. here.kept (wrote ∙ h);
      };
      gives = both_given file.entry.now builtins.entry.now image.entry.now ro.entry.now before load_wrote_answer c d e image.exit.now ro.exit.now after a.load here.loads.loaded a.asked (wrote_of file.entry.now builtins.entry.now d n m (capacity before) offset) wrote b answer.entry.now answer.exit.now r is g;
    }
