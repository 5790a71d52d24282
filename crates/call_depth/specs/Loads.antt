-- What `load_call_depth` promises.
use Rattle.std.specs.Prelude.{ℕ, ◌≤◌, ◌≡◌, List, length, Result, Ok, Err}
use Rattle.program.specs.Table.{Slices, Lent, Shared, capacity}
use Rattle.loader.specs.declared.error.ElfError.{ElfError}
use Rattle.loader.specs.declared.answer.Accepted.{Accepted}
use Rattle.loader.specs.declared.validate.Config.{Config}
use Rattle.loader.specs.Loads.{Loads}
use Rattle.loader.specs.declared.answer.LoadAnd.{LoadAnd}
use Rattle.call_depth.specs.declared.error.CallDepthError.{CallDepthError}
use Rattle.call_depth.specs.Asked.{CallDepth, limit_of, depth_asked}
use Rattle.call_depth.specs.Meaning.{FunctionCalls, Means}

-- of an accepted load, with a number of `work` for each row
abbrev pub MeansOf : Result Accepted ElfError → List ℕ → Slices → ℕ → ℕ → ℕ → CallDepth → Type 0
MeansOf (Ok a) im t rows work limit x = rows ≤ work → Means (FunctionCalls a im t) a.entry (limit_of limit) x
MeansOf (Err r) im t rows work limit x = Unit {0}

-- all that `load` promises, whatever comes of the question, and how deep the profile calls; the table holds t at the call, and t' on return. What `work`
-- holds afterwards is left free
pub record LoadsAndMeasures (file : Shared) (builtins : List ℕ) (c : Config) (image ro : Lent) (t t' : Slices) (work : Lent) (limit : ℕ) (r : LoadAnd (Result ℕ CallDepthError)) : Type 0 where
  pub loads : Loads file builtins c image ro t t' r.load
  pub measures : r.asked ≡ depth_asked (length work.entry.now) (capacity t) image.exit.now t'.keys t'.indices r.load limit
  -- and what that means, by the calls that stand in the image and find their function in the table
  pub means : MeansOf r.load image.exit.now t' (capacity t) (length work.entry.now) limit r.asked
