-- What `load_who_wrote` promises.
use Rattle.std.specs.Prelude.{ℕ, ◌≡◌, List, length, get_or, Result, Ok}
use Rattle.program.specs.Table.{Slices, Lent, Shared, capacity}
use Rattle.loader.specs.declared.validate.Config.{Config}
use Rattle.loader.specs.Loads.{Loads}
use Rattle.loader.specs.declared.answer.LoadAnd.{LoadAnd}
use Rattle.writers.specs.declared.Writer.{Writer}
use Rattle.writers.specs.declared.Writer.TheVariants.{File}
use Rattle.writers.specs.declared.error.WhoWroteError.{WhoWroteError}
use Rattle.writers.specs.Writers.{wrote_of}

-- all that `load` promises, whatever the offset is, and who wrote the byte. The table holds t at the call, and t' on return
pub record LoadsAndTells (file : Shared) (builtins : List ℕ) (c : Config) (image ro : Lent) (t t' : Slices) (offset : ℕ) (r : LoadAnd (Result Writer WhoWroteError)) : Type 0 where
  pub loads : Loads file builtins c image ro t t' r.load
  pub tells : r.asked ≡ wrote_of file.entry.now builtins c (length image.entry.now) (length ro.entry.now) (capacity t) offset
  -- a byte that nothing wrote is the file's
  pub kept : r.asked ≡ Ok File → get_or image.exit.now offset 0 ≡ get_or file.entry.now offset 0
