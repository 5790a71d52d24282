-- What `load` promises.
use Rattle.std.specs.Prelude.{ℕ, List, length, Result, Ok, Err}
use Rattle.program.specs.Table.{Slices, Lent, Shared, Ready}
use Rattle.loader.specs.declared.error.ElfError.{ElfError}
use Rattle.loader.specs.declared.answer.Accepted.{Accepted}
use Rattle.loader.specs.declared.validate.Config.{Config}
use Rattle.loader.specs.Load.{load_of_lent, Loaded}
use Rattle.loader.specs.Demand.{Demand3}

-- this holds of the rows that an accepted load uses
abbrev pub OnUsed : Result Accepted ElfError → (ℕ → Type 0) → Type 0
OnUsed (Ok x) P = P x.used
OnUsed (Err r) P = Unit {0}

-- as many rows are used as it says, and none where it refuses
abbrev pub used_of : Result Accepted ElfError → ℕ
used_of (Ok x) = x.used
used_of (Err r) = 0

-- WHAT `load` PROMISES, for every file, list of built-in keys and settings, whatever the lent image and read-only buffer hold at the call (`.entry`), and
-- whatever the table holds there, t; `.exit` and t' are what they hold on return, and a is the answer
pub record Loads (file : Shared) (builtins : List ℕ) (c : Config) (image ro : Lent) (t t' : Slices) (a : Result Accepted ElfError) : Type 0 where
  -- the answer and, by demand 1, every lent byte and number: what comes of the load, whole or only zeros
  pub loaded : Loaded (load_of_lent file builtins c image ro t) image.entry.now ro.entry.now t image.exit.now ro.exit.now t' a
  -- demand 3: calls, keys and bytes of an accepted load; collisions and full tables
  pub keyed : Demand3 file.entry.now builtins c (length image.entry.now) (length ro.entry.now) t image.exit.now t' a
  -- the table is one whose used rows ascend strictly by key, with zeros elsewhere
  pub ascending : OnUsed a (λ used. Ready t' used)
