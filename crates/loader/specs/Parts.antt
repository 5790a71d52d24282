-- The parts of a load, one after another.
use Rattle.std.specs.Prelude.{ℕ, List, Result, Ok, Err}
use Rattle.loader.specs.declared.read_only.Placing.TheVariants.{Borrowed, Owned}
use Rattle.loader.specs.declared.read_only.Placing.{Placing}
use Rattle.loader.specs.declared.error.ElfError.{ElfError}
use Rattle.loader.specs.declared.validate.Job.{Job}
use Rattle.loader.specs.Trace.{Trace, done, stop, and_then}
use Rattle.loader.specs.Calls.{calls_trace}
use Rattle.loader.specs.Relocations.{relocations_trace}
use Rattle.loader.specs.Labels.{labels_trace}
use Rattle.loader.specs.Entry.{entry_trace}

-- what is written: calls, then relocations
abbrev pub writing_trace : List ℕ → List ℕ → Job → List ℕ → Trace
writing_trace s builtins j im = and_then (calls_trace s builtins j im) (relocations_trace s builtins j)

-- what is only registered: labels, then the entry
abbrev pub naming_trace : List ℕ → List ℕ → Job → List ℕ → Trace
naming_trace s builtins j im = and_then (labels_trace s builtins j im) (entry_trace builtins j)

-- the placing of the read-only sections refuses last
abbrev pub placed_trace : Result Placing ElfError → List ℕ → Trace
placed_trace (Ok (Borrowed offset start n)) im = done im
placed_trace (Ok (Owned offset lowest n)) im = done im
placed_trace (Err r) im = stop r

-- WHAT A FILE THAT PASSED THE CHECKS ASKS FOR
unfoldable pub job_trace : List ℕ → List ℕ → Job → List ℕ → Trace
job_trace s builtins j im =
    and_then (writing_trace s builtins j im) (λ (im₁ : List ℕ).
    and_then (naming_trace s builtins j im₁) (placed_trace j.placing))
