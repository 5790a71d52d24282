-- The entry's part of a load.
use Rattle.std.specs.Prelude.{ℕ, ◌+◌, ◌-◌, ◌/◌, ◌%◌, Bool, true, false, not, List, eqb, Option, Some, None, Result, Err}
use Rattle.ebpf.specs.Choice.{◌if◌else◌}
use Rattle.ebpf.specs.Murmur3.{murmur3}
use Rattle.program.specs.declared.FunctionName.TheVariants.{Entrypoint}
use Rattle.program.specs.HashedLegacy.{entrypoint}
use Rattle.loader.specs.declared.error.ElfError.TheVariants.{InvalidEntrypoint}
use Rattle.loader.specs.declared.deeds.Deed.{Deed}
use Rattle.loader.specs.declared.validate.Job.{Job}
use Rattle.loader.specs.declared.error.ElfError.{ElfError}
use Rattle.loader.specs.Functions.{row_for}
use Rattle.loader.specs.Labels.{label_row, row_fits}
use Rattle.loader.specs.Trace.{Trace, done, forget, and_then}
use Rattle.loader.specs.Deeds.{Held, DeedFits, deed_trace, holding}

-- e_entry less the text's sh_addr, in slots; a remainder is refused
unfoldable pub entry_deed : List ℕ → Job → Result Deed ElfError
entry_deed builtins j =
    let offset : ℕ = j.e_entry - j.sh_addr in
    Err InvalidEntrypoint if not (eqb (offset % 8) 0) else
    label_row (row_for builtins j Entrypoint (offset / 8))

-- a removal's answer, with the rows and moves up to there
abbrev pub forgotten_by : Option ℕ → ℕ → ℕ → Result Held ElfError
forgotten_by (Some n) used moves = holding (used - 1) (moves + n)
forgotten_by None used moves = holding used moves

-- version 1 forgets the key of the name entrypoint
abbrev pub forget_trace : Bool → List ℕ → Trace
forget_trace true im = done im
forget_trace false im = forget (murmur3 entrypoint) (done im)

-- THE ENTRY'S PART OF A LOAD. In the Rust a remainder refuses before the removal, here after it: a refusal leaves only zeros, so no answer
-- differs.
abbrev pub entry_trace : List ℕ → Job → List ℕ → Trace
entry_trace builtins j im = and_then (forget_trace j.version2 im) (λ (im' : List ℕ). deed_trace (entry_deed builtins j) im')

-- nothing is written for it
pub entry_fits : (n : ℕ) (builtins : List ℕ) (j : Job) → DeedFits n (entry_deed builtins j)
unfolding entry_deed ◌if◌else◌
entry_fits n builtins j = go (not (eqb ((j.e_entry - j.sh_addr) % 8) 0))
  where
    go : (b : Bool) → DeedFits n (Err InvalidEntrypoint if b else label_row (row_for builtins j Entrypoint ((j.e_entry - j.sh_addr) / 8)))
    go true = tt
    go false = row_fits n (row_for builtins j Entrypoint ((j.e_entry - j.sh_addr) / 8))
