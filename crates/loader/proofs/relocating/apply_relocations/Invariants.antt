-- `loader::relocating::apply_relocations` meets its contract. The loop's invariant: the relocations that are left, with the rows and
-- moves held now, settle to what all settle to; and the header is the one used last.
-- Assumes nothing.
use mathlib.Core.Path.{◌≡◌}
use Rattle.loader.specs.Relocations.{relocation_trace, relocation_count, used_before}
use Rattle.loader.specs.InnerContracts.{Keeps}
use Rattle.loader.proofs.Going.{GoingOver}
use Rattle.loader.proofs.relocating.apply_relocations.Given as goal

abbrev pub invariant-loop-i : goal.invariant-loop-i
invariant-loop-i l =
    Keeps l.initial.out l.out
    × GoingOver (relocation_trace l.inputs.file.now l.inputs.builtins.now l.inputs.job) (relocation_count l.inputs.job) l.initial.out l.out l.i
    × (l.header ≡ used_before l.inputs.file.now l.inputs.job.layout l.inputs.job.version2 l.i)
