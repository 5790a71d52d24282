-- `loader::calls::register_calls` meets its contract. The loop's invariant: the slots from the run's first on are still to be copied; with
-- the rows and moves held now they settle to what all settle to.
-- Assumes nothing.
use Prim.Native.Nat.{ℕ, ◌+◌, ◌*◌, min}
use Rattle.program.specs.Table.{columns_of}
use Rattle.loader.specs.Calls.{slot_count, slot_trace}
use Rattle.loader.specs.CallLoop.{ahead, Holds}
use Rattle.loader.specs.InnerContracts.{Keeps}
use Rattle.loader.proofs.Going.{Going}
use Rattle.loader.proofs.calls.register_calls.Given as goal

abbrev pub invariant-loop-run : goal.invariant-loop-run
invariant-loop-run l =
    let i : ℕ = min (512 * l.run) (slot_count l.inputs.job) in
    Keeps l.initial.out l.out
    × (Going (slot_trace l.inputs.file.now l.inputs.builtins.now l.inputs.job) (slot_count l.inputs.job) l.inputs.file.now (ahead (l.inputs.job.text.start + 8 * i) l.out.image.now l.inputs.file.now) (columns_of l.initial.out.registry.now) (columns_of l.out.registry.now) l.initial.out.registry.now.used l.initial.out.moves l.out.registry.now.used l.out.moves i)
    × Holds l.inputs l.seen l.out
