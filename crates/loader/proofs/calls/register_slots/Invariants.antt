-- `loader::calls::register_slots` meets its contract. The loop's invariant: the slots that are left, with the rows and moves held now,
-- settle to what all from `from` on settle to; and what the loop keeps beside the table.
-- Assumes nothing.
use Prim.Native.Nat.{◌+◌, ◌-◌, ◌*◌}
use Rattle.program.specs.Table.{columns_of}
use Rattle.loader.specs.Calls.{slot_count, slot_trace}
use Rattle.loader.specs.CallLoop.{ahead, Holds}
use Rattle.loader.specs.InnerContracts.{Keeps}
use Rattle.loader.proofs.Going.{GoingIn}
use Rattle.loader.proofs.calls.register_slots.Given as goal

abbrev pub invariant-loop-i : goal.invariant-loop-i
invariant-loop-i l =
    Keeps l.initial.out l.out
    × (GoingIn (slot_trace l.inputs.file.now l.inputs.builtins.now l.inputs.job) (slot_count l.inputs.job) l.from l.to (ahead (l.inputs.job.text.start + 8 * l.to) l.initial.out.image.now l.inputs.file.now) (ahead (l.inputs.job.text.start + 8 * l.to) l.out.image.now l.inputs.file.now) (columns_of l.initial.out.registry.now) (columns_of l.out.registry.now) l.initial.out.registry.now.used l.initial.out.moves l.out.registry.now.used l.out.moves l.next)
    × Holds l.inputs l.seen l.out

abbrev pub decreases-loop-i : goal.decreases-loop-i
decreases-loop-i l = l.to - l.next
