-- `loader::read_only::copy_sections` meets its contract. The loop's invariant: the sections that are left, on what
-- was copied so far, give what all give from the start.
-- Assumes nothing.
use mathlib.Core.Path.{◌≡◌}
use Prim.Native.Nat.{◌-◌, ◌≤◌}
use lib.ListN.{length}
use Rattle.loader.specs.ReadOnly.{copied_from}
use Rattle.loader.proofs.read_only.copy_sections.Given as goal

abbrev pub invariant-loop-i : goal.invariant-loop-i
invariant-loop-i l =
    (l.i ≤ l.count) × (length l.ro ≡ length l.initial.ro) × (copied_from l.image l.elf.file.now l.elf.layout l.lowest l.count 0 l.initial.ro ≡ copied_from l.image l.elf.file.now l.elf.layout l.lowest (l.count - l.i) l.i l.ro)
