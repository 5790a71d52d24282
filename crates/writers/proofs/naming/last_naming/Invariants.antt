-- `writers::naming::last_naming` meets its contract. The loop's invariant: the header used last, and the writer by the relocations so far.
-- Assumes nothing.
use mathlib.Core.Path.{◌≡◌}
use Rattle.loader.specs.Relocations.{used_before}
use Rattle.writers.proofs.Turns.{up_to}
use Rattle.writers.proofs.naming.last_naming.Given as goal

abbrev pub invariant-loop-i : goal.invariant-loop-i
invariant-loop-i l =
    (l.header ≡ used_before l.text.elf.file.now l.text.elf.layout l.text.loaded.version2 l.i) × (l.writer ≡ up_to l.text.elf.file.now l.text.elf.layout l.text.loaded l.i l.b)
