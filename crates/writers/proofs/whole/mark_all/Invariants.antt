-- `writers::whole::mark_all` meets its contract. The loop's invariant: the numbers are those of the last among the first i relocations,
-- else of the calls; and the header is the one used last.
-- Assumes nothing.
use mathlib.Core.Path.{◌≡◌}
use Rattle.loader.specs.Relocations.{used_before}
use Rattle.writers.proofs.Turns.{up_to}
use Rattle.writers.specs.Whole.{Holds}
use Rattle.writers.proofs.whole.mark_all.Given as goal

abbrev pub invariant-loop-i : goal.invariant-loop-i
invariant-loop-i l =
    (l.header ≡ used_before l.text.elf.file.now l.text.elf.layout l.text.loaded.version2 l.i) × Holds (up_to l.text.elf.file.now l.text.elf.layout l.text.loaded l.i) l.initial.numbers l.numbers
