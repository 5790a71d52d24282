-- `writers::whole::mark_calls` meets its contract. The loop's invariant: the numbers are those of the calls in the first i slots.
-- Assumes nothing.
use Rattle.writers.specs.Named.{call_to}
use Rattle.writers.specs.Whole.{Holds}
use Rattle.writers.proofs.whole.mark_calls.Given as goal

abbrev pub invariant-loop-i : goal.invariant-loop-i
invariant-loop-i l = Holds (call_to l.text.elf.file.now l.text.loaded l.i) l.initial.numbers l.numbers
