-- `writers::whole::mark_four` meets its contract. The loop's invariant: of the four places k are marked.
-- Assumes nothing.
use Prim.Native.Nat.{◌+◌}
use Rattle.loader.specs.Deeds.{is_in}
use Rattle.writers.specs.Whole.{Marked}
use Rattle.writers.proofs.whole.mark_four.Given as goal

abbrev pub invariant-loop-k : goal.invariant-loop-k
invariant-loop-k l = Marked (is_in (l.r + l.n) l.k) l.code l.initial.numbers l.numbers
