-- `program::search::narrow` meets its contract. The loop's invariant: the numbers that are left come to what all come to.
-- Assumes nothing.
use mathlib.Core.Path.{◌≡◌}
use Prim.Native.Nat.{◌+◌, ◌≤◌, ◌<◌}
use Rattle.program.specs.Search.{narrowed, left_of}
use lib.ListN.{length}
use Rattle.program.proofs.search.narrow.Given as goal

abbrev pub invariant-loop-size : goal.invariant-loop-size
invariant-loop-size l =
    (0 < l.size) × (l.base + l.size ≤ length l.ranks) × (narrowed l.size l.key l.ranks l.base l.size ≡ left_of l.key l.ranks)

abbrev pub decreases-loop-size : goal.decreases-loop-size
decreases-loop-size l = l.size
