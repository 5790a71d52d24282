use lib.ListN.{length}
use Rattle.call_graph.specs.Marks.{Lowest}
use Rattle.call_graph.specs.Profile.{nth_of}
use Rattle.call_depth.proofs.recursion.lowest.Given as goal

abbrev pub invariant-loop-r : goal.invariant-loop-r
invariant-loop-r l = Lowest (length l.indices) (nth_of l.indices) l.work l.r l.best
