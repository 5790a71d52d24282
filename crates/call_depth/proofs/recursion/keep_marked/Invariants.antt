use Rattle.call_graph.specs.Marks.{Each, keep}
use Rattle.call_depth.proofs.recursion.keep_marked.Given as goal

abbrev pub invariant-loop-r : goal.invariant-loop-r
invariant-loop-r l = Each (keep l.entry) l.r l.initial.work l.work
