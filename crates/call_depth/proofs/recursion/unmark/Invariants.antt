use Rattle.call_graph.specs.Marks.{Each, bare}
use Rattle.call_depth.proofs.recursion.unmark.Given as goal

abbrev pub invariant-loop-word : goal.invariant-loop-word
invariant-loop-word l = Each bare l.word-index l.initial.work l.work
