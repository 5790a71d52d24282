use Rattle.call_graph.specs.Words.{OverSlots}
use Rattle.call_depth.specs.Called.{callee_in}
use Rattle.call_depth.proofs.profile.Profile.depth_over.Given as goal

abbrev pub invariant-loop-s : goal.invariant-loop-s
invariant-loop-s l = OverSlots (callee_in l.self.text.now l.self.keys.now l.self.version2) l.work l.from l.end l.s l.most
