use Rattle.call_graph.specs.Marks.{Slots}
use Rattle.call_depth.specs.Called.{callee_in}
use Rattle.call_depth.proofs.profile.Profile.mark_slots.Given as goal

abbrev pub invariant-loop-s : goal.invariant-loop-s
invariant-loop-s l = Slots (callee_in l.self.text.now l.self.keys.now l.self.version2) l.from l.end l.s l.initial.work l.work l.more
