use Rattle.call_graph.specs.Marks.{Spotted}
use Rattle.call_depth.specs.Called.{profile_now}
use Rattle.call_depth.proofs.profile.Profile.mark_callees.Given as goal

abbrev pub invariant-loop-r : goal.invariant-loop-r
invariant-loop-r l = Spotted (profile_now l.self) l.r l.initial.work l.work
