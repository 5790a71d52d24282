use Rattle.call_graph.specs.Marks.{Round}
use Rattle.call_depth.specs.Called.{profile_now}
use Rattle.call_depth.proofs.profile.Profile.mark_pass.Given as goal

abbrev pub invariant-loop-r : goal.invariant-loop-r
invariant-loop-r l = Round (profile_now l.self) l.b l.r l.initial.work l.work l.more
