use Rattle.call_graph.specs.Words.{unsettled}
use Rattle.call_graph.specs.Marks.{Each}
use Rattle.call_depth.specs.Called.{profile_now}
use Rattle.call_depth.proofs.profile.Profile.prepare.Given as goal

abbrev pub invariant-loop-r : goal.invariant-loop-r
invariant-loop-r l = Each (unsettled (profile_now l.self)) l.r l.initial.work l.work
