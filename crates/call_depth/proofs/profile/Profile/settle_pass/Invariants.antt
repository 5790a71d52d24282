use Rattle.call_graph.specs.Words.{Passing}
use Rattle.call_depth.specs.Called.{profile_now}
use Rattle.call_depth.proofs.profile.Profile.settle_pass.Given as goal

abbrev pub invariant-loop-r : goal.invariant-loop-r
invariant-loop-r l = Passing (profile_now l.self) l.initial.work l.work l.r l.more
