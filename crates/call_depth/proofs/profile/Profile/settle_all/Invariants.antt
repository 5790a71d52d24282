use Prim.Native.Nat.{◌-◌}
use lib.ListN.{length}
use Rattle.call_graph.specs.Words.{WordsReady, settled_in}
use Rattle.call_depth.specs.Called.{profile_now, slots_in}
use Rattle.call_depth.proofs.profile.Profile.settle_all.Given as goal

abbrev pub invariant-loop-work : goal.invariant-loop-work
invariant-loop-work l = WordsReady (profile_now l.self) (slots_in l.self.text.now) l.work

abbrev pub decreases-loop-work : goal.decreases-loop-work
decreases-loop-work l = length l.self.indices.now - settled_in l.work
