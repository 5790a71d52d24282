use Prim.Native.Nat.{◌-◌}
use lib.ListN.{length}
use Rattle.call_graph.specs.Words.{settled_in}
use Rattle.call_graph.specs.Marks.{Kept}
use Rattle.call_depth.specs.Called.{profile_now, slots_in}
use Rattle.call_depth.proofs.profile.Profile.smallest.Given as goal

abbrev pub invariant-loop-entry : goal.invariant-loop-entry
invariant-loop-entry l = Kept (profile_now l.self) (slots_in l.self.text.now) l.entry l.work

abbrev pub decreases-loop-entry : goal.decreases-loop-entry
decreases-loop-entry l = length l.self.indices.now - settled_in l.work
