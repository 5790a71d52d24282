use Prim.Native.Nat.{ℕ, ◌-◌}
use lib.ListN.{length}
use Rattle.call_graph.specs.Ways.{Calling}
use Rattle.call_graph.specs.Marks.{Begun, Grown, RowCalls, marked_in}
use Rattle.call_depth.specs.Called.{profile_now, slots_in}
use Rattle.call_depth.proofs.profile.Profile.mark_all.Given as goal

abbrev pub invariant-loop : goal.invariant-loop
invariant-loop l =
    Begun (profile_now l.self) (slots_in l.self.text.now) l.b l.work × Grown (λ (q : ℕ). Calling (RowCalls (profile_now l.self)) l.b q) l.initial.work l.work

abbrev pub decreases-loop : goal.decreases-loop
decreases-loop l = length l.self.indices.now - marked_in l.work
