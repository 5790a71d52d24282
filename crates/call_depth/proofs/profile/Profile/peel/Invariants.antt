use Rattle.call_graph.specs.Marks.{Open}
use Rattle.call_depth.specs.Called.{profile_now, slots_in}
use Rattle.call_depth.proofs.profile.Profile.peel.Given as goal

abbrev pub invariant-loop : goal.invariant-loop
invariant-loop l = Open (profile_now l.self) (slots_in l.self.text.now) l.entry l.work
