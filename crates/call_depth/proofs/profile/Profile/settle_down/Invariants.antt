use Rattle.call_graph.specs.Words.{WordsReady}
use Rattle.call_depth.specs.Called.{profile_now, slots_in}
use Rattle.call_depth.proofs.profile.Profile.settle_down.Given as goal

abbrev pub invariant-loop : goal.invariant-loop
invariant-loop l = WordsReady (profile_now l.self) (slots_in l.self.text.now) l.work
