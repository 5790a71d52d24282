use Rattle.std.proofs.Common.{◌≤◌, ◌<◌}
use lib.ListN.{length}
use Rattle.call_graph.specs.Words.{WordsReady}
use Rattle.call_depth.specs.Called.{profile_now, slots_in, Waiting}
use Rattle.call_depth.proofs.profile.Profile.settle_from.Given as goal

abbrev pub invariant-loop : goal.invariant-loop
invariant-loop l = WordsReady (profile_now l.self) (slots_in l.self.text.now) l.work × Waiting (profile_now l.self) l.waiting × (l.row < length l.self.indices.now) × (l.held ≤ 1024) × (l.at < 1024)
