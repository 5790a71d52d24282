use Rattle.std.proofs.Common.{rules}
use Rattle.call_graph.proofs.Settling.{passing_less}
use Rattle.call_depth.proofs.profile.Profile.settle_all.Goals as goal

pub loop-work-smaller : goal.loop-work-smaller
loop-work-smaller c = search (rules, passing_less)
