use Rattle.std.proofs.Common.{rules}
use Rattle.call_graph.proofs.Marking.{grown_then, begun_kept, marking_less}
use Rattle.call_depth.proofs.profile.Profile.mark_all.Goals as goal

pub loop-smaller : goal.loop-smaller
loop-smaller c = search (rules, marking_less)

pub loop-preserved : goal.loop-preserved
loop-preserved c = (search (rules, begun_kept), search (rules, grown_then))
