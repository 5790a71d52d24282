use Rattle.std.proofs.Common.{rules}
use Rattle.call_graph.proofs.Marking.{round_next, round_last}
use Rattle.call_depth.proofs.profile.Profile.mark_pass.Goals as goal

pub loop-r-preserved : goal.loop-r-preserved
loop-r-preserved c = search (rules, round_next)

pub returns : goal.returns
returns c = search (rules, round_last)
