use Rattle.std.proofs.Common.{rules}
use Rattle.call_graph.proofs.Least.{tested}
use Rattle.call_depth.proofs.profile.Profile.marks_itself.Goals as goal

pub returns : goal.returns
returns c = search (rules, tested)
