use Rattle.std.proofs.Common.{rules}
use Rattle.call_graph.proofs.Least.{open_left}
use Rattle.call_depth.proofs.profile.Profile.peel_once.Goals as goal

pub returns : goal.returns
returns c = search (rules, open_left)
