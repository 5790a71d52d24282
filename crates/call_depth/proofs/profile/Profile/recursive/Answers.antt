use Rattle.std.proofs.Common.{rules}
use Rattle.call_graph.proofs.Least.{short_open, short_kept}
use Rattle.call_depth.proofs.profile.Profile.recursive.Goals as goal

pub peel-requires : goal.peel-requires
peel-requires c = search (rules, short_open)

pub smallest-requires : goal.smallest-requires
smallest-requires c = search (rules, short_kept)
