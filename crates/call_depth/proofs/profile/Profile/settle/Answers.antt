use Rattle.std.proofs.Common.{rules}
use Rattle.call_graph.proofs.Least.{ready_of}
use Rattle.call_depth.proofs.Sizes.{sized_of}
use Rattle.call_depth.proofs.profile.Profile.settle.Goals as goal

pub settle_down-requires : goal.settle_down-requires
settle_down-requires c = search (rules, ready_of, sized_of)

pub settle_all-requires : goal.settle_all-requires
settle_all-requires c = search (rules, sized_of)
