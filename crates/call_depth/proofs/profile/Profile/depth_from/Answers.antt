use Rattle.std.proofs.Common.{rules}
use Rattle.call_graph.proofs.Equation.{chain_is, recursive_is}
use Rattle.call_graph.proofs.Least.{stopped_short}
use Rattle.call_depth.proofs.Sizes.{sized_of}
use Rattle.call_depth.proofs.profile.Profile.depth_from.Goals as goal

pub returns-then-word-lt-FLAG-clause-is : goal.returns-then-word-lt-FLAG-clause-is
returns-then-word-lt-FLAG-clause-is c = chain_is _ _ _ c.requires.1 (c.settle.ensures.good.depths c.args.entry c.requires.1 c.if-word-lt-FLAG.true)

pub recursive-requires : goal.recursive-requires
recursive-requires c = search (rules, stopped_short, sized_of)

pub returns-clause-is : goal.returns-clause-is
returns-clause-is c = recursive_is _ _ _ c.requires.1 c.recursive.type_inv c.recursive.ensures
