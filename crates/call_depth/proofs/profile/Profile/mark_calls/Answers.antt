use Rattle.std.proofs.Common.{rules}
use Rattle.call_graph.proofs.Marking.{slots_within, slots_of}
use Rattle.call_depth.proofs.profile.Profile.mark_calls.Goals as goal

pub mark_slots-requires : goal.mark_slots-requires
mark_slots-requires c = search (rules, slots_within)

pub returns : goal.returns
returns c = search (rules, slots_of)
