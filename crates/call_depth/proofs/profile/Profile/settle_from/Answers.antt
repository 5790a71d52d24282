use Rattle.std.proofs.Common.{rules}
use Rattle.call_depth.proofs.Waits.{waiting_none}
use Rattle.call_depth.proofs.profile.Profile.settle_from.Goals as goal

pub loop-init : goal.loop-init
loop-init c = search (rules, waiting_none)
