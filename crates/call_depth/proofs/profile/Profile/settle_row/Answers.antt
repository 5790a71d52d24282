use Rattle.call_graph.proofs.Settling.{tried_some}
use Rattle.call_depth.proofs.profile.Profile.settle_row.Goals as goal

pub returns-in-Ok : goal.returns-in-Ok
returns-in-Ok c = tried_some _ _ _ c.requires.0 _ c.requires.1 c.requires.2 c.in-Ok.d c.in-Ok.ensures.0 c.in-Ok.ensures.1
