use mathlib.Core.Path.{sym, ◌∙◌}
use Rattle.exports.proofs.Measuring.{measured_err, measured_ok}
use Rattle.exports.proofs.depth.measured.Goals as goal

pub returns-in-Err : goal.returns-in-Err
returns-in-Err c = measured_err _ _ _ _ _ _ c.in-Err.r (sym c.told.ensures ∙ c.in-Err.is) c.reported.ensures

pub returns-in-Ok : goal.returns-in-Ok
returns-in-Ok c = measured_ok _ _ _ _ _ _ c.in-Ok.a (sym c.told.ensures ∙ c.in-Ok.is) _ c.call_depth.ensures.is c.call_depth.ensures.means c.depth_answer.ensures
