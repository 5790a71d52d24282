-- `loader::deeds::Outputs::enter` meets its contract: what the registration means for a table.
-- Assumes nothing.
use mathlib.Core.Path.{refl}
use Rattle.loader.proofs.Entering.{moves_fit, keeps_row, enters_row}
use Rattle.loader.proofs.deeds.Outputs.enter.Goals as goal

pub entered-requires : goal.entered-requires
entered-requires c = moves_fit _ _ _ _ _ _ c.requires c.register_function-answer.ensures.registers

pub returns-clause-keeps : goal.returns-clause-keeps
returns-clause-keeps c = keeps_row c.args.self.now _ _ _ _ _ c.requires c.register_function-answer.ensures.registers c.register_function-answer.ensures.used c.entered.ensures.moved c.entered.ensures.answers refl c.register_function-answer.ensures.same

pub returns-clause-enters : goal.returns-clause-enters
returns-clause-enters c = enters_row c.args.self.now _ _ _ _ _ c.requires c.register_function-answer.ensures.registers c.register_function-answer.ensures.used c.entered.ensures.moved c.entered.ensures.answers
