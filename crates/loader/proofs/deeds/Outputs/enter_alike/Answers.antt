-- `loader::deeds::Outputs::enter_alike` meets its contract: what the registration means for a table.
-- Assumes nothing.
use mathlib.Core.Path.{refl}
use Rattle.program.specs.Table.{Registers, columns_of}
use Rattle.program.proofs.Alike.{alike_registers}
use Rattle.loader.proofs.Entering.{moves_fit, held_row, keeps_row, enters_row}
use Rattle.loader.proofs.Targeting.{still_alike_row}
use Rattle.loader.proofs.deeds.Outputs.enter_alike.Goals.{After-register_alike-answer}
use Rattle.loader.proofs.deeds.Outputs.enter_alike.Goals as goal

registers : (r : After-register_alike-answer) → Registers (columns_of r.args.self.now.registry.now) (columns_of r.register_alike-answer.new.self) r.args.self.now.registry.now.used r.args.row r.register_alike-answer.result
registers r = alike_registers _ _ _ _ r.requires.1 _ r.register_alike-answer.ensures.registers

pub entered-requires : goal.entered-requires
entered-requires c = moves_fit _ _ _ _ _ _ c.requires.0 (registers (goal.at.entered-requires c).After-register_alike-answer)

pub returns-clause-keeps : goal.returns-clause-keeps
returns-clause-keeps c = keeps_row c.args.self.now _ _ _ _ _ c.requires.0 (registers (goal.at.returns-clause-keeps c).After-register_alike-answer) c.register_alike-answer.ensures.used c.entered.ensures.moved c.entered.ensures.answers refl c.register_alike-answer.ensures.same

pub returns-clause-enters : goal.returns-clause-enters
returns-clause-enters c = enters_row c.args.self.now _ _ _ _ _ c.requires.0 (registers (goal.at.returns-clause-enters c).After-register_alike-answer) c.register_alike-answer.ensures.used c.entered.ensures.moved c.entered.ensures.answers

pub returns-clause-alike : goal.returns-clause-alike
returns-clause-alike c =
    still_alike_row c.args.self.now _ _ _ _ _ c.requires.1 c.register_alike-answer.ensures.registers c.entered.ensures.moved
    (held_row c.args.self.now _ _ _ _ _ c.requires.0 (registers (goal.at.returns-clause-alike c).After-register_alike-answer) c.register_alike-answer.ensures.used c.entered.ensures.moved c.entered.ensures.answers)
