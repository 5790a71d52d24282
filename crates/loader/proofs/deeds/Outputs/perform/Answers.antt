-- `loader::deeds::Outputs::perform` meets its contract: the bytes are written, then the table is asked.
-- Assumes nothing.
use Rattle.std.specs.Prelude.{Ok}
use Rattle.loader.proofs.Going.{handed_on}
use Rattle.loader.proofs.Performing.{performs_nothing, performs_row, performs_outside, asks_nothing, asks_row}
use Rattle.loader.proofs.deeds.Outputs.perform.Goals as goal

pub returns-in-Skip-clause-settles : goal.returns-in-Skip-clause-settles
returns-in-Skip-clause-settles c = performs_nothing _ _ _ _ _ _ c.write.ensures (asks_nothing _ c.in-Skip.is) c.requires.1.ready

pub returns-in-Register-clause-settles : goal.returns-in-Register-clause-settles
returns-in-Register-clause-settles c = performs_row _ _ _ _ _ _ c.write.ensures _ _ _ c.enter-in-Register.ensures.image _ (asks_row _ _ c.in-Register.is) c.enter-in-Register.ensures.enters

pub returns-in_ok-enter-in-RegisterOutside-clause-settles : goal.returns-in_ok-enter-in-RegisterOutside-clause-settles
returns-in_ok-enter-in-RegisterOutside-clause-settles c =
    rw c.in_ok-enter-in-RegisterOutside.was at (performs_outside (Ok c.args.deed) _ _ _ _ _ c.write.ensures c.in-RegisterOutside.row _ _ c.enter.ensures.image _ (rw c.in-RegisterOutside.is) c.enter.ensures.enters)

pub returns-in_err-enter-in-RegisterOutside-clause-settles : goal.returns-in_err-enter-in-RegisterOutside-clause-settles
returns-in_err-enter-in-RegisterOutside-clause-settles c =
    handed_on _ _ c.args.self.now c.enter.new.self _ _ c.from_residual.ensures.1
    (rw c.in_err-enter-in-RegisterOutside.was at (performs_outside (Ok c.args.deed) _ _ _ _ _ c.write.ensures c.in-RegisterOutside.row _ _ c.enter.ensures.image _ (rw c.in-RegisterOutside.is) c.enter.ensures.enters))
