-- `loader::load` meets its contract: an attempt, and where it is refused everything cleared.
-- Assumes nothing.
use Rattle.program.proofs.Tables.{same_trans}
use Rattle.loader.proofs.Loading.{cleared_lens, load_refused}
use Rattle.loader.proofs.Demanded.{loads}
use Rattle.loader.proofs.load.Goals as goal

pub returns-in-Ok-clause-loads : goal.returns-in-Ok-clause-loads
returns-in-Ok-clause-loads c = loads _ _ _ _ _ _ _ _ c.in-Ok.ensures.tries

pub returns-in-Err-clause-lens : goal.returns-in-Err-clause-lens
returns-in-Err-clause-lens c = same_trans _ _ _ c.attempt.ensures.lens (cleared_lens _ _ c.clear_all.ensures.clears.table)

pub returns-in-Err-clause-loads : goal.returns-in-Err-clause-loads
returns-in-Err-clause-loads c = loads _ _ _ _ _ _ _ _ (load_refused _ _ _ _ _ _ _ _ _ _ _ c.in-Err.ensures.tries c.attempt.auto.image c.attempt.auto.ro_section c.attempt.ensures.lens c.clear_all.ensures.clears)
