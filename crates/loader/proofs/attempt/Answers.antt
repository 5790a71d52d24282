-- `loader::attempt` meets its contract: the checks, the slices cleared but for the image's front, the parts, the answer.
-- Assumes nothing.
use Rattle.program.specs.Table.{columns_of}
use Rattle.program.proofs.Tables.{same_trans}
use Rattle.loader.proofs.Loading.{file_fits, file_ready, behind_front, load_stops, cleared_lens, empty, attempted}
use Rattle.loader.proofs.attempt.Goals as goal

pub fill_all-requires-clause-asks : goal.fill_all-requires-clause-asks
fill_all-requires-clause-asks c = (
  file_ready _ _ _ _ _ _ _ c.prepare.ensures c.in_ok-job.was,
  behind_front _ c.args.image.now _ (file_fits _ _ _ _ _ _ _ c.prepare.ensures c.in_ok-job.was) c.clear_all.ensures.clears.image,
  empty _ _ c.clear_all.ensures.clears.table,
)

pub returns-in_err-job-clause-tries : goal.returns-in_err-job-clause-tries
returns-in_err-job-clause-tries c = load_stops _ _ _ c.args.image.now c.args.ro_section.now (columns_of c.args.registry.now) _ c.prepare.ensures _ _ _ _ _ c.in_err-job.was c.from_residual.ensures.1

pub returns-clause-lens : goal.returns-clause-lens
returns-clause-lens c = same_trans _ _ _ (cleared_lens _ _ c.clear_all.ensures.clears.table) c.fill_all.ensures.lens

pub returns-clause-tries : goal.returns-clause-tries
returns-clause-tries c = attempted _ _ _ c.args.image.now c.args.ro_section.now (columns_of c.args.registry.now) _ c.prepare.ensures _ c.in_ok-job.was _ _ _ c.clear_all.ensures.clears _ _ _ c.fill_all.auto.image c.fill_all.ensures.lens _ _ c.fill_all.ensures.fills
