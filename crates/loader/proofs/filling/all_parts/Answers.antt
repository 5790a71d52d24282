-- `loader::filling::all_parts` meets its contract: one pair of parts after the other, and the placing's refusal.
-- Assumes nothing.
use Rattle.loader.proofs.Loading.{job_stop, job_refused, job_unplaced, job_placed}
use Rattle.loader.proofs.filling.all_parts.Goals as goal

pub returns-in_err-calls_and_relocations-clause-settles : goal.returns-in_err-calls_and_relocations-clause-settles
returns-in_err-calls_and_relocations-clause-settles c =
    job_stop _ _ _ _ c.args.out.now c.calls_and_relocations.new.out _ _ _ _ _ c.in_err-calls_and_relocations.was c.calls_and_relocations.ensures.settles c.from_residual.ensures.1

pub returns-in_err-labels_and_entry-clause-settles : goal.returns-in_err-labels_and_entry-clause-settles
returns-in_err-labels_and_entry-clause-settles c =
    job_refused _ _ _ _ _ _ _ _ c.calls_and_relocations.ensures.keeps _ c.in_ok-calls_and_relocations.was c.calls_and_relocations.ensures.settles c.labels_and_entry.new.out _ c.labels_and_entry.ensures.settles _ _ c.in_err-labels_and_entry.was
    c.from_residual-in_err-labels_and_entry.ensures.1

pub returns-in_err-placing-clause-settles : goal.returns-in_err-placing-clause-settles
returns-in_err-placing-clause-settles c =
    job_unplaced _ _ _ _ _ _ _ _ c.calls_and_relocations.ensures.keeps _ c.in_ok-calls_and_relocations.was c.calls_and_relocations.ensures.settles c.labels_and_entry.new.out _ c.labels_and_entry.ensures.settles _ _ c.in_ok-labels_and_entry.was
    c.in_err-placing.was c.from_residual-in_err-placing.ensures.1

pub returns-clause-settles : goal.returns-clause-settles
returns-clause-settles c =
    job_placed _ _ _ _ _ _ _ _ c.calls_and_relocations.ensures.keeps _ c.in_ok-calls_and_relocations.was c.calls_and_relocations.ensures.settles c.labels_and_entry.new.out _ c.labels_and_entry.ensures.settles _ c.in_ok-labels_and_entry.was
    c.in_ok-placing.was
