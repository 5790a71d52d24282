-- `loader::parts::labels_and_entry` meets its contract: one part after the other.
-- Assumes nothing.
use Rattle.loader.proofs.Going.{part_stop, part_then}
use Rattle.loader.proofs.parts.labels_and_entry.Goals as goal

pub returns-in_err-register_labels-clause-settles : goal.returns-in_err-register_labels-clause-settles
returns-in_err-register_labels-clause-settles c = part_stop _ _ c.args.out.now c.register_labels.new.out _ _ _ _ _ c.in_err-register_labels.was c.register_labels.ensures.settles c.from_residual.ensures.1

pub returns-clause-settles : goal.returns-clause-settles
returns-clause-settles c = part_then _ _ _ _ _ _ c.register_labels.ensures.keeps _ c.in_ok-register_labels.was c.register_labels.ensures.settles c.register_entry.new.out _ c.register_entry.ensures.settles
