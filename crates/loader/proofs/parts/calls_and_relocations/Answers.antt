-- `loader::parts::calls_and_relocations` meets its contract: one part after the other.
-- Assumes nothing.
use Rattle.loader.proofs.Going.{part_stop, part_then}
use Rattle.loader.proofs.parts.calls_and_relocations.Goals as goal

pub returns-in_err-register_calls-clause-settles : goal.returns-in_err-register_calls-clause-settles
returns-in_err-register_calls-clause-settles c = part_stop _ _ c.args.out.now c.register_calls.new.out _ _ _ _ _ c.in_err-register_calls.was c.register_calls.ensures.settles c.from_residual.ensures.1

pub returns-clause-settles : goal.returns-clause-settles
returns-clause-settles c = part_then _ _ _ _ _ _ c.register_calls.ensures.keeps _ c.in_ok-register_calls.was c.register_calls.ensures.settles c.apply_relocations.new.out _ c.apply_relocations.ensures.settles
