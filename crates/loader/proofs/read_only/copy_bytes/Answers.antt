-- `loader::read_only::copy_bytes` meets its contract: a turn pastes one byte more. Assumes nothing.
use native.Mathlib.Omega.{arith}
use lib.ListN.{length-set}
use Rattle.loader.proofs.Copies.{paste_next}
use Rattle.loader.proofs.read_only.copy_bytes.Goals as goal

pub loop-i-preserved : goal.loop-i-preserved
loop-i-preserved c =
    (simp length-set c.loop-i.invariant.0, paste_next c.args.to.now c.loop-i.to c.args.from.now c.args.at c.args.start c.loop-i.i c.loop-i.invariant.1 (omega arith) (omega arith))
