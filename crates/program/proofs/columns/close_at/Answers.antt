-- `program::columns::close_at` meets its contract. The loop's invariant: the numbers behind `at` up to i stand one place nearer, and the length is as it was.
-- Assumes nothing.
use mathlib.Core.Path.{refl, sym}
use native.Mathlib.Nat.{le_antisymm}
use lib.ListN.{length-set}
use Rattle.program.proofs.Shift.{closing_start, closing_turn, closing_finish}
use native.Mathlib.Omega.{arith}
use borrow.Author.Rules.{rules}
use Rattle.program.proofs.columns.close_at.Goals as goal

pub loop-i-init : goal.loop-i-init
loop-i-init c = (search rules, search rules, refl, refl, sym (closing_start _ _))

pub loop-i-preserved : goal.loop-i-preserved
loop-i-preserved c =
    (search rules, search rules, c.loop-i.invariant.2, simp length-set c.loop-i.invariant.3, rw c.loop-i.invariant.4 (closing_turn _ _ _ (omega arith) (omega arith)))

pub shape_of-s : goal.shape_of-s
shape_of-s c = simp length-set (search rules)

pub returns : goal.returns
returns c =
    rw (c.loop-i.invariant.4, le_antisymm c.loop-i.invariant.1 c.loop-i-test.false, c.loop-i.invariant.2) (closing_finish _ _ _ (omega arith) (omega arith))
