-- `program::columns::open_at` meets its contract. The loop's invariant: the place i is open, and the length is as it was.
-- Assumes nothing.
use mathlib.Core.Path.{refl, sym}
use native.Mathlib.Nat.{le_antisymm}
use native.Mathlib.Omega.{arith}
use lib.ListN.{length-set}
use Rattle.program.proofs.Shift.{opening_start, opening_turn, opening_end}
use borrow.Author.Rules.{rules}
use Rattle.program.proofs.columns.open_at.Goals as goal

pub loop-i-init : goal.loop-i-init
loop-i-init c = (search rules, search rules, refl, sym (opening_start _ _))

pub loop-i-preserved : goal.loop-i-preserved
loop-i-preserved c =
    (search rules, search rules, simp length-set c.loop-i.invariant.2, rw c.loop-i.invariant.3 (opening_turn _ _ _ (omega arith) (omega arith) (omega arith)))

pub shape_of-s : goal.shape_of-s
shape_of-s c = simp length-set (search rules)

pub returns : goal.returns
returns c =
    rw (c.loop-i.invariant.3, le_antisymm c.loop-i-test.false c.loop-i.invariant.0) (opening_end _ _ _ _ (omega arith) (omega arith))
