-- `program::columns::close_at` meets its contract. The loop's invariant: the numbers behind `at` up to i stand one place nearer, and the length is as it was.
-- Assumes nothing.
use mathlib.Core.Path.{◌≡◌}
use Prim.Native.Nat.{◌≤◌, ◌-◌}
use lib.ListN.{length}
use Rattle.program.proofs.Shift.{closing}
use Rattle.program.proofs.columns.close_at.Given as goal

abbrev pub invariant-loop-i : goal.invariant-loop-i
invariant-loop-i l =
    (l.at ≤ l.i) × (l.i ≤ l.last) × (l.last ≡ l.n - 1) × (length l.s ≡ length l.initial.s) × (l.s ≡ closing l.at l.i l.initial.s)

abbrev pub decreases-loop-i : goal.decreases-loop-i
decreases-loop-i l = l.last - l.i
