-- `program::columns::open_at` meets its contract. The loop's invariant: the place i is open, and the length is as it was.
-- Assumes nothing.
use mathlib.Core.Path.{◌≡◌}
use Prim.Native.Nat.{◌≤◌}
use lib.ListN.{length}
use Rattle.program.proofs.Shift.{opening}
use Rattle.program.proofs.columns.open_at.Given as goal

abbrev pub invariant-loop-i : goal.invariant-loop-i
invariant-loop-i l = (l.at ≤ l.i) × (l.i ≤ l.n) × (length l.s ≡ length l.initial.s) × (l.s ≡ opening l.i l.n l.initial.s)

abbrev pub decreases-loop-i : goal.decreases-loop-i
decreases-loop-i l = l.i
