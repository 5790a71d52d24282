-- The loop's invariant: the first i bytes are written, and the length is as it was.
use mathlib.Core.Path.{◌≡◌}
use lib.ListN.{length}
use Rattle.exports.proofs.Writing.{so_far}
use Rattle.exports.proofs.names.fill_bytes.Given as goal

abbrev pub invariant-loop-i : goal.invariant-loop-i
invariant-loop-i l = (length l.to ≡ length l.initial.to) × (l.to ≡ so_far l.i l.bytes l.initial.to)
