-- The loop's invariant: i bytes are pasted.
use mathlib.Core.Path.{◌≡◌}
use lib.ListN.{length, drop}
use lib.Seq.{paste}
use Rattle.loader.proofs.read_only.copy_bytes.Given as goal

abbrev pub invariant-loop-i : goal.invariant-loop-i
invariant-loop-i l = (length l.to ≡ length l.initial.to) × (l.to ≡ paste l.initial.to l.at (drop l.start l.from) l.i)
