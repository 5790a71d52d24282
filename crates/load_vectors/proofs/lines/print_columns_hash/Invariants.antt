use Rattle.std.proofs.Common.{◌≤◌, length}
use Rattle.load_vectors.proofs.lines.print_columns_hash.Given as goal

abbrev pub invariant-loop-column : goal.invariant-loop-column
invariant-loop-column g l = l.at ≤ length l.bytes
