-- `listing::storing::Lines::put_rows` meets its contract. The loop's invariant: the lines of the rows from i on are left to store, at the next place.
-- Assumes nothing.
use Prim.Native.Nat.{◌+◌, ◌*◌, ◌≤◌}
use lib.ListN.{drop}
use Rattle.program.specs.Table.{columns_in, rows_of}
use Rattle.listing.specs.Lines.{row_lines, SameSlice}
use Rattle.listing.proofs.Stores.{Storing}
use Rattle.listing.proofs.storing.Lines.put_rows.Given as goal

abbrev pub invariant-loop-i : goal.invariant-loop-i
invariant-loop-i l =
    let rows = rows_of (columns_in l.table) l.table.used in
    SameSlice l.initial.self l.self × Storing (row_lines rows) (row_lines (drop l.i rows)) l.initial.self.out.now l.self.out.now l.initial.self.at l.self.at × (l.self.at ≤ l.initial.self.at + 63 * l.i)
