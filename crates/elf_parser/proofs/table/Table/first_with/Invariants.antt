-- The loop's invariant: the records that are left give what all give.
use Rattle.std.specs.Prelude.{◌≡◌}
use Rattle.elf_parser.specs.Dynamic.{first_with, later}
use Rattle.elf_parser.proofs.table.Table.first_with.Given as goal

abbrev pub invariant-loop-i : goal.invariant-loop-i
invariant-loop-i g l =
    first_with g.passes (g.T.Record.at l.self.file.now) g.T.Record.SIZE l.self.entries.count l.self.entries.offset
    ≡ later g.passes (g.T.Record.at l.self.file.now) g.T.Record.SIZE l.self.entries.count l.self.entries.offset l.i
