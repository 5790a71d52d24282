-- The loop's invariant: the records that are left, from the state now, give what all give from the first.
use Rattle.std.specs.Prelude.{◌≡◌}
use Rattle.elf_parser.specs.Loops.{over, rest}
use Rattle.elf_parser.proofs.table.Table.over.Given as goal

abbrev pub invariant-loop-i : goal.invariant-loop-i
invariant-loop-i g l =
    over g.stepped g.T.Record.SIZE l.self.entries.count l.self.entries.offset l.fn.first
    ≡ rest g.stepped g.T.Record.SIZE l.self.entries.count l.self.entries.offset l.i l.state
