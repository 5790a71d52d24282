-- The loop's invariant: the links that are left, from the symbol now, give what all give.
use Rattle.std.specs.Prelude.{◌≡◌, ◌+◌, ◌-◌}
use Rattle.hash_table.specs.Find.{walked}
use Rattle.hash_table.proofs.Search.walk.Given as goal

abbrev pub invariant-loop : goal.invariant-loop
invariant-loop l =
    walked l.self.elf.now.file.now l.self.elf.now.layout l.self.name.now l.self.table (l.self.table.nchain + 1) l.first
    ≡ walked l.self.elf.now.file.now l.self.elf.now.layout l.self.name.now l.self.table (l.self.table.nchain + 1 - l.counter) l.index
