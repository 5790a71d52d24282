-- The loop's invariant: the entries that are left, from the state now, give what all give from the start.
use Rattle.std.specs.Prelude.{◌≡◌}
use Rattle.elf_parser.specs.Dynamic.{dynamic_values, values_at}
use Rattle.elf_parser.proofs.dynamic.dynamic_values.Given as goal

abbrev pub invariant-loop-i : goal.invariant-loop-i
invariant-loop-i l = dynamic_values l.table.file.now l.table.entries.count l.table.entries.offset ≡ values_at l.table.file.now l.table.entries.count l.table.entries.offset l.i l.values
