-- The loop's invariant: the entries that are left, from the state now, give what all give from the start.
use Rattle.std.specs.Prelude.{◌≡◌}
use Rattle.elf_parser.specs.ProgramHeaders.{header_for_vaddr, found_from}
use Rattle.elf_parser.proofs.program_headers.header_for_vaddr.Given as goal

abbrev pub invariant-loop-i : goal.invariant-loop-i
invariant-loop-i l = header_for_vaddr l.table.file.now l.vaddr l.table.entries.count l.table.entries.offset ≡ found_from l.table.file.now l.vaddr l.table.entries.count l.table.entries.offset l.i
