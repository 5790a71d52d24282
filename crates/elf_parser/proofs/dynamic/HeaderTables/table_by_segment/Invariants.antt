-- The test that the search for a header makes.
use Rattle.std.specs.Prelude.{eqb}
use Rattle.elf_parser.proofs.dynamic.HeaderTables.table_by_segment.Given as goal

abbrev pub ghost-first_with : goal.ghost-first_with
ghost-first_with a = λ h. eqb h.p_type 2
