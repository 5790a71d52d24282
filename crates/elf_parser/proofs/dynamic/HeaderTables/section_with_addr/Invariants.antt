-- The test that the search for a header makes.
use Rattle.std.specs.Prelude.{eqb}
use Rattle.elf_parser.proofs.dynamic.HeaderTables.section_with_addr.Given as goal

abbrev pub ghost-first_with : goal.ghost-first_with
ghost-first_with a = λ h. eqb h.sh_addr a.test.0.now
