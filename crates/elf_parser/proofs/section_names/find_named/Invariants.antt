-- The step that each header takes.
use Rattle.elf_parser.specs.Types.{section_header}
use Rattle.elf_parser.specs.SectionNames.{name_step}
use Rattle.elf_parser.proofs.section_names.find_named.Given as goal

abbrev pub ghost-over : goal.ghost-over
ghost-over a = λ at n. name_step a.self.now.file.now a.step.1.now (section_header a.self.now.file.now at) at n
