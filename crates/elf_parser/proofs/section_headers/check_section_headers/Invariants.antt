-- The step that each header takes.
use Rattle.std.specs.Prelude.{length}
use Rattle.elf_parser.specs.Types.{section_header}
use Rattle.elf_parser.specs.SectionHeaders.{section_step}
use Rattle.elf_parser.proofs.section_headers.check_section_headers.Given as goal

abbrev pub ghost-over : goal.ghost-over
ghost-over a = λ p low. section_step (length a.self.now.file.now) a.step.1.now (section_header a.self.now.file.now p) low
