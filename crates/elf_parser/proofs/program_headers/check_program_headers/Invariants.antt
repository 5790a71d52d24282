-- The step that each header takes.
use Rattle.std.specs.Prelude.{length}
use Rattle.elf_parser.specs.Types.{program_header}
use Rattle.elf_parser.specs.ProgramHeaders.{load_step}
use Rattle.elf_parser.proofs.program_headers.check_program_headers.Given as goal

abbrev pub ghost-over : goal.ghost-over
ghost-over a = λ p low. load_step (length a.self.now.file.now) (program_header a.self.now.file.now p) low
