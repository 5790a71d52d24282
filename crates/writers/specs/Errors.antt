-- The refusals in numbers: 45, and those of a load.
use Rattle.elf_parser.specs.declared.error.Report.{Report}
use Rattle.elf_parser.specs.Errors as parser
use Rattle.loader.specs.Errors as load
use Rattle.writers.specs.declared.error.WhoWroteError.{WhoWroteError}
use Rattle.writers.specs.declared.error.WhoWroteError.TheVariants.{NoSuchIndex, Refused}

abbrev pub report_of : WhoWroteError → Report
report_of NoSuchIndex = parser.valued 45 0
report_of (Refused e) = load.report_of e
