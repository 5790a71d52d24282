-- The refusals in numbers: 50 with the index, 51 with the chain, and those of a load.
use Rattle.elf_parser.specs.declared.error.Report.{Report}
use Rattle.elf_parser.specs.Errors as parser
use Rattle.loader.specs.Errors as load
use Rattle.call_depth.specs.declared.error.CallDepthError.{CallDepthError}
use Rattle.call_depth.specs.declared.error.CallDepthError.TheVariants.{RecursiveCall, TooDeep, Refused}

abbrev pub report_of : CallDepthError → Report
report_of (RecursiveCall index) = parser.valued 50 index
report_of (TooDeep chain) = parser.valued 51 chain
report_of (Refused e) = load.report_of e
