-- The refusals of a load, in the scope's numbers.
use Rattle.elf_parser.specs.declared.error.ElfParserError.{ElfParserError}
use Rattle.elf_parser.specs.declared.error.ElfParserError.TheVariants.{InvalidFileHeader, InvalidProgramHeader, InvalidSectionHeader, StringTooLong, OutOfBounds, InvalidSize, Overlap, SectionNotInOrder, NoSectionNameStringTable, InvalidDynamicSectionTable, InvalidAlignment, NoStringTable, NoDynamicStringTable, NoSuchIndex, NotASection, StringUnterminated}
use Rattle.elf_parser.specs.declared.error.Report.{Report}
use Rattle.program.specs.declared.SymbolHashCollision.{SymbolHashCollision as Taken}
use Rattle.elf_parser.specs.Errors as parser
use Rattle.loader.specs.declared.error.ElfError.{ElfError}
use Rattle.loader.specs.declared.error.ElfError.TheVariants.{FailedToParse, EntrypointOutOfBounds, InvalidEntrypoint, UnresolvedSymbol, RelativeJumpOutOfBounds, SymbolHashCollision, WrongAbi, WrongMachine, NotOneTextSection, WritableSectionNotSupported, InvalidVirtualAddress, UnknownRelocation, WrongType, UnknownSymbol, ValueOutOfBounds, UnsupportedSBPFVersion, FileTooLong, BufferShort, BuiltinsNotAscending, TableFull, TextOutsideReadOnly, AddendNegative}

-- a built-in has the key of a function
abbrev pub from_collision : Taken → ElfError
from_collision taken = SymbolHashCollision taken.key

-- a parse's refusal in a load: its number, but 5 becomes 33
abbrev pub from_parser : ElfParserError → ElfError
from_parser InvalidFileHeader = FailedToParse InvalidFileHeader
from_parser InvalidProgramHeader = FailedToParse InvalidProgramHeader
from_parser InvalidSectionHeader = FailedToParse InvalidSectionHeader
from_parser (StringTooLong p) = FailedToParse (StringTooLong p)
from_parser OutOfBounds = ValueOutOfBounds
from_parser InvalidSize = FailedToParse InvalidSize
from_parser Overlap = FailedToParse Overlap
from_parser SectionNotInOrder = FailedToParse SectionNotInOrder
from_parser NoSectionNameStringTable = FailedToParse NoSectionNameStringTable
from_parser InvalidDynamicSectionTable = FailedToParse InvalidDynamicSectionTable
from_parser InvalidAlignment = FailedToParse InvalidAlignment
from_parser NoStringTable = FailedToParse NoStringTable
from_parser NoDynamicStringTable = FailedToParse NoDynamicStringTable
from_parser NoSuchIndex = FailedToParse NoSuchIndex
from_parser NotASection = FailedToParse NotASection
from_parser (StringUnterminated p) = FailedToParse (StringUnterminated p)

abbrev pub report_of : ElfError → Report
report_of (FailedToParse e) = parser.report_of e
report_of EntrypointOutOfBounds = parser.valued 20 0
report_of InvalidEntrypoint = parser.valued 21 0
report_of (UnresolvedSymbol p offset) = parser.named 22 offset p
report_of (RelativeJumpOutOfBounds slot) = parser.valued 23 slot
report_of (SymbolHashCollision key) = parser.valued 24 key
report_of WrongAbi = parser.valued 25 0
report_of WrongMachine = parser.valued 26 0
report_of NotOneTextSection = parser.valued 27 0
report_of (WritableSectionNotSupported p) = parser.named 28 0 p
report_of InvalidVirtualAddress = parser.valued 29 0
report_of (UnknownRelocation n) = parser.valued 30 n
report_of WrongType = parser.valued 31 0
report_of (UnknownSymbol n) = parser.valued 32 n
report_of ValueOutOfBounds = parser.valued 33 0
report_of UnsupportedSBPFVersion = parser.valued 34 0
report_of FileTooLong = parser.valued 40 0
report_of BufferShort = parser.valued 41 0
report_of BuiltinsNotAscending = parser.valued 42 0
report_of (TableFull rows) = parser.valued 43 rows
report_of TextOutsideReadOnly = parser.valued 44 0
report_of AddendNegative = parser.valued 47 0
