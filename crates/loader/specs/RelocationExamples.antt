-- Examples on relocations and labels beside the scope's (`Worked`): each holds by computation.
use Rattle.std.specs.Prelude.{ℕ, ◌+◌, ◌-◌, ◌*◌, ◌%◌, ◌^◌, Bool, true, false, List, [], ◌∷◌, ◌++◌, ◌≡◌, refl, Err, Some, None, Result, Ok}
use Rattle.std.proofs.Common.{arith}
use Rattle.ebpf.specs.Choice.{◌if◌else◌}
use Rattle.ebpf.specs.LittleEndian.{le, bytes_of}
use Rattle.ebpf.specs.Murmur3.{body, murmur3}
use Rattle.elf_parser.specs.declared.layout.Layout.{Layout}
use Rattle.elf_parser.specs.declared.parts.Place.{Place}
use Rattle.elf_parser.specs.Types.{program_header, section_header, rel, rela, sym}
use Rattle.elf_parser.specs.Strings.{string_in, string_check, terminated, before_zero}
use Rattle.elf_parser.specs.Names.{name_by}
use Rattle.elf_parser.specs.SectionNames.{same_bytes}
use Rattle.program.specs.declared.Row.{Row}
use Rattle.program.specs.Search.{narrowed, binary_search, is_among}
use Rattle.program.specs.HashedLegacy.{legacy_row, legacy_key, kept_symbol, is_taken}
use Rattle.elf_parser.specs.Records.{entry_at}
use Rattle.loader.specs.declared.error.ElfError.TheVariants.{InvalidVirtualAddress, UnknownRelocation, UnknownSymbol, UnresolvedSymbol, ValueOutOfBounds, AddendNegative}
use Rattle.loader.specs.declared.validate.Job.{Job}
use Rattle.loader.specs.declared.deeds.Deed.{Deed}
use Rattle.loader.specs.declared.deeds.Deed.TheVariants.{Skip, Halves, Word, Key, Register, RegisterOnly, RegisterOutside}
use Rattle.loader.specs.declared.error.ElfError.{ElfError}
use Rattle.loader.specs.Functions.{row_for}
use Rattle.loader.specs.Labels.{label_deed, label_of}
use Rattle.loader.specs.Relocations.{plan_of, plan6432, call_by_name, function_call, builtin_call, relocation_at, header_at, first_from, used_header, used_before, place_of, place_at, within, program_address, immediate_at, halves_deed, word_deed, address_deed, plan6464, relative_text, relative_value, plan_relative, plan_at, relocation_deed}

-- a relocation, a symbol without a name, a program header
abbrev relocation : ℕ → ℕ → List ℕ
relocation r-offset r-info = bytes_of 8 r-offset ++ bytes_of 8 r-info

abbrev symbol : ℕ → ℕ → List ℕ
symbol info value = bytes_of 8 (info * 2 ^ 32) ++ (bytes_of 8 value ++ bytes_of 8 0)

abbrev header : ℕ → ℕ → ℕ → List ℕ
header vaddr memsz offset = bytes_of 8 0 ++ (bytes_of 8 offset ++ (bytes_of 8 vaddr ++ (bytes_of 8 0 ++ (bytes_of 8 0 ++ (bytes_of 8 memsz ++ bytes_of 8 0)))))

-- two relocations, a symbol, two program headers, a string table's header and what stands in it in this order; the text is the first 16 bytes. With the first n relocations,
-- and m that bring an addend behind all that
abbrev layout_with : ℕ → ℕ → Layout
layout_with n m =
    record {
      program_headers = record { offset = 56; count = 2 };
      section_headers = record { offset = 0; count = 0 };
      shstrtab = None;
      symtab = None;
      strtab = Some 168;
      dynstr = Some 168;
      dynamic_relocations = record { offset = 0; count = n };
      dynamic_relas = record { offset = 233; count = m };
      dynamic_symbols = record { offset = 32; count = 1 };
      hash_table = None;
    }

abbrev job_with : Bool → Layout → Job
job_with version2 l =
    record {
      version2 = version2;
      labels = true;
      reject_broken = true;
      check_collision = true;
      layout = l;
      e_entry = 0;
      sh_addr = 0;
      sh_size = 16;
      text = record { start = 0; length = 16 };
      addr = 0x1_0000_0000;
      placing = Err ValueOutOfBounds;
    }

abbrev pub layout : Layout
layout = layout_with 2 0

abbrev pub job : Bool → Job
job version2 = job_with version2 layout

-- the second program header overlaps the first; the string table is one zero byte
abbrev strings : List ℕ
strings = bytes_of 8 (3 * 2 ^ 32) ++ (bytes_of 8 0 ++ (bytes_of 8 0 ++ (bytes_of 8 232 ++ (bytes_of 8 1 ++ (bytes_of 8 0 ++ (bytes_of 8 0 ++ (bytes_of 8 0 ++ (0 ∷ []))))))))

abbrev file : List ℕ → List ℕ → List ℕ → List ℕ
file one two y = one ++ (two ++ (y ++ (header 0 0x10 0 ++ (header 8 0x20 0x100 ++ strings))))

-- 24 bytes: 4 and 0 in the immediates of two slots, then 7; and zeros
abbrev pub image : List ℕ
image = bytes_of 8 (4 * 2 ^ 32) ++ (bytes_of 8 0 ++ bytes_of 8 7)

abbrev pub zeros : List ℕ
zeros = bytes_of 8 0 ++ (bytes_of 8 0 ++ bytes_of 8 0)

-- what a relocation asks for in version 1
abbrev pub asked : List ℕ → ℕ → ℕ → Result Deed ElfError
asked im r-offset r-info = relocation_deed (file (relocation r-offset r-info) (relocation 0 0) (symbol 0 0x20)) [] (job false) 0 im

-- type 1: a symbol that is not there; the upper half outside the image
type_1 : asked image 0 (1 + 2 ^ 32) ∷ asked image 16 1 ∷ [] ≡ Err (UnknownSymbol 1) ∷ Err ValueOutOfBounds ∷ []
unfolding relocation_at used_before used_header place_of plan_at plan6464 address_deed halves_deed word_deed immediate_at program_address within ◌if◌else◌ le bytes_of entry_at rel sym
type_1 = refl

-- type 8: a lower half of 4 in the text gains the program's start; behind the text version 1 reads at r + 4
type_8 : asked image 0 8 ∷ asked image 16 8 ∷ asked image 17 8 ∷ [] ≡ Ok (Halves 4 12 (4 + 2 ^ 32)) ∷ Ok (Word 16 (2 ^ 32)) ∷ Err ValueOutOfBounds ∷ []
unfolding relocation_at used_before used_header place_of plan_at plan_relative relative_text relative_value word_deed immediate_at program_address within ◌if◌else◌ le bytes_of entry_at rel
type_8 = refl

-- 30 for every type but 1, 8 and 10
other_types : asked image 0 2 ∷ asked image 0 11 ∷ [] ≡ Err (UnknownRelocation 2) ∷ Err (UnknownRelocation 11) ∷ []
unfolding relocation_at used_before used_header place_of plan_at within ◌if◌else◌ le bytes_of entry_at rel
other_types = refl

-- ---- out of the text, at the place r = 16 in an image of 32 bytes, by version and type; 7 and 5 are the halves there, and 0

abbrev longer : ℕ → List ℕ
longer third = bytes_of 8 (4 * 2 ^ 32) ++ (bytes_of 8 0 ++ (bytes_of 8 third ++ bytes_of 8 0))

abbrev behind : Bool → ℕ → ℕ → Result Deed ElfError
behind version2 type third = plan_at (file (relocation 0 0) (relocation 0 0) (symbol 0 0x20)) (longer third) [] (job version2) 16 type None

-- type 1: version 1 takes the 4 bytes at r + 4 and writes halves, version 2 those at r, and writes 8 bytes there. Type 8: 8 bytes at r, in version 1 always with
-- the program's start, from the 4 at r + 4, in version 2 from the 8 at r, which gain it where they are below it
out_of_text :
    behind false 1 (7 + 5 * 2 ^ 32)
    ∷ behind true 1 (7 + 5 * 2 ^ 32)
    ∷ behind false 8 (7 + 5 * 2 ^ 32)
    ∷ behind true 8 (7 + 5 * 2 ^ 32)
    ∷ behind true 8 7
    ∷ behind false 8 0
    ∷ behind true 8 0
    ∷ []
    ≡ Ok (Halves 20 28 (0x25 + 2 ^ 32))
    ∷ Ok (Word 16 (0x27 + 2 ^ 32))
    ∷ Ok (Word 16 (5 + 2 ^ 32))
    ∷ Ok (Word 16 (7 + 5 * 2 ^ 32))
    ∷ Ok (Word 16 (7 + 2 ^ 32))
    ∷ Ok (Word 16 (2 ^ 32))
    ∷ Ok (Word 16 (2 ^ 32))
    ∷ []
unfolding plan_at plan6464 address_deed plan_relative relative_text relative_value halves_deed word_deed immediate_at program_address within ◌if◌else◌ le bytes_of entry_at sym
out_of_text = refl

-- ---- with an addend: the text is the first 16 of 32 bytes, 4 is in its first immediate, 7 at 16; the symbol's value is 0x20

abbrev added : ℕ → Bool → ℕ → ℕ → ℕ → Result Deed ElfError
added value version2 r type addend = plan_at (file (relocation 0 0) (relocation 0 0) (symbol 0 value)) (longer 7) [] (job version2) r type (Some addend)

-- type 1 adds it to the symbol's value, in the text and out of it, in version 1 and in version 2, and the sum stops at 2^64 - 1; 4 and 7 do not count
type_1_added :
    added 0x20 false 0 1 5
    ∷ added 0x20 true 0 1 5
    ∷ added 0x20 false 16 1 5
    ∷ added 0x20 true 16 1 5
    ∷ added 0x20 true 16 1 0
    ∷ added 0x20 true 16 1 (2 ^ 63 - 1)
    ∷ added (2 ^ 64 - 1) true 16 1 (2 ^ 63 - 1)
    ∷ []
    ≡ Ok (Halves 4 12 (0x25 + 2 ^ 32))
    ∷ Ok (Halves 4 12 (0x25 + 2 ^ 32))
    ∷ Ok (Halves 20 28 (0x25 + 2 ^ 32))
    ∷ Ok (Word 16 (0x25 + 2 ^ 32))
    ∷ Ok (Word 16 (0x20 + 2 ^ 32))
    ∷ Ok (Word 16 (0x1f + 2 ^ 63))
    ∷ Ok (Word 16 (2 ^ 64 - 1))
    ∷ []
unfolding plan_at plan6464 address_deed halves_deed word_deed immediate_at program_address within ◌if◌else◌ le bytes_of entry_at sym
type_1_added = refl

-- type 8 writes it: in the text 0 is 29, whatever the halves hold; out of the text version 1 always adds the program's start, version 2 where it is below that
type_8_added :
    added 0x20 false 0 8 0
    ∷ added 0x20 true 0 8 5
    ∷ added 0x20 false 0 8 (2 ^ 40)
    ∷ added 0x20 false 16 8 0
    ∷ added 0x20 false 16 8 (2 ^ 63 - 1)
    ∷ added 0x20 true 16 8 5
    ∷ added 0x20 true 16 8 (2 ^ 40)
    ∷ []
    ≡ Err InvalidVirtualAddress
    ∷ Ok (Halves 4 12 (5 + 2 ^ 32))
    ∷ Ok (Halves 4 12 (2 ^ 40))
    ∷ Ok (Word 16 (2 ^ 32))
    ∷ Ok (Word 16 (2 ^ 32 + 2 ^ 63 - 1))
    ∷ Ok (Word 16 (5 + 2 ^ 32))
    ∷ Ok (Word 16 (2 ^ 40))
    ∷ []
unfolding plan_at plan_relative relative_text relative_value word_deed immediate_at program_address within ◌if◌else◌ le bytes_of
type_8_added = refl

-- 47 for types 1 and 8 where it is negative, also at a place outside, which is 33 otherwise; a place that no header maps is 33 before that. Another type is 30 whatever
-- the addend is
negative :
    added 0x20 true 16 1 (2 ^ 63)
    ∷ added 0x20 false 0 8 (2 ^ 64 - 1)
    ∷ added 0x20 false 30 1 (2 ^ 63)
    ∷ added 0x20 false 30 1 5
    ∷ added 0x20 false 30 8 5
    ∷ plan_of [] (longer 7) [] (job true) None 1 (Some (2 ^ 63))
    ∷ added 0x20 false 0 2 (2 ^ 63)
    ∷ []
    ≡ Err AddendNegative
    ∷ Err AddendNegative
    ∷ Err AddendNegative
    ∷ Err ValueOutOfBounds
    ∷ Err ValueOutOfBounds
    ∷ Err ValueOutOfBounds
    ∷ Err (UnknownRelocation 2)
    ∷ []
unfolding plan_at plan6464 address_deed plan_relative relative_text relative_value halves_deed word_deed immediate_at program_address within ◌if◌else◌ le bytes_of entry_at sym
negative = refl

-- type 10 ignores it
type_10_added : (s im builtins : List ℕ) (j : Job) (r number a : ℕ) → plan_at s im builtins j r (10 + number * 2 ^ 32) (Some a) ≡ plan_at s im builtins j r (10 + number * 2 ^ 32) None
unfolding plan_at ◌if◌else◌
type_10_added s im builtins j r number a = let e : (10 + number * 2 ^ 32) % 2 ^ 32 ≡ 10 = omega arith in rw e refl

-- ---- the hash 9 of a name of 3 bytes at 232, for a call at r = 0 in 24 bytes: no built-in's key, where broken files are rejected and where they are not; a
-- built-in's key, and then the place of the call outside the file

abbrev name : ℕ → ℕ → Place
name start n = record { start = start; length = n }

abbrev call_of_hash : List ℕ → Bool → ℕ → Result Deed ElfError
call_of_hash builtins reject at = builtin_call builtins reject 24 at 0 232 3 9

built_ins : call_of_hash (8 ∷ 10 ∷ []) true 4 ∷ call_of_hash (8 ∷ 10 ∷ []) false 4 ∷ call_of_hash (8 ∷ 9 ∷ []) true 4 ∷ call_of_hash (8 ∷ 9 ∷ []) true 21 ∷ call_of_hash [] false 21 ∷ []
    ≡ Err (UnresolvedSymbol (name 232 3) 0) ∷ Ok (Key 4 9) ∷ Ok (Key 4 9) ∷ Err ValueOutOfBounds ∷ Err ValueOutOfBounds ∷ []
unfolding builtin_call is_among binary_search narrowed ◌if◌else◌
built_ins = refl

-- version 2: address 0x18 is the second header's; address 8 is in both, and the header used last maps it. Taken alone, the first maps it
used_last : place_at (file (relocation 0x18 8) (relocation 8 8) (symbol 0 0)) (job true) 1 ∷ place_at (file (relocation 8 8) (relocation 0 0) (symbol 0 0)) (job true) 0 ∷ place_at (file (relocation 0x28 8) (relocation 0 0) (symbol 0 0)) (job true) 0 ∷ []
    ≡ Some 0x100 ∷ Some 8 ∷ None ∷ []
unfolding relocation_at header_at first_from used_before used_header place_of ◌if◌else◌ le bytes_of entry_at rel program_header
used_last = refl

-- ---- both tables are one list, the older first: at 0x18, then at 8 with the addend 5; a number past both is blank

abbrev both : List ℕ
both = file (relocation 0x18 8) (relocation 0 0) (symbol 0 0) ++ (relocation 8 8 ++ bytes_of 8 5)

one_list :
    relocation_at both (layout_with 1 1) 0
    ∷ relocation_at both (layout_with 1 1) 1
    ∷ relocation_at both (layout_with 1 1) 2
    ∷ []
    ≡ record { r_offset = 0x18; r_info = 8; addend = None }
    ∷ record { r_offset = 8; r_info = 8; addend = Some 5 }
    ∷ record { r_offset = 0; r_info = 0; addend = None }
    ∷ []
unfolding relocation_at ◌if◌else◌ le bytes_of entry_at rel rela
one_list = refl

-- the header that the older table used last goes on into the newer one; without the older one it is the first that contains the place
used_goes_on : place_at both (job_with true (layout_with 1 1)) 1 ∷ place_at both (job_with true (layout_with 0 1)) 0 ∷ [] ≡ Some 0x100 ∷ Some 8 ∷ []
unfolding relocation_at header_at first_from used_before used_header place_of ◌if◌else◌ le bytes_of entry_at rel rela program_header
used_goes_on = refl

-- the mapped place stops at 2 ^ 64 - 1
stops : place_of true (Some (record { p_vaddr = 0; end = 0x100; p_offset = 0xffff_ffff_ffff_fff0 })) 0x20 ≡ Some 0xffff_ffff_ffff_ffff
unfolding place_of ◌if◌else◌
stops = refl

-- type 10 in version 2, by a symbol without a name: of what type and value, at which address, and with which built-ins
abbrev called : ℕ → ℕ → ℕ → List ℕ → Result Deed ElfError
called info value r-offset builtins = relocation_deed (file (relocation r-offset 10) (relocation 0 0) (symbol info value)) builtins (job true) 0 image

abbrev second : Row
second = record { key = 1; index = 1; kind = 0; start = 0; length = 0 }

-- a function at index 1; its key outside the image; a function at the text's end; then the hash of no bytes, 0, which is no built-in's key, or is one
type_10 : called 2 8 0 [] ∷ called 2 8 0x18 [] ∷ called 2 16 0 [] ∷ called 0 8 0 [] ∷ called 2 0 0x18 [] ∷ called 0 8 0 (0 ∷ []) ∷ []
    ≡ Ok (Register second 4)
    ∷ Ok (RegisterOutside second)
    ∷ Err ValueOutOfBounds
    ∷ Err (UnresolvedSymbol (name 232 0) 0)
    ∷ Err (UnresolvedSymbol (name 232 0) 0x110)
    ∷ Ok (Key 4 0)
    ∷ []
unfolding relocation_at header_at first_from used_before used_header place_of plan_at plan6432 call_by_name function_call builtin_call immediate_at within row_for legacy_row legacy_key kept_symbol is_taken is_among binary_search narrowed name_by string_in string_check terminated before_zero same_bytes body murmur3 ◌if◌else◌ le bytes_of entry_at rel sym program_header section_header
type_10 = refl

-- labels: 2 and 0x12 are taken, value 0 too; 1 and 0x22 are passed over; a value at the text's end
abbrev labelled : ℕ → ℕ → Result Deed ElfError
labelled info value = label_deed (file (relocation 0 0) (relocation 0 0) (symbol info value)) [] (job true) (record { offset = 32; count = 1 }) 0

labels : labelled 2 8 ∷ labelled 0x12 8 ∷ labelled 2 0 ∷ labelled 1 8 ∷ labelled 0x22 8 ∷ labelled 2 16 ∷ []
    ≡ Ok (RegisterOnly second)
    ∷ Ok (RegisterOnly second)
    ∷ Ok (RegisterOnly (record { key = 0; index = 0; kind = 0; start = 0; length = 0 }))
    ∷ Ok Skip
    ∷ Ok Skip
    ∷ Err ValueOutOfBounds
    ∷ []
unfolding label_deed label_of row_for legacy_row legacy_key kept_symbol is_taken name_by string_in string_check terminated before_zero same_bytes ◌if◌else◌ le bytes_of entry_at sym section_header
labels = refl
