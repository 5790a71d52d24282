-- What a relocation asks for. A place r is an offset in the file; `s` is the file, `im` the image as the relocations before left it.
use Prim.Native.Nat.{ℕ, zero, suc, ◌+◌, ◌-◌, ◌*◌, ◌/◌, ◌%◌, ◌≤◌, ◌<◌, ◌^◌, min}
use Rattle.program.specs.HashedLegacy.{LegacyResult}
use Rattle.std.proofs.Common.{arith, add-one, ltb-false, leb-false}
use Rattle.std.specs.Prelude.{◌≡◌, Bool, true, false, ◌&&◌, ◌||◌, not, List, length, take, drop, ltb, leb, eqb, Ok, Err, Option, Some, None, unwrap_or, Result}
use Rattle.std.proofs.Math.Path.{refl}
use Rattle.ebpf.specs.Choice.{◌if◌else◌}
use Rattle.ebpf.specs.LittleEndian.{le, join}
use Rattle.ebpf.specs.Murmur3.{murmur3}
use Rattle.elf_parser.specs.declared.types.Elf64Sym.{Elf64Sym}
use Rattle.elf_parser.specs.declared.layout.Layout.{Layout}
use Rattle.elf_parser.specs.Records.{program_header_of, dynamic_relocation_of, dynamic_rela_of, dynamic_symbol_of}
use Rattle.elf_parser.specs.Names.{dynamic_symbol_name}
use Rattle.elf_parser.specs.Types.{file_header}
use Rattle.elf_parser.specs.Dynamic.{linked_inside}
use Rattle.elf_parser.specs.Parse.{tables_of, layout_of, parsed}
use Rattle.elf_parser.specs.Sound.{Steps, parse_steps}
use Rattle.program.specs.declared.FunctionName.{FunctionName}
use Rattle.program.specs.Search.{is_among}
use Rattle.loader.specs.declared.relocations.UsedHeader.{UsedHeader}
use Rattle.loader.specs.declared.error.ElfError.TheVariants.{UnresolvedSymbol, SymbolHashCollision, InvalidVirtualAddress, UnknownRelocation, UnknownSymbol, ValueOutOfBounds, AddendNegative}
use Rattle.loader.specs.declared.validate.Job.{Job}
use Rattle.loader.specs.declared.relocations.Relocation.{Relocation}
use Rattle.loader.specs.declared.deeds.Deed.{Deed}
use Rattle.loader.specs.declared.deeds.Deed.TheVariants.{Halves, Word, Key, Register, RegisterOutside}
use Rattle.loader.specs.declared.error.ElfError.{ElfError}
use Rattle.loader.specs.Addresses.{sum_up_to, MM_PROGRAM_START}
use Rattle.loader.specs.Functions.{row_for, symbol_function, in_text, index_of}
use Rattle.loader.specs.Trace.{Trace, each}
use Rattle.loader.specs.Deeds.{DeedFits, deed_trace}
use Rattle.elf_parser.specs.declared.error.ElfParserError.{ElfParserError}
use Rattle.elf_parser.specs.declared.parts.Place.{Place}
use Rattle.elf_parser.specs.declared.types.Elf64Phdr.{Elf64Phdr}
use Rattle.elf_parser.specs.declared.types.Elf64Rel.{Elf64Rel}
use Rattle.elf_parser.specs.declared.types.Elf64Rela.{Elf64Rela}

-- ---- the place

-- a relocation of the older kind, which brings no addend, and one that brings one; a blank one where there is none
abbrev pub relocation_or : Result Elf64Rel ElfParserError → Relocation
relocation_or (Ok r) = record { r_offset = r.r_offset; r_info = r.r_info; addend = None }
relocation_or (Err e) = record { r_offset = 0; r_info = 0; addend = None }

abbrev pub rela_or : Result Elf64Rela ElfParserError → Relocation
rela_or (Ok r) = record { r_offset = r.r_offset; r_info = r.r_info; addend = Some r.r_addend }
rela_or (Err e) = record { r_offset = 0; r_info = 0; addend = None }

-- BOTH TABLES AS ONE LIST, the older first: the relocation number i, and how many there are
unfoldable pub relocation_at : List ℕ → Layout → ℕ → Relocation
relocation_at s l i =
    relocation_or (dynamic_relocation_of s l i) if ltb i l.dynamic_relocations.count else
    rela_or (dynamic_rela_of s l (i - l.dynamic_relocations.count))

abbrev pub relocation_count : Job → ℕ
relocation_count j = j.layout.dynamic_relocations.count + j.layout.dynamic_relas.count

-- the program header number i; its addresses end at 2 ^ 64 - 1 at the latest
abbrev pub header_by : Result Elf64Phdr ElfParserError → Option UsedHeader
header_by (Ok h) = Some (record { p_vaddr = h.p_vaddr; end = sum_up_to h.p_vaddr h.p_memsz; p_offset = h.p_offset })
header_by (Err e) = None

unfoldable pub header_at : List ℕ → Layout → ℕ → Option UsedHeader
header_at s l i = header_by (program_header_of s l i)

abbrev pub contains : Option UsedHeader → ℕ → Bool
contains None a = false
contains (Some h) a = leb h.p_vaddr a && ltb a h.end

-- the first of n program headers from number i on that contains the address a
unfoldable pub first_from : List ℕ → Layout → ℕ → ℕ → ℕ → Option UsedHeader
first_from s l a zero i = None
first_from s l a (suc n) i = header_at s l i if contains (header_at s l i) a else first_from s l a n (i + 1)

-- the program headers that have a number of 32 bits, in a layout that a parse made all of them
abbrev pub header_count : Layout → ℕ
header_count l = min l.program_headers.count 0xffff_ffff

-- version 2: the header used last if it contains the address, else the first that does. Version 1 uses none
unfoldable pub used_header : List ℕ → Layout → Bool → Option UsedHeader → ℕ → Option UsedHeader
used_header s l version2 used a =
    used if not version2 else
    used if contains used a else
    first_from s l a (header_count l) 0

-- the header that the first j relocations leave as the one used last
unfoldable pub used_before : List ℕ → Layout → Bool → ℕ → Option UsedHeader
used_before s l version2 zero = None
used_before s l version2 (suc j) = used_header s l version2 (used_before s l version2 j) (relocation_at s l j).r_offset

abbrev pub mapped_by : Option UsedHeader → ℕ → Option ℕ
mapped_by None a = None
mapped_by (Some h) a = Some (sum_up_to (a - h.p_vaddr) h.p_offset)

-- version 1: r_offset itself; version 2: as the header maps it
unfoldable pub place_of : Bool → Option UsedHeader → ℕ → Option ℕ
place_of version2 used a = Some a if not version2 else mapped_by used a

-- a place of the n bytes from `start` on
unfoldable pub within : ℕ → ℕ → ℕ → Bool
within start n r = leb start r && ltb r (start + n)

-- ---- values

-- an address below the program's start gains it
unfoldable pub program_address : ℕ → ℕ
program_address a = MM_PROGRAM_START + a if ltb a MM_PROGRAM_START else a

-- the place of an immediate
unfoldable pub immediate_at : ℕ → ℕ
immediate_at r = sum_up_to r 4

-- it brings one that is negative: a signed number of 64 bits
abbrev pub is_negative : Option ℕ → Bool
is_negative None = false
is_negative (Some a) = leb (2 ^ 63) a

-- ---- type 1: a symbol's address plus the addend, or the four bytes that are there

unfoldable pub halves_deed : ℕ → ℕ → ℕ → ℕ → Result Deed ElfError
halves_deed len low high value =
    Err ValueOutOfBounds if ltb len (low + 4) else
    Err ValueOutOfBounds if ltb len (high + 4) else
    Ok (Halves low high value)

unfoldable pub word_deed : ℕ → ℕ → ℕ → Result Deed ElfError
word_deed len at value =
    Err ValueOutOfBounds if ltb len (at + 8) else
    Ok (Word at value)

-- two halves 8 bytes apart, or one number
unfoldable pub address_deed : ℕ → Bool → ℕ → ℕ → Result Deed ElfError
address_deed len split at value = halves_deed len at (sum_up_to at 8) value if split else word_deed len at value

abbrev pub symbol_deed : ℕ → Bool → ℕ → ℕ → ℕ → Result Elf64Sym ElfParserError → Result Deed ElfError
symbol_deed len split at addend number (Ok y) = address_deed len split at (program_address (sum_up_to y.st_value addend))
symbol_deed len split at addend number (Err e) = Err (UnknownSymbol number)

unfoldable pub plan6464 : List ℕ → List ℕ → Layout → Bool → ℕ → ℕ → Option ℕ → Result Deed ElfError
plan6464 s im l split r number addend =
    let at : ℕ = immediate_at r if split else r in
    Err ValueOutOfBounds if ltb (length im) (at + 4) else
    symbol_deed (length im) split at (unwrap_or addend (le 4 im at)) number (dynamic_symbol_of s l number)

-- the address that it writes
abbrev pub address_by : ℕ → ℕ → Result Elf64Sym ElfParserError → Result ℕ ElfError
address_by addend number (Ok y) = Ok (program_address (sum_up_to y.st_value addend))
address_by addend number (Err e) = Err (UnknownSymbol number)

unfoldable pub symbol_address : List ℕ → List ℕ → Layout → ℕ → ℕ → Option ℕ → Result ℕ ElfError
symbol_address s im l at number addend =
    Err ValueOutOfBounds if ltb (length im) (at + 4) else
    address_by (unwrap_or addend (le 4 im at)) number (dynamic_symbol_of s l number)

-- ---- type 8: the addend, or the address that is there

-- in the text: an instruction's two halves
unfoldable pub relative_text : ℕ → ℕ → ℕ → ℕ → Result Deed ElfError
relative_text len low high address =
    Err ValueOutOfBounds if ltb len (low + 4) else
    Err ValueOutOfBounds if ltb len (high + 4) else
    Err InvalidVirtualAddress if eqb address 0 else
    Ok (Halves low high (program_address address))

-- elsewhere: the eight bytes, in version 1 the upper four of them
unfoldable pub relative_value : Bool → ℕ → ℕ → ℕ
relative_value version2 upper whole = program_address whole if version2 else MM_PROGRAM_START + upper

unfoldable pub plan_relative : List ℕ → Bool → Bool → ℕ → Option ℕ → Result Deed ElfError
plan_relative im version2 in_text_lem r addend =
    let low : ℕ = immediate_at r in
    let high : ℕ = immediate_at (sum_up_to r 8) in
    relative_text (length im) low high (unwrap_or addend (join 4 (le 4 im low) (le 4 im high))) if in_text_lem else
    word_deed (length im) r (relative_value version2 (unwrap_or addend (le 4 im low)) (unwrap_or addend (le 8 im r)))

-- ---- type 10: a call by a symbol's name

-- a function to register, and the place of its key
abbrev pub register_deed : ℕ → ℕ → LegacyResult → Result Deed ElfError
register_deed len at (Err taken) = Err (SymbolHashCollision taken.key)
register_deed len at (Ok row) = Ok (RegisterOutside row) if ltb len (at + 4) else Ok (Register row at)

unfoldable pub function_call : List ℕ → Job → ℕ → ℕ → FunctionName → ℕ → Result Deed ElfError
function_call builtins j len at name value =
    Err ValueOutOfBounds if not (in_text j value) else
    register_deed len at (row_for builtins j name (index_of j value))

-- a hash, which must be a built-in's key where broken files are rejected
unfoldable pub builtin_call : List ℕ → Bool → ℕ → ℕ → ℕ → ℕ → ℕ → ℕ → Result Deed ElfError
builtin_call builtins reject-broken len at r start n hash =
    Err (UnresolvedSymbol (record { start = start; length = n }) r) if reject-broken && not (is_among hash builtins) else
    Err ValueOutOfBounds if ltb len (at + 4) else
    Ok (Key at hash)

-- STT_FUNC, and its value is not 0
abbrev pub is_function : Elf64Sym → Bool
is_function y = eqb (y.st_info % 16) 2 && not (eqb y.st_value 0)

-- a symbol whose name is the n bytes `part` at `start`
unfoldable pub call_by_name : List ℕ → List ℕ → Job → ℕ → ℕ → Elf64Sym → ℕ → ℕ → Result Deed ElfError
call_by_name part builtins j len r y start n =
    function_call builtins j len (immediate_at r) (symbol_function part start n) y.st_value if is_function y else
    builtin_call builtins j.reject_broken len (immediate_at r) r start n (murmur3 part)

abbrev pub named_call : List ℕ → List ℕ → Job → ℕ → ℕ → Elf64Sym → Result Place ElfParserError → Result Deed ElfError
named_call s builtins j len r y (Ok p) = call_by_name (take p.length (drop p.start s)) builtins j len r y p.start p.length
named_call s builtins j len r y (Err e) = Err (UnknownSymbol y.st_name)

abbrev pub symbol_call : List ℕ → List ℕ → Job → ℕ → ℕ → ℕ → Result Elf64Sym ElfParserError → Result Deed ElfError
symbol_call s builtins j len r number (Ok y) = named_call s builtins j len r y (dynamic_symbol_name s j.layout y.st_name)
symbol_call s builtins j len r number (Err e) = Err (UnknownSymbol number)

unfoldable pub plan6432 : List ℕ → List ℕ → Job → ℕ → ℕ → ℕ → Result Deed ElfError
plan6432 s builtins j len r number = symbol_call s builtins j len r number (dynamic_symbol_of s j.layout number)

-- ---- all types

-- r lies in the text's bytes
abbrev pub text_holds : Job → ℕ → Bool
text_holds j r = within j.text.start j.text.length r

-- the types that use an addend
abbrev pub uses_addend : ℕ → Bool
uses_addend type = eqb type 1 || eqb type 8

unfoldable pub plan_at : List ℕ → List ℕ → List ℕ → Job → ℕ → ℕ → Option ℕ → Result Deed ElfError
plan_at s im builtins j r info addend =
    Err AddendNegative if uses_addend (info % 2 ^ 32) && is_negative addend else
    plan6464 s im j.layout (text_holds j r || not j.version2) r (info / 2 ^ 32) addend if eqb (info % 2 ^ 32) 1 else
    plan_relative im j.version2 (text_holds j r) r addend if eqb (info % 2 ^ 32) 8 else
    plan6432 s builtins j (length im) r (info / 2 ^ 32) if eqb (info % 2 ^ 32) 10 else
    Err (UnknownRelocation (info % 2 ^ 32))

abbrev pub plan_of : List ℕ → List ℕ → List ℕ → Job → Option ℕ → ℕ → Option ℕ → Result Deed ElfError
plan_of s im builtins j (Some r) info addend = plan_at s im builtins j r info addend
plan_of s im builtins j None info addend = Err ValueOutOfBounds

-- the place that the relocation number i means
abbrev pub place_in : List ℕ → Layout → Bool → ℕ → Option ℕ
place_in s l version2 i = place_of version2 (used_before s l version2 (i + 1)) (relocation_at s l i).r_offset

abbrev pub place_at : List ℕ → Job → ℕ → Option ℕ
place_at s j i = place_in s j.layout j.version2 i

-- what a load does about the relocation number i
abbrev pub relocation_deed : List ℕ → List ℕ → Job → ℕ → List ℕ → Result Deed ElfError
relocation_deed s builtins j i im = plan_of s im builtins j (place_at s j i) (relocation_at s j.layout i).r_info (relocation_at s j.layout i).addend

unfoldable pub relocation_trace : List ℕ → List ℕ → Job → ℕ → List ℕ → Trace
relocation_trace s builtins j i im = deed_trace (relocation_deed s builtins j i im) im

-- THE RELOCATIONS' PART OF A LOAD
abbrev pub relocations_trace : List ℕ → List ℕ → Job → List ℕ → Trace
relocations_trace s builtins j im = each (relocation_trace s builtins j) (relocation_count j) 0 im

-- ---- laws

-- the search for a header, one step at a time
module _ (s : List ℕ) (l : Layout) (a i : ℕ) where
  pub first_here : (n : ℕ) → 0 < n → contains (header_at s l i) a ≡ true → first_from s l a n i ≡ header_at s l i
  unfolding first_from ◌if◌else◌
  first_here zero h e = absurd (omega arith)
  first_here (suc n) h e = rw e

  pub first_later : (n m : ℕ) → n ≡ suc m → contains (header_at s l i) a ≡ false → first_from s l a n i ≡ first_from s l a m (i + 1)
  unfolding first_from ◌if◌else◌
  first_later n m h e = rw (h, e)

  pub first_none : (n : ℕ) → n ≤ 0 → first_from s l a n i ≡ None
  unfolding first_from
  first_none zero h = refl
  first_none (suc n) h = absurd (omega arith)

-- the header used last, from one relocation to the next
pub used_next : (s : List ℕ) (l : Layout) (version2 : Bool) (i : ℕ)
    → used_before s l version2 (i + 1) ≡ used_header s l version2 (used_before s l version2 i) (relocation_at s l i).r_offset
unfolding used_before
used_next s l version2 i = rw (add-one i)

-- type 8 uses its addend
pub uses_eight : (type : ℕ) (a : Option ℕ) → type ≡ 8 → (uses_addend type && is_negative a) ≡ false → is_negative a ≡ false
uses_eight type a e h = rw e at h

-- an addend that is not negative, and a number that was read
pub addend_small : (a : Option ℕ) (n : ℕ) → is_negative a ≡ false → n < 2 ^ 63 → unwrap_or a n < 2 ^ 63
addend_small None n e l = l
addend_small (Some a) n e l = leb-false (2 ^ 63) a e

-- ---- the bytes that a relocation writes lie in the image

-- a choice fits if what it picks does
pub either : (len : ℕ) (b : Bool) (x y : Result Deed ElfError) → (b ≡ true → DeedFits len x) → (b ≡ false → DeedFits len y) → DeedFits len (x if b else y)
unfolding ◌if◌else◌
either len true x y p q = p refl
either len false x y p q = q refl

halves_fits : (len low high value : ℕ) → DeedFits len (halves_deed len low high value)
unfolding halves_deed
halves_fits len low high value =
    either len _ _ _ (λ e. tt)
    (λ e. either len _ _ _ (λ f. tt) (λ f. (ltb-false len (low + 4) e, ltb-false len (high + 4) f)))

word_fits : (len at value : ℕ) → DeedFits len (word_deed len at value)
unfolding word_deed
word_fits len at value = either len _ _ _ (λ e. tt) (λ e. ltb-false len (at + 8) e)

address_fits : (len : ℕ) (split : Bool) (at value : ℕ) → DeedFits len (address_deed len split at value)
unfolding address_deed
address_fits len split at value = either len split _ _ (λ e. halves_fits len at (sum_up_to at 8) value) (λ e. word_fits len at value)

symbol_fits : (len : ℕ) (split : Bool) (at addend number : ℕ) (y : Result Elf64Sym ElfParserError) → DeedFits len (symbol_deed len split at addend number y)
symbol_fits len split at addend number (Ok y) = address_fits len split at _
symbol_fits len split at addend number (Err e) = tt

fits6464 : (s im : List ℕ) (l : Layout) (split : Bool) (r number : ℕ) (addend : Option ℕ) → DeedFits (length im) (plan6464 s im l split r number addend)
unfolding plan6464
fits6464 s im l split r number addend = either (length im) _ _ _ (λ e. tt) (λ e. symbol_fits (length im) split _ _ number (dynamic_symbol_of s l number))

text_fits : (len low high address : ℕ) → DeedFits len (relative_text len low high address)
unfolding relative_text
text_fits len low high address =
    either len _ _ _ (λ e. tt)
    (λ e. either len _ _ _ (λ f. tt)
    (λ f. either len _ _ _ (λ g. tt) (λ g. (ltb-false len (low + 4) e, ltb-false len (high + 4) f))))

relative_fits : (im : List ℕ) (version2 in_text_lem : Bool) (r : ℕ) (addend : Option ℕ) → DeedFits (length im) (plan_relative im version2 in_text_lem r addend)
unfolding plan_relative
relative_fits im version2 in_text_lem r addend = either (length im) in_text_lem _ _ (λ e. text_fits (length im) _ _ _) (λ e. word_fits (length im) r _)

register_fits : (len at : ℕ) (row : LegacyResult) → DeedFits len (register_deed len at row)
register_fits len at (Err taken) = tt
register_fits len at (Ok row) = either len _ _ _ (λ e. tt) (λ e. ltb-false len (at + 4) e)

function_fits : (builtins : List ℕ) (j : Job) (len at : ℕ) (name : FunctionName) (value : ℕ) → DeedFits len (function_call builtins j len at name value)
unfolding function_call
function_fits builtins j len at name value = either len _ _ _ (λ e. tt) (λ e. register_fits len at (row_for builtins j name (index_of j value)))

builtin_fits : (builtins : List ℕ) (reject-broken : Bool) (len at r start n hash : ℕ) → DeedFits len (builtin_call builtins reject-broken len at r start n hash)
unfolding builtin_call
builtin_fits builtins reject-broken len at r start n hash =
    either len _ _ _ (λ e. tt) (λ e. either len _ _ _ (λ f. tt) (λ f. ltb-false len (at + 4) f))

call_fits : (part builtins : List ℕ) (j : Job) (len r : ℕ) (y : Elf64Sym) (start n : ℕ) → DeedFits len (call_by_name part builtins j len r y start n)
unfolding call_by_name
call_fits part builtins j len r y start n =
    either len _ _ _ (λ e. function_fits builtins j len _ _ _) (λ e. builtin_fits builtins _ len _ r start n _)

named_fits : (s builtins : List ℕ) (j : Job) (len r : ℕ) (y : Elf64Sym) (p : Result Place ElfParserError) → DeedFits len (named_call s builtins j len r y p)
named_fits s builtins j len r y (Ok p) = call_fits _ builtins j len r y p.start p.length
named_fits s builtins j len r y (Err e) = tt

called_fits : (s builtins : List ℕ) (j : Job) (len r number : ℕ) (y : Result Elf64Sym ElfParserError) → DeedFits len (symbol_call s builtins j len r number y)
called_fits s builtins j len r number (Ok y) = named_fits s builtins j len r y (dynamic_symbol_name s j.layout y.st_name)
called_fits s builtins j len r number (Err e) = tt

fits6432 : (s builtins : List ℕ) (j : Job) (len r number : ℕ) → DeedFits len (plan6432 s builtins j len r number)
unfolding plan6432
fits6432 s builtins j len r number = called_fits s builtins j len r number (dynamic_symbol_of s j.layout number)

at_fits : (s im builtins : List ℕ) (j : Job) (r info : ℕ) (addend : Option ℕ) → DeedFits (length im) (plan_at s im builtins j r info addend)
unfolding plan_at
at_fits s im builtins j r info addend =
    either (length im) _ _ _ (λ d. tt)
    (λ d. either (length im) _ _ _ (λ e. fits6464 s im j.layout _ r _ addend)
    (λ e. either (length im) _ _ _ (λ f. relative_fits im j.version2 _ r addend)
    (λ f. either (length im) _ _ _ (λ g. fits6432 s builtins j (length im) r _) (λ g. tt))))

pub plan_fits : (s im builtins : List ℕ) (j : Job) (p : Option ℕ) (info : ℕ) (addend : Option ℕ) → DeedFits (length im) (plan_of s im builtins j p info addend)
plan_fits s im builtins j (Some r) info addend = at_fits s im builtins j r info addend
plan_fits s im builtins j None info addend = tt

-- a parsed file has few relocations
steps_few : (s : List ℕ) (l : Layout) (x : Steps s l) (k : Layout)
    → k ≡ layout_of (file_header s) ((file_header s).e_shoff + (file_header s).e_shstrndx * 64) x.found x.linked
    → (16 * k.dynamic_relocations.count ≤ length s) × (24 * k.dynamic_relas.count ≤ length s)
steps_few s l x k e =
    let inside = linked_inside s (tables_of (file_header s)) x.linked x.links in
    rw e (omega (arith, inside.relocations), omega (arith, inside.relas))

pub few_relocations : (s : List ℕ) (l : Layout) → parsed s ≡ Ok l → (16 * l.dynamic_relocations.count ≤ length s) × (24 * l.dynamic_relas.count ≤ length s)
few_relocations s l e = let x = parse_steps s l e in steps_few s l x l x.layout
