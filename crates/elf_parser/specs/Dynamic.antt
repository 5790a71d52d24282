-- The dynamic table: where it stands, its 35 values by tag, and what they lead to.
use Prim.Native.Nat.{ℕ, zero, suc, ◌+◌, ◌-◌, ◌*◌, ◌≤◌, ◌<◌}
use Rattle.std.proofs.Common.{mul-suc}
use native.Mathlib.Omega.{arith}
use Rattle.std.specs.Prelude.{Bool, not, List, length, get_or, set, replicate, ltb, eqb, Option, Some, None, option_map, Result, Ok, Err}
use Rattle.std.proofs.Math.Bool.{true, false}
use Rattle.std.proofs.Math.Path.{◌≡◌, refl, sym}
use Rattle.std.proofs.Common.{eq-eqb, ne_eqb}
use Rattle.ebpf.specs.Choice.{◌if◌else◌, yes, no_go, past_word}
use Rattle.elf_parser.specs.declared.error.ElfParserError.{ElfParserError}
use Rattle.elf_parser.specs.declared.error.ElfParserError.TheVariants.{OutOfBounds, InvalidDynamicSectionTable}
use Rattle.elf_parser.specs.declared.dynamic.Tables.{Tables}
use Rattle.elf_parser.specs.declared.dynamic.Linked.{Linked}
use Rattle.elf_parser.specs.declared.layout.Layout.{Layout}
use Rattle.elf_parser.specs.declared.records.Entries.{Entries}
use Rattle.elf_parser.specs.declared.types.Elf64Phdr.{Elf64Phdr}
use Rattle.elf_parser.specs.declared.types.Elf64Shdr.{Elf64Shdr}
use Rattle.elf_parser.specs.declared.types.Elf64Dyn.{Elf64Dyn}
use Rattle.elf_parser.specs.Errors.{and_then, apart, went, ok_is}
use Rattle.elf_parser.specs.Types.{program_header, section_header, dynamic, PT_DYNAMIC, SHT_DYNAMIC, DT_NULL, DT_HASH, DT_SYMTAB, DT_RELA, DT_RELASZ, DT_RELAENT, DT_REL, DT_RELSZ, DT_RELENT}
use Rattle.elf_parser.specs.ProgramHeaders.{or_next, header_for_vaddr}
use Rattle.elf_parser.specs.Loops.{less_one, one_further}
use Rattle.elf_parser.specs.Records.{sliced, symbol_table_in, no_entries, InFile, slice_in_file, symbol_table_in_file}

-- both header tables lie in the file
pub record Inside (len : ℕ) (t : Tables) : Type 0 where
  pub ph : t.program_headers.offset + 56 * t.program_headers.count ≤ len
  pub sh : t.section_headers.offset + 64 * t.section_headers.count ≤ len

-- the first of n records of `width` bytes from `at` on, as `read` reads one at a place, that passes a test
module _ {A : Type 0} (passes : A → Bool) (read : ℕ → A) (width : ℕ) where
  unfoldable pub first_with : ℕ → ℕ → Option A
  first_with zero at = None
  first_with (suc n) at = Some (read at) if passes (read at) else first_with n (at + width)

-- ---- where the table stands

-- by the first PT_DYNAMIC header
unfoldable pub segment_slice : ℕ → Option Elf64Phdr → Result Entries ElfParserError
segment_slice len None = Err InvalidDynamicSectionTable
segment_slice len (Some h) = sliced len h.p_offset h.p_filesz 16

abbrev pub from_segment : List ℕ → Tables → Result Entries ElfParserError
from_segment s t = segment_slice (length s) (first_with (λ h. eqb h.p_type PT_DYNAMIC) (program_header s) 56 t.program_headers.count t.program_headers.offset)

-- any refusal as InvalidDynamicSectionTable
abbrev pub or_invalid : Result Entries ElfParserError → Result Entries ElfParserError
or_invalid (Ok e) = Ok e
or_invalid (Err r) = Err InvalidDynamicSectionTable

-- by the first SHT_DYNAMIC header; a file with neither has no dynamic entries
unfoldable pub section_slice : ℕ → Option Elf64Shdr → Result Entries ElfParserError
section_slice len None = Ok no_entries
section_slice len (Some h) = or_invalid (sliced len h.sh_offset h.sh_size 16)

abbrev pub from_section : List ℕ → Tables → Result Entries ElfParserError
from_section s t = section_slice (length s) (first_with (λ h. eqb h.sh_type SHT_DYNAMIC) (section_header s) 64 t.section_headers.count t.section_headers.offset)

-- PT_DYNAMIC, and where it is absent or unreadable SHT_DYNAMIC
unfoldable pub or_else : Result Entries ElfParserError → Result Entries ElfParserError → Result Entries ElfParserError
or_else (Ok e) other = Ok e
or_else (Err r) other = other

abbrev pub dynamic_table : List ℕ → Tables → Result Entries ElfParserError
dynamic_table s t = or_else (from_segment s t) (from_section s t)

-- ---- its values

-- the values with that of a tag set; a tag of 35 or more is skipped
unfoldable pub with_tag : List ℕ → ℕ → ℕ → List ℕ
with_tag values tag value = set values tag value if ltb tag 35 else values

-- n entries from `at` on, up to the first DT_NULL: the last of equal tags wins
unfoldable pub values_from : List ℕ → ℕ → ℕ → List ℕ → List ℕ
values_from s zero at values = values
values_from s (suc n) at values =
    let d : Elf64Dyn = dynamic s at in
    values if eqb d.d_tag DT_NULL else
    values_from s n (at + 16) (with_tag values d.d_tag d.d_val)

abbrev pub dynamic_values : List ℕ → ℕ → ℕ → List ℕ
dynamic_values s n at = values_from s n at (replicate 35 0)

-- ---- what they lead to

-- the first section header with that address
abbrev pub section_with_addr : List ℕ → Tables → ℕ → Option Elf64Shdr
section_with_addr s t vaddr = first_with (λ h. eqb h.sh_addr vaddr) (section_header s) 64 t.section_headers.count t.section_headers.offset

-- the file offset of the section that was found
abbrev pub section_offset : Option Elf64Shdr → Option ℕ
section_offset h = option_map (λ x. x.sh_offset) h

-- where what has an address starts in the file
abbrev pub relocation_offset : List ℕ → Tables → ℕ → Result (Option ℕ) ElfParserError
relocation_offset s t vaddr =
    or_next (header_for_vaddr s vaddr t.program_headers.count t.program_headers.offset)
    (Ok (section_offset (section_with_addr s t vaddr)))

-- the same by a layout: one that no parse made may have its header tables outside the file
abbrev pub header_tables : Layout → Tables
header_tables l = record { program_headers = l.program_headers; section_headers = l.section_headers }

unfoldable pub file_offset : List ℕ → Layout → ℕ → Result (Option ℕ) ElfParserError
file_offset s l vaddr =
    Err OutOfBounds if ltb (length s) (l.program_headers.offset + 56 * l.program_headers.count) else
    Err OutOfBounds if ltb (length s) (l.section_headers.offset + 64 * l.section_headers.count) else
    relocation_offset s (header_tables l) vaddr

unfoldable pub relocations_at : ℕ → ℕ → ℕ → ℕ → Result Entries ElfParserError
relocations_at len offset size width =
    Err OutOfBounds if past_word (offset + size) else
    or_invalid (sliced len offset size width)

unfoldable pub relocations_by : ℕ → Option ℕ → ℕ → ℕ → Result Entries ElfParserError
relocations_by len (Some offset) size width = relocations_at len offset size width
relocations_by len None size width = Err InvalidDynamicSectionTable

-- a table of relocations, `width` bytes each, by the values of its three tags: address, size and size of an entry
unfoldable pub relocations_of : List ℕ → Tables → ℕ → ℕ → ℕ → ℕ → Result Entries ElfParserError
relocations_of s t width vaddr size entry-size =
    Ok no_entries if eqb vaddr 0 else
    Err InvalidDynamicSectionTable if not (eqb entry-size width) else
    Err InvalidDynamicSectionTable if eqb size 0 else
    and_then (relocation_offset s t vaddr) (λ offset. relocations_by (length s) offset size width)

unfoldable pub symbols_by : ℕ → Option Elf64Shdr → Result Entries ElfParserError
symbols_by len (Some h) = symbol_table_in len h
symbols_by len None = Err InvalidDynamicSectionTable

-- DT_SYMTAB
unfoldable pub symbols_of : List ℕ → Tables → ℕ → Result Entries ElfParserError
symbols_of s t vaddr =
    Ok no_entries if eqb vaddr 0 else
    symbols_by (length s) (section_with_addr s t vaddr)

-- the address that a tag's value gives: none where it is 0
abbrev pub address_of : ℕ → Option ℕ
address_of value = None if eqb value 0 else Some value

-- relocations, those that bring an addend, then symbols; the address of the hash table is kept as it is
abbrev pub linked_by : List ℕ → Tables → List ℕ → Result Linked ElfParserError
linked_by s t values =
    and_then (relocations_of s t 16 (get_or values DT_REL 0) (get_or values DT_RELSZ 0) (get_or values DT_RELENT 0)) (λ e.
    and_then (relocations_of s t 24 (get_or values DT_RELA 0) (get_or values DT_RELASZ 0) (get_or values DT_RELAENT 0)) (λ a.
    and_then (symbols_of s t (get_or values DT_SYMTAB 0)) (λ x.
    Ok (record { relocations = e; relas = a; symbols = x; hash_table = address_of (get_or values DT_HASH 0) }))))

abbrev pub dynamic_of : List ℕ → Tables → Result Linked ElfParserError
dynamic_of s t = and_then (dynamic_table s t) (λ e. linked_by s t (dynamic_values s e.count e.offset))

-- ---- laws

-- the search for a record: the first of those that are left, and the others
module _ {A : Type 0} (passes : A → Bool) (read : ℕ → A) (width : ℕ) where
  pub first_here : (n at : ℕ) → 0 < n → passes (read at) ≡ true → first_with passes read width n at ≡ Some (read at)
  unfolding first_with
  first_here zero at h e = absurd (omega arith)
  first_here (suc n) at h e = sym (yes _ _ _ e)

  pub first_next : (n at : ℕ) → 0 < n → passes (read at) ≡ false → first_with passes read width n at ≡ first_with passes read width (n - 1) (at + width)
  unfolding first_with
  first_next zero at h e = absurd (omega arith)
  first_next (suc n) at h e = let k : suc n - 1 ≡ n = omega arith in rw k (sym (no_go _ _ _ _ e refl))

  pub first_end : (n at : ℕ) → n ≤ 0 → first_with passes read width n at ≡ None
  unfolding first_with
  first_end zero at h = refl
  first_end (suc n) at h = absurd (omega arith)

  -- a record that is found is one of those that were looked at
  pub record LookedAt (n at : ℕ) (x : A) : Type 0 where
    pub place : ℕ
    pub found : read place ≡ x
    pub within : place + width ≤ at + width * n

  pub first_within : (n at : ℕ) (x : A) → first_with passes read width n at ≡ Some x → LookedAt n at x
  unfolding first_with ◌if◌else◌
  first_within zero at x e = absurd (let z : ◌≡◌ {A = ℕ} 0 1 = cc in omega arith)
  first_within (suc n) at x e = by (passes (read at)) (first_within n (at + width) x) e
    where
      by : (b : Bool) → (first_with passes read width n (at + width) ≡ Some x → LookedAt n (at + width) x)
          → (Some (read at) if b else first_with passes read width n (at + width)) ≡ Some x → LookedAt (suc n) at x
      by true later e = record { place = at; found = cc; within = rw mul-suc (omega arith) }
      by false later e = let v = later e in record { place = v.place; found = v.found; within = rw mul-suc (omega (arith, v.within)) }

-- the values: the first of the entries that are left, and the others
module _ (s : List ℕ) where
  pub values_next : (n at : ℕ) (values : List ℕ) → 0 < n → ((dynamic s at).d_tag ≡ DT_NULL → ⊥) → values_from s n at values ≡ values_from s (n - 1) (at + 16) (with_tag values (dynamic s at).d_tag (dynamic s at).d_val)
  unfolding values_from
  values_next zero at values h e = absurd (omega arith)
  values_next (suc n) at values h e = let k : suc n - 1 ≡ n = omega arith in rw k (sym (no_go _ _ _ _ (ne_eqb _ _ e) refl))

  pub values_stop : (n at : ℕ) (values : List ℕ) → (dynamic s at).d_tag ≡ DT_NULL → values_from s n at values ≡ values
  unfolding values_from
  values_stop zero at values e = refl
  values_stop (suc n) at values e = sym (yes _ _ _ (eq-eqb _ _ e))

  pub values_end : (n at : ℕ) (values : List ℕ) → n ≤ 0 → values_from s n at values ≡ values
  unfolding values_from
  values_end zero at values h = refl
  values_end (suc n) at values h = absurd (omega arith)

-- entries that are given lie in the file
module _ (len width : ℕ) where
  none_in_file : InFile len width (Ok no_entries)
  none_in_file x e = let p : no_entries ≡ x = cc in rw (← p) (omega arith)

  refused_in_file : (r : ElfParserError) → InFile len width (Err r)
  refused_in_file r x e = absurd (apart r x e)

  row_in_file : (b : Bool) (x y : Result Entries ElfParserError) → InFile len width x → InFile len width y → InFile len width (x if b else y)
  unfolding ◌if◌else◌
  row_in_file true x y h k = h
  row_in_file false x y h k = k

  or_invalid_in_file : (a : Result Entries ElfParserError) → InFile len width a → InFile len width (or_invalid a)
  or_invalid_in_file (Ok y) h = h
  or_invalid_in_file (Err r) h = refused_in_file InvalidDynamicSectionTable

  or_else_in_file : (a b : Result Entries ElfParserError) → InFile len width a → InFile len width b → InFile len width (or_else a b)
  unfolding or_else
  or_else_in_file (Ok y) b h k = h
  or_else_in_file (Err r) b h k = k

module _ (s : List ℕ) where
  segment_in_file : (f : Option Elf64Phdr) → InFile (length s) 16 (segment_slice (length s) f)
  unfolding segment_slice
  segment_in_file None = refused_in_file _ _ _
  segment_in_file (Some h) = slice_in_file _ _ _ _

  section_in_file : (f : Option Elf64Shdr) → InFile (length s) 16 (section_slice (length s) f)
  unfolding section_slice
  section_in_file None = none_in_file _ _
  section_in_file (Some h) = or_invalid_in_file _ _ _ (slice_in_file _ _ _ _)

  pub table_in_file : (t : Tables) → InFile (length s) 16 (dynamic_table s t)
  table_in_file t = or_else_in_file _ _ _ _ (segment_in_file _) (section_in_file _)

  relocations_by_in_file : (m : Option ℕ) (size width : ℕ) → InFile (length s) width (relocations_by (length s) m size width)
  unfolding relocations_by relocations_at
  relocations_by_in_file (Some offset) size width = row_in_file _ _ _ _ _ (refused_in_file _ _ _) (or_invalid_in_file _ _ _ (slice_in_file _ _ _ _))
  relocations_by_in_file None size width = refused_in_file _ _ _

  relocations_then_in_file : (m : Result (Option ℕ) ElfParserError) (size width : ℕ) → InFile (length s) width (and_then m (λ offset. relocations_by (length s) offset size width))
  relocations_then_in_file (Ok m) size width = relocations_by_in_file m size width
  relocations_then_in_file (Err r) size width = refused_in_file _ _ _

  relocations_in_file : (t : Tables) (width vaddr size entry-size : ℕ) → InFile (length s) width (relocations_of s t width vaddr size entry-size)
  unfolding relocations_of
  relocations_in_file t width vaddr size entry-size =
      row_in_file _ _ _ _ _ (none_in_file _ _)
      (row_in_file _ _ _ _ _ (refused_in_file _ _ _)
      (row_in_file _ _ _ _ _ (refused_in_file _ _ _) (relocations_then_in_file _ _ _)))

  symbols_by_in_file : (f : Option Elf64Shdr) → InFile (length s) 24 (symbols_by (length s) f)
  unfolding symbols_by
  symbols_by_in_file (Some h) = symbol_table_in_file _ _
  symbols_by_in_file None = refused_in_file _ _ _

  symbols_in_file : (t : Tables) (vaddr : ℕ) → InFile (length s) 24 (symbols_of s t vaddr)
  unfolding symbols_of
  symbols_in_file t vaddr = row_in_file _ _ _ _ _ (none_in_file _ _) (symbols_by_in_file _)

-- what the dynamic table leads to lies in the file
pub record LinkedInside (len : ℕ) (d : Linked) : Type 0 where
  pub relocations : d.relocations.offset + 16 * d.relocations.count ≤ len
  pub relas : d.relas.offset + 24 * d.relas.count ≤ len
  pub symbols : d.symbols.offset + 24 * d.symbols.count ≤ len

linking_inside : (len : ℕ) (a b c : Result Entries ElfParserError) (hash : Option ℕ) (d : Linked) → InFile len 16 a → InFile len 24 b → InFile len 24 c
    → and_then a (λ e. and_then b (λ r. and_then c (λ x. Ok (record { relocations = e; relas = r; symbols = x; hash_table = hash })))) ≡ Ok d → LinkedInside len d
linking_inside len (Err r) b c hash d h k l e = absurd (apart r d e)
linking_inside len (Ok x) (Err r) c hash d h k l e = absurd (apart r d e)
linking_inside len (Ok x) (Ok y) (Err r) hash d h k l e = absurd (apart r d e)
linking_inside len (Ok x) (Ok y) (Ok w) hash d h k l e =
    let p : record { relocations = x; relas = y; symbols = w; hash_table = hash } ≡ d = ok_is _ _ e in
    rw (← p) (record { relocations = h x refl; relas = k y refl; symbols = l w refl })

pub linked_inside : (s : List ℕ) (t : Tables) (d : Linked) → dynamic_of s t ≡ Ok d → LinkedInside (length s) d
linked_inside s t d e =
    let a = went (dynamic_table s t) (λ e. linked_by s t (dynamic_values s e.count e.offset)) d e in
    by (dynamic_values s a.value.count a.value.offset) a.second
  where
    by : (v : List ℕ) → linked_by s t v ≡ Ok d → LinkedInside (length s) d
    by v e =
        linking_inside (length s)
        (relocations_of s t 16 (get_or v DT_REL 0) (get_or v DT_RELSZ 0) (get_or v DT_RELENT 0))
        (relocations_of s t 24 (get_or v DT_RELA 0) (get_or v DT_RELASZ 0) (get_or v DT_RELAENT 0))
        (symbols_of s t (get_or v DT_SYMTAB 0))
        (address_of (get_or v DT_HASH 0)) d
        (relocations_in_file s t 16 _ _ _) (relocations_in_file s t 24 _ _ _) (symbols_in_file s t _) e

-- ---- the loops of the code

-- the search for a record, those from number i on
module _ {A : Type 0} (passes : A → Bool) (read : ℕ → A) (width count from : ℕ) where
  abbrev pub later : ℕ → Option A
  later i = first_with passes read width (count - i) (from + width * i)

  later_is : (i : ℕ) → i < count → later i ≡ (Some (read (from + width * i)) if passes (read (from + width * i)) else later (i + 1))
  unfolding first_with
  later_is i h = rw (less_one count i h, one_further from width i)

  pub later_here : (i : ℕ) → i < count → true ≡ passes (read (from + width * i)) → later i ≡ Some (read (from + width * i))
  unfolding ◌if◌else◌
  later_here i h e = rw (later_is i h, ← e)

  pub later_next : (i : ℕ) → i < count → false ≡ passes (read (from + width * i)) → later i ≡ later (i + 1)
  unfolding ◌if◌else◌
  later_next i h e = rw (later_is i h, ← e)

  pub later_end : (i : ℕ) → count ≤ i → later i ≡ None
  unfolding first_with
  later_end i h = let a : count - i ≡ 0 = omega arith in rw a

-- the values, from entry number i on
module _ (s : List ℕ) (count from : ℕ) where
  abbrev pub values_at : ℕ → List ℕ → List ℕ
  values_at i values = values_from s (count - i) (from + 16 * i) values

  values_is : (i : ℕ) (values : List ℕ) → i < count
      → values_at i values ≡ (values if eqb (dynamic s (from + 16 * i)).d_tag DT_NULL else values_at (i + 1) (with_tag values (dynamic s (from + 16 * i)).d_tag (dynamic s (from + 16 * i)).d_val))
  unfolding values_from
  values_is i values h = rw (less_one count i h, one_further from 16 i)

  pub values_at_next : (i : ℕ) (values : List ℕ) (d : Elf64Dyn) → i < count → d ≡ dynamic s (from + 16 * i) → (d.d_tag ≡ DT_NULL → ⊥) → values_at i values ≡ values_at (i + 1) (with_tag values d.d_tag d.d_val)
  unfolding ◌if◌else◌
  values_at_next i values d h e n = rw (values_is i values h, ← e, ne_eqb _ _ n)

  pub values_at_stop : (i : ℕ) (values : List ℕ) (d : Elf64Dyn) → i < count → d ≡ dynamic s (from + 16 * i) → d.d_tag ≡ DT_NULL → values_at i values ≡ values
  unfolding ◌if◌else◌
  values_at_stop i values d h e n = rw (values_is i values h, ← e, eq-eqb _ _ n)

  pub values_at_end : (i : ℕ) (values : List ℕ) → count ≤ i → values_at i values ≡ values
  unfolding values_from
  values_at_end i values h = let a : count - i ≡ 0 = omega arith in rw a
