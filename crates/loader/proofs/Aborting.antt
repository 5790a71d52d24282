-- The read-only bytes of an accepted load lie in the lent ones, and its text lies in them but in one case, where the Rust aborts:
-- version 1, and sections copied from the program's start on.
-- Assumes nothing.
use Prim.Native.Nat.{ℕ, zero, suc, ◌+◌, ◌-◌, ◌≤◌, ◌<◌, ◌^◌}
use native.Mathlib.Omega.{arith}
use native.Mathlib.Nat.{eq-or-lt_of_le}
use mathlib.Core.Path.{◌≡◌, refl, sym, ap, subst, ◌∙◌}
use mathlib.Core.Logic.{⊎_elim, ◌↔◌}
use mathlib.Core.Bool.{Bool, true, false, not, true≢false}
use mathlib.Core.List.{List}
use lib.ListN.{length}
use lib.Dec.{eqb}
use borrow.Author.Tests.{ltb-false, lt-ltb, le-ltb, le-leb, lt-leb, not-false}
use Rattle.std.specs.Prelude.{Some, None, Ok, Err, Result}
use Rattle.ebpf.specs.Choice.{◌if◌else◌, yes, no_go, not_first, row_rest, or_false, and_false}
use Rattle.elf_parser.specs.declared.types.Elf64Ehdr.{Elf64Ehdr}
use Rattle.elf_parser.specs.declared.types.Elf64Shdr.{Elf64Shdr}
use Rattle.elf_parser.specs.declared.layout.Layout.{Layout}
use Rattle.elf_parser.specs.Types.{file_header, SHT_NOBITS}
use Rattle.elf_parser.specs.Parse.{parsed}
use Rattle.elf_parser.specs.Errors.{and_then, apart, ◌then◌}
use Rattle.elf_parser.specs.Records.{file_range, section_header_of, file_range_of, range_stands}
use Rattle.elf_parser.specs.SectionNames.{same_bytes}
use Rattle.program.proofs.Cases.{by_test, by_le}
use Rattle.loader.specs.declared.read_only.Placing.TheVariants.{Borrowed, Owned}
use Rattle.loader.specs.declared.read_only.Placing.{Placing}
use Rattle.loader.specs.declared.answer.Accepted.{Accepted}
use Rattle.loader.specs.declared.error.ElfError.{ElfError}
use Rattle.loader.specs.declared.error.ElfError.TheVariants.{BuiltinsNotAscending, TextOutsideReadOnly}
use Rattle.loader.specs.declared.read_only.Extent.{Extent}
use Rattle.loader.specs.declared.sections.Survey.{Survey}
use Rattle.loader.specs.declared.validate.Config.{Config}
use Rattle.loader.specs.declared.validate.Job.{Job}
use Rattle.loader.specs.Results.{then_both, then_ok}
use Rattle.loader.specs.Addresses.{sum_up_to, machine_addr, MM_PROGRAM_START, MM_STACK_START}
use Rattle.loader.specs.Sections.{header_or, section_at, name_of, dot_text, outside_file, survey_step, survey_from, no_survey, survey}
use Rattle.loader.specs.ReadOnly.{shift_of, read_only, gathered, from_start, placing}
use Rattle.loader.specs.Placed.{owned_fits, owned_room}
use Rattle.loader.specs.Validate.{size_check, ascends, header_check, sections_check, text_check, job_of, file_check, is_version2, validated, parsed_then, prepared}
use Rattle.loader.specs.GetBytes.{text_at, bytes_at, text_place, ro_place, lent_for, ro_of, text_place_of}
use Rattle.loader.specs.Load.{accepted_as, answer_by, load_of, answer_of}
use Rattle.loader.proofs.Answered.{by_load}
use Rattle.loader.proofs.Readied.{Lies, pick_in, in_file, sections_pass, text_passes, readied, placed_as}
use Rattle.loader.proofs.Gathered.{Spans, spans, copied_offset, Stays, stays, copied_lowest}
use Rattle.elf_parser.specs.declared.error.ElfParserError.{ElfParserError}
use Rattle.elf_parser.specs.Parts.{stands}

-- ---- the text's section is one of those surveyed, with that name, and all of them lie in the file

abbrev IsText : List ℕ → Layout → ℕ → ℕ → Type 0
IsText s l count i = (i < count) × (same_bytes (name_of s l (section_at s l i)) dot_text ≡ true)

abbrev HasText : List ℕ → Layout → ℕ → Survey → Type 0
HasText s l count v = (v.texts ≡ 0 → ⊥) → IsText s l count v.text

step_text : (s : List ℕ) (l : Layout) (count i : ℕ) (v : Survey) → i < count → HasText s l count v → HasText s l count (survey_step s l i v)
unfolding survey_step
step_text s l count i v below g t = pick_in (IsText s l count) (same_bytes (name_of s l (section_at s l i)) dot_text) (eqb v.texts 0) v.texts v.text i refl g (λ is. (below, is)) t

from_text : (s : List ℕ) (l : Layout) (count n i : ℕ) (v : Survey) → i + n ≤ count → HasText s l count v → HasText s l count (survey_from s l n i v)
unfolding survey_from
from_text s l count zero i v all g = g
from_text s l count (suc n) i v all g = from_text s l count n (i + 1) (survey_step s l i v) (omega (arith, all)) (step_text s l count i v (omega (arith, all)) g)

survey_text : (s : List ℕ) (l : Layout) (count : ℕ) → HasText s l count (survey s l count)
survey_text s l count = from_text s l count count 0 no_survey (omega arith) (λ t. absurd (t refl))

step_lies : (s : List ℕ) (l : Layout) (i : ℕ) (v : Survey) → (survey_step s l i v).outside ≡ false → (v.outside ≡ false) × Lies s l i
unfolding survey_step
step_lies s l i v e =
    let o = or_false v.outside (outside_file (length s) (section_at s l i).sh_offset (section_at s l i).sh_size) e in
    (o.0, in_file (length s) (section_at s l i).sh_offset (section_at s l i).sh_size o.1)

from_lie : (s : List ℕ) (l : Layout) (n i : ℕ) (v : Survey) → (survey_from s l n i v).outside ≡ false → (v.outside ≡ false) × ((j : ℕ) → i ≤ j → j < i + n → Lies s l j)
unfolding survey_from
from_lie s l zero i v e = (e, λ j lo hi. absurd (omega (arith, lo, hi)))
from_lie s l (suc n) i v e =
    let r = from_lie s l n (i + 1) (survey_step s l i v) e in
    let w = step_lies s l i v r.0 in
    (w.0, λ j lo hi. ⊎_elim (λ p. subst (Lies s l) p w.1) (λ p. r.1 j (omega (arith, p)) (omega (arith, hi))) (eq-or-lt_of_le lo))

survey_lie : (s : List ℕ) (l : Layout) (count : ℕ) → (survey s l count).outside ≡ false → (i : ℕ) → i < count → Lies s l i
survey_lie s l count e i below = (from_lie s l count 0 no_survey e).1 i (omega arith) (omega (arith, below))

text_read_only : (name : List ℕ) → same_bytes name dot_text ≡ true → read_only name ≡ true
unfolding read_only
text_read_only name e = rw e refl

-- ---- the text's bytes have a place: no section without a header holds the entry

text_stands : (len e : ℕ) (h : Result Elf64Shdr ElfParserError) → e < (header_or h).sh_addr + (header_or h).sh_size → (header_or h).sh_offset + (header_or h).sh_size ≤ len
    → and_then h (file_range len) ≡ stands (0 if eqb (header_or h).sh_type SHT_NOBITS else (header_or h).sh_offset) (0 if eqb (header_or h).sh_type SHT_NOBITS else (header_or h).sh_size)
text_stands len e (Ok h) below lies = range_stands len h lies
text_stands len e (Err r) below lies = absurd (omega (arith, below))

-- ---- the checks

-- version 2 is optimized
optimized : (h : Elf64Ehdr) (c : Config) (version2 : Bool) → header_check h c version2 ≡ Ok tt → version2 ≡ true → c.optimize_rodata ≡ true
unfolding header_check
optimized h c version2 e on =
    let e1 = row_rest _ _ _ _ (apart _ _) e in
    let e2 = row_rest _ _ _ _ (apart _ _) e1 in
    let e3 = row_rest _ _ _ _ (apart _ _) e2 in
    let e4 = row_rest _ _ _ _ (apart _ _) e3 in
    let e5 = row_rest _ _ _ _ (apart _ _) e4 in
    not-false _ (and_false version2 _ (not_first _ _ _ _ (apart _ _) e5) on)

machine_1 : (addr : ℕ) → machine_addr false addr ≡ sum_up_to addr MM_PROGRAM_START
unfolding machine_addr ◌if◌else◌
machine_1 addr = refl

machine_2 : (addr : ℕ) → MM_PROGRAM_START ≤ addr → machine_addr true addr ≡ addr
unfolding machine_addr ◌if◌else◌
machine_2 addr h = rw (le-leb MM_PROGRAM_START addr h) refl

-- in version 1 the text stands at the program's start at the latest, before it is put into the machine
text_low : (version2 reject-broken : Bool) (e_entry : ℕ) (h : Elf64Shdr) → text_check version2 reject-broken e_entry h ≡ Ok tt → version2 ≡ false → h.sh_addr ≤ MM_PROGRAM_START
unfolding text_check
text_low true reject-broken e_entry h e off = absurd (true≢false off)
text_low false reject-broken e_entry h e off =
    let e1 = row_rest _ _ _ _ (apart _ _) e in
    let e2 = row_rest _ _ _ _ (apart _ _) e1 in
    let e3 = row_rest _ _ _ _ (apart _ _) e2 in
    let e4 = row_rest _ _ _ _ (apart _ _) e3 in
    let f : machine_addr false h.sh_addr ≤ MM_STACK_START = ltb-false _ _ (not_first _ _ _ _ (apart _ _) e4) in
    let q = machine_1 h.sh_addr in
    omega (arith, f, q)

-- ---- what the checks leave of the text

record Texts (s : List ℕ) (c : Config) (j : Job) : Type 0 where
  index : ℕ
  listed : index < (file_header s).e_shnum
  named : read_only (name_of s j.layout (section_at s j.layout index)) ≡ true
  stands : file_range_of s j.layout index ≡ stands j.text.start j.text.length
  addr_is : j.sh_addr ≡ (section_at s j.layout index).sh_addr
  machine : j.addr ≡ machine_addr j.version2 j.sh_addr
  low : j.version2 ≡ false → j.sh_addr ≤ MM_PROGRAM_START
  version : j.version2 ≡ is_version2 (file_header s)
  optimizes : j.version2 ≡ true → c.optimize_rodata ≡ true
  lie : (i : ℕ) → i < (file_header s).e_shnum → Lies s j.layout i

validated_text : (s : List ℕ) (c : Config) (l : Layout) (j : Job) → validated s c l ≡ Ok j → Texts s c j
unfolding validated job_of section_at
validated_text s c l j e = subst (Texts s c) done.1 (record {
  index = v.text;
  listed = has.0;
  named = text_read_only (name_of s l text) has.1;
  stands = text_stands (length s) h.e_entry (section_header_of s l v.text) below (lies v.text has.0);
  addr_is = refl;
  machine = refl;
  low = text_low version2 c.reject_broken_elfs h.e_entry text (then_both (sections_check s l v) (text_check version2 c.reject_broken_elfs h.e_entry text) tt rest).1;
  version = refl;
  optimizes = optimized h c version2 (then_both (header_check h c version2) _ tt done.0).0;
  lie = lies;
})
  where
    h : Elf64Ehdr
    h = file_header s

    version2 : Bool
    version2 = is_version2 h

    v : Survey
    v = survey s l h.e_shnum

    text : Elf64Shdr
    text = section_at s l v.text

    place : Result Placing ElfError
    place = placing s l h.e_shnum version2 c.reject_broken_elfs c.optimize_rodata

    done : (file_check s c l h version2 v ≡ Ok tt) × (job_of c version2 l h.e_entry text place ≡ j)
    done = then_ok (file_check s c l h version2 v) (job_of c version2 l h.e_entry text place) j e

    rest : (sections_check s l v then text_check version2 c.reject_broken_elfs h.e_entry text) ≡ Ok tt
    rest = (then_both (header_check h c version2) (sections_check s l v then text_check version2 c.reject_broken_elfs h.e_entry text) tt done.0).1

    sections : (v.texts ≡ 1) × (v.outside ≡ false)
    sections = sections_pass s l v (then_both (sections_check s l v) (text_check version2 c.reject_broken_elfs h.e_entry text) tt rest).0

    has : IsText s l h.e_shnum v.text
    has = survey_text s l h.e_shnum (λ z. omega (arith, sections.0, z))

    lies : (i : ℕ) → i < h.e_shnum → Lies s l i
    lies = survey_lie s l h.e_shnum sections.1

    below : h.e_entry < text.sh_addr + text.sh_size
    below = text_passes version2 c.reject_broken_elfs h.e_entry text (then_both (sections_check s l v) (text_check version2 c.reject_broken_elfs h.e_entry text) tt rest).1

parsed_text : (s : List ℕ) (c : Config) (p : Result Layout ElfParserError) (j : Job) → parsed_then s c p ≡ Ok j → Texts s c j
parsed_text s c (Err r) j e = absurd (apart _ _ e)
parsed_text s c (Ok l) j e = validated_text s c l j e

prepared_text : (s builtins : List ℕ) (c : Config) (n m : ℕ) (j : Job) → prepared s builtins c n m ≡ Ok j → Texts s c j
unfolding prepared
prepared_text s builtins c n m j e =
    let w = (then_both (size_check (length s) n m) (Err BuiltinsNotAscending if not (ascends builtins) else parsed_then s c (parsed s)) j e).1 in
    parsed_text s c (parsed s) j (row_rest _ _ _ _ (apart _ _) w)

-- ---- the places, by the numbers of an answer

no_part : (r : ElfError) (at k : ℕ) → bytes_at at k ≡ Err r → ⊥
no_part r at k e = let z : ◌≡◌ {A = ℕ} 0 1 = cc in omega arith

from_low : (addr : ℕ) → addr < MM_PROGRAM_START → from_start addr ≡ addr
unfolding from_start ◌if◌else◌
from_low addr h = rw (lt-leb MM_PROGRAM_START addr h) refl

from_high : (addr : ℕ) → MM_PROGRAM_START ≤ addr → from_start addr ≡ addr - MM_PROGRAM_START
unfolding from_start ◌if◌else◌
from_high addr h = rw (le-leb MM_PROGRAM_START addr h) refl

ro_in : (lent start n : ℕ) → start + n ≤ lent → ro_place lent start n ≡ bytes_at start n
unfolding ro_place
ro_in lent start n h = sym (no_go _ _ _ _ (le-ltb lent (start + n) h) refl)

module _ (lent offset start n addr size : ℕ) (lies : start + n ≤ lent) where
  text_in : text_at addr offset + size ≤ n → text_place lent offset start n addr size ≡ bytes_at (start + text_at addr offset) size
  unfolding text_place
  text_in h = sym (no_go _ _ _ _ (le-ltb lent (start + n) lies) (no_go _ _ _ _ (le-ltb n (text_at addr offset + size) h) refl))

  text_out : n < text_at addr offset + size → text_place lent offset start n addr size ≡ Err TextOutsideReadOnly
  unfolding text_place
  text_out h = sym (no_go _ _ _ _ (le-ltb lent (start + n) lies) (yes _ _ _ (lt-ltb n (text_at addr offset + size) h)))

-- a text that is not refused has its place
module _ {A : Type 0} where
  else_row : (b : Bool) (x y : A) → ((x if b else y) ≡ x → ⊥) → (x if b else y) ≡ y
  unfolding ◌if◌else◌
  else_row true x y h = absurd (h refl)
  else_row false x y h = refl

text_else : (lent offset start n addr size : ℕ) → (text_place lent offset start n addr size ≡ Err TextOutsideReadOnly → ⊥)
    → text_place lent offset start n addr size ≡ bytes_at (start + text_at addr offset) size
unfolding text_place
text_else lent offset start n addr size h = let e = else_row _ _ _ h in e ∙ else_row _ _ _ (λ q. h (e ∙ q))

-- copied sections of version 1: the text stands at its address less the lowest one, unless this is the program's start. Then the
-- offset is 0, and the text's place the whole program's start
module _ (lent offset lowest n addr sh-addr size : ℕ)
    (lies : 0 + n ≤ lent)
    (few : n ≤ 2 ^ 24)
    (is : addr ≡ sum_up_to sh-addr MM_PROGRAM_START)
    (low : sh-addr ≤ MM_PROGRAM_START)
    (above : lowest ≤ sh-addr)
    (room : (sh-addr - lowest) + size ≤ n)
    (off : offset ≡ from_start lowest) where
  copied_text : (text_place lent offset 0 n addr size ≡ Err TextOutsideReadOnly) ↔ (lowest ≡ MM_PROGRAM_START)
  copied_text = (
    λ e. by_le MM_PROGRAM_START lowest (λ b. lowest ≡ MM_PROGRAM_START)
        (λ high. omega (arith, high, above, low))
        (λ less. absurd (no_part _ _ _ (sym (text_in lent offset 0 n addr size lies (inside less)) ∙ e))),
    λ p. text_out lent offset 0 n addr size lies (outside p),
  )
    where
      inside : lowest < MM_PROGRAM_START → text_at addr offset + size ≤ n
      inside less = let q = from_low lowest less in omega (arith, less, q, off, is, low, above, room)

      outside : lowest ≡ MM_PROGRAM_START → n < text_at addr offset + size
      outside p = let q = from_high lowest (omega (arith, p)) in omega (arith, p, q, off, is, low, above, few)

-- sections that stay in the image: the text stands at its address less the lowest one
module _ (len lowest highest shift offset start n addr sh-addr size : ℕ)
    (from : shift ≤ lowest)
    (to : highest ≤ shift + len)
    (above : lowest ≤ sh-addr)
    (below : sh-addr + size ≤ highest)
    (off : offset ≡ from_start lowest)
    (start_is : start ≡ lowest - shift)
    (length_is : n ≡ (highest - shift) - (lowest - shift)) where
  stay_lie : start + n ≤ len
  stay_lie = omega (arith, from, to, above, below, start_is, length_is)

  -- in version 1 at their offsets in the file, which are below the program's start
  stay_1 : len ≤ 2 ^ 24 → shift ≡ 0 → addr ≡ sum_up_to sh-addr MM_PROGRAM_START → text_at addr offset + size ≤ n
  stay_1 few none is = let q = from_low lowest (omega (arith, few, none, to, above, below)) in omega (arith, q, few, none, is, from, to, above, below, off, length_is)

  -- in version 2 from the program's start on
  stay_2 : MM_PROGRAM_START ≤ lowest → addr ≡ sh-addr → text_at addr offset + size ≤ n
  stay_2 high is = let q = from_high lowest high in omega (arith, q, high, is, from, above, below, off, length_is)

-- ---- by the placing of a job that passed the checks

-- in version 1, the read-only sections are copied from the program's start on
abbrev pub FromStart : Job → Type 0
FromStart j = (j.version2 ≡ false) × ((offset : ℕ) × (k : ℕ) × (j.placing ≡ Ok (Owned offset MM_PROGRAM_START k)))

-- the same, by the file: in version 1, with the optimization on, their lowest address is the program's start
abbrev pub LowestAtStart : List ℕ → Config → Job → Type 0
LowestAtStart file c j =
    (j.version2 ≡ false) × (c.optimize_rodata ≡ true) × ((x : Extent) × (gathered file j.layout (file_header file).e_shnum j.version2 c.reject_broken_elfs ≡ Ok x) × (x.lowest ≡ MM_PROGRAM_START))

module _ (file builtins : List ℕ) (c : Config) (n m : ℕ) (j : Job) (ready : prepared file builtins c n m ≡ Ok j) where
  t : Texts file c j
  t = prepared_text file builtins c n m j ready

  short : length file ≤ 2 ^ 24
  short = (readied file builtins c n m j ready).0.short

  in_image : length file ≤ n
  in_image = (readied file builtins c n m j ready).1

  in_buffer : length file ≤ m
  in_buffer = (readied file builtins c n m j ready).2

  is_placed : (p : Result Placing ElfError) → j.placing ≡ p → placing file j.layout (file_header file).e_shnum j.version2 c.reject_broken_elfs c.optimize_rodata ≡ p
  is_placed p e = rw t.version (sym (placed_as file builtins c n m j ready) ∙ e)

  module _ (offset lowest k : ℕ) (owns : j.placing ≡ Ok (Owned offset lowest k)) where
    -- only version 1 copies
    copies : (j.version2 ≡ false) × (offset ≡ from_start lowest)
    copies = copied_offset file j.layout (file_header file).e_shnum j.version2 c.reject_broken_elfs c.optimize_rodata offset lowest k t.optimizes (is_placed _ owns)

    fits : k ≤ length file
    fits = owned_fits file j.layout (file_header file).e_shnum j.version2 c.reject_broken_elfs c.optimize_rodata offset lowest k (is_placed _ owns)

    ro_copied : ro_place m 0 k ≡ bytes_at 0 k
    ro_copied = ro_in m 0 k (omega (arith, fits, in_buffer))

    text_copied : (text_place m offset 0 k j.addr j.text.length ≡ Err TextOutsideReadOnly) ↔ (lowest ≡ MM_PROGRAM_START)
    text_copied =
        let r = owned_room file j.layout (file_header file).e_shnum j.version2 c.reject_broken_elfs c.optimize_rodata offset lowest k short (is_placed _ owns) t.index t.listed t.named (record { start = j.text.start; length = j.text.length }) t.stands in
        let a = t.addr_is in
        let is : j.addr ≡ sum_up_to j.sh_addr MM_PROGRAM_START = t.machine ∙ ap (λ (v : Bool). machine_addr v j.sh_addr) copies.0 ∙ machine_1 j.sh_addr in
        copied_text m offset lowest k j.addr j.sh_addr j.text.length (omega (arith, fits, in_buffer)) (omega (arith, fits, short)) is (t.low copies.0) (omega (arith, a, r.not_below)) (omega (arith, a, r.room)) copies.1

  -- the extent x of sections that stay in the image
  module _ (offset start k : ℕ) (x : Extent) (all : Spans file j.layout j.version2 t.index j.text.length (file_header file).e_shnum x) (stay : Stays j.version2 x offset start k) where
    kept : (shift_of x ≤ x.lowest) × (x.highest ≤ shift_of x + length file)
    kept = all.shifts.kept stay.valid

    above : x.lowest ≤ j.sh_addr
    above = let i = (all.text t.listed).above in let a = t.addr_is in omega (arith, i, a)

    below : j.sh_addr + j.text.length ≤ x.highest
    below =
        let i = (all.text t.listed).below in
        let h = (all.text t.listed).ahead in
        let f = (readied file builtins c n m j ready).0.text in
        let a = t.addr_is in
        omega (arith, i, h, f, a, short)

    stay_in : start + k ≤ n
    stay_in =
        let lie = stay_lie (length file) x.lowest x.highest (shift_of x) offset start k j.addr j.sh_addr j.text.length kept.0 kept.1 above below stay.offset_is stay.start_is stay.length_is in
        omega (arith, lie, in_image)

    text_room : text_at j.addr offset + j.text.length ≤ k
    text_room = by_test j.version2 (λ v. j.version2 ≡ v → text_at j.addr offset + j.text.length ≤ k)
        (λ v on. stay_2 (length file) x.lowest x.highest (shift_of x) offset start k j.addr j.sh_addr j.text.length kept.0 kept.1 above below stay.offset_is stay.start_is stay.length_is
        (stay.above on)
        (t.machine ∙ ap (λ (b : Bool). machine_addr b j.sh_addr) on ∙ machine_2 j.sh_addr (let h = stay.above on in omega (arith, h, above))))
        (λ v off. stay_1 (length file) x.lowest x.highest (shift_of x) offset start k j.addr j.sh_addr j.text.length kept.0 kept.1 above below stay.offset_is stay.start_is stay.length_is
        short
        (all.shifts.plain off)
        (t.machine ∙ ap (λ (b : Bool). machine_addr b j.sh_addr) off ∙ machine_1 j.sh_addr))
        refl

  text_borrowed : (offset start k : ℕ) → j.placing ≡ Ok (Borrowed offset start k)
      → (ro_place n start k ≡ bytes_at start k) × (text_place n offset start k j.addr j.text.length ≡ bytes_at (start + text_at j.addr offset) j.text.length)
  text_borrowed offset start k e =
      let w = stays file j.layout (file_header file).e_shnum j.version2 c.reject_broken_elfs c.optimize_rodata offset start k (is_placed _ e) in
      let all = spans file j.layout j.version2 c.reject_broken_elfs (file_header file).e_shnum t.index j.text.length t.lie t.named (record { start = j.text.start; length = j.text.length }) t.stands refl w.0 w.1 in
      let lies = stay_in offset start k w.0 all w.2 in
      (ro_in n start k lies, text_in n offset start k j.addr j.text.length lies (text_room offset start k w.0 all w.2))

  -- both places of an answer
  abbrev Places : Accepted → Type 0
  Places a = (ro_of a (lent_for a n m) ≡ bytes_at a.ro_start a.ro_length) × ((text_place_of a (lent_for a n m) ≡ Err TextOutsideReadOnly) ↔ FromStart j)

  owned_places : (used moves offset lowest k : ℕ) → j.placing ≡ Ok (Owned offset lowest k) → Places (accepted_as j true offset 0 k used moves)
  unfolding ◌if◌else◌
  owned_places used moves offset lowest k owns =
      let r = text_copied offset lowest k owns in (
        ro_copied offset lowest k owns,
        (
          λ e. ((copies offset lowest k owns).0, (offset, k, owns ∙ ap (λ (u : ℕ). Ok (Owned offset u k)) (r.0 e))),
          λ h. r.1 (same h.1.0 h.1.1 h.1.2),
        ),
      )
    where
      same : (o i : ℕ) → j.placing ≡ Ok (Owned o MM_PROGRAM_START i) → lowest ≡ MM_PROGRAM_START
      same o i q = let w : Ok (Owned offset lowest k) ≡ Ok (Owned o MM_PROGRAM_START i) = sym owns ∙ q in cc

  borrowed_places : (used moves offset start k : ℕ) → j.placing ≡ Ok (Borrowed offset start k) → Places (accepted_as j false offset start k used moves)
  unfolding ◌if◌else◌
  borrowed_places used moves offset start k stay = (
    (text_borrowed offset start k stay).0,
    (λ e. absurd (no_part _ _ _ (sym (text_borrowed offset start k stay).1 ∙ e)), λ h. absurd (not_both h.1.0 h.1.1 h.1.2)),
  )
    where
      not_both : (o i : ℕ) → j.placing ≡ Ok (Owned o MM_PROGRAM_START i) → ⊥
      not_both o i q = let w : Ok (Borrowed offset start k) ≡ Ok (Owned o MM_PROGRAM_START i) = sym stay ∙ q in let z : ◌≡◌ {A = ℕ} 0 1 = cc in omega arith

  places : (used moves : ℕ) (a : Accepted) (p : Result Placing ElfError) → j.placing ≡ p → answer_by j p used moves ≡ Ok a → Places a
  places used moves a (Ok (Borrowed offset start k)) q e =
      let s : accepted_as j false offset start k used moves ≡ a = cc in
      subst Places s (borrowed_places used moves offset start k q)
  places used moves a (Ok (Owned offset lowest k)) q e =
      let s : accepted_as j true offset 0 k used moves ≡ a = cc in
      subst Places s (owned_places used moves offset lowest k q)
  places used moves a (Err r) q e = let z : ◌≡◌ {A = ℕ} 0 1 = cc in absurd (omega arith)

  -- ---- the lowest address of the sections gathered

  starts_low : (optimize : Bool) (a : ℕ) → MM_PROGRAM_START ≡ (a if optimize else 0) → (optimize ≡ true) × (a ≡ MM_PROGRAM_START)
  unfolding ◌if◌else◌
  starts_low true a e = (refl, sym e)
  starts_low false a e = absurd (omega (arith, e))

  low_from : FromStart j → LowestAtStart file c j
  low_from h =
      let w = copied_lowest file j.layout (file_header file).e_shnum j.version2 c.reject_broken_elfs c.optimize_rodata h.1.0 MM_PROGRAM_START h.1.1 (is_placed _ h.1.2) in
      let s = starts_low c.optimize_rodata w.0.lowest w.2 in
      (h.0, s.0, (w.0, w.1, s.1))

  -- the extent is that of the sections gathered
  one_extent : (x y : Extent) (g : Result Extent ElfError) → g ≡ Ok x → g ≡ Ok y → y ≡ x
  one_extent x y g p q = let w : Ok y ≡ Ok x = sym q ∙ p in cc

  from_low_by : (p : Result Placing ElfError) → j.placing ≡ p → (used moves : ℕ) (a : Accepted) → answer_by j p used moves ≡ Ok a → LowestAtStart file c j → FromStart j
  unfolding ◌if◌else◌
  from_low_by (Ok (Owned offset lowest k)) q used moves a e h =
      let w = copied_lowest file j.layout (file_header file).e_shnum j.version2 c.reject_broken_elfs c.optimize_rodata offset lowest k (is_placed _ q) in
      let s = one_extent h.2.0 w.0 _ h.2.1 w.1 in
      let r : lowest ≡ MM_PROGRAM_START = w.2 ∙ ap (λ (b : Bool). w.0.lowest if b else 0) h.1 ∙ ap (λ (y : Extent). y.lowest) s ∙ h.2.2 in
      (h.0, (offset, k, q ∙ ap (λ (u : ℕ). Ok (Owned offset u k)) r))
  from_low_by (Ok (Borrowed offset start k)) q used moves a e h =
      let w = stays file j.layout (file_header file).e_shnum j.version2 c.reject_broken_elfs c.optimize_rodata offset start k (is_placed _ q) in
      let all = spans file j.layout j.version2 c.reject_broken_elfs (file_header file).e_shnum t.index j.text.length t.lie t.named (record { start = j.text.start; length = j.text.length }) t.stands refl w.0 w.1 in
      let s = one_extent h.2.0 w.0 _ h.2.1 w.1 in
      let lo : w.0.lowest ≡ MM_PROGRAM_START = ap (λ (y : Extent). y.lowest) s ∙ h.2.2 in
      let up = above offset start k w.0 all w.2 in
      let down = below offset start k w.0 all w.2 in
      let end = (kept offset start k w.0 all w.2).1 in
      let none = all.shifts.plain h.0 in
      absurd (omega (arith, lo, up, down, end, none, short))
  from_low_by (Err r) q used moves a e h = let z : ◌≡◌ {A = ℕ} 0 1 = cc in absurd (omega arith)

-- ---- THE LAWS, of an accepted load with n bytes lent for the image and m for the read-only ones

module _ (file builtins : List ℕ) (c : Config) (n m cap : ℕ) (j : Job) (ready : prepared file builtins c n m ≡ Ok j) (a : Accepted) (accepts : answer_of (load_of file builtins c n m cap) ≡ Ok a) where
  both : Places file builtins c n m j ready a
  both =
      let w = by_load file builtins c n m cap j a ready accepts in
      places file builtins c n m j ready (length w.rows) w.moves a j.placing refl w.answers

  -- its read-only bytes lie in the lent ones
  pub ro_given : ro_of a (lent_for a n m) ≡ bytes_at a.ro_start a.ro_length
  ro_given = both.0

  -- its text lies in them, but where version 1 copies them from the program's start on
  pub text_aborts : (text_place_of a (lent_for a n m) ≡ Err TextOutsideReadOnly) ↔ FromStart j
  text_aborts = both.1

  -- that is where their lowest address is the program's start
  pub text_aborts_at : (text_place_of a (lent_for a n m) ≡ Err TextOutsideReadOnly) ↔ LowestAtStart file c j
  text_aborts_at =
      let w = by_load file builtins c n m cap j a ready accepts in (
        λ e. low_from file builtins c n m j ready (both.1.0 e),
        λ h. both.1.1 (from_low_by file builtins c n m j ready j.placing refl (length w.rows) w.moves a w.answers h),
      )

  -- everywhere else it has its place
  pub text_given : (FromStart j → ⊥) → text_place_of a (lent_for a n m) ≡ bytes_at (a.ro_start + text_at a.text_addr a.ro_offset) a.text.length
  text_given h = text_else (lent_for a n m) a.ro_offset a.ro_start a.ro_length a.text_addr a.text.length (λ e. h (both.1.0 e))
