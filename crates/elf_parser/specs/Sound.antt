-- What a successful parse says of the file: laws for the crates above.
use Prim.Native.Nat.{ℕ, zero, suc, ◌+◌, ◌-◌, ◌*◌, ◌≤◌, ◌<◌}
use Rattle.std.proofs.Common.{arith, mul-zero, add-zero, sym, subst, ltb-false, eqb-true, true≢false, ◌∙◌}
use Rattle.std.proofs.Math.Nat.{mul-suc}
use Rattle.std.specs.Prelude.{true, not, List, ◌≡◌, length, eqb, ltb, Some, Result, Ok}
use Rattle.std.proofs.Math.Path.{refl}
use Rattle.std.proofs.lemmas.Bool.{eqb-false, not-false}
use Rattle.ebpf.specs.Choice.{not_first, row_rest, row_cases, eq_not}
use Rattle.elf_parser.specs.declared.error.ElfParserError.{ElfParserError}
use Rattle.elf_parser.specs.declared.types.Elf64Ehdr.{Elf64Ehdr}
use Rattle.elf_parser.specs.declared.types.Elf64Shdr.{Elf64Shdr}
use Rattle.elf_parser.specs.declared.parts.Place.{Place}
use Rattle.elf_parser.specs.declared.section_headers.Ranges.{Ranges}
use Rattle.elf_parser.specs.declared.section_names.Named.{Named}
use Rattle.elf_parser.specs.declared.dynamic.Linked.{Linked}
use Rattle.elf_parser.specs.declared.layout.Layout.{Layout}
use Rattle.elf_parser.specs.Errors.{Check, and_then, ◌then◌, apart, went, ok_is, pass_first, pass_rest}
use Rattle.elf_parser.specs.Loops.{over}
use Rattle.elf_parser.specs.Types.{file_header, program_header, section_header, PT_LOAD, SHT_STRTAB, SHT_NOBITS}
use Rattle.elf_parser.specs.FileHeader.{header_check, tables_check}
use Rattle.elf_parser.specs.ProgramHeaders.{check_of, load_step, loads_check}
use Rattle.elf_parser.specs.SectionHeaders.{section_check, section_within, section_step, sections_check}
use Rattle.elf_parser.specs.Parts.{bytes_at}
use Rattle.elf_parser.specs.Strings.{string_in, string_check, search_end, terminated}
use Rattle.elf_parser.specs.SectionNames.{role_of, named_step, name_step, none_named, names_of}
use Rattle.elf_parser.specs.Dynamic.{dynamic_of, LinkedInside, linked_inside}
use Rattle.elf_parser.specs.Parse.{ranges_of, tables_of, first_check, file_check, layout_of, linked_layout, named_layout, parsed, Room, room}

-- ---- a loop that went through went through at each entry

module _ {A E : Type 0} (step : ℕ → A → Result A E) (w : ℕ) where
  pub record WentAt (at : ℕ) : Type 0 where
    pub from : A
    pub to : A
    pub turn : step at from ≡ Ok to

  pub each_went : (n at : ℕ) (x y : A) → over step w n at x ≡ Ok y → (i : ℕ) → i < n → WentAt (at + w * i)
  unfolding over
  each_went zero at x y e i h = absurd (omega arith)
  each_went (suc n) at x y e zero h =
      let k : at + w * 0 ≡ at = rw (mul-zero, add-zero) in
      let v = went (step at x) (over step w n (at + w)) y e in
      record { from = x; to = v.value; turn = rw k v.first }
  each_went (suc n) at x y e (suc i) h =
      let k : at + w * suc i ≡ at + w + w * i = rw mul-suc (omega arith) in
      let v = went (step at x) (over step w n (at + w)) y e in
      rw k (each_went n (at + w) v.value y v.second i (omega arith))

-- ---- the steps of a parse that succeeds

pub record Steps (s : List ℕ) (l : Layout) : Type 0 where
  pub found : Named
  pub linked : Linked
  pub checks : file_check s ≡ Ok tt
  pub some_names : (file_header s).e_shstrndx ≡ 0 → ⊥
  pub names :
      names_of s (section_header s ((file_header s).e_shoff + (file_header s).e_shstrndx * 64)) (file_header s).e_shnum (file_header s).e_shoff
      ≡ Ok found
  pub links : dynamic_of s (tables_of (file_header s)) ≡ Ok linked
  pub layout : l ≡ layout_of (file_header s) ((file_header s).e_shoff + (file_header s).e_shstrndx * 64) found linked

passed : (c : Check) (x : Unit {0}) → c ≡ Ok x → c ≡ Ok tt
passed c tt e = e

pub parse_steps : (s : List ℕ) (l : Layout) → parsed s ≡ Ok l → Steps s l
unfolding parsed named_layout
parse_steps s l e =
    let h : Elf64Ehdr = file_header s in
    let names : ℕ = h.e_shoff + h.e_shstrndx * 64 in
    let a = went (file_check s) (λ x. named_layout s h) l e in
    let n = went (names_of s (section_header s names) h.e_shnum h.e_shoff) (linked_layout s h names) l (row_rest _ _ _ _ (apart _ _) a.second) in
    let d = went (dynamic_of s (tables_of h)) (λ d. Ok (layout_of h names n.value d)) l n.second in
    record {
      found = n.value;
      linked = d.value;
      checks = passed _ _ a.first;
      some_names = eqb-false _ _ (not_first _ _ _ _ (apart _ _) a.second);
      names = n.first;
      links = d.first;
      layout = sym (ok_is _ _ d.second);
    }

-- ---- what they say

-- a place that is given
pub record Given (p : Result Place ElfParserError) : Type 0 where
  pub place : Place
  pub given : p ≡ Ok place

turn_named : (s : List ℕ) (r : Result Place ElfParserError) (at : ℕ) (a b : Named)
    → and_then r (λ p. named_step (role_of (bytes_at s p.start p.length)) at a) ≡ Ok b → Given r
turn_named s r at a b e = let v = went r (λ p. named_step (role_of (bytes_at s p.start p.length)) at a) b e in record { place = v.value; given = v.first }

-- the names that were found: the loop answers the `Result` itself, and nothing is to be turned
went_by : (t : Result Named ElfParserError) (n : Named) → t ≡ Ok n → t ≡ Ok n
went_by t n e = e

went_checks : (t : Result ℕ ElfParserError) → check_of t ≡ Ok tt → (y : ℕ) × (t ≡ Ok y)
went_checks t e = let v = went t (λ x. Ok tt) tt e in (v.value, v.first)

-- the last two of a file's checks
checks_passed : (s : List ℕ) → file_check s ≡ Ok tt
    → (loads_check s (file_header s).e_phnum (file_header s).e_phoff ≡ Ok tt)
    × (sections_check s (ranges_of (file_header s)) (file_header s).e_shnum (file_header s).e_shoff ≡ Ok tt)
unfolding file_check
checks_passed s e =
    let h : Elf64Ehdr = file_header s in
    let loads : Check = loads_check s h.e_phnum h.e_phoff in
    let sections : Check = sections_check s (ranges_of h) h.e_shnum h.e_shoff in
    let first : Check = first_check (section_header s h.e_shoff) in
    let tables : Check = tables_check (length s) h.e_phoff h.e_phnum h.e_shoff h.e_shnum in
    let a = pass_rest first (loads then sections) (pass_rest tables (first then loads then sections) (pass_rest (header_check s) (tables then first then loads then sections) e)) in
    (pass_first loads sections a, pass_rest loads sections a)

-- a section that has bytes has them in the file
step_within : (s : List ℕ) (t : Ranges) (at low next : ℕ)
    → section_step (length s) t (section_header s at) low ≡ Ok next
    → ((section_header s at).sh_type ≡ SHT_NOBITS → ⊥)
    → (section_header s at).sh_offset + (section_header s at).sh_size ≤ length s
unfolding section_step
step_within s t at low next e bits =
    row_cases _ _ _ _ _
    (λ b q. absurd (bits (eqb-true _ _ b)))
    (λ b q. let v = went (section_check (length s) low t (section_header s at).sh_offset (section_header s at).sh_size) (λ x. Ok ((section_header s at).sh_offset + (section_header s at).sh_size)) next q in section_within _ _ _ _ _ (passed _ _ v.first))
    e

-- a PT_LOAD header has its contents in the file
load_within : (s : List ℕ) (at low next : ℕ)
    → load_step (length s) (program_header s at) low ≡ Ok next
    → (program_header s at).p_type ≡ PT_LOAD
    → (program_header s at).p_offset + (program_header s at).p_filesz ≤ length s
unfolding load_step
load_within s at low next e is =
    row_cases _ _ _ _ _
    (λ b q. absurd (not-true _ _ is b))
    (λ b q. ltb-false _ _ (not_first _ _ _ _ (apart _ _) (row_rest _ _ _ _ (apart _ _) (row_rest _ _ _ _ (apart _ _) q))))
    e
  where
    not-true : (a b : ℕ) → a ≡ b → not (eqb a b) ≡ true → ⊥
    not-true a b p q = true≢false (sym q ∙ eq_not a b p)

-- a name is found only in a string table
in_string_table : (s : List ℕ) (h : Elf64Shdr) (offset most : ℕ) → Given (string_in s h offset most) → h.sh_type ≡ SHT_STRTAB
unfolding string_in string_check
in_string_table s h offset most v =
    let w = went (string_check (length s) h.sh_type h.sh_offset h.sh_size offset most)
    (λ x. terminated (ltb (h.sh_offset + h.sh_size) (h.sh_offset + offset + most)) (search_end h.sh_offset h.sh_size offset most - (h.sh_offset + offset)) s (h.sh_offset + offset))
    v.place v.given in
    eqb-true _ _ (not-false _ (not_first _ _ _ _ (apart _ _) w.first))

-- what a parse that succeeds says of the file and its layout
pub record Sound (s : List ℕ) (l : Layout) : Type 0 where
  -- both header tables lie in the file, and there is a section
  pub program_headers : l.program_headers.offset + 56 * l.program_headers.count ≤ length s
  pub section_headers : l.section_headers.offset + 64 * l.section_headers.count ≤ length s
  pub some_section : 0 < l.section_headers.count
  -- the section name table's header lies in the file, and every section's name is in that table
  pub names : ℕ
  pub names_present : l.shstrtab ≡ Some names
  pub names_there : names ≡ 0 → ⊥
  pub names_header : names + 64 ≤ length s
  pub names_table : (section_header s names).sh_type ≡ SHT_STRTAB
  pub named_in :
      (i : ℕ)
      → i < l.section_headers.count
      → Given (string_in s (section_header s names) (section_header s (l.section_headers.offset + 64 * i)).sh_name 16)
  -- every section that has bytes has them in the file
  pub contents :
      (i : ℕ)
      → i < l.section_headers.count
      → ((section_header s (l.section_headers.offset + 64 * i)).sh_type ≡ SHT_NOBITS → ⊥)
      → (section_header s (l.section_headers.offset + 64 * i)).sh_offset
      + (section_header s (l.section_headers.offset + 64 * i)).sh_size
      ≤ length s
  -- every PT_LOAD header has its contents in the file
  pub loads :
      (i : ℕ)
      → i < l.program_headers.count
      → (program_header s (l.program_headers.offset + 56 * i)).p_type ≡ PT_LOAD
      → (program_header s (l.program_headers.offset + 56 * i)).p_offset
      + (program_header s (l.program_headers.offset + 56 * i)).p_filesz
      ≤ length s
  -- the dynamic relocations, of both kinds, and symbols lie in the file
  pub relocations : l.dynamic_relocations.offset + 16 * l.dynamic_relocations.count ≤ length s
  pub relas : l.dynamic_relas.offset + 24 * l.dynamic_relas.count ≤ length s
  pub symbols : l.dynamic_symbols.offset + 24 * l.dynamic_symbols.count ≤ length s

-- of the layout as the steps give it
sound_steps : (s : List ℕ) (l : Layout) (x : Steps s l) (k : Layout) → k ≡ layout_of (file_header s) ((file_header s).e_shoff + (file_header s).e_shstrndx * 64) x.found x.linked → Sound s k
sound_steps s l x k e = subst (Sound s) (sym e) sound_whole
  where
    h : Elf64Ehdr
    h = file_header s

    names : ℕ
    names = h.e_shoff + h.e_shstrndx * 64

    fits : Room (length s) h
    fits = room s x.checks

    sections : (y : ℕ) × (over (λ p low. section_step (length s) (ranges_of h) (section_header s p) low) 64 h.e_shnum h.e_shoff 0 ≡ Ok y)
    sections = went_checks (over (λ p low. section_step (length s) (ranges_of h) (section_header s p) low) 64 h.e_shnum h.e_shoff 0) (checks_passed s x.checks).1

    segments : (y : ℕ) × (over (λ p low. load_step (length s) (program_header s p) low) 56 h.e_phnum h.e_phoff 0 ≡ Ok y)
    segments = went_checks (over (λ p low. load_step (length s) (program_header s p) low) 56 h.e_phnum h.e_phoff 0) (checks_passed s x.checks).0

    linked_in : LinkedInside (length s) x.linked
    linked_in = linked_inside s (tables_of h) x.linked x.links

    name_at : (i : ℕ) → i < h.e_shnum → Given (string_in s (section_header s names) (section_header s (h.e_shoff + 64 * i)).sh_name 16)
    name_at i r =
        let v = each_went (λ at n. name_step s (section_header s names) (section_header s at) at n) 64 h.e_shnum h.e_shoff none_named x.found x.names i r in
        turn_named s (string_in s (section_header s names) (section_header s (h.e_shoff + 64 * i)).sh_name 16) (h.e_shoff + 64 * i) v.from v.to v.turn

    sound_whole : Sound s (layout_of h names x.found x.linked)
    sound_whole =
        record {
          program_headers = omega (arith, fits);
          section_headers = omega (arith, fits);
          some_section = omega (arith, fits);
          names = names;
          names_present = refl;
          names_there = λ z. x.some_names (omega arith);
          names_header = omega (arith, fits);
          names_table = in_string_table s (section_header s names) _ 16 (name_at 0 (omega (arith, fits)));
          named_in = name_at;
          loads = λ i r. let v = each_went (λ p low. load_step (length s) (program_header s p) low) 56 h.e_phnum h.e_phoff 0 segments.0 segments.1 i r in load_within s _ _ _ v.turn;
          relocations = linked_in.relocations;
          relas = linked_in.relas;
          symbols = linked_in.symbols;
          contents = λ i r. let v = each_went (λ p low. section_step (length s) (ranges_of h) (section_header s p) low) 64 h.e_shnum h.e_shoff 0 sections.0 sections.1 i r in step_within s (ranges_of h) _ _ _ v.turn;
        }

pub sound : (s : List ℕ) (l : Layout) → parsed s ≡ Ok l → Sound s l
sound s l e = let x = parse_steps s l e in sound_steps s l x l x.layout
