-- The sections of a file, their names, and what a load asks of all of them.
use Rattle.std.specs.Prelude.{ℕ, zero, suc, ◌+◌, ◌-◌, ◌%◌, ◌^◌, ◌≤◌, ◌<◌, ◌≡◌, refl, Bool, true, false, ◌&&◌, ◌||◌, not, List, [], ◌∷◌, length, take, ltb, eqb, nat_eq, Some, None, is_none}
use Rattle.std.proofs.Common.{arith, ap, sym, lt-ltb, leb-true, eq-eqb, ne_eqb, eqb-true}
use Rattle.std.proofs.lemmas.Bool.{eqb-false}
use Rattle.std.specs.Cmp.Lexicographic.{pointwise}
use Rattle.ebpf.specs.Choice.{◌if◌else◌, past_word}
use Rattle.elf_parser.specs.declared.layout.Layout.{Layout}
use Rattle.elf_parser.specs.declared.types.Elf64Shdr.{Elf64Shdr}
use Rattle.elf_parser.specs.Records.{section_header_of}
use Rattle.elf_parser.specs.Names.{section_name}
use Rattle.elf_parser.specs.Parts.{part_of}
use Rattle.elf_parser.specs.SectionNames.{same_bytes}
use Rattle.loader.specs.declared.sections.Survey.{Survey}
use Rattle.std.specs.Prelude.{Result, Ok, Err}
use Rattle.elf_parser.specs.declared.error.ElfParserError.{ElfParserError}

-- a header with nothing in it
abbrev pub blank : Elf64Shdr
blank = record { sh_name = 0; sh_type = 0; sh_flags = 0; sh_addr = 0; sh_offset = 0; sh_size = 0 }

abbrev pub header_or : Result Elf64Shdr ElfParserError → Elf64Shdr
header_or (Ok h) = h
header_or (Err r) = blank

-- the section number i
unfoldable pub section_at : List ℕ → Layout → ℕ → Elf64Shdr
section_at s l i = header_or (section_header_of s l i)

-- its name: no bytes where it is unreadable
abbrev pub name_of : List ℕ → Layout → Elf64Shdr → List ℕ
name_of s l h = part_of s (section_name s l h.sh_name)

unfoldable pub starts_with : List ℕ → List ℕ → Bool
starts_with name prefix = same_bytes (take (length prefix) name) prefix

-- .text, .bss, .data, .data.rel, .rodata, .data.rel.ro, .eh_frame
abbrev pub dot_text : List ℕ
dot_text = 46 ∷ 116 ∷ 101 ∷ 120 ∷ 116 ∷ []

abbrev pub dot_bss : List ℕ
dot_bss = 46 ∷ 98 ∷ 115 ∷ 115 ∷ []

abbrev pub dot_data : List ℕ
dot_data = 46 ∷ 100 ∷ 97 ∷ 116 ∷ 97 ∷ []

abbrev pub dot_data_rel : List ℕ
dot_data_rel = 46 ∷ 100 ∷ 97 ∷ 116 ∷ 97 ∷ 46 ∷ 114 ∷ 101 ∷ 108 ∷ []

abbrev pub dot_rodata : List ℕ
dot_rodata = 46 ∷ 114 ∷ 111 ∷ 100 ∷ 97 ∷ 116 ∷ 97 ∷ []

abbrev pub dot_data_rel_ro : List ℕ
dot_data_rel_ro = 46 ∷ 100 ∷ 97 ∷ 116 ∷ 97 ∷ 46 ∷ 114 ∷ 101 ∷ 108 ∷ 46 ∷ 114 ∷ 111 ∷ []

abbrev pub dot_eh_frame : List ℕ
dot_eh_frame = 46 ∷ 101 ∷ 104 ∷ 95 ∷ 102 ∷ 114 ∷ 97 ∷ 109 ∷ 101 ∷ []

-- a name that starts with .bss; or, with SHF_ALLOC and SHF_WRITE, with .data but not with .data.rel
unfoldable pub unsupported : List ℕ → ℕ → Bool
unsupported name flags = starts_with name dot_bss || (eqb (flags % 4) 3 && (starts_with name dot_data && not (starts_with name dot_data_rel)))

-- a section's range, whatever its type, does not lie in the file
unfoldable pub outside_file : ℕ → ℕ → ℕ → Bool
outside_file len offset size = true if past_word (offset + size) else ltb len (offset + size)

-- one section more, of that header and name, in a file of that length
abbrev pub survey_named : ℕ → ℕ → Elf64Shdr → List ℕ → Survey → Survey
survey_named len i h name v =
    let is-text : Bool = same_bytes name dot_text in
    let bad : Bool = unsupported name h.sh_flags in
    record {
      texts = v.texts + 1 if is-text else v.texts;
      text = i if is-text && eqb v.texts 0 else v.text;
      unsupported = Some h.sh_name if is_none v.unsupported && bad else v.unsupported;
      outside = v.outside || outside_file len h.sh_offset h.sh_size;
    }

unfoldable pub survey_step : List ℕ → Layout → ℕ → Survey → Survey
survey_step s l i v = survey_named (length s) i (section_at s l i) (name_of s l (section_at s l i)) v

-- n sections from i on
unfoldable pub survey_from : List ℕ → Layout → ℕ → ℕ → Survey → Survey
survey_from s l zero i v = v
survey_from s l (suc n) i v = survey_from s l n (i + 1) (survey_step s l i v)

abbrev pub no_survey : Survey
no_survey = record { texts = 0; text = 0; unsupported = None; outside = false }

abbrev pub survey : List ℕ → Layout → ℕ → Survey
survey s l count = survey_from s l count 0 no_survey

-- ---- laws

-- the reader's test, in a file whose length is a word
pub outside_past : (len offset size : ℕ) → len < 2 ^ 64 → ltb len (offset + size) ≡ outside_file len offset size
unfolding outside_file ◌if◌else◌
outside_past len offset size short = go (past_word (offset + size)) refl
  where
    go : (b : Bool) → past_word (offset + size) ≡ b → ltb len (offset + size) ≡ (true if b else ltb len (offset + size))
    go true e = lt-ltb len (offset + size) (omega (arith, leb-true (2 ^ 64) (offset + size) e))
    go false e = refl

-- the library's test of a name's front
eqb-sym : (x y : ℕ) → eqb x y ≡ eqb y x
eqb-sym x y = go (eqb x y) refl
  where
    go : (b : Bool) → eqb x y ≡ b → b ≡ eqb y x
    go true e = sym (eq-eqb y x (sym (eqb-true x y e)))
    go false e = sym (ne_eqb y x (λ h. eqb-false x y e (sym h)))

same_swapped : (a b : List ℕ) → pointwise nat_eq a b ≡ same_bytes b a
unfolding same_bytes
same_swapped [] [] = refl
same_swapped [] (y ∷ ys) = refl
same_swapped (x ∷ xs) [] = refl
same_swapped (x ∷ xs) (y ∷ ys) = rw (same_swapped xs ys) (ap (λ t. t && same_bytes ys xs) (eqb-sym x y))

pub front_tested : (name prefix : List ℕ) → pointwise nat_eq prefix (take (length prefix) name) ≡ starts_with name prefix
unfolding starts_with
front_tested name prefix = same_swapped prefix (take (length prefix) name)

pub survey_next : (s : List ℕ) (l : Layout) (n i : ℕ) (v : Survey) → 0 < n → survey_from s l n i v ≡ survey_from s l (n - 1) (i + 1) (survey_step s l i v)
unfolding survey_from
survey_next s l zero i v h = absurd (omega arith)
survey_next s l (suc n) i v h = let k : suc n - 1 ≡ n = omega arith in rw k refl

pub survey_end : (s : List ℕ) (l : Layout) (n i : ℕ) (v : Survey) → n ≤ 0 → survey_from s l n i v ≡ v
unfolding survey_from
survey_end s l zero i v h = refl
survey_end s l (suc n) i v h = absurd (omega arith)
