-- What the checks ahead of a load leave: the job's numbers lie in the file, the file in the buffers, and the built-ins ascend.
-- Assumes nothing.
use Prim.Native.Nat.{ℕ, zero, suc, ◌+◌, ◌≤◌, ◌<◌, ◌^◌}
use native.Mathlib.Omega.{arith}
use mathlib.Core.Path.{◌≡◌, refl, subst}
use mathlib.Core.Bool.{Bool, true, false, ◌&&◌, not, true≢false}
use mathlib.Core.List.{List}
use lib.ListN.{length}
use lib.Dec.{eqb}
use borrow.Author.Tests.{ltb-false, leb-false, eqb-true, eqb-false, not-false}
use Rattle.std.specs.Prelude.{Result, Ok, Err}
use Rattle.ebpf.specs.Choice.{◌if◌else◌, not_first, row_rest, or_false}
use Rattle.elf_parser.specs.declared.types.Elf64Ehdr.{Elf64Ehdr}
use Rattle.elf_parser.specs.declared.types.Elf64Shdr.{Elf64Shdr}
use Rattle.elf_parser.specs.declared.layout.Layout.{Layout}
use Rattle.elf_parser.specs.Types.{file_header, SHT_NOBITS}
use Rattle.elf_parser.specs.SectionNames.{same_bytes}
use Rattle.elf_parser.specs.Parse.{parsed}
use Rattle.loader.specs.declared.read_only.Placing.{Placing}
use Rattle.loader.specs.declared.error.ElfError.{ElfError}
use Rattle.loader.specs.declared.error.ElfError.TheVariants.{BuiltinsNotAscending}
use Rattle.loader.specs.declared.sections.Survey.{Survey}
use Rattle.loader.specs.declared.validate.Config.{Config}
use Rattle.loader.specs.declared.validate.Job.{Job}
use Rattle.elf_parser.specs.Errors.{apart, ◌then◌}
use Rattle.loader.specs.Results.{then_both, then_ok}
use Rattle.loader.specs.Addresses.{sum_up_to}
use Rattle.loader.specs.Sections.{section_at, name_of, dot_text, outside_file, survey_step, survey_from, no_survey, survey}
use Rattle.loader.specs.ReadOnly.{placing}
use Rattle.loader.specs.Relocations.{few_relocations}
use Rattle.loader.specs.Validate.{size_check, ascends, sections_check, text_check, job_of, file_check, is_version2, validated, parsed_then, prepared, header_check}
use Rattle.loader.specs.InFile.{InFile}
use Rattle.elf_parser.specs.declared.error.ElfParserError.{ElfParserError}

-- ---- the survey

pub in_file : (len offset size : ℕ) → outside_file len offset size ≡ false → offset + size ≤ len
unfolding outside_file
in_file len offset size e = ltb-false _ _ (row_rest _ _ _ _ true≢false e)

-- the section number i lies in the file
abbrev pub Lies : List ℕ → Layout → ℕ → Type 0
Lies s l i = (section_at s l i).sh_offset + (section_at s l i).sh_size ≤ length s

-- where no section so far was outside, the text's is in the file
abbrev pub Lie : List ℕ → Layout → Survey → Type 0
Lie s l v = v.outside ≡ false → (v.texts ≡ 0 → ⊥) → Lies s l v.text

pub pick_in : (P : ℕ → Type 0) (b e : Bool) (n x i : ℕ)
    → eqb n 0 ≡ e
    → ((n ≡ 0 → ⊥) → P x)
    → (b ≡ true → P i)
    → ((n + 1 if b else n) ≡ 0 → ⊥)
    → P (i if b && e else x)
unfolding ◌if◌else◌
pick_in P true true n x i q old new h = new refl
pick_in P true false n x i q old new h = old (eqb-false n 0 q)
pick_in P false e n x i q old new h = old h

step_lies : (s : List ℕ) (l : Layout) (i : ℕ) (v : Survey) → Lie s l v → Lie s l (survey_step s l i v)
unfolding survey_step
step_lies s l i v g o t =
    let out : Bool = outside_file (length s) (section_at s l i).sh_offset (section_at s l i).sh_size in
    pick_in (Lies s l) (same_bytes (name_of s l (section_at s l i)) dot_text) (eqb v.texts 0) v.texts v.text i refl (g (or_false v.outside out o).0) (λ _. in_file (length s) (section_at s l i).sh_offset (section_at s l i).sh_size (or_false v.outside out o).1) t

from_lies : (s : List ℕ) (l : Layout) (n i : ℕ) (v : Survey) → Lie s l v → Lie s l (survey_from s l n i v)
unfolding survey_from
from_lies s l zero i v g = g
from_lies s l (suc n) i v g = from_lies s l n (i + 1) (survey_step s l i v) (step_lies s l i v g)

survey_lies : (s : List ℕ) (l : Layout) (n : ℕ) → Lie s l (survey s l n)
survey_lies s l n = from_lies s l n 0 no_survey (λ o t. absurd (t refl))

-- ---- the checks

size_passes : (len image ro : ℕ) → size_check len image ro ≡ Ok tt → (len ≤ 2 ^ 24) × (len ≤ image) × (len ≤ ro)
unfolding size_check
size_passes len image ro e =
    let e2 = row_rest _ _ _ _ (apart _ _) e in
    let e3 = row_rest _ _ _ _ (apart _ _) e2 in
    (ltb-false _ _ (not_first _ _ _ _ (apart _ _) e), ltb-false _ _ (not_first _ _ _ _ (apart _ _) e2), ltb-false _ _ (not_first _ _ _ _ (apart _ _) e3))

pub sections_pass : (s : List ℕ) (l : Layout) (v : Survey) → sections_check s l v ≡ Ok tt → (v.texts ≡ 1) × (v.outside ≡ false)
unfolding sections_check
sections_pass s l v e =
    let e2 = row_rest _ _ _ _ (apart _ _) e in
    let e3 = row_rest _ _ _ _ (apart _ _) e2 in
    (eqb-true _ _ (not-false _ (not_first _ _ _ _ (apart _ _) e)), not_first _ _ _ _ (apart _ _) e3)

pub text_passes : (version2 reject-broken : Bool) (e_entry : ℕ) (h : Elf64Shdr)
    → text_check version2 reject-broken e_entry h ≡ Ok tt
    → e_entry < h.sh_addr + h.sh_size
unfolding text_check
text_passes version2 reject-broken e_entry h e =
    let e2 = row_rest _ _ _ _ (apart _ _) e in
    let below : e_entry < sum_up_to h.sh_addr h.sh_size = leb-false _ _ (not_first _ _ _ _ (apart _ _) e2) in
    omega (arith, below)

-- ---- the job

both : (b : Bool) (x y n : ℕ) → x + y ≤ n → (0 if b else x) + (0 if b else y) ≤ n
unfolding ◌if◌else◌
both true x y n h = omega arith
both false x y n h = h

job_in : (s : List ℕ) (c : Config) (version2 : Bool) (l : Layout) (e_entry : ℕ) (h : Elf64Shdr) (p : Result Placing ElfError)
    → parsed s ≡ Ok l
    → length s ≤ 2 ^ 24
    → h.sh_offset + h.sh_size ≤ length s
    → e_entry < h.sh_addr + h.sh_size
    → InFile s (job_of c version2 l e_entry h p)
unfolding job_of
job_in s c version2 l e_entry h p q short lies below =
    record {
      text = both (eqb h.sh_type SHT_NOBITS) h.sh_offset h.sh_size (length s) lies;
      size = omega (arith, lies, short);
      short = short;
      relocations = (few_relocations s l q).0;
      relas = (few_relocations s l q).1;
      entry = omega (arith, lies, short, below);
    }

validated_in : (s : List ℕ) (c : Config) (l : Layout) (j : Job) → parsed s ≡ Ok l → length s ≤ 2 ^ 24 → validated s c l ≡ Ok j → InFile s j
unfolding validated
validated_in s c l j q short e = subst (InFile s) done.1 (job_in s c version2 l h.e_entry text place q short lies below)
  where
    h : Elf64Ehdr
    h = file_header s

    version2 : Bool
    version2 = is_version2 h

    v : Survey
    v = survey s l h.e_shnum

    text : Elf64Shdr
    text = section_at s l v.text

    place : Result Placing ElfError
    place = placing s l h.e_shnum version2 c.reject_broken_elfs c.optimize_rodata

    done : (file_check s c l h version2 v ≡ Ok tt) × (job_of c version2 l h.e_entry text place ≡ j)
    done = then_ok (file_check s c l h version2 v) (job_of c version2 l h.e_entry text place) j e

    rest : (sections_check s l v then text_check version2 c.reject_broken_elfs h.e_entry text) ≡ Ok tt
    rest = (then_both (header_check h c version2) (sections_check s l v then text_check version2 c.reject_broken_elfs h.e_entry text) tt done.0).1

    sections : (v.texts ≡ 1) × (v.outside ≡ false)
    sections = sections_pass s l v (then_both (sections_check s l v) (text_check version2 c.reject_broken_elfs h.e_entry text) tt rest).0

    lies : text.sh_offset + text.sh_size ≤ length s
    lies = survey_lies s l h.e_shnum sections.1 (λ z. omega (arith, sections.0, z))

    below : h.e_entry < text.sh_addr + text.sh_size
    below = text_passes version2 c.reject_broken_elfs h.e_entry text (then_both (sections_check s l v) (text_check version2 c.reject_broken_elfs h.e_entry text) tt rest).1

parsed_in : (s : List ℕ) (c : Config) (p : Result Layout ElfParserError) (j : Job) → parsed s ≡ p → length s ≤ 2 ^ 24 → parsed_then s c p ≡ Ok j → InFile s j
parsed_in s c (Err r) j q short e = absurd (apart _ _ e)
parsed_in s c (Ok l) j q short e = validated_in s c l j q short e

pub readied : (s builtins : List ℕ) (c : Config) (image ro : ℕ) (j : Job)
    → prepared s builtins c image ro ≡ Ok j
    → InFile s j × (length s ≤ image) × (length s ≤ ro) × (ascends builtins ≡ true)
unfolding prepared
readied s builtins c image ro j e =
    let w = then_both (size_check (length s) image ro) (Err BuiltinsNotAscending if not (ascends builtins) else parsed_then s c (parsed s)) j e in
    let sizes = size_passes (length s) image ro w.0 in
    let up = not-false (ascends builtins) (not_first _ _ _ _ (apart _ _) w.1) in
    let inside = parsed_in s c (parsed s) j refl sizes.0 (row_rest _ _ _ _ (apart _ _) w.1) in
    (inside, sizes.1, sizes.2, up)

-- ---- how the job's read-only sections are placed

validated_placed : (s : List ℕ) (c : Config) (l : Layout) (j : Job) → validated s c l ≡ Ok j
    → j.placing ≡ placing s j.layout (file_header s).e_shnum (is_version2 (file_header s)) c.reject_broken_elfs c.optimize_rodata
unfolding validated job_of
validated_placed s c l j e =
    let h = file_header s in
    let v = survey s l h.e_shnum in
    let text = section_at s l v.text in
    let place = placing s l h.e_shnum (is_version2 h) c.reject_broken_elfs c.optimize_rodata in
    let is : job_of c (is_version2 h) l h.e_entry text place ≡ j = (then_ok (file_check s c l h (is_version2 h) v) (job_of c (is_version2 h) l h.e_entry text place) j e).1 in
    rw (← is) refl

parsed_placed : (s : List ℕ) (c : Config) (p : Result Layout ElfParserError) (j : Job) → parsed_then s c p ≡ Ok j
    → j.placing ≡ placing s j.layout (file_header s).e_shnum (is_version2 (file_header s)) c.reject_broken_elfs c.optimize_rodata
parsed_placed s c (Err r) j e = absurd (apart _ _ e)
parsed_placed s c (Ok l) j e = validated_placed s c l j e

pub placed_as : (s builtins : List ℕ) (c : Config) (image ro : ℕ) (j : Job) → prepared s builtins c image ro ≡ Ok j
    → j.placing ≡ placing s j.layout (file_header s).e_shnum (is_version2 (file_header s)) c.reject_broken_elfs c.optimize_rodata
unfolding prepared
placed_as s builtins c image ro j e =
    let w = then_both (size_check (length s) image ro) (Err BuiltinsNotAscending if not (ascends builtins) else parsed_then s c (parsed s)) j e in
    parsed_placed s c (parsed s) j (row_rest _ _ _ _ (apart _ _) w.1)
