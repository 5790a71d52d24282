-- The question about a load already made answers what was written by that load. Assumes nothing.
use Prim.Native.Nat.{ℕ, ◌+◌, ◌-◌}
use mathlib.Core.Path.{◌≡◌, refl, ap, ◌∙◌}
use mathlib.Core.Bool.{Bool, true, false, ◌&&◌}
use mathlib.Core.List.{List, [], ◌++◌}
use lib.ListN.{length, get_or, replicate}
use lib.Dec.{eqb, ltb, leb}
use borrow.Author.Tests.{le-ltb}
use Rattle.std.specs.Prelude.{Ok, Result, Err}
use Rattle.ebpf.specs.Choice.{◌if◌else◌, not_first, row_rest, row_cases}
use Rattle.program.specs.declared.Row.{Row}
use Rattle.elf_parser.specs.declared.layout.Layout.{Layout}
use Rattle.elf_parser.specs.declared.types.Elf64Ehdr.{Elf64Ehdr}
use Rattle.elf_parser.specs.Errors.{ok_is, apart}
use Rattle.elf_parser.specs.Parse.{parsed}
use Rattle.elf_parser.specs.Sound.{parse_steps}
use Rattle.elf_parser.specs.Types.{file_header}
use Rattle.loader.specs.declared.read_only.Placing.TheVariants.{Borrowed, Owned}
use Rattle.loader.specs.declared.read_only.Placing.{Placing}
use Rattle.loader.specs.declared.error.ElfError.{ElfError}
use Rattle.loader.specs.declared.answer.Accepted.{Accepted}
use Rattle.loader.specs.declared.validate.Config.{Config}
use Rattle.loader.specs.declared.validate.Job.{Job}
use Rattle.loader.specs.Results.{then_both, then_ok}
use Rattle.loader.specs.InFile.{InFile}
use Rattle.loader.specs.Load.{accepted_as, held_by, on_trace, on_prepared, load_of, answer_of, image_of}
use Rattle.loader.specs.Parts.{job_trace}
use Rattle.loader.specs.ReadOnly.{placing}
use Rattle.loader.specs.Sections.{section_at, survey}
use Rattle.loader.specs.Trace.{Settled, accepted, refused, settle}
use Rattle.loader.specs.Validate.{size_check, header_check, job_of, file_check, is_version2, validated, parsed_then, prepared}
use Rattle.loader.proofs.Ends.{Ends}
use Rattle.loader.proofs.Imaged.{zeros_behind}
use Rattle.loader.proofs.Readied.{readied}
use Rattle.loader.proofs.Traces.{settle_ends}
use Rattle.writers.specs.declared.Writer.{Writer}
use Rattle.writers.specs.declared.Writer.TheVariants.{File}
use Rattle.writers.specs.declared.error.WhoWroteError.{WhoWroteError}
use Rattle.writers.specs.declared.error.WhoWroteError.TheVariants.{NoSuchIndex}
use Rattle.writers.specs.Asked.{text_loaded, text_in, text_of, asked}
use Rattle.writers.specs.Writers.{writer_of, wrote_by, wrote_of}
use Rattle.writers.proofs.Writing.{text_is, writer_named, unwritten}
use Rattle.elf_parser.specs.declared.error.ElfParserError.{ElfParserError}

-- ---- what the checks ahead of a load read

-- the layout is the file's, and in version 2 it has few program headers
pub record Read (s : List ℕ) (j : Job) : Type 0 where
  pub layout_is : parsed s ≡ Ok j.layout
  pub few : (j.version2 && leb 10 (file_header s).e_phnum) ≡ false

header_passes : (h : Elf64Ehdr) (c : Config) (version2 : Bool) → header_check h c version2 ≡ Ok tt → (version2 && leb 10 h.e_phnum) ≡ false
unfolding header_check
header_passes h c version2 e =
    let e2 = row_rest _ _ _ _ (apart _ _) e in
    let e3 = row_rest _ _ _ _ (apart _ _) e2 in
    let e4 = row_rest _ _ _ _ (apart _ _) e3 in
    let e5 = row_rest _ _ _ _ (apart _ _) e4 in
    let e6 = row_rest _ _ _ _ (apart _ _) e5 in
    let e7 = row_rest _ _ _ _ (apart _ _) e6 in
    not_first _ _ _ _ (apart _ _) e7

validated_read : (s : List ℕ) (c : Config) (l : Layout) (j : Job) → parsed s ≡ Ok l → validated s c l ≡ Ok j → Read s j
unfolding validated job_of
validated_read s c l j q e =
    let h = file_header s in
    let v = survey s l h.e_shnum in
    let text = section_at s l v.text in
    let place = placing s l h.e_shnum (is_version2 h) c.reject_broken_elfs c.optimize_rodata in
    let done = then_ok (file_check s c l h (is_version2 h) v) (job_of c (is_version2 h) l h.e_entry text place) j e in
    let is : job_of c (is_version2 h) l h.e_entry text place ≡ j = done.1 in
    rw (← is) (record { layout_is = q; few = header_passes h c (is_version2 h) (then_both (header_check h c (is_version2 h)) _ tt done.0).0 })

parsed_read : (s : List ℕ) (c : Config) (p : Result Layout ElfParserError) (j : Job) → parsed s ≡ p → parsed_then s c p ≡ Ok j → Read s j
parsed_read s c (Err r) j q e = absurd (apart _ _ e)
parsed_read s c (Ok l) j q e = validated_read s c l j q e

was_read : (s builtins : List ℕ) (c : Config) (image ro : ℕ) (j : Job) → prepared s builtins c image ro ≡ Ok j → Read s j
unfolding prepared
was_read s builtins c image ro j e =
    let w = then_both (size_check (length s) image ro) _ j e in
    parsed_read s c (parsed s) j refl (row_rest _ _ _ _ (apart _ _) w.1)

-- as many as e_phnum says
headers_counted : (s : List ℕ) (l : Layout) → parsed s ≡ Ok l → l.program_headers.count ≡ (file_header s).e_phnum
unfolding file_header
headers_counted s l e = ap (λ (x : Layout). x.program_headers.count) (parse_steps s l e).layout

-- ---- so the text of its answer is the job's

version_told : (version2 : Bool) → eqb (2 if version2 else 1) 2 ≡ version2
unfolding ◌if◌else◌
version_told true = refl
version_told false = refl

text_told : (s : List ℕ) (j : Job) (a : Accepted) → InFile s j → Read s j
    → a.version ≡ (2 if j.version2 else 1)
    → a.text ≡ j.text
    → text_of s (text_loaded a) ≡ Ok j.layout
unfolding text_of text_in ◌if◌else◌
text_told s j a inside read v p =
    rw (le-ltb 0x100_0000 (length s) inside.short, p, le-ltb (length s) (j.text.start + j.text.length) inside.text, read.layout_is, v, version_told j.version2, headers_counted s j.layout read.layout_is, read.few) refl

loaded_told : (j : Job) (a : Accepted) → a.version ≡ (2 if j.version2 else 1) → a.text ≡ j.text → text_loaded a ≡ text_is j
loaded_told j a v p = rw (v, version_told j.version2, p) refl

module _ (file builtins : List ℕ) (c : Config) (n m rows b : ℕ) where
  -- the answer for a byte of the file, and for an offset past its end
  abbrev told_ok : Job → Result Writer WhoWroteError
  told_ok j = Ok (writer_of file builtins j b)

  abbrev past_end : Result Writer WhoWroteError
  past_end = Err NoSuchIndex

  -- of an accepted load
  module _ (j : Job) (ready : prepared file builtins c n m ≡ Ok j) (im : List ℕ) (held : List Row) (moves : ℕ) (settles : settle rows (job_trace file builtins j file) [] 0 ≡ accepted im held moves) where
    inside : InFile file j
    inside = (readied file builtins c n m j ready).0

    ends : Ends (job_trace file builtins j file) im
    ends = settle_ends rows im held moves (job_trace file builtins j file) [] 0 settles

    told : (a : Accepted) → a.version ≡ (2 if j.version2 else 1) → a.text ≡ j.text
        → asked file (Ok a) b ≡ (told_ok j if ltb b (length file) else past_end)
    told a v p = rw (text_told file j a inside (was_read file builtins c n m j ready) v p, loaded_told j a v p, ← writer_named file builtins j inside im ends b) refl

    byte : (told_ok j if ltb b (length file) else past_end) ≡ Ok File → get_or (im ++ replicate (n - length im) 0) b 0 ≡ get_or file b 0
    byte e =
        zeros_behind (n - length im) im b
        ∙ unwritten file builtins j inside im ends b
        (row_cases (ltb b (length file)) (told_ok j) past_end (Ok File) (writer_of file builtins j b ≡ File) (λ h q. ok_is _ _ q) (λ h q. absurd (apart _ _ q)) e)

    placed_told : (p : Result Placing ElfError) → asked file (answer_of (held_by file j m p im held moves)) b ≡ wrote_by file builtins (length file) b (held_by file j m p im held moves) (Ok j)
    placed_told (Ok (Borrowed offset start k)) = told (accepted_as j false offset start k (length held) moves) refl refl
    placed_told (Ok (Owned offset lowest k)) = told (accepted_as j true offset 0 k (length held) moves) refl refl
    placed_told (Err r) = refl

    placed_kept : (p : Result Placing ElfError) → wrote_by file builtins (length file) b (held_by file j m p im held moves) (Ok j) ≡ Ok File → get_or (image_of n (held_by file j m p im held moves)) b 0 ≡ get_or file b 0
    placed_kept (Ok (Borrowed offset start k)) e = byte e
    placed_kept (Ok (Owned offset lowest k)) e = byte e
    placed_kept (Err r) e = absurd (apart _ _ e)

  -- THE QUESTION ABOUT A LOAD ALREADY MADE, by that load's answer, is what its parts wrote
  pub agrees : asked file (answer_of (load_of file builtins c n m rows)) b ≡ wrote_of file builtins c n m rows b
  unfolding load_of wrote_of
  agrees = by_prepared (prepared file builtins c n m) refl
    where
      by_settled : (j : Job) → prepared file builtins c n m ≡ Ok j
          → (s : Settled)
          → settle rows (job_trace file builtins j file) [] 0 ≡ s
          → asked file (answer_of (on_trace file j m s)) b ≡ wrote_by file builtins (length file) b (on_trace file j m s) (Ok j)
      by_settled j e (refused r) q = refl
      by_settled j e (accepted im held moves) q = placed_told j e im held moves q j.placing

      by_prepared : (p : Result Job ElfError) → prepared file builtins c n m ≡ p → asked file (answer_of (on_prepared file builtins m rows p)) b ≡ wrote_by file builtins (length file) b (on_prepared file builtins m rows p) p
      by_prepared (Err r) e = refl
      by_prepared (Ok j) e = by_settled j e (settle rows (job_trace file builtins j file) [] 0) refl

  -- A BYTE THAT NOTHING WROTE is the file's, in the lent image
  pub kept : wrote_of file builtins c n m rows b ≡ Ok File → get_or (image_of n (load_of file builtins c n m rows)) b 0 ≡ get_or file b 0
  unfolding load_of wrote_of
  kept e = by_prepared (prepared file builtins c n m) refl e
    where
      by_settled : (j : Job) → prepared file builtins c n m ≡ Ok j
          → (s : Settled)
          → settle rows (job_trace file builtins j file) [] 0 ≡ s
          → wrote_by file builtins (length file) b (on_trace file j m s) (Ok j) ≡ Ok File
          → get_or (image_of n (on_trace file j m s)) b 0 ≡ get_or file b 0
      by_settled j e (refused r) q h = absurd (apart _ _ h)
      by_settled j e (accepted im held moves) q h = placed_kept j e im held moves q j.placing h

      by_prepared : (p : Result Job ElfError) → prepared file builtins c n m ≡ p
          → wrote_by file builtins (length file) b (on_prepared file builtins m rows p) p ≡ Ok File
          → get_or (image_of n (on_prepared file builtins m rows p)) b 0 ≡ get_or file b 0
      by_prepared (Err r) e h = absurd (apart _ _ h)
      by_prepared (Ok j) e h = by_settled j e (settle rows (job_trace file builtins j file) [] 0) refl h
