-- The image of a load that ends: its length, the bytes that stay, and the local calls' keys. Assumes nothing.
use Prim.Native.Nat.{ℕ, zero, suc, ◌+◌, ◌-◌, ◌/◌, ◌^◌, ◌≤◌, ◌<◌}
use native.Mathlib.Omega.{arith}
use native.Mathlib.Decide.{ℕ_discrete}
use mathlib.Core.Path.{◌≡◌, refl, sym, ap, ◌∙◌}
use mathlib.Core.Bool.{Bool, true, false}
use mathlib.Core.Logic.{inl}
use mathlib.Core.List.{List, [], ◌∷◌, ◌++◌}
use lib.ListN.{length, get_or, take, drop, replicate}
use Rattle.program.specs.HashedLegacy.{LegacyResult}
use Rattle.std.specs.Prelude.{Ok, Err, Result, Option, Some, None}
use Rattle.ebpf.specs.Choice.{◌if◌else◌}
use Rattle.ebpf.specs.LittleEndian.{le}
use Rattle.elf_parser.specs.declared.types.Elf64Sym.{Elf64Sym}
use Rattle.elf_parser.specs.declared.records.Entries.{Entries}
use Rattle.elf_parser.specs.Names.{symbol_name}
use Rattle.elf_parser.specs.Records.{entry_of}
use Rattle.elf_parser.specs.Types.{sym as sym_at}
use Rattle.program.specs.declared.FunctionName.TheVariants.{OfIndex, Entrypoint}
use Rattle.loader.specs.declared.read_only.Placing.TheVariants.{Borrowed, Owned}
use Rattle.loader.specs.declared.read_only.Placing.{Placing}
use Rattle.loader.specs.declared.error.ElfError.{ElfError}
use Rattle.loader.specs.declared.deeds.Deed.{Deed}
use Rattle.loader.specs.declared.validate.Job.{Job}
use Rattle.loader.specs.Functions.{row_for, symbol_function, index_of}
use Rattle.loader.specs.Deeds.{written, is_in, writes, deed_trace}
use Rattle.loader.specs.Calls.{call_at, text_of, slot_count, immediate, call_row, call_by, call_deed, slot_trace, calls_trace}
use Rattle.loader.specs.Relocations.{relocation_count, place_at, relocation_deed, relocation_trace, relocations_trace}
use Rattle.loader.specs.Labels.{label_row, named_label, label_of, label_by, label_deed, label_symbols, label_trace, labels_trace}
use Rattle.loader.specs.Entry.{entry_deed, forget_trace, entry_trace}
use Rattle.loader.specs.Parts.{writing_trace, naming_trace, placed_trace, job_trace}
use Rattle.loader.specs.InFile.{InFile}
use Rattle.loader.specs.Demand.{CallsTo, info_of, addend_of, Unnamed, key_of, Bytes}
use Rattle.loader.proofs.Ends.{Ends, ends_then, ends_each}
use Rattle.loader.proofs.Kept.{not_in, in_places, le_put, le_same, written_other, deed_ends, step_ends, step_length, deeds_length, deeds_other, deeds_nothing}
use Rattle.loader.proofs.Named.{unnamed_clear}
use Rattle.loader.proofs.Targets.{calls_local, to_small, key_word, row_key}
use Rattle.elf_parser.specs.declared.error.ElfParserError.{ElfParserError}
use Rattle.elf_parser.specs.declared.parts.Place.{Place}

-- ---- labels, the entry and the placing write nothing

row_nothing : (r : LegacyResult) (im : List ℕ) → written (label_row r) im ≡ im
row_nothing (Ok row) im = refl
row_nothing (Err taken) im = refl

-- a choice between deeds that write nothing
choice_nothing : (b : Bool) (x y : Result Deed ElfError) (im : List ℕ) → written x im ≡ im → written y im ≡ im → written (x if b else y) im ≡ im
unfolding ◌if◌else◌
choice_nothing true x y im p q = p
choice_nothing false x y im p q = q

module _ (s builtins : List ℕ) (j : Job) (im : List ℕ) where
  named_nothing : (index st-name : ℕ) (p : Result Place ElfParserError) → written (named_label s builtins j index st-name p) im ≡ im
  named_nothing index st-name (Ok p) = row_nothing (row_for builtins j (symbol_function (take p.length (drop p.start s)) p.start p.length) index) im
  named_nothing index st-name (Err e) = refl

  of_nothing : (y : Elf64Sym) → written (label_of s builtins j y) im ≡ im
  unfolding label_of
  of_nothing y = choice_nothing _ _ _ im refl (choice_nothing _ _ _ im refl (named_nothing (index_of j y.st_value) y.st_name (symbol_name s j.layout y.st_name)))

  by_nothing : (y : Result Elf64Sym ElfParserError) → written (label_by s builtins j y) im ≡ im
  by_nothing (Ok y) = of_nothing y
  by_nothing (Err e) = refl

  label_nothing : (symbols : Entries) (i : ℕ) → written (label_deed s builtins j symbols i) im ≡ im
  unfolding label_deed
  label_nothing symbols i = by_nothing (entry_of 24 sym_at s symbols i)

entry_nothing : (builtins : List ℕ) (j : Job) (im : List ℕ) → written (entry_deed builtins j) im ≡ im
unfolding entry_deed
entry_nothing builtins j im = choice_nothing _ _ _ im refl (row_nothing (row_for builtins j Entrypoint ((j.e_entry - j.sh_addr) / 8)) im)

forget_ends : (version2 : Bool) (im l : List ℕ) → Ends (forget_trace version2 im) l → l ≡ im
forget_ends true im l e = sym e
forget_ends false im l e = sym e

placed_ends : (p : Result Placing ElfError) (im l : List ℕ) → Ends (placed_trace p im) l → l ≡ im
placed_ends (Ok (Borrowed offset start n)) im l e = sym e
placed_ends (Ok (Owned offset lowest n)) im l e = sym e
placed_ends (Err r) im l e = absurd e

module _ (s builtins : List ℕ) (j : Job) (im l : List ℕ) where
  label_is : (i : ℕ) (im : List ℕ) → label_trace s builtins j i im ≡ deed_trace (label_deed s builtins j (label_symbols s j) i) im
  unfolding label_trace
  label_is i im = refl

  labels_ends : Ends (labels_trace s builtins j im) l → l ≡ im
  labels_ends e =
      deeds_nothing (label_trace s builtins j) (λ (i : ℕ) (k : List ℕ). label_deed s builtins j (label_symbols s j) i) (label_symbols s j).count label_is
      im l (λ i k. label_nothing s builtins j k (label_symbols s j) i) e

entry_ends : (builtins : List ℕ) (j : Job) (im l : List ℕ) → Ends (entry_trace builtins j im) l → l ≡ im
entry_ends builtins j im l e =
    let both = ends_then (forget_trace j.version2 im) (λ (k : List ℕ). deed_trace (entry_deed builtins j) k) l e in
    deed_ends (entry_deed builtins j) both.0 l both.2 ∙ entry_nothing builtins j both.0 ∙ forget_ends j.version2 im both.0 both.1

-- the image of a load is that of its calls and relocations
pub job_ends : (s builtins : List ℕ) (j : Job) (im l : List ℕ) → Ends (job_trace s builtins j im) l → Ends (writing_trace s builtins j im) l
unfolding job_trace
job_ends s builtins j im l e =
    let first = ends_then (writing_trace s builtins j im) _ l e in
    let second = ends_then (naming_trace s builtins j first.0) (placed_trace j.placing) l first.2 in
    let naming = ends_then (labels_trace s builtins j first.0) (entry_trace builtins j) second.0 second.1 in
    let same : l ≡ first.0 =
    placed_ends j.placing second.0 l second.2
    ∙ entry_ends builtins j naming.0 second.0 naming.2
    ∙ labels_ends s builtins j first.0 naming.0 naming.1 in
    rw same first.1

-- ---- calls and relocations

row_clear : (at b : ℕ) (r : LegacyResult) → is_in at 4 b ≡ false → writes (call_row at r) b ≡ false
row_clear at b (Ok row) h = h
row_clear at b (Err taken) h = refl

module _ (file builtins : List ℕ) (j : Job) where
  abbrev pub call : ℕ → List ℕ → Result Deed ElfError
  call i im = call_deed file builtins j i

  pub slot_is : (i : ℕ) (im : List ℕ) → slot_trace file builtins j i im ≡ deed_trace (call i im) im
  unfolding slot_trace
  slot_is i im = refl

  abbrev pub relocation : ℕ → List ℕ → Result Deed ElfError
  relocation i im = relocation_deed file builtins j i im

  pub relocation_is : (i : ℕ) (im : List ℕ) → relocation_trace file builtins j i im ≡ deed_trace (relocation i im) im
  unfolding relocation_trace
  relocation_is i im = refl

  -- a slot that is no call writes nothing, and a call at its immediate
  call_clear : (i b : ℕ) (im : List ℕ) → i < slot_count j → ((to : ℕ) → CallsTo file j i to → is_in (immediate j i) 4 b ≡ false) → writes (call i im) b ≡ false
  unfolding call_deed
  call_clear i b im l h = go (call_at (text_of file j) j.version2 i) refl
    where
      go : (c : Result (Option ℕ) ElfError) → call_at (text_of file j) j.version2 i ≡ c → writes (call_by builtins j i c) b ≡ false
      go (Ok None) e = refl
      go (Err r) e = refl
      go (Ok (Some to)) e = row_clear (immediate j i) b (row_for builtins j OfIndex to) (h to (l, e))

  calls_length : (im l : List ℕ) → Ends (calls_trace file builtins j im) l → length l ≡ length im
  calls_length im l e = deeds_length (slot_trace file builtins j) call (slot_count j) slot_is im l e

  calls_other : (im l : List ℕ) (b : ℕ) → ((i to : ℕ) → CallsTo file j i to → is_in (immediate j i) 4 b ≡ false)
      → Ends (calls_trace file builtins j im) l
      → get_or l b 0 ≡ get_or im b 0
  calls_other im l b h e = deeds_other (slot_trace file builtins j) call (slot_count j) slot_is im l b (λ i k m n. call_clear i b k m (h i)) e

  relocations_length : (im l : List ℕ) → Ends (relocations_trace file builtins j im) l → length l ≡ length im
  relocations_length im l e = deeds_length (relocation_trace file builtins j) relocation (relocation_count j) relocation_is im l e

  relocations_other : (im l : List ℕ) (b : ℕ) → length im ≤ 2 ^ 24 → Unnamed file j b → Ends (relocations_trace file builtins j im) l → get_or l b 0 ≡ get_or im b 0
  relocations_other im l b short h e =
      deeds_other (relocation_trace file builtins j) relocation (relocation_count j) relocation_is im l b
      (λ i k m n. unnamed_clear b file k builtins j (place_at file j i) (info_of file j i) (addend_of file j i) (rw n short) (h i m)) e

  -- ---- the key of a call

  module _ (i to : ℕ) (calls : CallsTo file j i to) (short : length file ≤ 2 ^ 24) where
    -- its own slot writes it
    own_slot : (im l : List ℕ) → immediate j i + 4 ≤ length im → Ends (slot_trace file builtins j i im) l → le 4 l (immediate j i) ≡ key_of j.version2 to
    unfolding slot_trace call_deed deed_trace
    own_slot im l room e = go (row_for builtins j OfIndex to) refl (rw calls.1 at e)
      where
        go : (r : LegacyResult) → row_for builtins j OfIndex to ≡ r → Ends (deed_trace (call_row (immediate j i) r) im) l → le 4 l (immediate j i) ≡ key_of j.version2 to
        go (Err taken) q e = absurd e
        go (Ok row) q e =
            let k = row_key builtins j to row q in
            let small : row.key < 256 ^ 4 = rw k (key_word j.version2 to (omega (arith, to_small file j i to short calls))) in
            rw (← e) (le_put 4 im (immediate j i) row.key room small) ∙ k

    -- and no other slot writes there
    other_slot : (m : ℕ) (im l : List ℕ) → m < slot_count j → i < m → Ends (slot_trace file builtins j m im) l → le 4 l (immediate j i) ≡ le 4 im (immediate j i)
    other_slot m im l h g e =
        le_same 4 l im (immediate j i)
        (λ b p q. ap (λ (s : List ℕ). get_or s b 0) (step_ends (slot_trace file builtins j) call (slot_count j) slot_is m im l e)
        ∙ written_other (call m im) im b (call_clear m b im h (λ to c. not_in (immediate j m) 4 b (inl (omega arith)))))

    module _ (im : List ℕ) (room : immediate j i + 4 ≤ length im) where
      -- behind m slots
      abbrev Behind : ℕ → List ℕ → Type 0
      Behind m l = (length l ≡ length im) × (i < m → le 4 l (immediate j i) ≡ key_of j.version2 to)

      after : (m : ℕ) (l l' : List ℕ) → m < slot_count j → Behind m l → Ends (slot_trace file builtins j m l) l'
          → i < m + 1
          → Dec (m ≡ i)
          → le 4 l' (immediate j i) ≡ key_of j.version2 to
      after m l l' h p x g (yes q) = own_slot l l' (rw p.0 room) (rw q at x)
      after m l l' h p x g (no q) = let before : i < m = omega arith in other_slot m l l' h before x ∙ p.1 before

      next : (m : ℕ) (l l' : List ℕ) → m < slot_count j → Behind m l → Ends (slot_trace file builtins j m l) l' → Behind (m + 1) l'
      next m l l' h p x = (step_length (slot_trace file builtins j) call (slot_count j) slot_is m l l' x ∙ p.0, λ g. after m l l' h p x g (ℕ_discrete m i))

      calls_keyed : (l : List ℕ) → Ends (calls_trace file builtins j im) l → le 4 l (immediate j i) ≡ key_of j.version2 to
      calls_keyed l e = (ends_each (slot_trace file builtins j) Behind (slot_count j) next im l (refl, λ h. absurd (omega arith)) e).1 calls.0

-- ---- zeros behind a list are what is read behind it

only_zeros : (n b : ℕ) → ◌≡◌ {A = ℕ} (get_or (replicate n 0) b 0) 0
only_zeros zero b = refl
only_zeros (suc n) zero = refl
only_zeros (suc n) (suc b) = only_zeros n b

pub zeros_behind : (n : ℕ) (l : List ℕ) (b : ℕ) → get_or (l ++ replicate n 0) b 0 ≡ get_or l b 0
zeros_behind n [] b = only_zeros n b
zeros_behind n (x ∷ l) zero = refl
zeros_behind n (x ∷ l) (suc b) = zeros_behind n l b

-- ---- THE IMAGE OF A LOAD

module _ (file builtins : List ℕ) (j : Job) (inside : InFile file j) (im' : List ℕ) (ends : Ends (job_trace file builtins j file) im') where
  -- the calls' image, and the relocations' that follow it
  pub parts : (im : List ℕ) × Ends (calls_trace file builtins j file) im × Ends (relocations_trace file builtins j im) im'
  parts = ends_then (calls_trace file builtins j file) (relocations_trace file builtins j) im' (job_ends file builtins j file im' ends)

  pub calls_long : length parts.0 ≡ length file
  calls_long = calls_length file builtins j file parts.0 parts.1

  short : length parts.0 ≤ 2 ^ 24
  short = rw calls_long inside.short

  image_length : length im' ≡ length file
  image_length = relocations_length file builtins j parts.0 im' parts.2 ∙ calls_long

  pub bytes_kept : Bytes file j im'
  bytes_kept b none unnamed =
      relocations_other file builtins j parts.0 im' b short unnamed parts.2
      ∙ calls_other file builtins j file parts.0 b (λ i to c. none i (calls_local file j i to c)) parts.1

  pub call_keyed : (i to : ℕ) → CallsTo file j i to
      → ((b : ℕ) → is_in (immediate j i) 4 b ≡ true → Unnamed file j b)
      → le 4 im' (immediate j i) ≡ key_of j.version2 to
  call_keyed i to calls unnamed =
      le_same 4 im' parts.0 (immediate j i)
      (λ b p q. relocations_other file builtins j parts.0 im' b short (unnamed b (in_places (immediate j i) 4 b p q)) parts.2)
      ∙ calls_keyed file builtins j i to calls inside.short file (omega (arith, inside.text, calls.0)) parts.0 parts.1

  -- the same in the lent image, with zeros behind the file
  module _ (n : ℕ) where
    pub lent_bytes : Bytes file j (im' ++ replicate n 0)
    lent_bytes b none unnamed = zeros_behind n im' b ∙ bytes_kept b none unnamed

    pub lent_keyed : (i to : ℕ) → CallsTo file j i to
        → ((b : ℕ) → is_in (immediate j i) 4 b ≡ true → Unnamed file j b)
        → le 4 (im' ++ replicate n 0) (immediate j i) ≡ key_of j.version2 to
    lent_keyed i to calls unnamed = le_same 4 (im' ++ replicate n 0) im' (immediate j i) (λ b p q. zeros_behind n im' b) ∙ call_keyed i to calls unnamed
