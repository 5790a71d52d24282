-- Who wrote a byte, by what a load's parts write, is who wrote it by the bytes that calls and relocations name. Assumes nothing.
use Prim.Native.Nat.{ℕ, ◌^◌, ◌≤◌, ◌<◌}
use native.Mathlib.Omega.{arith}
use mathlib.Core.Path.{◌≡◌, refl, ◌∙◌}
use mathlib.Core.Bool.{Bool, true, false, ◌&&◌, true≢false}
use mathlib.Core.List.{List}
use lib.ListN.{length, get_or}
use Rattle.program.specs.HashedLegacy.{LegacyResult}
use Rattle.std.specs.Prelude.{Ok, Err}
use Rattle.program.specs.declared.FunctionName.TheVariants.{OfIndex}
use Rattle.program.proofs.Cases.{zero_one}
use Rattle.loader.specs.declared.validate.Job.{Job}
use Rattle.std.specs.Prelude.{Option, Some, None, Result, Ok, Err}
use Rattle.loader.specs.declared.error.ElfError.{ElfError}
use Rattle.loader.specs.Calls.{call_at, text_of, slot_count, immediate, call_row, call_by, call_deed, slot_trace}
use Rattle.loader.specs.InFile.{InFile}
use Rattle.loader.specs.Deeds.{is_in, writes}
use Rattle.loader.specs.Demand.{info_of, addend_of}
use Rattle.loader.specs.Functions.{row_for}
use Rattle.loader.specs.Parts.{job_trace}
use Rattle.loader.specs.Relocations.{relocation_count, place_at, relocation_deed, relocation_trace}
use Rattle.loader.proofs.Ends.{Ends}
use Rattle.loader.proofs.Imaged.{slot_is, relocation_is, parts, calls_long}
use Rattle.loader.proofs.Named.{stops, named_exactly}
use Rattle.loader.proofs.Targets.{calls_local, local_calls}
use Rattle.writers.specs.declared.Writer.{Writer}
use Rattle.writers.specs.declared.Writer.TheVariants.{File, Call, Relocation}
use Rattle.writers.specs.declared.text.LoadedText.{LoadedText}
use Rattle.writers.specs.Named.{is_call, names_byte, call_writer, last_of, by_names}
use Rattle.writers.specs.Writers.{writer_after, call_deeds, image_of_calls, image_of_all, writer_of}
use Rattle.writers.proofs.Folds.{image_after_lem, writer_after_lem, kept_after}
use Rattle.std.proofs.Math.Bool.{and-false, and-true}
use Rattle.writers.proofs.Slots.{last_slot}

-- the text of a job
abbrev pub text_is : Job → LoadedText
text_is j = record { version2 = j.version2; place = j.text }

module _ (file builtins : List ℕ) (j : Job) where
  -- a slot that does not stop the load writes b exactly if it is a local call with b in its immediate
  slot_exactly : (i b : ℕ) → i < slot_count j → stops (call_deed file builtins j i) ≡ false
      → (is_in (immediate j i) 4 b && is_call file (text_is j) i) ≡ writes (call_deed file builtins j i) b
  unfolding call_deed
  slot_exactly i b l h = go (call_at (text_of file j) j.version2 i) refl h
    where
      never : {A : Type 0} → ◌≡◌ {A = Bool} true false → A
      never e = absurd (true≢false e)

      free : (r : LegacyResult) → stops (call_row (immediate j i) r) ≡ false → is_in (immediate j i) 4 b ≡ writes (call_row (immediate j i) r) b
      free (Ok row) e = refl
      free (Err taken) e = never e

      no_call : (x : Bool) → is_call file (text_is j) i ≡ x → call_at (text_of file j) j.version2 i ≡ Ok None → is_call file (text_is j) i ≡ false
      no_call false q e = q
      no_call true q e = absurd (local_calls file j i (l, q) e)

      go : (c : Result (Option ℕ) ElfError) → call_at (text_of file j) j.version2 i ≡ c → stops (call_by builtins j i c) ≡ false
          → (is_in (immediate j i) 4 b && is_call file (text_is j) i) ≡ writes (call_by builtins j i c) b
      go (Ok None) e s = rw (no_call (is_call file (text_is j) i) refl e) (and-false (is_in (immediate j i) 4 b))
      go (Err r) e s = never s
      go (Ok (Some to)) e s = let q : is_call file (text_is j) i ≡ true = (calls_local file j i to (l, e)).1 in rw q (and-true (is_in (immediate j i) 4 b) ∙ free (row_for builtins j OfIndex to) s)

  module _ (inside : InFile file j) (im' : List ℕ) (ends : Ends (job_trace file builtins j file) im') where
    calls_image : (parts file builtins j inside im' ends).0 ≡ image_of_calls file builtins j
    calls_image = image_after_lem (slot_trace file builtins j) (call_deeds file builtins j) (slot_is file builtins j) (slot_count j) 0 file (parts file builtins j inside im' ends).0 (parts file builtins j inside im' ends).1

    -- THE IMAGE of a load that ends is that of its calls and relocations
    pub all_image : im' ≡ image_of_all file builtins j
    unfolding image_of_all
    all_image =
        rw (← calls_image)
        (image_after_lem (relocation_trace file builtins j) (relocation_deed file builtins j) (relocation_is file builtins j) (relocation_count j) 0 (parts file builtins j inside im' ends).0 im' (parts file builtins j inside im' ends).2)

    module _ (b : ℕ) where
      calls_writer : writer_after (call_deeds file builtins j) Call b (slot_count j) 0 file File ≡ call_writer file (text_is j) b
      unfolding last_of
      calls_writer =
          writer_after_lem (slot_trace file builtins j) (call_deeds file builtins j) (slot_is file builtins j) Call b (length file) (slot_count j) (λ i. is_in (immediate j i) 4 b && is_call file (text_is j) i)
          (λ i im l q s. slot_exactly i b l s)
          (slot_count j) 0 file (parts file builtins j inside im' ends).0 File (omega arith) refl (parts file builtins j inside im' ends).1
          ∙ last_slot file (text_is j) b (slot_count j)

      relocations_writer : (w : Writer) → writer_after (relocation_deed file builtins j) Relocation b (relocation_count j) 0 (image_of_calls file builtins j) w ≡ last_of Relocation (λ i. names_byte file j.layout (text_is j) i b) (relocation_count j) w
      unfolding last_of
      relocations_writer w =
          rw (← calls_image)
          (writer_after_lem (relocation_trace file builtins j) (relocation_deed file builtins j) (relocation_is file builtins j) Relocation b (length file) (relocation_count j) (λ i. names_byte file j.layout (text_is j) i b)
          (λ i im l q s. let short : length im ≤ 2 ^ 24 = rw q inside.short in named_exactly b file im builtins j (place_at file j i) (info_of file j i) (addend_of file j i) short s)
          (relocation_count j) 0 (parts file builtins j inside im' ends).0 im' w (omega arith) (calls_long file builtins j inside im' ends) (parts file builtins j inside im' ends).2)

      -- THE WRITER is the last relocation that names the byte, else the call that has it in its immediate, else the file
      pub writer_named : writer_of file builtins j b ≡ by_names file j.layout (text_is j) b
      unfolding writer_of by_names
      writer_named = rw calls_writer (relocations_writer (call_writer file (text_is j) b))

      call_other : (i : ℕ) → Call i ≡ File → ⊥
      call_other i e = zero_one (cc)

      relocation_other : (i : ℕ) → Relocation i ≡ File → ⊥
      relocation_other i e = zero_one (cc)

      -- A BYTE THAT NOTHING WROTE is the file's
      pub unwritten : writer_of file builtins j b ≡ File → get_or im' b 0 ≡ get_or file b 0
      unfolding writer_of image_of_all
      unwritten e =
          let last = kept_after (relocation_deed file builtins j) Relocation relocation_other b (relocation_count j) 0 (image_of_calls file builtins j) _ e in
          let first = kept_after (call_deeds file builtins j) Call call_other b (slot_count j) 0 file File last.1 in
          rw all_image (last.0 ∙ first.0)
