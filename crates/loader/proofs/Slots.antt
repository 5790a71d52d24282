-- A slot's deed, by what it calls, and where it writes. Assumes nothing.
use mathlib.Core.Path.{◌≡◌, refl, sym, ap, ◌∙◌}
use mathlib.Core.List.{List}
use Prim.Native.Nat.{ℕ, zero, suc, ◌+◌, ◌-◌, ◌*◌, ◌/◌, ◌≤◌, ◌<◌}
use native.Mathlib.Omega.{arith}
use mathlib.Core.Bool.{Bool, true, false}
use lib.ListN.{length, drop, get_or, length-drop}
use lib.Seq.{length-take-le}
use lib.Dec.{leb, eqb}
use borrow.Author.Tests.{leb-false, lt-leb, eqb-false, ne_eqb}
use Rattle.program.specs.HashedLegacy.{LegacyResult}
use Rattle.std.specs.Prelude.{Ok, Err}
use Rattle.ebpf.specs.Choice.{◌if◌else◌, not_first}
use Rattle.ebpf.specs.LittleEndian.{le, le_byte}
use Rattle.ebpf.specs.Instructions.{slot_at, insn_at}
use Rattle.ebpf.specs.declared.Insn.{Insn}
use Rattle.std.specs.Prelude.{Some}
use Rattle.program.specs.Table.{Slices}
use Rattle.program.proofs.Cases.{zero_one}
use Rattle.program.specs.declared.FunctionName.TheVariants.{OfIndex}
use Rattle.loader.specs.declared.deeds.Deed.TheVariants.{Skip}
use Rattle.loader.specs.declared.validate.Job.{Job}
use Rattle.std.specs.Prelude.{Ok, Option, Some, None, Result, Err}
use Rattle.loader.specs.declared.error.ElfError.{ElfError}
use Rattle.loader.specs.Functions.{row_for}
use Rattle.loader.specs.Deeds.{DeedFits, deed_trace}
use Rattle.loader.specs.Trace.{and_then, each}
use Rattle.loader.specs.Calls.{next_call, is_local_call, call_of, call_at, text_of, slot_count, immediate, call_row, call_by, call_deed, slot_trace}
use Rattle.loader.specs.InnerContracts.{BeginsIn}
use Rattle.loader.specs.InFile.{InFile}
use Rattle.loader.proofs.Going.{GoingIn, in_ahead}

row_fits : (n at : ℕ) (r : LegacyResult) → at + 4 ≤ n → DeedFits n (call_row at r)
row_fits n at (Ok row) h = h
row_fits n at (Err taken) h = tt

by_fits : (builtins : List ℕ) (j : Job) (i n : ℕ) (c : Result (Option ℕ) ElfError) → immediate j i + 4 ≤ n → DeedFits n (call_by builtins j i c)
by_fits builtins j i n (Ok None) h = tt
by_fits builtins j i n (Err r) h = tt
by_fits builtins j i n (Ok (Some index)) h = row_fits n (immediate j i) (row_for builtins j OfIndex index) h

-- a slot's immediate lies in an image of n bytes
pub call_fits_in : (file builtins : List ℕ) (j : Job) (i n : ℕ) → immediate j i + 4 ≤ n → DeedFits n (call_deed file builtins j i)
unfolding call_deed
call_fits_in file builtins j i n h = by_fits builtins j i n (call_at (text_of file j) j.version2 i) h

-- a slot that is there is one of the text's whole slots
pub whole_slot : (text : List ℕ) (i : ℕ) (insn : Insn) → insn_at text i ≡ Some insn → i < length text / 8
unfolding insn_at
whole_slot text i insn e = leb-false _ _ (not_first _ _ _ _ (λ p. zero_one (cc)) e)

-- ---- a slot whose opcode is not a call's is passed over

whole : (file : List ℕ) (j : Job) → InFile file j → length (text_of file j) ≡ j.text.length
whole file j inside = length-take-le j.text.length (drop j.text.start file) (simp length-drop (omega (arith, inside.text)))

-- by its slot, which is there
none_by : (text : List ℕ) (version2 : Bool) (i : ℕ) → i < length text / 8 → (le 1 text (8 * i) ≡ 0x85 → ⊥) → call_at text version2 i ≡ Ok None
unfolding call_at insn_at slot_at call_of is_local_call ◌if◌else◌
none_by text version2 i h e =
    let there : leb (length text / 8) i ≡ false = lt-leb (length text / 8) i h in
    let other : eqb (le 1 text (8 * i)) 0x85 ≡ false = ne_eqb _ _ e in
    rw there (rw other refl)

no_call : (file builtins : List ℕ) (j : Job) → InFile file j → (i : ℕ) → i < slot_count j → (get_or (text_of file j) (8 * i) 0 ≡ 0x85 → ⊥) → call_deed file builtins j i ≡ Ok Skip
unfolding call_deed
no_call file builtins j inside i h e =
    let text = text_of file j in
    ap (call_by builtins j i) (none_by text j.version2 i (rw (whole file j inside) h) (λ q. e (sym (le_byte text (8 * i)) ∙ q)))

-- the next call lies among the slots that are left, or behind them
pub next_bounds : (text : List ℕ) (n i : ℕ) → (i ≤ next_call text n i) × (next_call text n i ≤ i + n)
unfolding next_call ◌if◌else◌
next_bounds text zero i = (omega arith, omega arith)
next_bounds text (suc n) i = go (eqb (get_or text (8 * i) 0) 0x85) (next_bounds text n (i + 1))
  where
    go : (b : Bool) → (i + 1 ≤ next_call text n (i + 1)) × (next_call text n (i + 1) ≤ i + 1 + n) → (i ≤ (i if b else next_call text n (i + 1))) × ((i if b else next_call text n (i + 1)) ≤ i + suc n)
    go true h = (omega arith, omega arith)
    go false h = (omega (arith, h.0), omega (arith, h.1))

-- so what slots ask for is what those from the next call on ask for
module _ (file builtins : List ℕ) (j : Job) (inside : InFile file j) (im : List ℕ) where
  passed : (n i : ℕ) → call_deed file builtins j i ≡ Ok Skip → each (slot_trace file builtins j) (suc n) i im ≡ each (slot_trace file builtins j) n (i + 1) im
  unfolding slot_trace deed_trace each and_then
  passed n i e = rw e refl

  -- those from the next call on, among the first n of n + m
  skipped : (n m i : ℕ) → i + n + m ≤ slot_count j
      → each (slot_trace file builtins j) (n + m) i im ≡ each (slot_trace file builtins j) (i + n + m - next_call (text_of file j) n i) (next_call (text_of file j) n i) im
  unfolding next_call ◌if◌else◌
  skipped zero m i h = let e : i + 0 + m - i ≡ 0 + m = omega arith in rw e refl
  skipped (suc n) m i h = go (eqb (get_or (text_of file j) (8 * i) 0) 0x85) refl (λ k. skipped n m (i + 1) k)
    where
      go : (b : Bool) → eqb (get_or (text_of file j) (8 * i) 0) 0x85 ≡ b
          → (i + 1 + n + m ≤ slot_count j → each (slot_trace file builtins j) (n + m) (i + 1) im ≡ each (slot_trace file builtins j) (i + 1 + n + m - next_call (text_of file j) n (i + 1)) (next_call (text_of file j) n (i + 1)) im)
          → each (slot_trace file builtins j) (suc n + m) i im ≡ each (slot_trace file builtins j) (i + suc n + m - (i if b else next_call (text_of file j) n (i + 1))) (i if b else next_call (text_of file j) n (i + 1)) im
      go true e rec = let k : i + suc n + m - i ≡ suc n + m = omega arith in rw k refl
      go false e rec =
          let k : i + suc n + m ≡ i + 1 + n + m = omega arith in
          let q : suc n + m ≡ suc (n + m) = omega arith in
          rw q (passed (n + m) i (no_call file builtins j inside i (omega arith) (eqb-false _ _ e)) ∙ rec (omega arith) ∙ rw k refl)

-- a loop over the slots up to number to goes on at the next call
pub calls_ahead : (file builtins : List ℕ) (j : Job) → InFile file j
    → (o to : ℕ) → to ≤ slot_count j
    → (im₀ im : List ℕ) (t₀ t : Slices) (used₀ moves₀ used moves i k : ℕ)
    → BeginsIn (to - o) t₀ used₀ moves₀
    → GoingIn (slot_trace file builtins j) (slot_count j) o to im₀ im t₀ t used₀ moves₀ used moves i
    → next_call (text_of file j) (to - i) i ≡ k
    → GoingIn (slot_trace file builtins j) (slot_count j) o to im₀ im t₀ t used₀ moves₀ used moves k
calls_ahead file builtins j inside o to l im₀ im t₀ t used₀ moves₀ used moves i k b g e =
    let h : i ≤ to = g.passed in
    let n = slot_count j in
    let at : to - i + (n - to) ≡ n - i = omega (arith, h) in
    let up : i + (to - i) + (n - to) ≡ n = omega (arith, h) in
    let bounds = next_bounds (text_of file j) (to - i) i in
    let on = skipped file builtins j inside im (to - i) (n - to) i (omega (arith, up)) in
    in_ahead (slot_trace file builtins j) n o to l im₀ im t₀ t used₀ moves₀ used moves i b g k (omega (arith, bounds.0, e)) (omega (arith, bounds.1, e, h)) (rw (at, up, e) at on)

-- slot number i of a text that lies in the file starts in it, or the text ends there
pub text_in : (start n i file : ℕ) → start + n ≤ file → i ≤ n / 8 → start + 8 * i ≤ file
text_in start n i file h l = omega (arith, h, l)
