-- The rows that the parts of a load before the entry register, and the entry's: those that the claim about a load names.
-- Assumes nothing.
use Prim.Native.Nat.{ℕ, ◌-◌, ◌/◌, ◌%◌, ◌<◌, ◌^◌}
use mathlib.Core.Path.{◌≡◌, refl, sym, ap, ◌∙◌, subst}
use mathlib.Core.Logic.{◌⊎◌, inl, inr, ◌↔◌}
use mathlib.Core.Bool.{Bool, true, false, not}
use mathlib.Core.List.{List}
use lib.ListN.{length, take, drop}
use lib.Dec.{eqb}
use lib.Bits.{bit_and}
use native.Mathlib.Omega.{arith}
use borrow.Author.Tests.{eqb-true}
use Rattle.program.specs.HashedLegacy.{LegacyResult}
use Rattle.std.proofs.lemmas.Bool.{not-false}
use Rattle.std.specs.Prelude.{Ok, Err, Option, Some, None, Result}
use Rattle.ebpf.specs.Choice.{◌if◌else◌, eq_not}
use Rattle.elf_parser.specs.declared.types.Elf64Sym.{Elf64Sym}
use Rattle.elf_parser.specs.Records.{dynamic_symbol_of, entry_of as nth_of}
use Rattle.elf_parser.specs.Types.{sym as sym_at}
use Rattle.elf_parser.specs.Names.{symbol_name, dynamic_symbol_name}
use Rattle.program.specs.declared.Row.{Row}
use Rattle.program.specs.declared.FunctionName.TheVariants.{OfIndex, Entrypoint}
use Rattle.program.proofs.Cases.{zero_one}
use Rattle.loader.specs.declared.error.ElfError.TheVariants.{InvalidEntrypoint}
use Rattle.loader.specs.declared.deeds.Deed.{Deed}
use Rattle.loader.specs.declared.validate.Job.{Job}
use Rattle.loader.specs.declared.error.ElfError.{ElfError}
use Rattle.loader.specs.Deeds.{Entry, Nothing, Enter, entry_of, written, entry_trace, deed_trace}
use Rattle.loader.specs.Functions.{row_for, symbol_function, index_of}
use Rattle.loader.specs.Addresses.{sum_up_to}
use Rattle.loader.specs.Calls.{call_at, text_of, slot_count, immediate, call_row, call_by, call_deed, slot_trace, calls_trace}
use Rattle.loader.specs.Relocations.{relocation_count, is_function, halves_deed, word_deed, address_deed, symbol_deed, plan6464, relative_text, plan_relative, register_deed, function_call, builtin_call, call_by_name, named_call, symbol_call, plan6432, plan_at, plan_of, place_at, relocation_deed, relocation_trace, relocations_trace}
use Rattle.loader.specs.Labels.{label_row, named_label, label_of, label_by, label_deed, label_symbols, label_trace, labels_trace}
use Rattle.loader.specs.Entry.{entry_deed}
use Rattle.loader.specs.Parts.{writing_trace}
use Rattle.loader.proofs.Ends.{Ends, ends_then}
use Rattle.loader.proofs.Asked.{Asks, Keeps, AsksFor}
use Rattle.loader.proofs.Targets.{local_calls}
use Rattle.loader.specs.Demand.{LocalCall, CallsTo, OfCall, OfRelocation, OfLabel, OfEntry, info_of, addend_of, entry_index, early_trace}
use Rattle.loader.proofs.Traces.{asks_then, keeps_then, keeps_each, ends_turn, asks_each}
use Rattle.elf_parser.specs.declared.error.ElfParserError.{ElfParserError}
use Rattle.elf_parser.specs.Parts.{stands, same_place}
use Rattle.elf_parser.specs.declared.parts.Place.{Place}

-- ---- a deed

entry_asks : (e : Result Entry ElfError) (P : Row → Type 0) → AsksFor e P → (im im' : List ℕ) → Ends (entry_trace e im) im' → (row : Row) → Asks row (entry_trace e im) ↔ P row
entry_asks (Ok Nothing) P h im im' e row = (λ a. absurd a, λ p. absurd (h row p))
entry_asks (Err r) P h im im' e row = absurd e
entry_asks (Ok (Enter r true)) P h im im' e row = absurd e
entry_asks (Ok (Enter r false)) P h im im' e row = (λ a. (h row).1 (only a), λ p. inl ((h row).0 p))
  where
    only : (row ≡ r) ⊎ ⊥ → row ≡ r
    only (inl s) = s
    only (inr z) = absurd z

pub deed_asks : (d : Result Deed ElfError) (P : Row → Type 0) → AsksFor (entry_of d) P → (im im' : List ℕ) → Ends (deed_trace d im) im' → (row : Row) → Asks row (deed_trace d im) ↔ P row
unfolding deed_trace
deed_asks d P h im im' e row = entry_asks (entry_of d) P h (written d im) im' e row

pub deed_keeps : (d : Result Deed ElfError) (im : List ℕ) → Keeps (deed_trace d im)
unfolding deed_trace
deed_keeps d im = go (entry_of d) (written d im)
  where
    go : (e : Result Entry ElfError) (im : List ℕ) → Keeps (entry_trace e im)
    go (Ok Nothing) im = tt
    go (Err r) im = tt
    go (Ok (Enter r true)) im = tt
    go (Ok (Enter r false)) im = tt

-- a choice asks for what it picks
either : (b : Bool) (x y : Result Deed ElfError) (P : Row → Type 0) → (b ≡ true → AsksFor (entry_of x) P) → (b ≡ false → AsksFor (entry_of y) P) → AsksFor (entry_of (x if b else y)) P
unfolding ◌if◌else◌
either true x y P p q = p refl
either false x y P p q = q refl

-- ---- local calls

module _ (file builtins : List ℕ) (j : Job) (i : ℕ) (l : i < slot_count j) where
  row_asks : (to : ℕ) → call_at (text_of file j) j.version2 i ≡ Ok (Some to) → (r : LegacyResult) → row_for builtins j OfIndex to ≡ r → AsksFor (entry_of (call_row (immediate j i) r)) (OfCall file builtins j i)
  row_asks to c (Err taken) e = tt
  row_asks to c (Ok r) e = λ row. (
    λ h.
        let same : h.0 ≡ to = (let t : Ok (Some h.0) ≡ Ok (Some to) = sym h.1.1 ∙ c in cc) in
        let f : Ok row ≡ Ok r = sym h.2 ∙ ap (row_for builtins j OfIndex) same ∙ e in
        cc,
    λ h. (to, (l, c), e ∙ ap Ok (sym h)),
  )

  call_asks : (c : Result (Option ℕ) ElfError) → call_at (text_of file j) j.version2 i ≡ c → AsksFor (entry_of (call_by builtins j i c)) (OfCall file builtins j i)
  call_asks (Ok None) e = λ row h. let t = h.1.1 in zero_one (cc)
  call_asks (Err r) e = tt
  call_asks (Ok (Some to)) e = row_asks to e (row_for builtins j OfIndex to) refl

  slot_asks : AsksFor (entry_of (call_deed file builtins j i)) (OfCall file builtins j i)
  unfolding call_deed
  slot_asks = call_asks (call_at (text_of file j) j.version2 i) refl

  -- a call that does not stop has a row
  call_row_lem : (im im' : List ℕ) → Ends (slot_trace file builtins j i im) im' → (to : ℕ) → call_at (text_of file j) j.version2 i ≡ Ok (Some to) → (row : Row) × (row_for builtins j OfIndex to ≡ Ok row)
  unfolding slot_trace call_deed deed_trace
  call_row_lem im im' e to c = go (row_for builtins j OfIndex to) (subst (λ (c : Result (Option ℕ) ElfError). Ends (deed_trace (call_by builtins j i c) im) im') c e)
    where
      go : (r : LegacyResult) → Ends (entry_trace (entry_of (call_row (immediate j i) r)) (written (call_row (immediate j i) r) im)) im' → (row : Row) × (r ≡ Ok row)
      go (Ok row) e = (row, refl)
      go (Err taken) e = absurd e

  -- a local call has a target: the trace would stop at one whose target is outside
  call_to : (im im' : List ℕ) → Ends (slot_trace file builtins j i im) im' → LocalCall file j i → (to : ℕ) × CallsTo file j i to
  unfolding slot_trace call_deed deed_trace
  call_to im im' e c = go (call_at (text_of file j) j.version2 i) refl
    where
      go : (d : Result (Option ℕ) ElfError) → call_at (text_of file j) j.version2 i ≡ d → (to : ℕ) × CallsTo file j i to
      go (Ok None) q = absurd (local_calls file j i c q)
      go (Ok (Some to)) q = (to, (c.0, q))
      go (Err r) q = absurd (subst (λ (d : Result (Option ℕ) ElfError). Ends (deed_trace (call_by builtins j i d) im) im') q e)

-- ---- relocations

-- a type that registers nothing
module _ (P : Row → Type 0) (none : (row : Row) → P row → ⊥) where
  halves_none : (len low high value : ℕ) → AsksFor (entry_of (halves_deed len low high value)) P
  unfolding halves_deed
  halves_none len low high value = either _ _ _ P (λ e. tt) (λ e. either _ _ _ P (λ f. tt) (λ f. none))

  word_none : (len at value : ℕ) → AsksFor (entry_of (word_deed len at value)) P
  unfolding word_deed
  word_none len at value = either _ _ _ P (λ e. tt) (λ e. none)

  symbol_none : (len : ℕ) (split : Bool) (at addend number : ℕ) (y : Result Elf64Sym ElfParserError) → AsksFor (entry_of (symbol_deed len split at addend number y)) P
  unfolding address_deed
  symbol_none len split at addend number (Ok y) = either split _ _ P (λ e. halves_none len at (sum_up_to at 8) _) (λ e. word_none len at _)
  symbol_none len split at addend number (Err r) = tt

  none6464 : (s im : List ℕ) (j : Job) (split : Bool) (r number : ℕ) (addend : Option ℕ) → AsksFor (entry_of (plan6464 s im j.layout split r number addend)) P
  unfolding plan6464
  none6464 s im j split r number addend = either _ _ _ P (λ e. tt) (λ e. symbol_none (length im) split _ _ number (dynamic_symbol_of s j.layout number))

  text_none : (len low high address : ℕ) → AsksFor (entry_of (relative_text len low high address)) P
  unfolding relative_text
  text_none len low high address = either _ _ _ P (λ e. tt) (λ e. either _ _ _ P (λ f. tt) (λ f. either _ _ _ P (λ g. tt) (λ g. none)))

  relative_none : (im : List ℕ) (version2 in_text_lem : Bool) (r : ℕ) (addend : Option ℕ) → AsksFor (entry_of (plan_relative im version2 in_text_lem r addend)) P
  unfolding plan_relative
  relative_none im version2 in_text_lem r addend = either in_text_lem _ _ P (λ e. text_none (length im) _ _ _) (λ e. word_none (length im) r _)

  builtin_none : (builtins : List ℕ) (reject-broken : Bool) (len at r start n hash : ℕ) → AsksFor (entry_of (builtin_call builtins reject-broken len at r start n hash)) P
  unfolding builtin_call
  builtin_none builtins reject-broken len at r start n hash = either _ _ _ P (λ e. tt) (λ e. either _ _ _ P (λ f. tt) (λ f. none))

module _ (file builtins : List ℕ) (j : Job) (i : ℕ) (l : i < relocation_count j) where
  abbrev OfThis : Row → Type 0
  OfThis = OfRelocation file builtins j i

  abbrev info : ℕ
  info = info_of file j i

  module _ (ten : info % 2 ^ 32 ≡ 10) (y : Elf64Sym) (symbol : dynamic_symbol_of file j.layout (info / 2 ^ 32) ≡ Ok y) where
    -- the symbol is the one that the claim names
    same_symbol : (row : Row) (h : OfThis row) → h.2 ≡ y
    same_symbol row h = let s : Ok h.2 ≡ Ok y = sym h.3 ∙ symbol in cc

    module _ (start n : ℕ) (name : dynamic_symbol_name file j.layout y.st_name ≡ stands start n) where
      abbrev row_of_this : ℕ → ℕ → Elf64Sym → LegacyResult
      row_of_this start n y = row_for builtins j (symbol_function (take n (drop start file)) start n) (index_of j y.st_value)

      function_row : is_function y ≡ true → (len at : ℕ) (x : LegacyResult) → row_of_this start n y ≡ x → AsksFor (entry_of (register_deed len at x)) OfThis
      function_row f len at (Err taken) e = tt
      function_row f len at (Ok r) e = either _ _ _ OfThis (λ _. tt) (λ _ row. (only row, λ h. (l, ten, y, symbol, f, start, n, name, e ∙ ap Ok (sym h))))
        where
          only : (row : Row) → OfThis row → row ≡ r
          only row h =
              let s : h.2 ≡ y = same_symbol row h in
              let p : stands h.5 h.6 ≡ stands start n = sym h.7 ∙ ap (λ (y : Elf64Sym). dynamic_symbol_name file j.layout y.st_name) s ∙ name in
              let a : h.5 ≡ start = (same_place h.5 h.6 start n p).0 in
              let b : h.6 ≡ n = (same_place h.5 h.6 start n p).1 in
              let q : Ok row ≡ Ok r = sym h.8 ∙ rw (s, a, b) e in
              cc

      called_asks : (len r : ℕ) → AsksFor (entry_of (call_by_name (take n (drop start file)) builtins j len r y start n)) OfThis
      unfolding call_by_name function_call
      called_asks len r =
          either (is_function y) _ _ OfThis
          (λ f. either _ _ _ OfThis (λ _. tt) (λ _. function_row f len _ (row_of_this start n y) refl))
          (λ f. builtin_none OfThis (λ row h. let s : h.2 ≡ y = same_symbol row h in let g : is_function y ≡ true = rw s at h.4 in zero_one (cc)) builtins _ len _ r start n _)

    named_asks : (len r : ℕ) (p : Result Place ElfParserError) → dynamic_symbol_name file j.layout y.st_name ≡ p → AsksFor (entry_of (named_call file builtins j len r y p)) OfThis
    named_asks len r (Ok p) e = called_asks p.start p.length e len r
    named_asks len r (Err x) e = tt

  symbol_asks : info % 2 ^ 32 ≡ 10 → (len r : ℕ) (y : Result Elf64Sym ElfParserError) → dynamic_symbol_of file j.layout (info / 2 ^ 32) ≡ y → AsksFor (entry_of (symbol_call file builtins j len r (info / 2 ^ 32) y)) OfThis
  symbol_asks ten len r (Ok y) e = named_asks ten y e len r (dynamic_symbol_name file j.layout y.st_name) refl
  symbol_asks ten len r (Err x) e = tt

  -- another type
  other_none : (k : ℕ) → (k ≡ 10 → ⊥) → info % 2 ^ 32 ≡ k → (row : Row) → OfThis row → ⊥
  other_none k ne e row h = ne (sym e ∙ h.1)

  place_asks : (im : List ℕ) (p : Option ℕ) → AsksFor (entry_of (plan_of file im builtins j p info (addend_of file j i))) OfThis
  unfolding plan_at plan6432
  place_asks im (Some r) =
      either _ _ _ OfThis (λ d. tt)
      (λ d. either _ _ _ OfThis (λ e. none6464 OfThis (other_none 1 (λ z. absurd (omega arith)) (eqb-true (info % 2 ^ 32) 1 e)) file im j _ r _ _)
      (λ e. either _ _ _ OfThis (λ f. relative_none OfThis (other_none 8 (λ z. absurd (omega arith)) (eqb-true (info % 2 ^ 32) 8 f)) im j.version2 _ r _)
      (λ f. either _ _ _ OfThis (λ g. symbol_asks (eqb-true (info % 2 ^ 32) 10 g) (length im) r (dynamic_symbol_of file j.layout (info / 2 ^ 32)) refl) (λ g. tt))))
  place_asks im None = tt

  relocation_asks : (im : List ℕ) → AsksFor (entry_of (relocation_deed file builtins j i im)) OfThis
  relocation_asks im = place_asks im (place_at file j i)

-- ---- labels

-- a row that is only registered
label_row_asks : (P : Row → Type 0) (x : LegacyResult) → ((row : Row) → P row ↔ (x ≡ Ok row)) → AsksFor (entry_of (label_row x)) P
label_row_asks P (Err taken) h = tt
label_row_asks P (Ok r) h = λ row. (λ p. let e : Ok r ≡ Ok row = (h row).0 p in cc, λ e. (h row).1 (ap Ok (sym e)))

module _ (file builtins : List ℕ) (j : Job) (i : ℕ) (l : i < (label_symbols file j).count) where
  abbrev OfSymbol : Row → Type 0
  OfSymbol = OfLabel file builtins j i

  module _ (y : Elf64Sym) (symbol : nth_of 24 sym_at file (label_symbols file j) i ≡ Ok y) where
    same_label : (row : Row) (h : OfSymbol row) → h.1 ≡ y
    same_label row h = let s : Ok h.1 ≡ Ok y = sym h.2 ∙ symbol in cc

    named_label_lem : bit_and y.st_info 0xef ≡ 2 → (p : Result Place ElfParserError) → symbol_name file j.layout y.st_name ≡ p → AsksFor (entry_of (named_label file builtins j (index_of j y.st_value) y.st_name p)) OfSymbol
    named_label_lem two (Err x) e = tt
    named_label_lem two (Ok p) e = label_row_asks OfSymbol _ (λ row. (only row, λ r. (l, y, symbol, two, p.start, p.length, e, r)))
      where
        only : (row : Row) → OfSymbol row → row_for builtins j (symbol_function (take p.length (drop p.start file)) p.start p.length) (index_of j y.st_value) ≡ Ok row
        only row h =
            let s : h.1 ≡ y = same_label row h in
            let r : stands h.4 h.5 ≡ stands p.start p.length = sym h.6 ∙ ap (λ (y : Elf64Sym). symbol_name file j.layout y.st_name) s ∙ e in
            let a : h.4 ≡ p.start = (same_place h.4 h.5 p.start p.length r).0 in
            let b : h.5 ≡ p.length = (same_place h.4 h.5 p.start p.length r).1 in
            rw (← s, ← a, ← b) h.7

    label_of_asks : AsksFor (entry_of (label_of file builtins j y)) OfSymbol
    unfolding label_of
    label_of_asks =
        either _ _ _ OfSymbol
        (λ e row h. let s : h.1 ≡ y = same_label row h in let two : bit_and y.st_info 0xef ≡ 2 = rw s at h.3 in let f = eq_not (bit_and y.st_info 0xef) 2 two in zero_one (cc))
        (λ e. either _ _ _ OfSymbol (λ _. tt) (λ _. named_label_lem (eqb-true _ _ (not-false _ e)) (symbol_name file j.layout y.st_name) refl))

  label_by_asks : (y : Result Elf64Sym ElfParserError) → nth_of 24 sym_at file (label_symbols file j) i ≡ y → AsksFor (entry_of (label_by file builtins j y)) OfSymbol
  label_by_asks (Ok y) e = label_of_asks y e
  label_by_asks (Err x) e = λ row h. let s = h.2 in zero_one (cc)

  label_asks : AsksFor (entry_of (label_deed file builtins j (label_symbols file j) i)) OfSymbol
  unfolding label_deed
  label_asks = label_by_asks (nth_of 24 sym_at file (label_symbols file j) i) refl

-- ---- the entry

pub entry_registers : (builtins : List ℕ) (j : Job) → AsksFor (entry_of (entry_deed builtins j)) (OfEntry builtins j)
unfolding entry_deed
entry_registers builtins j = either _ _ _ (OfEntry builtins j) (λ _. tt) (λ _. label_row_asks (OfEntry builtins j) _ (λ row. (λ h. h, λ h. h)))

-- an entry that does not stop has a row
pub entry_row : (builtins : List ℕ) (j : Job) (im im' : List ℕ) → Ends (deed_trace (entry_deed builtins j) im) im' → (row : Row) × OfEntry builtins j row
unfolding entry_deed deed_trace ◌if◌else◌
entry_row builtins j im im' e = go (not (eqb ((j.e_entry - j.sh_addr) % 8) 0)) (row_for builtins j Entrypoint (entry_index j)) e
  where
    go : (b : Bool) (x : LegacyResult) → Ends (deed_trace (Err InvalidEntrypoint if b else label_row x) im) im' → (row : Row) × (x ≡ Ok row)
    go true x e = absurd e
    go false (Ok row) e = (row, refl)
    go false (Err taken) e = absurd e

-- ---- the parts before the entry

-- a registration before the entry's
abbrev pub EarlyRow : List ℕ → List ℕ → Job → Row → Type 0
EarlyRow file builtins j row = ((i : ℕ) × OfCall file builtins j i row) ⊎ ((i : ℕ) × OfRelocation file builtins j i row) ⊎ ((i : ℕ) × OfLabel file builtins j i row)

module _ (file builtins : List ℕ) (j : Job) where
  call_turn : (i : ℕ) (im im' : List ℕ) → i < slot_count j → Ends (slot_trace file builtins j i im) im' → (row : Row) → Asks row (slot_trace file builtins j i im) ↔ OfCall file builtins j i row
  unfolding slot_trace
  call_turn i im im' l e row = deed_asks (call_deed file builtins j i) (OfCall file builtins j i) (slot_asks file builtins j i l) im im' e row

  relocation_turn : (i : ℕ) (im im' : List ℕ) → i < relocation_count j → Ends (relocation_trace file builtins j i im) im' → (row : Row) → Asks row (relocation_trace file builtins j i im) ↔ OfRelocation file builtins j i row
  unfolding relocation_trace
  relocation_turn i im im' l e row = deed_asks (relocation_deed file builtins j i im) (OfRelocation file builtins j i) (relocation_asks file builtins j i l im) im im' e row

  label_turn : (i : ℕ) (im im' : List ℕ) → i < (label_symbols file j).count → Ends (label_trace file builtins j i im) im' → (row : Row) → Asks row (label_trace file builtins j i im) ↔ OfLabel file builtins j i row
  unfolding label_trace
  label_turn i im im' l e row = deed_asks (label_deed file builtins j (label_symbols file j) i) (OfLabel file builtins j i) (label_asks file builtins j i l) im im' e row

  -- they register what the claim names
  pub early_asks : (im' : List ℕ) → Ends (early_trace file builtins j) im' → (row : Row) → Asks row (early_trace file builtins j) ↔ EarlyRow file builtins j row
  early_asks im' e row =
      let b = ends_then (writing_trace file builtins j file) (labels_trace file builtins j) im' e in
      let a = ends_then (calls_trace file builtins j file) (relocations_trace file builtins j) b.0 b.1 in
      join
      (asks_each (slot_trace file builtins j) (OfCall file builtins j) (slot_count j) (λ i row h. h.1.0) call_turn file a.0 a.1 row)
      (asks_each (relocation_trace file builtins j) (OfRelocation file builtins j) (relocation_count j) (λ i row h. h.0) relocation_turn a.0 b.0 a.2 row)
      (asks_each (label_trace file builtins j) (OfLabel file builtins j) (label_symbols file j).count (λ i row h. h.0) label_turn b.0 im' b.2 row)
      (asks_then row (calls_trace file builtins j file) (relocations_trace file builtins j) a.0 a.1)
      (asks_then row (writing_trace file builtins j file) (labels_trace file builtins j) b.0 b.1)
    where
      join : {A B C W E X Y Z : Type 0} → A ↔ X → B ↔ Y → C ↔ Z → W ↔ (A ⊎ B) → E ↔ (W ⊎ C) → E ↔ (X ⊎ Y ⊎ Z)
      join {A} {B} {C} {W} {E} {X} {Y} {Z} a b c w e = (λ x. out (e.0 x), into)
        where
          more : A ⊎ B → X ⊎ Y ⊎ Z
          more (inl x) = inl (a.0 x)
          more (inr x) = inr (inl (b.0 x))

          out : W ⊎ C → X ⊎ Y ⊎ Z
          out (inl x) = more (w.0 x)
          out (inr x) = inr (inr (c.0 x))

          into : X ⊎ Y ⊎ Z → E
          into (inl x) = e.1 (inl (w.1 (inl (a.1 x))))
          into (inr (inl x)) = e.1 (inl (w.1 (inr (b.1 x))))
          into (inr (inr x)) = e.1 (inr (c.1 x))

  -- and forget nothing
  pub early_keeps : Keeps (early_trace file builtins j)
  unfolding slot_trace relocation_trace label_trace
  early_keeps =
      keeps_then (writing_trace file builtins j file) (labels_trace file builtins j)
      (keeps_then (calls_trace file builtins j file) (relocations_trace file builtins j)
      (keeps_each (slot_trace file builtins j) (λ i im. deed_keeps (call_deed file builtins j i) im) (slot_count j) 0 file)
      (λ im. keeps_each (relocation_trace file builtins j) (λ i im. deed_keeps (relocation_deed file builtins j i im) im) (relocation_count j) 0 im))
      (λ im. keeps_each (label_trace file builtins j) (λ i im. deed_keeps (label_deed file builtins j (label_symbols file j) i) im) (label_symbols file j).count 0 im)

  -- every local call has a row
  pub calls_have : (im' : List ℕ) → Ends (early_trace file builtins j) im' → (i to : ℕ) → CallsTo file j i to → (row : Row) × (row_for builtins j OfIndex to ≡ Ok row)
  calls_have im' e i to c =
      let b = ends_then (writing_trace file builtins j file) (labels_trace file builtins j) im' e in
      let a = ends_then (calls_trace file builtins j file) (relocations_trace file builtins j) b.0 b.1 in
      let t = ends_turn (slot_trace file builtins j) (slot_count j) 0 file a.0 a.1 i (omega arith) (omega (arith, c.0)) in
      call_row_lem file builtins j i c.0 t.before t.after t.ends to c.1

  -- and every local call a target
  pub calls_to : (im' : List ℕ) → Ends (early_trace file builtins j) im' → (i : ℕ) → LocalCall file j i → (to : ℕ) × CallsTo file j i to
  calls_to im' e i c =
      let b = ends_then (writing_trace file builtins j file) (labels_trace file builtins j) im' e in
      let a = ends_then (calls_trace file builtins j file) (relocations_trace file builtins j) b.0 b.1 in
      let t = ends_turn (slot_trace file builtins j) (slot_count j) 0 file a.0 a.1 i (omega arith) (omega (arith, c.0)) in
      call_to file builtins j i c.0 t.before t.after t.ends c
