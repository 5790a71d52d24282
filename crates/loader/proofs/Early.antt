-- What a file registers, with the check against built-ins off: every row has an index below 2 ^ 32, and that index's key or the
-- name's, and no other refusal than a registration's is a table's.
-- Assumes nothing.
use Prim.Native.Nat.{ℕ, ◌+◌, ◌/◌, ◌≤◌, ◌<◌, ◌^◌}
use native.Mathlib.Omega.{arith}
use mathlib.Core.Path.{◌≡◌, refl}
use mathlib.Core.Logic.{◌⊎◌, inl, inr}
use mathlib.Core.Bool.{Bool, true, false}
use mathlib.Core.List.{List, []}
use lib.ListN.{length, take, drop, length-take}
use lib.Dec.{ltb, leb}
use borrow.Author.Tests.{ltb-true, not-false}
use Rattle.std.specs.Prelude.{Ok, Option, Some, None, Result, Err}
use Rattle.ebpf.specs.Choice.{◌if◌else◌, and_right}
use Rattle.ebpf.specs.IndexKeys.{index_key, key_in}
use Rattle.ebpf.proofs.Table.{key_in_none}
use Rattle.ebpf.specs.Murmur3.{murmur3}
use Rattle.elf_parser.specs.declared.types.Elf64Sym.{Elf64Sym}
use Rattle.elf_parser.specs.declared.layout.Layout.{Layout}
use Rattle.elf_parser.specs.Names.{symbol_name, dynamic_symbol_name}
use Rattle.elf_parser.specs.Records.{entry_of, dynamic_symbol_of}
use Rattle.elf_parser.specs.Types.{sym as sym_at}
use Rattle.program.specs.declared.FunctionName.{FunctionName}
use Rattle.program.specs.declared.FunctionName.TheVariants.{OfIndex}
use Rattle.program.specs.declared.KeptName.{KeptName}
use Rattle.program.specs.declared.Row.{Row}
use Rattle.program.specs.HashedLegacy.{LegacyResult, is_entrypoint, legacy_key, kept_name, is_taken, row_of, legacy_row}
use Rattle.program.specs.HashedLegacy as legacy
use Rattle.program.proofs.Cases.{by_test}
use Rattle.loader.specs.declared.deeds.Deed.{Deed}
use Rattle.loader.specs.declared.deeds.Deed.TheVariants.{Skip, Halves, Word, Key, Register, RegisterOnly, RegisterOutside}
use Rattle.loader.specs.declared.relocations.Relocation.{Relocation}
use Rattle.loader.specs.declared.validate.Job.{Job}
use Rattle.loader.specs.declared.error.ElfError.{ElfError}
use Rattle.loader.specs.Addresses.{sum_up_to}
use Rattle.loader.specs.Functions.{row_for, symbol_function, in_text, index_of}
use Rattle.loader.specs.Deeds.{deed_trace}
use Rattle.loader.specs.Calls.{call_at, text_of, slot_count, immediate, call_row, call_by, call_deed, slot_trace, calls_trace}
use Rattle.loader.specs.Relocations.{relocation_at, relocation_count, halves_deed, word_deed, address_deed, symbol_deed, plan6464, relative_text, plan_relative, register_deed, function_call, builtin_call, call_by_name, named_call, symbol_call, plan6432, plan_at, plan_of, place_at, relocation_trace, relocations_trace}
use Rattle.loader.specs.Labels.{label_row, named_label, label_of, label_by, label_deed, label_symbols, label_trace, labels_trace}
use Rattle.loader.specs.Parts.{writing_trace}
use Rattle.loader.specs.InFile.{InFile}
use Rattle.loader.specs.Demand.{name_key, key_of, early_trace}
use Rattle.loader.proofs.Targets.{to_slot, outside_is}
use Rattle.loader.proofs.Plain.{Plain, picks}
use Rattle.loader.proofs.Reaching.{Steady, steady_then, steady_each}
use Rattle.elf_parser.specs.declared.error.ElfParserError.{ElfParserError}
use Rattle.elf_parser.specs.declared.parts.Place.{Place}

-- an index below 2 ^ 32, with its own key, or in version 1 the name's
abbrev pub Good : Bool → Row → Type 0
Good version2 row = (row.index < 2 ^ 32) × ((row.key ≡ key_of version2 row.index) ⊎ ((version2 ≡ false) × (row.key ≡ name_key)))

-- ---- a row

untaken : (builtins : List ℕ) (version2 check : Bool) (key : ℕ) → check ≡ false → is_taken builtins version2 check key ≡ false
unfolding is_taken ◌if◌else◌
untaken builtins true check key e = refl
untaken builtins false check key e = rw e refl

-- the row of a function where no built-in's key is refused
abbrev pub row_of_function : Job → FunctionName → ℕ → Row
row_of_function j name index = row_of (legacy_key [] j.version2 name index) index (kept_name j.labels name)

pub free_row : (builtins : List ℕ) (j : Job) (name : FunctionName) (index : ℕ) → j.check_collision ≡ false → row_for builtins j name index ≡ Ok (row_of_function j name index)
unfolding row_for legacy_row ◌if◌else◌
free_row builtins j name index e = rw (untaken builtins j.version2 j.check_collision (legacy_key [] j.version2 name index) e) refl

good_key : (version2 : Bool) (name : FunctionName) (index : ℕ) (name' : KeptName) → index < 2 ^ 32 → Good version2 (row_of (legacy_key [] version2 name index) index name')
unfolding legacy_key key_of ◌if◌else◌
good_key true name index name' l = (l, inl refl)
good_key false name index name' l = (
  l,
  by_test (is_entrypoint name)
      (λ (b : Bool). ((murmur3 legacy.entrypoint if b else key_in [] index) ≡ index_key index) ⊎ ((false ≡ false) × ((murmur3 legacy.entrypoint if b else key_in [] index) ≡ name_key)))
      (λ _. inr (refl, refl))
      (λ _. inl (key_in_none index)),
)

-- ---- a deed

abbrev SteadyDeed : (Row → Type 0) → Result Deed ElfError → Type 0
SteadyDeed P (Ok Skip) = Unit {0}
SteadyDeed P (Err r) = Plain r
SteadyDeed P (Ok (Halves low high v)) = Unit {0}
SteadyDeed P (Ok (Word at v)) = Unit {0}
SteadyDeed P (Ok (Key at k)) = Unit {0}
SteadyDeed P (Ok (Register row at)) = P row
SteadyDeed P (Ok (RegisterOnly row)) = P row
SteadyDeed P (Ok (RegisterOutside row)) = P row

deed_steady : (P : Row → Type 0) (d : Result Deed ElfError) (im : List ℕ) → SteadyDeed P d → Steady P (deed_trace d im)
unfolding deed_trace
deed_steady P (Ok Skip) im s = tt
deed_steady P (Err r) im s = s
deed_steady P (Ok (Halves low high v)) im s = tt
deed_steady P (Ok (Word at v)) im s = tt
deed_steady P (Ok (Key at k)) im s = tt
deed_steady P (Ok (Register row at)) im s = (s, tt)
deed_steady P (Ok (RegisterOnly row)) im s = (s, tt)
deed_steady P (Ok (RegisterOutside row)) im s = (s, refl)

refuse_or : (P : Row → Type 0) (b : Bool) (d e : Result Deed ElfError) → SteadyDeed P d → SteadyDeed P e → SteadyDeed P (d if b else e)
refuse_or P b d e p q = picks (SteadyDeed P) b d e (λ _. p) (λ _. q)

-- ---- the target of a call

abbrev Within : ℕ → Result (Option ℕ) ElfError → Type 0
Within count (Ok None) = Unit {0}
Within count (Err r) = Plain r
Within count (Ok (Some t)) = t < count

at_in : (text : List ℕ) (version2 : Bool) (i : ℕ) → Within (length text / 8) (call_at text version2 i)
at_in text version2 i = go (call_at text version2 i) refl
  where
    go : (c : Result (Option ℕ) ElfError) → call_at text version2 i ≡ c → Within (length text / 8) c
    go (Ok None) e = tt
    go (Err r) e = rw (← outside_is text version2 i r e) refl
    go (Ok (Some to)) e = to_slot text version2 i to e

-- ---- an address of the text

index_in : (j : Job) (a : ℕ) → j.sh_size ≤ 2 ^ 24 → in_text j a ≡ true → index_of j a < 2 ^ 32
index_in j a size e =
    let end : ℕ = sum_up_to j.sh_addr j.sh_size in
    let below : a < sum_up_to j.sh_addr j.sh_size = ltb-true a end (and_right (leb j.sh_addr a) (ltb a end) e) in
    omega (arith, below, size)

-- ---- the parts

module _ (file builtins : List ℕ) (j : Job) (off : j.check_collision ≡ false) (within : InFile file j) where
  abbrev G : Row → Type 0
  G = Good j.version2

  good_row : (name : FunctionName) (index : ℕ) → index < 2 ^ 32 → Good j.version2 (row_of_function j name index)
  good_row name index l = good_key j.version2 name index (kept_name j.labels name) l

  -- what is made of a row, where it is steady with any good one
  by_row : (f : LegacyResult → Result Deed ElfError) (name : FunctionName) (index : ℕ) → index < 2 ^ 32 → ((row : Row) → G row → SteadyDeed G (f (Ok row))) → SteadyDeed G (f (row_for builtins j name index))
  by_row f name index l s = rw (free_row builtins j name index off) (s (row_of_function j name index) (good_row name index l))

  -- calls
  call_steady : (i : ℕ) (c : Result (Option ℕ) ElfError) → Within (length (text_of file j) / 8) c → SteadyDeed G (call_by builtins j i c)
  call_steady i (Ok None) h = tt
  call_steady i (Err r) h = h
  call_steady i (Ok (Some index)) h =
      by_row (call_row (immediate j i)) OfIndex index
      (omega (arith, h, length-take j.text.length (drop j.text.start file), within.text, within.short))
      (λ row g. g)

  slot_steady : (i : ℕ) (im : List ℕ) → Steady G (slot_trace file builtins j i im)
  unfolding slot_trace call_deed
  slot_steady i im = deed_steady G (call_by builtins j i (call_at (text_of file j) j.version2 i)) im (call_steady i (call_at (text_of file j) j.version2 i) (at_in (text_of file j) j.version2 i))

  calls_steady : (im : List ℕ) → Steady G (calls_trace file builtins j im)
  calls_steady im = steady_each G (slot_trace file builtins j) slot_steady (slot_count j) 0 im

  -- relocations
  halves_steady : (len low high value : ℕ) → SteadyDeed G (halves_deed len low high value)
  unfolding halves_deed
  halves_steady len low high value = refuse_or G _ _ _ refl (refuse_or G _ _ _ refl tt)

  word_steady : (len at value : ℕ) → SteadyDeed G (word_deed len at value)
  unfolding word_deed
  word_steady len at value = refuse_or G _ _ _ refl tt

  address_steady : (len : ℕ) (split : Bool) (at value : ℕ) → SteadyDeed G (address_deed len split at value)
  unfolding address_deed
  address_steady len split at value = refuse_or G _ _ _ (halves_steady len at (sum_up_to at 8) value) (word_steady len at value)

  symbol_steady : (len : ℕ) (split : Bool) (at addend number : ℕ) (y : Result Elf64Sym ElfParserError) → SteadyDeed G (symbol_deed len split at addend number y)
  symbol_steady len split at addend number (Ok y) = address_steady len split at _
  symbol_steady len split at addend number (Err e) = refl

  steady6464 : (im : List ℕ) (l : Layout) (split : Bool) (r number : ℕ) (addend : Option ℕ) → SteadyDeed G (plan6464 file im l split r number addend)
  unfolding plan6464
  steady6464 im l split r number addend = refuse_or G _ _ _ refl (symbol_steady (length im) split _ _ number (dynamic_symbol_of file l number))

  text_steady : (len low high address : ℕ) → SteadyDeed G (relative_text len low high address)
  unfolding relative_text
  text_steady len low high address = refuse_or G _ _ _ refl (refuse_or G _ _ _ refl (refuse_or G _ _ _ refl tt))

  relative_steady : (im : List ℕ) (version2 in_text_lem : Bool) (r : ℕ) (addend : Option ℕ) → SteadyDeed G (plan_relative im version2 in_text_lem r addend)
  unfolding plan_relative
  relative_steady im version2 in_text_lem r addend = refuse_or G _ _ _ (text_steady (length im) _ _ _) (word_steady (length im) r _)

  function_steady : (len at : ℕ) (name : FunctionName) (value : ℕ) → SteadyDeed G (function_call builtins j len at name value)
  unfolding function_call
  function_steady len at name value = picks (SteadyDeed G) _ _ _ (λ _. refl) (λ e.
      by_row (register_deed len at) name (index_of j value) (index_in j value within.size (not-false (in_text j value) e))
      (λ row g. refuse_or G (ltb len (at + 4)) (Ok (RegisterOutside row)) (Ok (Register row at)) g g))

  builtin_steady : (reject-broken : Bool) (len at r start n hash : ℕ) → SteadyDeed G (builtin_call builtins reject-broken len at r start n hash)
  unfolding builtin_call
  builtin_steady reject-broken len at r start n hash = refuse_or G _ _ _ refl (refuse_or G _ _ _ refl tt)

  name_steady : (part : List ℕ) (len r : ℕ) (y : Elf64Sym) (start n : ℕ) → SteadyDeed G (call_by_name part builtins j len r y start n)
  unfolding call_by_name
  name_steady part len r y start n = refuse_or G _ _ _ (function_steady len _ _ _) (builtin_steady _ len _ r start n _)

  named_steady : (len r : ℕ) (y : Elf64Sym) (p : Result Place ElfParserError) → SteadyDeed G (named_call file builtins j len r y p)
  named_steady len r y (Ok p) = name_steady (take p.length (drop p.start file)) len r y p.start p.length
  named_steady len r y (Err e) = refl

  called_steady : (len r number : ℕ) (y : Result Elf64Sym ElfParserError) → SteadyDeed G (symbol_call file builtins j len r number y)
  called_steady len r number (Ok y) = named_steady len r y (dynamic_symbol_name file j.layout y.st_name)
  called_steady len r number (Err e) = refl

  steady6432 : (len r number : ℕ) → SteadyDeed G (plan6432 file builtins j len r number)
  unfolding plan6432
  steady6432 len r number = called_steady len r number (dynamic_symbol_of file j.layout number)

  plan_steady : (im : List ℕ) (p : Option ℕ) (info : ℕ) (addend : Option ℕ) → SteadyDeed G (plan_of file im builtins j p info addend)
  unfolding plan_at
  plan_steady im (Some r) info addend =
      refuse_or G _ _ _ refl
      (refuse_or G _ _ _ (steady6464 im j.layout _ r _ addend)
      (refuse_or G _ _ _ (relative_steady im j.version2 _ r addend)
      (refuse_or G _ _ _ (steady6432 (length im) r _) refl)))
  plan_steady im None info addend = refl

  relocation_steady : (i : ℕ) (im : List ℕ) → Steady G (relocation_trace file builtins j i im)
  unfolding relocation_trace
  relocation_steady i im =
      let r : Relocation = relocation_at file j.layout i in
      deed_steady G (plan_of file im builtins j (place_at file j i) r.r_info r.addend) im (plan_steady im (place_at file j i) r.r_info r.addend)

  relocations_steady : (im : List ℕ) → Steady G (relocations_trace file builtins j im)
  relocations_steady im = steady_each G (relocation_trace file builtins j) relocation_steady (relocation_count j) 0 im

  -- labels
  named_label_lem : (index st-name : ℕ) → index < 2 ^ 32 → (p : Result Place ElfParserError) → SteadyDeed G (named_label file builtins j index st-name p)
  named_label_lem index st-name l (Ok p) = by_row label_row (symbol_function (take p.length (drop p.start file)) p.start p.length) index l (λ row g. g)
  named_label_lem index st-name l (Err e) = refl

  label_of_lem : (y : Elf64Sym) → SteadyDeed G (label_of file builtins j y)
  unfolding label_of
  label_of_lem y = refuse_or G _ _ _ tt (picks (SteadyDeed G) _ _ _ (λ _. refl) (λ e.
      named_label_lem (index_of j y.st_value) y.st_name (index_in j y.st_value within.size (not-false (in_text j y.st_value) e)) (symbol_name file j.layout y.st_name)))

  label_by_lem : (y : Result Elf64Sym ElfParserError) → SteadyDeed G (label_by file builtins j y)
  label_by_lem (Ok y) = label_of_lem y
  label_by_lem (Err e) = tt

  label_steady : (i : ℕ) (im : List ℕ) → Steady G (label_trace file builtins j i im)
  unfolding label_trace label_deed
  label_steady i im = deed_steady G (label_by file builtins j (entry_of 24 sym_at file (label_symbols file j) i)) im (label_by_lem (entry_of 24 sym_at file (label_symbols file j) i))

  labels_steady : (im : List ℕ) → Steady G (labels_trace file builtins j im)
  labels_steady im = steady_each G (label_trace file builtins j) label_steady (label_symbols file j).count 0 im

  -- EVERYTHING BEFORE THE ENTRY
  pub early_steady : Steady (Good j.version2) (early_trace file builtins j)
  early_steady =
      steady_then G (writing_trace file builtins j file) (labels_trace file builtins j)
      (steady_then G (calls_trace file builtins j file) (relocations_trace file builtins j) (calls_steady file) relocations_steady)
      labels_steady
