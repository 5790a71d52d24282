-- What each field of `Loads` and of `Demand3` says of a small file: a call's key, the table's keys, an untouched byte, a refusal. Each law uses its
-- field alone, so that a field that says less does not prove it. Assumes nothing.
use Rattle.std.specs.Prelude.{Option, Ok, Result, Err, Some, None}
use Rattle.ebpf.specs.Choice.{◌if◌else◌}
use Rattle.ebpf.specs.IndexKeys.{index_key, key_in}
use Rattle.ebpf.specs.Instructions.{slot_at, insn_at}
use Rattle.ebpf.specs.LittleEndian.{le, bytes_of}
use Rattle.ebpf.specs.Murmur3.{body, murmur3}
use Rattle.elf_parser.specs.Dynamic.{first_with, segment_slice, section_slice, or_else, with_tag, values_from, relocations_at, relocations_by, relocations_of, symbols_by, symbols_of}
use Rattle.elf_parser.specs.FileHeader.{header_fixed, header_right, header_check as reader-headerCheck, tables_check}
use Rattle.elf_parser.specs.Loops.{over}
use Rattle.elf_parser.specs.Names.{name_by}
use Rattle.elf_parser.specs.Parse.{first_check, file_check, named_layout, parsed}
use Rattle.elf_parser.specs.Parts.{bytes_at}
use Rattle.elf_parser.specs.ProgramHeaders.{load_step, contains_step, header_for_vaddr}
use Rattle.elf_parser.specs.Records.{entry_at, sliced, symbol_table_in, symbol_table_of, symbols_at, file_range}
use Rattle.elf_parser.specs.SectionHeaders.{section_check, section_step}
use Rattle.elf_parser.specs.SectionNames.{same_bytes, role_of}
use Rattle.elf_parser.specs.Strings.{string_check, before_zero, terminated, string_in}
use Rattle.elf_parser.specs.Types.{file_header, program_header, section_header, sym, rel, dynamic}
use Rattle.program.specs.HashedLegacy.{legacy_key, kept_symbol, is_taken, legacy_row}
use Rattle.program.specs.Rows.{rank, register, registered, unregister}
use Rattle.program.specs.Search.{narrowed, binary_search, is_among}
use Rattle.loader.specs.Addresses.{machine_addr}
use Rattle.loader.specs.Bytes.{put}
use Rattle.loader.specs.Calls.{inside, target, is_local_call, call_of, call_at, call_deed, slot_trace}
use Rattle.loader.specs.Deeds.{deed_trace}
use Rattle.loader.specs.Entry.{entry_deed}
use Rattle.loader.specs.Functions.{row_for}
use Rattle.loader.specs.Labels.{label_of, label_deed, label_symbols, label_trace}
use Rattle.loader.specs.Load.{holds, load_of, Loaded}
use Rattle.loader.specs.Parts.{job_trace}
use Rattle.loader.specs.ReadOnly.{read_only, gives as loader-gives, invalid_by, end_of, grown, taken, gather_step, from_start, can_borrow, borrowed, owned, placed as loader-placed, placing, copied_to, copy_step, copied_from}
use Rattle.loader.specs.Relocations.{relocation_at, header_at, first_from, used_header, used_before, place_of, within, program_address, immediate_at, halves_deed, word_deed, address_deed, plan6464, relative_text, relative_value, plan_relative, function_call, builtin_call, call_by_name, plan6432, plan_at, relocation_trace}
use Rattle.loader.specs.Sections.{section_at, starts_with, unsupported, outside_file, survey_step, survey_from}
use Rattle.loader.specs.Trace.{and_then, each, settle}
use Rattle.loader.specs.Validate.{size_check, ascends, header_check as loader-headerCheck, sections_check, text_check, job_of, validated, prepared}
use Prim.Native.Nat.{ℕ, zero, suc, ◌-◌, ◌<◌}
use native.Mathlib.Omega.{arith}
use mathlib.Core.Bool.{Bool, true, false, true≢false}
use mathlib.Core.List.{List, [], ◌∷◌, ◌++◌, map}
use mathlib.Core.Logic.{◌⊎◌, inl, inr}
use mathlib.Core.Path.{◌≡◌, refl, sym as flip, ap, subst, ◌∙◌}
use lib.ListN.{length, get_or, replicate}
use Rattle.elf_parser.specs.declared.layout.Layout.{Layout}
use Rattle.program.specs.declared.FunctionName.TheVariants.{OfIndex, Entrypoint}
use Rattle.program.specs.declared.Row.{Row}
use Rattle.program.specs.Table.{Slices, Lent, Shared, capacity, lay, rows_of, lookup_in, Ready as IsTable}
use Rattle.program.proofs.Cases.{zero_one}
use Rattle.loader.specs.declared.read_only.Placing.TheVariants.{Borrowed}
use Rattle.loader.specs.declared.error.ElfError.{ElfError}
use Rattle.loader.specs.declared.answer.Accepted.{Accepted}
use Rattle.loader.specs.declared.error.ElfError.TheVariants.{SymbolHashCollision, TableFull}
use Rattle.loader.specs.declared.validate.Job.{Job}
use Rattle.loader.specs.Calls.{local_call_in, text_of, immediate}
use Rattle.loader.specs.Demand.{CallsTo, Unnamed, Registers, name_key, key_of, Finds, Has, IsNameKey, Calls, Keys, Entry, Others, Bytes, OnAccepted, reached, reached_in, reached_early, Clash, distinct, Demand3}
use Rattle.loader.specs.Loads.{Loads, OnUsed}
use Rattle.loader.specs.SmallFiles.{all_on, unchecked, version_1, version_2, two_labels}
use Rattle.loader.proofs.Kept.{not_in}

-- ---- what the checks leave of the small files

abbrev layout_of : ℕ → ℕ → ℕ → Option ℕ → Option ℕ → Layout
layout_of shoff shnum shstrtab symtab strtab =
    record {
      program_headers = record { offset = 0; count = 0 };
      section_headers = record { offset = shoff; count = shnum };
      shstrtab = Some shstrtab;
      symtab = symtab;
      strtab = strtab;
      dynstr = None;
      dynamic_relocations = record { offset = 0; count = 0 };
      dynamic_relas = record { offset = 0; count = 0 };
      dynamic_symbols = record { offset = 0; count = 0 };
      hash_table = None;
    }

-- by the version, the collision check, the layout, the text's address in the file and in the machine, its size, and where it lies in the program
abbrev job_with : Bool → Bool → Layout → ℕ → ℕ → ℕ → ℕ → Job
job_with version2 check l addr machine size offset =
    record {
      version2 = version2;
      labels = true;
      reject_broken = true;
      check_collision = check;
      layout = l;
      e_entry = addr;
      sh_addr = addr;
      sh_size = size;
      text = record { start = 64; length = size };
      addr = machine;
      placing = Ok (Borrowed offset 64 size);
    }

abbrev job_2 : Bool → Job
job_2 check = job_with true check (layout_of 112 3 240 None None) 0x1_0000_0000 0x1_0000_0000 24 0

abbrev job_1 : Job
job_1 = job_with false true (layout_of 112 3 240 None None) 64 0x1_0000_0040 24 64

abbrev job_labels : Job
job_labels = job_with false false (layout_of 208 5 464 (Some 400) (Some 336)) 64 0x1_0000_0040 16 64

-- a row with its index as key, and version 1's of the name entrypoint
abbrev row_with : ℕ → ℕ → ℕ → ℕ → ℕ → Row
row_with k i kind start n = record { key = k; index = i; kind = kind; start = start; length = n }

abbrev first : Row
first = row_with 0 0 2 0 10

abbrev third : Row
third = row_with 2 2 3 0 0

abbrev label : ℕ → Row
label i = row_with name_key i 1 81 10

abbrev answer_2 : Accepted
answer_2 =
    record {
      version = 2;
      entry = 0;
      used = 2;
      moves = 1;
      ro_copied = false;
      ro_offset = 0;
      ro_start = 64;
      ro_length = 24;
      text_addr = 0x1_0000_0000;
      text = record { start = 64; length = 24 };
    }

-- by computation
record Computed : Type 0 where
  ready_2 : prepared version_2 [] all_on 304 304 ≡ Ok (job_2 true)
  ready_2_unchecked : prepared version_2 [] unchecked 304 304 ≡ Ok (job_2 false)
  ready_1 : prepared version_1 [] all_on 304 304 ≡ Ok job_1
  ready_labels : prepared two_labels [] unchecked 528 528 ≡ Ok job_labels
  whole : load_of version_2 [] all_on 304 304 4 ≡ holds answer_2 (put 4 version_2 68 2) (replicate 304 0) (first ∷ third ∷ [])
  image_whole : put 4 version_2 68 2 ++ replicate (304 - length (put 4 version_2 68 2)) 0 ≡ put 4 version_2 68 2
  local_0 : local_call_in true (insn_at (text_of version_2 (job_2 true)) 0) ≡ true
  call_0 : call_at (text_of version_2 (job_2 true)) true 0 ≡ Ok (Some 2)
  call_1 : call_at (text_of version_2 (job_2 true)) true 1 ≡ Ok None
  call_2 : call_at (text_of version_2 (job_2 true)) true 2 ≡ Ok None
  row_call : row_for [] (job_2 true) OfIndex 2 ≡ Ok third
  row_entry : row_for [] (job_2 true) Entrypoint 0 ≡ Ok first
  no_labels : (label_symbols version_2 (job_2 true)).count ≡ 0
  reached_2 : reached_in version_2 [] 1 (Ok (job_2 false)) ≡ third ∷ first ∷ []
  reached_all : reached_in version_2 [] 4 (Ok (job_2 false)) ≡ third ∷ first ∷ []
  early_2 : reached_early version_2 [] 4 (Ok (job_2 false)) ≡ third ∷ []
  early_labels : reached_early two_labels [] 4 (Ok job_labels) ≡ label 0 ∷ label 1 ∷ []
  name_key_lem : name_key ≡ 0x71e3_cf81

computed : Computed
unfolding ◌if◌else◌ index_key key_in slot_at insn_at le bytes_of body murmur3 first_with segment_slice section_slice or_else with_tag values_from relocations_at relocations_by relocations_of symbols_by symbols_of header_fixed header_right reader-headerCheck tables_check over name_by first_check file_check named_layout parsed bytes_at load_step contains_step entry_at sliced symbol_table_in symbol_table_of file_range section_check section_step same_bytes role_of string_check before_zero terminated string_in file_header program_header section_header sym rel legacy_key kept_symbol is_taken legacy_row rank register registered unregister narrowed binary_search is_among machine_addr put inside target is_local_call call_of call_at call_deed slot_trace deed_trace entry_deed row_for label_of label_deed label_symbols label_trace load_of job_trace read_only loader-gives invalid_by end_of grown taken gather_step from_start can_borrow borrowed owned loader-placed placing copied_to copy_step copied_from relocation_at header_at first_from used_header used_before place_of within program_address immediate_at halves_deed word_deed address_deed plan6464 relative_text relative_value plan_relative function_call builtin_call call_by_name plan6432 plan_at relocation_trace section_at starts_with unsupported outside_file survey_step survey_from and_then each settle size_check ascends loader-headerCheck sections_check text_check job_of validated prepared reached dynamic header_for_vaddr symbols_at
computed =
    record {
      ready_2 = refl;
      ready_2_unchecked = refl;
      ready_1 = refl;
      ready_labels = refl;
      whole = refl;
      image_whole = refl;
      local_0 = refl;
      call_0 = refl;
      call_1 = refl;
      call_2 = refl;
      row_call = refl;
      row_entry = refl;
      no_labels = refl;
      reached_2 = refl;
      reached_all = refl;
      early_2 = refl;
      early_labels = refl;
      name_key_lem = refl;
    }

-- ---- demand 3, field by field

-- no relocation names a byte of a file that has none
no_relocations : (file : List ℕ) (check : Bool) (b : ℕ) → Unnamed file (job_2 check) b
no_relocations file check b i l = absurd (omega (arith, l))

module _ (t : Slices) (im' : List ℕ) (t' : Slices) (x : Accepted) (d : Demand3 version_2 [] all_on 304 304 t im' t' (Ok x)) where
  abbrev look : ℕ → Option Row
  look = lookup_in t' x.used

  -- of this file, where a field holds of whatever passed the checks
  of_file : (P : Job → ℕ → Type 0) → OnAccepted (Ok x) (prepared version_2 [] all_on 304 304) P → P (job_2 true) x.used
  of_file P h = subst (λ (p : Result Job ElfError). OnAccepted (Ok x) p P) computed.ready_2 h

  -- the call of the third slot holds a key that finds it
  pub calls_say : Finds look (le 4 im' 68) 2
  calls_say = found (of_file (λ j used. Calls version_2 j im' (lookup_in t' used)) d.calls 0 (omega arith, computed.local_0) (λ b h. no_relocations version_2 true b))
    where
      found : (to : ℕ) × CallsTo version_2 (job_2 true) 0 to × (to < 3) × (IsNameKey (job_2 true) (le 4 im' 68) ⊎ Finds look (le 4 im' 68) to) → Finds look (le 4 im' 68) 2
      found r = let same : Ok (Some 2) ≡ Ok (Some r.0) = flip computed.call_0 ∙ r.1.1 in let is : 2 ≡ r.0 = cc in by is r.3
        where
          by : 2 ≡ r.0 → IsNameKey (job_2 true) (le 4 im' 68) ⊎ Finds look (le 4 im' 68) r.0 → Finds look (le 4 im' 68) 2
          by is (inl n) = absurd (true≢false n.0)
          by is (inr f) = rw is f

  all_keys : Keys version_2 [] (job_2 true) look
  all_keys = of_file (λ j used. Keys version_2 [] j (lookup_in t' used)) d.keys

  -- the keys are 0 and 2, the entry's and the call's; 1 is none
  call_registers : Registers version_2 [] (job_2 true) third
  call_registers = inl (0, (2, (omega arith, computed.call_0), computed.row_call))

  pub keys_say : Has look 0 × Has look 2 × (Has look 1 → ⊥)
  keys_say = (
    (all_keys 0).1 (first, inr (inr (inr computed.row_entry)), refl),
    (all_keys 2).1 (third, call_registers, refl),
    λ h. no_other ((all_keys 1).0 h),
  )
    where
      no_slot : (i to : ℕ) (row : Row) → i < 3 → call_at (text_of version_2 (job_2 true)) true i ≡ Ok (Some to) → row_for [] (job_2 true) OfIndex to ≡ Ok row → row.key ≡ 1 → ⊥
      no_slot zero to row l c r k =
          let same : Ok (Some 2) ≡ Ok (Some to) = flip computed.call_0 ∙ c in
          let is : 2 ≡ to = cc in
          let free : Ok third ≡ Ok row = flip computed.row_call ∙ ap (row_for [] (job_2 true) OfIndex) is ∙ r in
          let key : third.key ≡ row.key = cc in
          zero_one (omega (arith, key, k))
      no_slot (suc zero) to row l c r k = let n : Ok None ≡ Ok (Some to) = flip computed.call_1 ∙ c in zero_one (cc)
      no_slot (suc (suc zero)) to row l c r k = let n : Ok None ≡ Ok (Some to) = flip computed.call_2 ∙ c in zero_one (cc)
      no_slot (suc (suc (suc i))) to row l c r k = absurd (omega (arith, l))

      no_other : (row : Row) × Registers version_2 [] (job_2 true) row × (row.key ≡ 1) → ⊥
      no_other (row, inl (i, (to, c, r)), k) = no_slot i to row c.0 c.1 r k
      no_other (row, inr (inl (i, r)), k) = absurd (omega (arith, r.0))
      no_other (row, inr (inr (inl (i, r))), k) = absurd (omega (arith, r.0, computed.no_labels))
      no_other (row, inr (inr (inr r)), k) =
          let free : Ok first ≡ Ok row = flip computed.row_entry ∙ r in
          let key : first.key ≡ row.key = cc in
          zero_one (omega (arith, key, k))

  -- the call's key finds the third slot
  pub others_say : Finds look 2 2
  others_say = by (of_file (λ j used. Others version_2 [] j (lookup_in t' used)) d.others third call_registers)
    where
      by : IsNameKey (job_2 true) 2 ⊎ Finds look 2 2 → Finds look 2 2
      by (inl n) = absurd (true≢false n.0)
      by (inr f) = f

  -- the image's first byte is the file's
  pub bytes_say : get_or im' 0 0 ≡ 0x7f
  bytes_say = of_file (λ j used. Bytes version_2 j im') d.bytes 0 (λ i c. not_in (immediate (job_2 true) i) 4 0 (inl (omega arith))) (no_relocations version_2 true 0)

  -- indices 0 and 1 have two keys in version 1
  pub injective_says : key_of false 0 ≡ key_of false 1 → ⊥
  injective_says e = zero_one (d.injective false 0 1 (omega arith) (omega arith) e)

-- in version 1 the name's key finds the entry's index
pub entry_says : (t : Slices) (im' : List ℕ) (t' : Slices) (x : Accepted) → Demand3 version_1 [] all_on 304 304 t im' t' (Ok x) → Finds (lookup_in t' x.used) name_key 0
entry_says t im' t' x d = subst (λ (p : Result Job ElfError). OnAccepted (Ok x) p (λ j used. Entry j (lookup_in t' used))) computed.ready_1 d.entry refl

-- two labels named entrypoint are refused 24; one call is not
module _ (t : Slices) (im' : List ℕ) (t' : Slices) (a : Result Accepted ElfError) (rows : capacity t ≡ 4) where
  pub collision_says : Demand3 two_labels [] unchecked 528 528 t im' t' a → (key : ℕ) × (a ≡ Err (SymbolHashCollision key))
  collision_says d =
      (d.collision refl).1
      (rw (rows, computed.ready_labels, computed.early_labels) (label 0, label 1, inl refl, inr (inl refl), refl, refl, zero_one))

  pub no_collision_says : Demand3 version_2 [] unchecked 304 304 t im' t' a → (key : ℕ) → a ≡ Err (SymbolHashCollision key) → ⊥
  no_collision_says d key e = none (rw (rows, computed.ready_2_unchecked, computed.early_2) at ((d.collision refl).0 (key, e)))
    where
      none : Clash (third ∷ []) → ⊥
      none (x, y, inl p, m, k, l, n) = let two : x.key ≡ 2 = ap (λ (r : Row). r.key) p in zero_one (omega (arith, two, k, computed.name_key_lem))
      none (x, y, inr p, m, k, l, n) = p

-- one row is too few for its two keys, and four are not
module _ (t : Slices) (im' : List ℕ) (t' : Slices) (a : Result Accepted ElfError) (d : Demand3 version_2 [] unchecked 304 304 t im' t' a) where
  are_two : distinct (map (λ (r : Row). r.key) (third ∷ first ∷ [])) ≡ 2
  unfolding distinct ◌if◌else◌
  are_two = refl

  pub full_says : capacity t ≡ 1 → (rows : ℕ) × (a ≡ Err (TableFull rows))
  full_says one = (d.full refl).1 (rw (one, computed.ready_2_unchecked, computed.reached_2, are_two) (omega arith))

  pub room_says : capacity t ≡ 4 → (rows : ℕ) → a ≡ Err (TableFull rows) → ⊥
  room_says four rows e = let h : 4 < 2 = rw (four, computed.ready_2_unchecked, computed.reached_all, are_two) at ((d.full refl).0 (rows, e)) in zero_one (omega (arith, h))

-- ---- `load`, field by field

module _ (file : Shared) (builtins : List ℕ) (image ro : Lent) (t t' : Slices) (a : Result Accepted ElfError)
    (is : file.entry.now ≡ version_2) (none : builtins ≡ []) (long : length image.entry.now ≡ 304) (wide : length ro.entry.now ≡ 304)
    (rows : capacity t ≡ 4)
    (l : Loads file builtins all_on image ro t t' a) where
  loaded : Loaded (holds answer_2 (put 4 version_2 68 2) (replicate 304 0) (first ∷ third ∷ [])) image.entry.now ro.entry.now t image.exit.now ro.exit.now t' a
  loaded = rw (is, none, long, wide, rows, computed.whole) at l.loaded

  -- the answer, the image with the call's key, an empty read-only buffer, and two rows
  pub loaded_says : (a ≡ Ok answer_2) × (image.exit.now ≡ put 4 version_2 68 2) × (ro.exit.now ≡ replicate 304 0) × (t' ≡ lay t (first ∷ third ∷ []))
  loaded_says = (
    loaded.answers,
    (rw long at loaded.demand_1.image) ∙ computed.image_whole,
    loaded.demand_1.readonly,
    loaded.demand_1.table,
  )

  -- demand 3: the call's key finds its target
  pub keyed_says : Finds (lookup_in t' 2) (le 4 image.exit.now 68) 2
  keyed_says =
      let d : Demand3 version_2 [] all_on 304 304 t image.exit.now t' a = rw (is, none, long, wide) at l.keyed in
      calls_say t image.exit.now t' answer_2 (subst (λ (b : Result Accepted ElfError). Demand3 version_2 [] all_on 304 304 t image.exit.now t' b) loaded.answers d)

  -- the first key is below the second
  pub ascending_says : get_or t'.keys 0 0 < get_or t'.keys 1 0
  unfolding rows_of rank
  ascending_says = (subst (λ (b : Result Accepted ElfError). OnUsed b (IsTable t')) loaded.answers l.ascending).rising.0.0
