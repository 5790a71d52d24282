-- The table of a load that was accepted: its keys are those of the registrations, and what each of them finds. From the definitions
-- alone. Assumes nothing.
use Prim.Native.Nat.{ℕ, ◌+◌, ◌-◌, ◌*◌, ◌/◌, ◌≤◌, zero-le}
use native.Mathlib.Omega.{arith}
use native.Mathlib.Decide.{ℕ_discrete}
use mathlib.Core.Path.{◌≡◌, refl, ◌∙◌, subst}
use mathlib.Core.Logic.{◌⊎◌, inl, inr, ◌↔◌}
use mathlib.Core.Bool.{Bool, true, false}
use mathlib.Core.List.{List, []}
use lib.ListN.{length}
use Rattle.std.specs.Prelude.{Some, Result, Ok, Err}
use Rattle.ebpf.specs.Choice.{◌if◌else◌}
use Rattle.program.specs.declared.Row.{Row}
use Rattle.program.specs.declared.FunctionName.TheVariants.{OfIndex, Entrypoint}
use Rattle.program.specs.HashedLegacy.{legacy_key}
use Rattle.program.specs.Rows.{rank, Ascending, find, Held, Repeats, remove, unregister}
use Rattle.program.specs.Rows as table
use Rattle.program.specs.Runs.{moves_gone}
use Rattle.program.proofs.Cases.{zero_one}
use Rattle.program.proofs.Laws.{find_remove_other, keys_removed}
use Rattle.program.proofs.Moves.{triangle_mono, triangle_twice, removal_moves, registration_moves}
use Rattle.loader.specs.declared.read_only.Placing.TheVariants.{Borrowed, Owned}
use Rattle.loader.specs.declared.read_only.Placing.{Placing}
use Rattle.loader.specs.declared.error.ElfError.{ElfError}
use Rattle.loader.specs.declared.validate.Job.{Job}
use Rattle.loader.specs.Trace.{Trace, and_then, accepted, settle}
use Rattle.loader.specs.Deeds.{Entry as EntryOf, Nothing, Enter, entry_of, deed_trace}
use Rattle.loader.specs.Deeds as deeds
use Rattle.loader.specs.Labels.{labels_trace}
use Rattle.loader.specs.Entry.{entry_deed, forget_trace}
use Rattle.loader.specs.Entry as entry
use Rattle.loader.specs.Parts.{writing_trace, naming_trace, placed_trace, job_trace}
use Rattle.loader.specs.Demand.{LocalCall, CallsTo, OfEntry, Registers, Finds, IsNameKey, Keys, Entry, Others, name_key, key_of, entry_index, early_trace}
use Rattle.loader.proofs.Ends.{Ends}
use Rattle.loader.proofs.Asked.{Asks}
use Rattle.loader.proofs.Rowing.{row_is, call_key}
use Rattle.loader.proofs.Traces.{went, settle_moves, settle_ends, settle_room, settle_ascends, settle_keeps, settle_finds, settle_only, settle_split, settle_then}
use Rattle.loader.proofs.Registering.{EarlyRow, deed_asks, deed_keeps, entry_registers, entry_row, early_asks, early_keeps, calls_have, calls_to}

-- ---- a row's key and index

-- the entry's key in version 1 is the name's
entry_key : (version2 : Bool) (index : ℕ) → version2 ≡ false → legacy_key [] version2 Entrypoint index ≡ name_key
unfolding legacy_key ◌if◌else◌
entry_key version2 index e = rw e refl

-- ---- where the entry begins

-- version 1 forgets the name's key
abbrev forgotten : Bool → List Row → List Row
forgotten true rows = rows
forgotten false rows = remove name_key rows

forgotten_other : (version2 : Bool) (k : ℕ) (rows : List Row) → ((version2 ≡ false) × (k ≡ name_key) → ⊥) → find k (forgotten version2 rows) ≡ find k rows
forgotten_other true k rows h = refl
forgotten_other false k rows h = find_remove_other k name_key rows (λ e. h (refl, e))

forgotten_held : (version2 : Bool) (k : ℕ) (rows : List Row) → Ascending rows → Held k (forgotten version2 rows) → Held k rows
forgotten_held true k rows a h = h
forgotten_held false k rows a h = ((keys_removed name_key rows k a).0 h).0

is_name_key : (version2 : Bool) (k : ℕ) → Dec (k ≡ name_key) → ((version2 ≡ false) × (k ≡ name_key)) ⊎ ((version2 ≡ false) × (k ≡ name_key) → ⊥)
is_name_key true k d = inr (λ h. let e = h.0 in zero_one (cc))
is_name_key false k (yes e) = inl (refl, e)
is_name_key false k (no ne) = inr (λ h. ne h.1)

module _ (file builtins : List ℕ) (j : Job) (cap : ℕ) (im' : List ℕ) (rows : List Row) (moves : ℕ) where
  -- the parts before the entry were accepted, and then the entry
  pub record Stages : Type 0 where
    pub image : List ℕ
    pub held : List Row
    pub early_moves : ℕ
    pub early : settle cap (early_trace file builtins j) [] 0 ≡ accepted image held early_moves
    pub entry_moves : ℕ
    pub few : entry_moves ≤ early_moves + (length held - 1)
    pub entry : settle cap (deed_trace (entry_deed builtins j) image) (forgotten j.version2 held) entry_moves ≡ accepted im' rows moves

  -- the placing leaves the rows
  placed_same : (p : Result Placing ElfError) (im : List ℕ) (rs : List Row) (m : ℕ) → settle cap (placed_trace p im) rs m ≡ accepted im' rows moves → accepted im rs m ≡ accepted im' rows moves
  unfolding settle
  placed_same (Ok (Borrowed offset start n)) im rs m e = e
  placed_same (Ok (Owned offset lowest n)) im rs m e = e
  placed_same (Err r) im rs m e = absurd (zero_one (cc))

  entered : (version2 : Bool) (im : List ℕ) (rs : List Row) (m : ℕ)
      → settle cap (and_then (forget_trace version2 im) (λ (im' : List ℕ). deed_trace (entry_deed builtins j) im')) rs m ≡ accepted im' rows moves
      → (n : ℕ) × (n ≤ m + (length rs - 1)) × (settle cap (deed_trace (entry_deed builtins j) im) (forgotten version2 rs) n ≡ accepted im' rows moves)
  unfolding settle and_then
  entered true im rs m e = (m, omega arith, e)
  entered false im rs m e = (m + moves_gone (unregister name_key rs), omega (arith, removal_moves name_key rs), e)

  stages : settle cap (job_trace file builtins j file) [] 0 ≡ accepted im' rows moves → Stages
  unfolding job_trace
  stages e =
      let w = settle_split cap im' rows moves (writing_trace file builtins j file) (λ (im₁ : List ℕ). and_then (naming_trace file builtins j im₁) (placed_trace j.placing)) [] 0 e in
      let p = settle_split cap im' rows moves (naming_trace file builtins j w.image) (placed_trace j.placing) w.held w.moves w.second in
      let named = p.first ∙ placed_same j.placing p.image p.held p.moves p.second in
      let n = settle_split cap im' rows moves (labels_trace file builtins j w.image) (entry.entry_trace builtins j) w.held w.moves named in
      let x = entered j.version2 n.image n.held n.moves n.second in
      record {
        image = n.image;
        held = n.held;
        early_moves = n.moves;
        early = settle_then cap (writing_trace file builtins j file) (labels_trace file builtins j) [] 0 w.image w.held w.moves w.first ∙ n.first;
        entry_moves = x.0;
        few = x.1;
        entry = x.2;
      }

-- ---- the table of a load

module _ (file builtins : List ℕ) (j : Job) (cap : ℕ) (im' : List ℕ) (rows : List Row) (moves : ℕ) (e : settle cap (job_trace file builtins j file) [] 0 ≡ accepted im' rows moves) where
  -- THE ROWS ASCEND
  pub rows_ascend : Ascending rows
  rows_ascend = settle_ascends cap im' rows moves (job_trace file builtins j file) [] 0 tt e

  pub rows_room : length rows ≤ cap
  rows_room = settle_room cap im' rows moves (job_trace file builtins j file) [] 0 zero-le e

  s : Stages file builtins j cap im' rows moves
  s = stages file builtins j cap im' rows moves e

  -- the parts before the entry, the entry's registration, and the rows that it begins with
  abbrev ahead : Trace
  ahead = early_trace file builtins j

  abbrev last : Trace
  last = deed_trace (entry_deed builtins j) s.image

  abbrev begun : List Row
  begun = forgotten j.version2 s.held

  early_ends : Ends ahead s.image
  early_ends = settle_ends cap s.image s.held s.early_moves ahead [] 0 s.early

  entry_ends : Ends last im'
  entry_ends = settle_ends cap im' rows moves last begun s.entry_moves s.entry

  entry_asked : (row : Row) → Asks row last ↔ OfEntry builtins j row
  entry_asked row = deed_asks (entry_deed builtins j) (OfEntry builtins j) (entry_registers builtins j) s.image im' entry_ends row

  -- the entry's row is found
  entry_finds : (row : Row) → OfEntry builtins j row → Repeats row rows
  entry_finds row h =
      settle_finds cap im' rows moves last begun s.entry_moves
      (deed_keeps (entry_deed builtins j) s.image) s.entry row ((entry_asked row).1 h)

  -- and a row before it, unless it was forgotten
  early_finds : (row : Row) → EarlyRow file builtins j row → IsNameKey j (rank row) ⊎ Repeats row rows
  early_finds row h =
      go (settle_finds cap s.image s.held s.early_moves ahead [] 0 (early_keeps file builtins j) s.early row ((early_asks file builtins j s.image early_ends row).1 h))
      (is_name_key j.version2 (rank row) (ℕ_discrete (rank row) name_key))
    where
      go : Repeats row s.held → IsNameKey j (rank row) ⊎ (IsNameKey j (rank row) → ⊥) → IsNameKey j (rank row) ⊎ Repeats row rows
      go f (inl n) = inl n
      go f (inr n) = inr (f.0, settle_keeps cap im' rows moves last begun s.entry_moves (deed_keeps (entry_deed builtins j) s.image) s.entry (rank row) f.0 (forgotten_other j.version2 (rank row) s.held n ∙ f.1), f.2)

  -- nothing else is held
  only_registered : (key : ℕ) → Held key rows → (row : Row) × Registers file builtins j row × (rank row ≡ key)
  only_registered key h =
      go (settle_only cap im' rows moves last begun s.entry_moves (deed_keeps (entry_deed builtins j) s.image) s.entry key h)
    where
      of_early : (row : Row) → EarlyRow file builtins j row → Registers file builtins j row
      of_early row (inl x) = inl x
      of_early row (inr (inl x)) = inr (inl x)
      of_early row (inr (inr x)) = inr (inr (inl x))

      before : Held key [] ⊎ ((row : Row) × Asks row ahead × (rank row ≡ key)) → (row : Row) × Registers file builtins j row × (rank row ≡ key)
      before (inl z) = let f = z.1 in absurd (zero_one (cc))
      before (inr a) = (a.0, of_early a.0 ((early_asks file builtins j s.image early_ends a.0).0 a.1), a.2)

      go : Held key begun ⊎ ((row : Row) × Asks row last × (rank row ≡ key)) → (row : Row) × Registers file builtins j row × (rank row ≡ key)
      go (inr a) = (a.0, inr (inr (inr ((entry_asked a.0).0 a.1))), a.2)
      go (inl a) = before (settle_only cap s.image s.held s.early_moves ahead [] 0 (early_keeps file builtins j) s.early key
          (forgotten_held j.version2 key s.held (settle_ascends cap s.image s.held s.early_moves ahead [] 0 tt s.early) a))

  -- IN VERSION 1 THE NAME'S KEY FINDS THE ENTRY
  pub entry_found : Entry j (λ (k : ℕ). find k rows)
  unfolding rank
  entry_found old =
      let r = entry_row builtins j s.image im' entry_ends in
      let is = row_is builtins j Entrypoint (entry_index j) r.0 r.1 in
      let f = entry_finds r.0 r.1 in
      let key : r.0.key ≡ name_key = is.0 ∙ entry_key j.version2 (entry_index j) old in
      (f.0, subst (λ (k : ℕ). find k rows ≡ Some f.0) key f.1, f.2 ∙ is.1)

  -- EVERY OTHER KEY FINDS WHAT WAS REGISTERED UNDER IT
  pub others_found : Others file builtins j (λ (k : ℕ). find k rows)
  unfolding rank
  others_found row (inl x) = early_finds row (inl x)
  others_found row (inr (inl x)) = early_finds row (inr (inl x))
  others_found row (inr (inr (inl x))) = early_finds row (inr (inr x))
  others_found row (inr (inr (inr x))) = inr (entry_finds row x)

  -- THE KEYS ARE THOSE OF THE REGISTRATIONS
  pub keys_found : Keys file builtins j (λ (k : ℕ). find k rows)
  unfolding rank
  keys_found key = (only_registered key, λ h. subst (λ (k : ℕ). Held k rows) h.2 (held h.0 (others_found h.0 h.1)))
    where
      held : (row : Row) → IsNameKey j row.key ⊎ Finds (λ (k : ℕ). find k rows) row.key row.index → Held row.key rows
      held row (inr f) = (f.0, f.1)
      held row (inl n) = let f = entry_found n.0 in rw n.1 (f.0, f.1)

  -- A LOCAL CALL HAS A TARGET
  pub call_target : (i : ℕ) → LocalCall file j i → (to : ℕ) × CallsTo file j i to
  call_target i c = calls_to file builtins j s.image early_ends i c

  -- A CALL'S KEY FINDS ITS TARGET
  pub call_found : (i to : ℕ) → CallsTo file j i to → IsNameKey j (key_of j.version2 to) ⊎ Finds (λ (k : ℕ). find k rows) (key_of j.version2 to) to
  call_found i to c =
      let r = calls_have file builtins j s.image early_ends i to c in
      let is = row_is builtins j OfIndex to r.0 r.1 in
      let key : r.0.key ≡ key_of j.version2 to = is.0 ∙ call_key j.version2 to in
      subst (λ (k : ℕ). IsNameKey j k ⊎ Finds (λ (k : ℕ). find k rows) k to) key
      (subst (λ (n : ℕ). IsNameKey j r.0.key ⊎ Finds (λ (k : ℕ). find k rows) r.0.key n) is.1 (others_found r.0 (inl (i, (to, c, r.1)))))

  -- ---- the moves

  -- the entry's own registration moves at most all rows but one
  entry_moves : (a : Result EntryOf ElfError) (im : List ℕ) (rs : List Row) (m : ℕ) → settle cap (deeds.entry_trace a im) rs m ≡ accepted im' rows moves → moves ≤ m + (cap - 1)
  unfolding settle
  entry_moves (Ok Nothing) im rs m e = let n : m ≡ moves = cc in omega (arith, n)
  entry_moves (Err r) im rs m e = absurd (zero_one (cc))
  entry_moves (Ok (Enter row false)) im rs m e =
      let w = went (table.register cap row rs) cap row.key m _ im' rows moves e in
      let n : w.moves ≡ moves = let d = w.on in cc in
      omega (arith, w.more, n, registration_moves cap row rs)
  entry_moves (Ok (Enter row true)) im rs m e =
      let w = went (table.register cap row rs) cap row.key m _ im' rows moves e in
      absurd (let d = w.on in zero_one (cc))

  -- THE BOUND: n × (n − 1) / 2 + 2 × (n − 1) in a table of n rows
  pub moves_few : moves ≤ cap * (cap - 1) / 2 + 2 * (cap - 1)
  unfolding deed_trace
  moves_few =
      let early = settle_moves cap s.image s.held s.early_moves ahead [] 0 (early_keeps file builtins j) s.early in
      let room = settle_room cap s.image s.held s.early_moves ahead [] 0 zero-le s.early in
      let up = triangle_mono (length s.held) cap room in
      let last = entry_moves (entry_of (entry_deed builtins j)) _ begun s.entry_moves s.entry in
      omega (arith, early, room, up, last, s.few, triangle_twice cap)
