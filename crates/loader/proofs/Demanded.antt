-- Demand 3 follows from what a load leaves. Assumes nothing.
use Prim.Native.Nat.{ℕ, ◌-◌, ◌<◌}
use mathlib.Core.Path.{◌≡◌, refl, sym, subst, fun_ext}
use mathlib.Core.Logic.{◌⊎◌, ◌↔◌}
use mathlib.Core.List.{List, [], ◌++◌, map}
use lib.ListN.{length, replicate}
use Rattle.std.specs.Prelude.{Option, Result, Ok, Err}
use Rattle.ebpf.specs.LittleEndian.{le}
use Rattle.program.specs.declared.Row.{Row}
use Rattle.program.specs.Rows.{find}
use Rattle.program.specs.Table.{Slices, Lent, Shared, capacity, lay, lookup_in, Ready as IsTable}
use Rattle.program.proofs.Tables.{ready_lay, lookup_lay}
use Rattle.loader.specs.declared.read_only.Placing.TheVariants.{Borrowed, Owned}
use Rattle.loader.specs.declared.read_only.Placing.{Placing}
use Rattle.loader.specs.declared.error.ElfError.{ElfError}
use Rattle.loader.specs.declared.answer.Accepted.{Accepted}
use Rattle.loader.specs.declared.error.ElfError.TheVariants.{SymbolHashCollision, TableFull}
use Rattle.loader.specs.declared.validate.Config.{Config}
use Rattle.loader.specs.declared.validate.Job.{Job}
use Rattle.loader.specs.Calls.{immediate}
use Rattle.loader.specs.InFile.{InFile}
use Rattle.loader.specs.Demand.{Calls, Keys, Entry, Others, Bytes, IsNameKey, Finds, key_of, OnAccepted, reached_in, reached_early, Clash, distinct, Demand3}
use Rattle.loader.specs.Load.{held_by, on_trace, on_prepared, load_of, load_of_lent, Loaded}
use Rattle.loader.specs.Loads.{OnUsed, Loads}
use Rattle.loader.specs.Parts.{job_trace}
use Rattle.loader.specs.Trace.{Settled, accepted, refused, settle}
use Rattle.loader.specs.Validate.{prepared}
use Rattle.loader.proofs.Readied.{readied}
use Rattle.loader.proofs.Traces.{settle_ends}
use Rattle.loader.proofs.Imaged.{lent_bytes, lent_keyed}
use Rattle.loader.proofs.Targets.{to_in}
use Rattle.loader.proofs.Refusing.{injective_keys, collides, fills}
use Rattle.loader.proofs.Keyed.{keys_found, entry_found, others_found, call_target, call_found, rows_ascend, rows_room}

-- what an accepted load has: its file passed the checks, its trace settled, and the image and the table are those
pub record Held (file builtins : List ℕ) (c : Config) (im ro : List ℕ) (t : Slices) (im' : List ℕ) (t' : Slices) (j : Job) (used : ℕ) : Type 0 where
  pub image : List ℕ
  pub rows : List Row
  pub moves : ℕ
  pub ready : prepared file builtins c (length im) (length ro) ≡ Ok j
  pub settles : settle (capacity t) (job_trace file builtins j file) [] 0 ≡ accepted image rows moves
  pub image_is : im' ≡ image ++ replicate (length im - length image) 0
  pub table_is : t' ≡ lay t rows
  pub used_is : used ≡ length rows

module _ (file builtins : List ℕ) (c : Config) (im ro : List ℕ) (t : Slices) (im' ro' : List ℕ) (t' : Slices) where
  module _ (P : Job → ℕ → Type 0) (all : (j : Job) (used : ℕ) → Held file builtins c im ro t im' t' j used → P j used) where
    -- by the placing
    placed : (j : Job) (a : Result Accepted ElfError) (image : List ℕ) (rows : List Row) (moves : ℕ)
        → prepared file builtins c (length im) (length ro) ≡ Ok j
        → settle (capacity t) (job_trace file builtins j file) [] 0 ≡ accepted image rows moves
        → (p : Result Placing ElfError)
        → Loaded (held_by file j (length ro) p image rows moves) im ro t im' ro' t' a
        → OnAccepted a (Ok j) P
    placed j a image rows moves e s (Ok (Borrowed offset start n)) did =
        subst (λ (b : Result Accepted ElfError). OnAccepted b (Ok j) P) (sym did.answers)
        (all j (length rows) (record { image = image; rows = rows; moves = moves; ready = e; settles = s; image_is = did.demand_1.image; table_is = did.demand_1.table; used_is = refl }))
    placed j a image rows moves e s (Ok (Owned offset lowest n)) did =
        subst (λ (b : Result Accepted ElfError). OnAccepted b (Ok j) P) (sym did.answers)
        (all j (length rows) (record { image = image; rows = rows; moves = moves; ready = e; settles = s; image_is = did.demand_1.image; table_is = did.demand_1.table; used_is = refl }))
    placed j a image rows moves e s (Err r) did = subst (λ (b : Result Accepted ElfError). OnAccepted b (Ok j) P) (sym did.answers) tt

    settled : (j : Job) (a : Result Accepted ElfError) → prepared file builtins c (length im) (length ro) ≡ Ok j
        → (s : Settled)
        → settle (capacity t) (job_trace file builtins j file) [] 0 ≡ s
        → Loaded (on_trace file j (length ro) s) im ro t im' ro' t' a
        → OnAccepted a (Ok j) P
    settled j a e (accepted image rows moves) s did = placed j a image rows moves e s j.placing did
    settled j a e (refused r) s did = subst (λ (b : Result Accepted ElfError). OnAccepted b (Ok j) P) (sym did.answers) tt

    passed : (a : Result Accepted ElfError) (p : Result Job ElfError) → prepared file builtins c (length im) (length ro) ≡ p → Loaded (on_prepared file builtins (length ro) (capacity t) p) im ro t im' ro' t' a → OnAccepted a p P
    passed a (Ok j) e did = settled j a e (settle (capacity t) (job_trace file builtins j file) [] 0) refl did
    passed a (Err r) e did = subst (λ (b : Result Accepted ElfError). OnAccepted b (Err r) P) (sym did.answers) tt

    on_accepted : (a : Result Accepted ElfError) → Loaded (load_of file builtins c (length im) (length ro) (capacity t)) im ro t im' ro' t' a → OnAccepted a (prepared file builtins c (length im) (length ro)) P
    unfolding load_of
    on_accepted a did = passed a (prepared file builtins c (length im) (length ro)) refl did

  -- ---- the sentences, of an accepted load

  module _ (j : Job) (used : ℕ) (h : Held file builtins c im ro t im' t' j used) where
    inside : InFile file j
    inside = (readied file builtins c (length im) (length ro) j h.ready).0

    -- the public lookup finds what is found among the rows
    looks : (λ (k : ℕ). find k h.rows) ≡ lookup_in t' used
    looks = fun_ext (λ k. sym (rw (h.table_is, h.used_is) (lookup_lay t h.rows (rows_room file builtins j (capacity t) h.image h.rows h.moves h.settles) k)))

    held_keys : Keys file builtins j (lookup_in t' used)
    held_keys = subst (λ (look : ℕ → Option Row). Keys file builtins j look) looks (keys_found file builtins j (capacity t) h.image h.rows h.moves h.settles)

    held_entry : Entry j (lookup_in t' used)
    held_entry = subst (λ (look : ℕ → Option Row). Entry j look) looks (entry_found file builtins j (capacity t) h.image h.rows h.moves h.settles)

    held_others : Others file builtins j (lookup_in t' used)
    held_others = subst (λ (look : ℕ → Option Row). Others file builtins j look) looks (others_found file builtins j (capacity t) h.image h.rows h.moves h.settles)

    held_bytes : Bytes file j im'
    held_bytes = rw h.image_is (lent_bytes file builtins j inside h.image (settle_ends (capacity t) h.image h.rows h.moves (job_trace file builtins j file) [] 0 h.settles) (length im - length h.image))

    held_calls : Calls file j im' (lookup_in t' used)
    held_calls i c free =
        let target = call_target file builtins j (capacity t) h.image h.rows h.moves h.settles i c in
        let to = target.0 in
        let key : le 4 im' (immediate j i) ≡ key_of j.version2 to = rw h.image_is (lent_keyed file builtins j inside h.image (settle_ends (capacity t) h.image h.rows h.moves (job_trace file builtins j file) [] 0 h.settles) (length im - length h.image) i to target.1 free) in
        let found = subst (λ (look : ℕ → Option Row). IsNameKey j (key_of j.version2 to) ⊎ Finds look (key_of j.version2 to) to) looks (call_found file builtins j (capacity t) h.image h.rows h.moves h.settles i to target.1) in
        (to, target.1, to_in file j i to target.1, subst (λ (k : ℕ). IsNameKey j k ⊎ Finds (lookup_in t' used) k to) (sym key) found)

    held_table : IsTable t' used
    held_table =
        let room = rows_room file builtins j (capacity t) h.image h.rows h.moves h.settles in
        rw (h.table_is, h.used_is) (ready_lay t h.rows room (rows_ascend file builtins j (capacity t) h.image h.rows h.moves h.settles))

  module _ (a : Result Accepted ElfError) (did : Loaded (load_of file builtins c (length im) (length ro) (capacity t)) im ro t im' ro' t' a) where
    has_calls : OnAccepted a (prepared file builtins c (length im) (length ro)) (λ j used. Calls file j im' (lookup_in t' used))
    has_calls = on_accepted (λ j used. Calls file j im' (lookup_in t' used)) held_calls a did

    has_keys : OnAccepted a (prepared file builtins c (length im) (length ro)) (λ j used. Keys file builtins j (lookup_in t' used))
    has_keys = on_accepted (λ j used. Keys file builtins j (lookup_in t' used)) held_keys a did

    has_entry : OnAccepted a (prepared file builtins c (length im) (length ro)) (λ j used. Entry j (lookup_in t' used))
    has_entry = on_accepted (λ j used. Entry j (lookup_in t' used)) held_entry a did

    has_others : OnAccepted a (prepared file builtins c (length im) (length ro)) (λ j used. Others file builtins j (lookup_in t' used))
    has_others = on_accepted (λ j used. Others file builtins j (lookup_in t' used)) held_others a did

    has_bytes : OnAccepted a (prepared file builtins c (length im) (length ro)) (λ j used. Bytes file j im')
    has_bytes = on_accepted (λ j used. Bytes file j im') held_bytes a did

    -- the rows ascend
    pub ascended : OnUsed a (IsTable t')
    ascended = used_of a (prepared file builtins c (length im) (length ro)) (on_accepted (λ j used. IsTable t' used) held_table a did)
      where
        used_of : (a : Result Accepted ElfError) (p : Result Job ElfError) → OnAccepted a p (λ j used. IsTable t' used) → OnUsed a (IsTable t')
        used_of (Ok x) (Ok j) h = h
        used_of (Ok x) (Err r) h = absurd h
        used_of (Err r) p h = tt

    -- all of it
    pub demanded : Demand3 file builtins c (length im) (length ro) t im' t' a
    demanded = record {
      calls = has_calls;
      keys = has_keys;
      entry = has_entry;
      others = has_others;
      bytes = has_bytes;
      injective = injective_keys;
      collision = λ off. subst (λ (b : Result Accepted ElfError). ((key : ℕ) × (b ≡ Err (SymbolHashCollision key))) ↔ Clash (reached_early file builtins (capacity t) (prepared file builtins c (length im) (length ro)))) (sym did.answers) (collides file builtins c (length im) (length ro) (capacity t) off);
      full = λ off. subst (λ (b : Result Accepted ElfError). ((rows : ℕ) × (b ≡ Err (TableFull rows))) ↔ (capacity t < distinct (map (λ r. r.key) (reached_in file builtins (capacity t) (prepared file builtins c (length im) (length ro)))))) (sym did.answers) (fills file builtins c (length im) (length ro) (capacity t) off);
    }

-- what a load leaves is all that it promises
pub loads : (file : Shared) (builtins : List ℕ) (c : Config) (image ro : Lent) (t t' : Slices) (a : Result Accepted ElfError)
    → Loaded (load_of_lent file builtins c image ro t) image.entry.now ro.entry.now t image.exit.now ro.exit.now t' a
    → Loads file builtins c image ro t t' a
loads file builtins c image ro t t' a l = record {
  loaded = l;
  keyed = demanded file.entry.now builtins c image.entry.now ro.entry.now t image.exit.now ro.exit.now t' a l;
  ascending = ascended file.entry.now builtins c image.entry.now ro.entry.now t image.exit.now ro.exit.now t' a l;
}
