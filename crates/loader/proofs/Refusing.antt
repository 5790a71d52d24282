-- When a load is refused for a collision, and when for a full table, with the check against built-ins off.
-- Assumes nothing.
use Prim.Native.Nat.{ℕ, ◌-◌, ◌%◌, ◌<◌, zero-le}
use native.Mathlib.Omega.{arith}
use mathlib.Core.Path.{◌≡◌, refl, sym, ap, subst, fun_ext, ◌∙◌}
use mathlib.Core.Logic.{◌⊎◌, inl, inr, ◌↔◌}
use mathlib.Core.Bool.{Bool, true, false, not}
use mathlib.Core.List.{List, [], map, append-nil}
use lib.Dec.{eqb}
use Rattle.std.specs.Prelude.{Some, None, Err, Result, Ok}
use Rattle.ebpf.specs.Choice.{◌if◌else◌}
use Rattle.ebpf.proofs.Injective.{key_injective}
use Rattle.program.specs.declared.FunctionName.TheVariants.{Entrypoint}
use Rattle.program.specs.declared.Row.{Row}
use Rattle.program.specs.HashedLegacy.{legacy_key}
use Rattle.program.specs.Rows.{rank, Ascending, find, insert, remove, RegisterResult}
use Rattle.program.proofs.Cases.{zero_one}
use Rattle.program.proofs.Rows.{not_both}
use Rattle.program.proofs.Laws.{by_registered, find_remove_same}
use Rattle.loader.specs.declared.read_only.Placing.TheVariants.{Borrowed, Owned}
use Rattle.loader.specs.declared.read_only.Placing.{Placing}
use Rattle.loader.specs.declared.error.ElfError.{ElfError}
use Rattle.loader.specs.declared.error.ElfError.TheVariants.{InvalidEntrypoint, SymbolHashCollision, TableFull}
use Rattle.loader.specs.declared.deeds.Deed.{Deed}
use Rattle.loader.specs.declared.validate.Config.{Config}
use Rattle.loader.specs.declared.validate.Job.{Job}
use Rattle.loader.specs.declared.answer.Accepted.{Accepted}
use Rattle.loader.specs.Functions.{row_for}
use Rattle.loader.specs.Deeds.{deed_trace}
use Rattle.loader.specs.Labels.{label_row, labels_trace}
use Rattle.loader.specs.Entry.{entry_deed, forget_trace, entry_trace}
use Rattle.loader.specs.Parts.{writing_trace, placed_trace, job_trace}
use Rattle.loader.specs.Trace.{Trace, done, stop, register, forget, and_then, Settled, accepted, refused, settle, on_registered, on_settled, settle_and_then}
use Rattle.loader.specs.Validate.{prepared}
use Rattle.loader.specs.Load.{held_by, on_trace, on_prepared, load_of, answer_of}
use Rattle.loader.specs.InFile.{InFile}
use Rattle.loader.specs.Demand.{Injective, key_of, name_key, entry_index, reached, reached_in, early_trace, reached_early, Among, Clash, distinct}
use Rattle.loader.proofs.Readied.{readied}
use Rattle.loader.proofs.Plain.{Plain, of_table, picks, PlainPlacing, PlainlyPrepared, prepared_plain}
use Rattle.loader.proofs.Counting.{find_rank}
use Rattle.loader.proofs.Reaching.{Collides, Fills, no_collision, Steady, AllFound, accepted_rows, reached_are, two, Meets, meets, Again, Counted, counted_then, steady_counted, full_counts}
use Rattle.loader.proofs.Early.{Good, row_of_function, free_row, early_steady}

-- in either version no two indices share an index key
pub injective_keys : Injective
unfolding key_of ◌if◌else◌
injective_keys true x y h g e = e
injective_keys false x y h g e = key_injective x y h g e

-- good rows that meet have the name's key
good_meet : (version2 : Bool) (x y : Row) → Good version2 x → Good version2 y → x.key ≡ y.key → (x.index ≡ y.index → ⊥) → (x.key ≡ name_key) × (y.key ≡ name_key)
good_meet version2 x y gx gy e apart = go gx.1 gy.1
  where
    go : (x.key ≡ key_of version2 x.index) ⊎ ((version2 ≡ false) × (x.key ≡ name_key)) → (y.key ≡ key_of version2 y.index) ⊎ ((version2 ≡ false) × (y.key ≡ name_key))
        → (x.key ≡ name_key) × (y.key ≡ name_key)
    go (inl p) (inl q) = absurd (apart (injective_keys version2 x.index y.index gx.0 gy.0 (sym p ∙ e ∙ q)))
    go (inl p) (inr q) = (e ∙ q.1, q.1)
    go (inr p) q = (p.1, sym e ∙ p.1)

-- in version 2 a good row's key is its index
good_index : (version2 : Bool) → version2 ≡ true → (z : Row) → Good version2 z → z.key ≡ z.index
unfolding key_of ◌if◌else◌
good_index version2 e z g = go g.1
  where
    go : (z.key ≡ key_of version2 z.index) ⊎ ((version2 ≡ false) × (z.key ≡ name_key)) → z.key ≡ z.index
    go (inl p) = p ∙ rw e refl
    go (inr q) = let f = q.0 in absurd (zero_one (cc))

-- ---- everything, as what is before the entry and what is not

then_assoc : (T : Trace) (K L : List ℕ → Trace) → and_then (and_then T K) L ≡ and_then T (λ (im : List ℕ). and_then (K im) L)
unfolding and_then
then_assoc (done im) K L = refl
then_assoc (stop r) K L = refl
then_assoc (register row T) K L = ap (register row) (then_assoc T K L)
then_assoc (forget key T) K L = ap (forget key) (then_assoc T K L)

abbrev late_trace : List ℕ → Job → List ℕ → Trace
late_trace builtins j im = and_then (entry_trace builtins j im) (placed_trace j.placing)

job_splits : (file builtins : List ℕ) (j : Job) → job_trace file builtins j file ≡ and_then (early_trace file builtins j) (late_trace builtins j)
unfolding job_trace
job_splits file builtins j =
    ap (and_then (writing_trace file builtins j file)) (fun_ext (λ im. then_assoc (labels_trace file builtins j im) (entry_trace builtins j) (placed_trace j.placing)))
    ∙ sym (then_assoc (writing_trace file builtins j file) (labels_trace file builtins j) (late_trace builtins j))

-- ---- the entry and the placing

placed_clear : (cap : ℕ) (p : Result Placing ElfError) → PlainPlacing p → (im : List ℕ) (rows : List Row) (m : ℕ) → Collides (settle cap (placed_trace p im) rows m) → ⊥
unfolding settle
placed_clear cap (Ok (Borrowed offset start n)) q im rows m c = let e = c.1 in zero_one (cc)
placed_clear cap (Ok (Owned offset lowest n)) q im rows m c = let e = c.1 in zero_one (cc)
placed_clear cap (Err r) q im rows m c = no_collision r q c

placed_counted : (p : Result Placing ElfError) → PlainPlacing p → (im : List ℕ) → Counted (placed_trace p im)
placed_counted (Ok (Borrowed offset start n)) q im = tt
placed_counted (Ok (Owned offset lowest n)) q im = tt
placed_counted (Err r) q im = q

module _ (file builtins : List ℕ) (j : Job) (off : j.check_collision ≡ false) (within : InFile file j) (place : PlainPlacing j.placing) where
  abbrev row : Row
  row = row_of_function j Entrypoint (entry_index j)

  -- the entry's two ways
  entered : (Q : Trace → Type 0) (im : List ℕ) → Q (stop InvalidEntrypoint) → Q (register row (done im)) → Q (deed_trace (entry_deed builtins j) im)
  unfolding entry_deed deed_trace
  entered Q im no_slot goes_on = picks (λ (d : Result Deed ElfError). Q (deed_trace d im)) (not (eqb ((j.e_entry - j.sh_addr) % 8) 0)) (Err InvalidEntrypoint) (label_row (row_for builtins j Entrypoint (entry_index j)))
      (λ _. no_slot)
      (λ _. rw (free_row builtins j Entrypoint (entry_index j) off) goes_on)

  -- its key
  key_name : j.version2 ≡ false → row.key ≡ name_key
  unfolding legacy_key ◌if◌else◌
  key_name e = rw e refl

  key_index : j.version2 ≡ true → row.key ≡ entry_index j
  unfolding legacy_key ◌if◌else◌
  key_index e = rw e refl

  module _ (cap : ℕ) where
    -- it collides with nothing where its key finds its index, if anything
    entry_clear : (im : List ℕ) (rows : List Row) (m : ℕ) → ((z : Row) → find (rank row) rows ≡ Some z → z.index ≡ row.index)
        → Collides (settle cap (and_then (deed_trace (entry_deed builtins j) im) (placed_trace j.placing)) rows m) → ⊥
    unfolding settle and_then
    entry_clear im rows m own = entered (λ (T : Trace). Collides (settle cap (and_then T (placed_trace j.placing)) rows m) → ⊥) im
        (no_collision InvalidEntrypoint refl)
        (by_registered (λ (l : List Row) (a : RegisterResult). Collides (on_registered a cap row.key m (λ (n : ℕ). settle cap (placed_trace j.placing im) l n)) → ⊥) cap row rows
        (λ _ _ _ c. placed_clear cap j.placing place im rows m c)
        (λ z e ne _. ne (own z e))
        (λ _ _ c. let e = c.1 in zero_one (cc))
        (λ _ _ c. placed_clear cap j.placing place im (insert row rows) _ c))

    late_clear : (im : List ℕ) (rows : List Row) (m : ℕ) → Ascending rows → AllFound cap (Good j.version2) rows → Collides (settle cap (late_trace builtins j im) rows m) → ⊥
    unfolding settle and_then rank
    late_clear im rows m a all = go j.version2 refl
      where
        index_found : j.version2 ≡ true → (z : Row) → find (rank row) rows ≡ Some z → z.index ≡ row.index
        index_found e z f = sym (good_index j.version2 e z (all (rank row) z f)) ∙ find_rank (rank row) z rows f ∙ key_index e

        none_found : j.version2 ≡ false → (z : Row) → find (rank row) (remove name_key rows) ≡ Some z → z.index ≡ row.index
        none_found e z f = absurd (not_both z (find (rank row) (remove name_key rows)) f (subst (λ (k : ℕ). find k (remove name_key rows) ≡ None) (sym (key_name e)) (find_remove_same name_key rows a)))

        go : (v : Bool) → j.version2 ≡ v → Collides (settle cap (and_then (and_then (forget_trace v im) (λ (im' : List ℕ). deed_trace (entry_deed builtins j) im')) (placed_trace j.placing)) rows m) → ⊥
        go true e = entry_clear im rows m (index_found e)
        go false e = entry_clear im (remove name_key rows) _ (none_found e)

  late_counted : (im : List ℕ) → Counted (late_trace builtins j im)
  unfolding and_then
  late_counted im = counted_then (entry_trace builtins j im) (placed_trace j.placing) (go j.version2 refl) (placed_counted j.placing place)
    where
      counted : Counted (deed_trace (entry_deed builtins j) im)
      counted = entered Counted im refl tt

      go : (v : Bool) → j.version2 ≡ v → Counted (and_then (forget_trace v im) (λ (im' : List ℕ). deed_trace (entry_deed builtins j) im'))
      go true e = counted
      go false e = (entered (Again name_key) im tt (key_name e), counted)

  job_counted : Counted (job_trace file builtins j file)
  job_counted = rw (job_splits file builtins j)
      (counted_then (early_trace file builtins j) (late_trace builtins j)
      (steady_counted (Good j.version2) (early_trace file builtins j) (early_steady file builtins j off within)) late_counted)

  -- ---- the whole

  module _ (cap : ℕ) where
    abbrev early : Trace
    early = early_trace file builtins j

    steady : Steady (Good j.version2) early
    steady = early_steady file builtins j off within

    -- a load collides before its entry
    job_settles : settle cap (job_trace file builtins j file) [] 0 ≡ on_settled (settle cap early [] 0) (λ (im : List ℕ) (rows : List Row) (m : ℕ). settle cap (late_trace builtins j im) rows m)
    job_settles = rw (job_splits file builtins j) (settle_and_then cap early (late_trace builtins j) [] 0)

    early_collides : Collides (settle cap (job_trace file builtins j file) [] 0) ↔ Collides (settle cap early [] 0)
    early_collides = rw job_settles (there (settle cap early [] 0) refl, λ c. (c.0, rw c.1 refl))
      where
        there : (s : Settled) → settle cap early [] 0 ≡ s → Collides (on_settled s (λ (im : List ℕ) (rows : List Row) (m : ℕ). settle cap (late_trace builtins j im) rows m)) → Collides s
        there (refused r) e c = c
        there (accepted im rows m) e c =
            let held = accepted_rows cap (Good j.version2) early steady [] 0 tt (λ k x f. absurd (not_both x None f refl)) im rows m e in
            absurd (late_clear cap im rows m held.0 held.1 c)

    clash_meets : Meets cap (Good j.version2) [] (reached cap early []) → Clash (reached cap early [])
    unfolding rank
    clash_meets w = go w.before
      where
        go : (find (rank w.x) [] ≡ Some w.x) ⊎ Among w.x (reached cap early []) → Clash (reached cap early [])
        go (inl f) = absurd (not_both w.x None f refl)
        go (inr a) =
            let gx = reached_are cap (Good j.version2) early steady [] w.x a in
            let gy = reached_are cap (Good j.version2) early steady [] w.y w.reaches in
            let names = good_meet j.version2 w.x w.y gx gy w.key w.apart in
            (w.x, w.y, a, w.reaches, names.0, names.1, w.apart)

    clash_collides : Clash (reached cap early []) → Collides (settle cap early [] 0)
    unfolding rank
    clash_collides (x, y, a, b, p, q, apart) = two cap (Good j.version2) early steady [] 0 x y (p ∙ sym q) apart a b

    job_collides : Collides (settle cap (job_trace file builtins j file) [] 0) ↔ Clash (reached cap (early_trace file builtins j) [])
    job_collides = (
      λ c. clash_meets (meets cap (Good j.version2) early steady [] 0 (early_collides.0 c)),
      λ h. early_collides.1 (clash_collides h),
    )

    job_fills : Fills (settle cap (job_trace file builtins j file) [] 0) ↔ (cap < distinct (map (λ r. r.key) (reached cap (job_trace file builtins j file) [])))
    job_fills = rw (← append-nil (map (λ r. r.key) (reached cap (job_trace file builtins j file) []))) (full_counts cap (job_trace file builtins j file) job_counted [] 0 tt zero-le)

-- ---- the answer

-- a table's refusal is the trace's
module _ (file : List ℕ) (j : Job) (m : ℕ) (place : PlainPlacing j.placing) (r : ElfError) (table : of_table r ≡ true) where
  held_not : (p : Result Placing ElfError) → PlainPlacing p → (im : List ℕ) (rows : List Row) (moves : ℕ) → answer_of (held_by file j m p im rows moves) ≡ Err r → ⊥
  held_not (Ok (Borrowed offset start n)) q im rows moves e = zero_one (cc)
  held_not (Ok (Owned offset lowest n)) q im rows moves e = zero_one (cc)
  held_not (Err r') q im rows moves e = let s : r' ≡ r = cc in let t : of_table r' ≡ true = rw s table in zero_one (cc)

  answered : (s : Settled) → (answer_of (on_trace file j m s) ≡ Err r) ↔ (s ≡ refused r)
  answered (accepted im rows moves) = (λ e. absurd (held_not j.placing place im rows moves e), λ e. absurd (zero_one (cc)))
  answered (refused r') = (λ e. let s : r' ≡ r = cc in ap refused s, λ e. let s : r' ≡ r = cc in ap Err s)

-- a plain refusal is no table's
plain_not : (s r : ElfError) → Plain s → of_table r ≡ true → ◌≡◌ {A = Result Accepted ElfError} (Err s) (Err r) → ⊥
plain_not s r p q e = let same : s ≡ r = cc in let t : of_table s ≡ true = rw same q in zero_one (cc)

none_fewer : (cap : ℕ) → cap < distinct [] → ⊥
unfolding distinct
none_fewer cap l = omega arith

-- ---- THE CLAIMS

module _ (file builtins : List ℕ) (c : Config) (n m cap : ℕ) (off : c.external_internal_function_hash_collision ≡ false) where
  pub collides : ((key : ℕ) × (answer_of (load_of file builtins c n m cap) ≡ Err (SymbolHashCollision key))) ↔ Clash (reached_early file builtins cap (prepared file builtins c n m))
  unfolding load_of
  collides = go (prepared file builtins c n m) refl (prepared_plain file builtins c n m)
    where
      go : (p : Result Job ElfError) → prepared file builtins c n m ≡ p → PlainlyPrepared c p
          → ((key : ℕ) × (answer_of (on_prepared file builtins m cap p) ≡ Err (SymbolHashCollision key))) ↔ Clash (reached_early file builtins cap p)
      go (Err r) e plain = (λ h. absurd (plain_not r (SymbolHashCollision h.0) plain refl h.1), λ h. absurd h.2)
      go (Ok j) e plain =
          let within = (readied file builtins c n m j e).0 in
          let job = job_collides file builtins j (plain.0 ∙ off) within plain.1 cap in
          let s : Settled = settle cap (job_trace file builtins j file) [] 0 in (
            λ h. job.0 (h.0, (answered file j m plain.1 (SymbolHashCollision h.0) refl s).0 h.1),
            λ h. let k = job.1 h in (k.0, (answered file j m plain.1 (SymbolHashCollision k.0) refl s).1 k.1),
          )

  pub fills : ((rows : ℕ) × (answer_of (load_of file builtins c n m cap) ≡ Err (TableFull rows))) ↔ (cap < distinct (map (λ r. r.key) (reached_in file builtins cap (prepared file builtins c n m))))
  unfolding load_of
  fills = go (prepared file builtins c n m) refl (prepared_plain file builtins c n m)
    where
      go : (p : Result Job ElfError) → prepared file builtins c n m ≡ p → PlainlyPrepared c p
          → ((rows : ℕ) × (answer_of (on_prepared file builtins m cap p) ≡ Err (TableFull rows))) ↔ (cap < distinct (map (λ r. r.key) (reached_in file builtins cap p)))
      go (Err r) e plain = (λ h. absurd (plain_not r (TableFull h.0) plain refl h.1), λ h. absurd (none_fewer cap h))
      go (Ok j) e plain =
          let within = (readied file builtins c n m j e).0 in
          let job = job_fills file builtins j (plain.0 ∙ off) within plain.1 cap in
          let s : Settled = settle cap (job_trace file builtins j file) [] 0 in (
            λ h. job.0 (h.0, (answered file j m plain.1 (TableFull h.0) refl s).0 h.1),
            λ h. let k = job.1 h in (k.0, (answered file j m plain.1 (TableFull k.0) refl s).1 k.1),
          )
