-- A call's target: its row, by its key and the name that every target has, and the targets that are remembered. Assumes nothing.
use mathlib.Core.Path.{◌≡◌, refl, sym, ap, ◌∙◌, subst}
use mathlib.Core.Bool.{Bool, true, false}
use mathlib.Core.List.{List}
use Prim.Native.Nat.{ℕ, zero, suc, ◌+◌, ◌%◌, ◌≤◌, ◌<◌}
use native.Mathlib.Decide.{ℕ_discrete}
use native.Mathlib.Omega.{arith}
use lib.ListN.{length, get_or, set, replicate}
use lib.Seq.{get_or-set_same, get_or-set_other}
use Rattle.program.specs.declared.RegisterError.TheVariants.{Collision, Full}
use Rattle.program.specs.declared.Registered.TheVariants.{Inserted, Repeat}
use Rattle.std.specs.Prelude.{Ok, Err}
use Rattle.ebpf.specs.Choice.{◌if◌else◌}
use Rattle.program.specs.declared.Row.{Row}
use Rattle.program.specs.declared.FunctionName.TheVariants.{OfIndex}
use Rattle.program.specs.HashedLegacy.{LegacyResult, is_taken, kept_name, row_of, row_under, legacy_row, collision}
use Rattle.program.specs.Rows.{registered, Repeats, RegisterResult}
use Rattle.program.specs.Rows as table
use Rattle.program.specs.Table.{Slices, capacity, rows_of, Ready, Alike, RegistersAlike}
use Rattle.program.proofs.Alike.{alike_none, alike_named, alike_after, alike_kept}
use Rattle.program.proofs.Cases.{zero_one}
use Rattle.program.proofs.Laws.{find_stays, repeat_held, find_registered_same}
use Rattle.loader.specs.declared.error.ElfError.TheVariants.{SymbolHashCollision}
use Rattle.loader.specs.declared.validate.Job.{Job}
use Rattle.loader.specs.Deeds.{Held}
use Rattle.loader.specs.declared.error.ElfError.{ElfError}
use Rattle.std.specs.Prelude.{Result, Ok, Err, Some, None}
use Rattle.loader.specs.Bytes.{put}
use Rattle.loader.specs.Functions.{row_for}
use Rattle.loader.specs.Trace.{accepted, on_registered, settle}
use Rattle.loader.specs.Deeds.{deed_trace, holding}
use Rattle.loader.specs.Calls.{call_at, text_of, immediate, call_row, call_deed, slot_trace}
use Rattle.loader.specs.CallLoop.{AlikeIn, StillAlike, target_key, target_row, Known, Seen, CallsHeld, StillHeldIn, StillAlikeIn, target_trace}
use Rattle.loader.specs.InnerContracts.{entered_by, moved_by, held_of, Settles}
use Rattle.loader.specs.declared.deeds.Outputs.{Outputs}
use Rattle.std.specs.Borrow.{MutBor}
use Rattle.program.specs.declared.FunctionRegistry.{FunctionRegistry}
use Rattle.program.specs.Runs.{moves_of}
use Rattle.program.specs.Table.{columns_of}
use Rattle.loader.proofs.Entering.{EntersIn}
use Rattle.loader.proofs.Rowing.{row_is}

-- whatever the image
abbrev pub TargetsIn : LegacyResult → Slices → Slices → ℕ → ℕ → Result Held ElfError → Type 0
TargetsIn target t t' used moves a = (im : List ℕ) → Settles (target_trace target im) im t t' 1 used moves a

-- ---- the rows' name

entered_still : (t u : Slices) (used moves key rows : ℕ) (row : Row) → Alike t used row → (a : RegisterResult) → RegistersAlike t u used row a → StillAlikeIn row u (entered_by a used moves key rows)
entered_still t u used moves key rows row alike (Ok (Inserted n)) did = alike_after t u used row alike n did
entered_still t u used moves key rows row alike (Ok Repeat) did = subst (λ (x : Slices). Alike x used row) (sym (alike_kept t u used row (Ok Repeat) did (λ m e. zero_one (cc)))) alike
entered_still t u used moves key rows row alike (Err Collision) did = tt
entered_still t u used moves key rows row alike (Err Full) did = tt

pub still_alike : (t u : Slices) (used moves key rows : ℕ) (row : Row) → Alike t used row → (a : RegisterResult) → RegistersAlike t u used row a → (b : Result Held ElfError) → b ≡ entered_by a used moves key rows → StillAlikeIn row u b
still_alike t u used moves key rows row alike a did b e = subst (StillAlikeIn row u) (sym e) (entered_still t u used moves key rows row alike a did)

-- over a load's outputs
pub still_alike_row : (o : Outputs) (r : MutBor FunctionRegistry) (o' : Outputs) (row : Row) (a : RegisterResult) (res : Result (Unit {0}) ElfError)
    → AlikeIn o row
    → RegistersAlike (columns_of o.registry.now) (columns_of r.now) o.registry.now.used row a
    → o' ≡ moved_by (moves_of a) (record { image = o.image; registry = r; moves = o.moves })
    → held_of res o' ≡ entered_by a o.registry.now.used o.moves row.key (capacity (columns_of o.registry.now))
    → StillAlike row o' res
still_alike_row o r o' row a res alike did moved held =
    subst (λ (u : Slices). StillAlikeIn row u (held_of res o')) (ap (λ (x : Outputs). columns_of x.registry.now) (sym moved))
    (still_alike (columns_of o.registry.now) (columns_of r.now) o.registry.now.used o.moves row.key (capacity (columns_of o.registry.now)) row alike a did (held_of res o') held)

-- ---- a target's row

module _ (builtins : List ℕ) (j : Job) (key index : ℕ) (row : Row) (is : row_under builtins j.version2 j.check_collision j.labels key OfIndex index ≡ Ok row) where
  target_named : row ≡ row_of key index (kept_name j.labels OfIndex)
  unfolding ◌if◌else◌
  target_named = go (is_taken builtins j.version2 j.check_collision key) is
    where
      go : (b : Bool) → (Err (collision key) if b else Ok (row_of key index (kept_name j.labels OfIndex))) ≡ Ok row → row ≡ row_of key index (kept_name j.labels OfIndex)
      go true e = absurd (zero_one (cc))
      go false e = cc

  pub target_alike : (t : Slices) (n : ℕ) → Alike t n (target_row j) → Alike t n row
  target_alike t n =
      let e = sym target_named in
      alike_named t n (target_row j) row (ap (λ (r : Row). r.kind) e) (ap (λ (r : Row). r.start) e) (ap (λ (r : Row). r.length) e)

  pub still_target : (u : Slices) (a : Result Held ElfError) → StillAlikeIn row u a → StillAlikeIn (target_row j) u a
  still_target u (Ok held) h =
      let e = target_named in
      alike_named u held.used row (target_row j) (ap (λ (r : Row). r.kind) e) (ap (λ (r : Row). r.start) e) (ap (λ (r : Row). r.length) e) h
  still_target u (Err r) h = tt

module _ (builtins : List ℕ) (j : Job) (key index : ℕ) (k : key ≡ target_key j index) where
  target_row_lem : row_for builtins j OfIndex index ≡ row_under builtins j.version2 j.check_collision j.labels key OfIndex index
  unfolding row_for legacy_row
  target_row_lem = rw (← k) refl

  pub targets_taken : (at : ℕ) (t : Slices) (used moves : ℕ) → row_under builtins j.version2 j.check_collision j.labels key OfIndex index ≡ Err (collision at)
      → TargetsIn (row_for builtins j OfIndex index) t t used moves (Err (SymbolHashCollision at))
  unfolding settle
  targets_taken at t used moves e im = rw (target_row_lem ∙ e) (record { answers = refl; sound = tt; near = tt })

  pub targets_free : (row : Row) (t u : Slices) (used moves : ℕ) (a : Result Held ElfError) → row_under builtins j.version2 j.check_collision j.labels key OfIndex index ≡ Ok row
      → EntersIn row t u used moves a → TargetsIn (row_for builtins j OfIndex index) t u used moves a
  targets_free row t u used moves a e did im = rw (target_row_lem ∙ e) (did im)

-- ---- a slot, by what it calls

module _ (file builtins : List ℕ) (j : Job) (i : ℕ) (im : List ℕ) where
  pub settles_none : (t : Slices) (used moves : ℕ) → call_at (text_of file j) j.version2 i ≡ Ok None → Ready t used → Settles (slot_trace file builtins j i im) im t t 1 used moves (holding used moves)
  unfolding slot_trace call_deed deed_trace settle
  settles_none t used moves e ready = rw e (record { answers = refl; sound = ready; near = (omega arith, omega arith) })

  pub settles_outside : (t : Slices) (used moves : ℕ) (r : ElfError) → call_at (text_of file j) j.version2 i ≡ Err r → Settles (slot_trace file builtins j i im) im t t 1 used moves (Err r)
  unfolding slot_trace call_deed deed_trace settle
  settles_outside t used moves r e = rw e (record { answers = refl; sound = tt; near = tt })

  module _ (key index : ℕ) (to : call_at (text_of file j) j.version2 i ≡ Ok (Some index)) (k : key ≡ target_key j index) where
    slot_target : slot_trace file builtins j i im ≡ target_trace (row_for builtins j OfIndex index) (put 4 im (immediate j i) key)
    unfolding slot_trace call_deed deed_trace
    slot_target = rw to (go (row_for builtins j OfIndex index) refl)
      where
        go : (L : LegacyResult) → row_for builtins j OfIndex index ≡ L → deed_trace (call_row (immediate j i) L) im ≡ target_trace L (put 4 im (immediate j i) key)
        go (Ok row) e = let same : row.key ≡ key = (row_is builtins j OfIndex index row e).0 ∙ sym k in rw same refl
        go (Err taken) e = refl

    pub settles_target : (im' : List ℕ) (t u : Slices) (used moves : ℕ) (a : Result Held ElfError) → im' ≡ put 4 im (immediate j i) key → TargetsIn (row_for builtins j OfIndex index) t u used moves a
        → Settles (slot_trace file builtins j i im) im' t u 1 used moves a
    settles_target im' t u used moves a w did = rw (slot_target, ← w) (did im')

-- ---- the targets that are remembered

module _ (builtins : List ℕ) (j : Job) where
  -- a target that is known: its registration would be a repeat
  pub targets_known : (index : ℕ) (t : Slices) (used moves : ℕ) → Ready t used → Known builtins j (rows_of t used) index → TargetsIn (row_for builtins j OfIndex index) t t used moves (holding used moves)
  unfolding settle
  targets_known index t used moves ready known im =
      let row = known.0 in
      let held = repeat_held (capacity t) row (rows_of t used) known.2.0 known.2.1 known.2.2 in
      rw known.1 (record { answers = rw (held.0, held.1) refl; sound = ready; near = (omega arith, omega arith) })

  pub known_hit : (rs : List Row) (seen : List ℕ) (index : ℕ) → Seen builtins j rs seen → get_or seen (index % 1024) 0 ≡ index + 1 → Known builtins j rs index
  known_hit rs seen index h e = let s : index + 1 ≡ suc index = omega arith in h (index % 1024) index (e ∙ s)

  known_stays : (cap : ℕ) (row : Row) (rs : List Row) (v : ℕ) → Known builtins j rs v → Known builtins j (registered cap row rs) v
  known_stays cap row rs v h = (h.0, h.1, (h.2.0, find_stays cap row rs _ h.2.0 h.2.1, h.2.2))

  seen_more : (cap index : ℕ) (row : Row) (rs : List Row) (seen : List ℕ) → 1024 ≤ length seen → row_for builtins j OfIndex index ≡ Ok row → Repeats row (registered cap row rs)
      → Seen builtins j rs seen → Seen builtins j (registered cap row rs) (set seen (index % 1024) (index + 1))
  seen_more cap index row rs seen long e rep h k v is = go (ℕ_discrete k (index % 1024))
    where
      go : Dec (k ≡ index % 1024) → Known builtins j (registered cap row rs) v
      go (yes at) =
          let inside : index % 1024 < length seen = omega arith in
          let here : index + 1 ≡ suc v = sym (get_or-set_same seen (index % 1024) (index + 1) 0 inside) ∙ rw at at is in
          let same : index ≡ v = omega arith in
          subst (Known builtins j (registered cap row rs)) same (row, e, rep)
      go (no other) = known_stays cap row rs v (h k v (sym (get_or-set_other seen (index % 1024) k (index + 1) 0 other) ∙ is))

  -- a target that was registered is known, and what was known still is
  module _ (index : ℕ) (seen : List ℕ) (t u : Slices) (used moves : ℕ) (held : CallsHeld builtins j seen t used) (long : length seen ≡ 1024) where
    rows_known : (used' moves' : ℕ) → TargetsIn (row_for builtins j OfIndex index) t u used moves (holding used' moves') → Seen builtins j (rows_of u used') (set seen (index % 1024) (index + 1))
    unfolding settle
    rows_known used' moves' did = go (row_for builtins j OfIndex index) refl (did seen).answers
      where
        by_answer : (row : Row) → row_for builtins j OfIndex index ≡ Ok row → (x : RegisterResult) → table.register (capacity t) row (rows_of t used) ≡ x
            → accepted seen (rows_of u used') moves' ≡ on_registered x (capacity t) row.key moves (λ (n : ℕ). accepted seen (registered (capacity t) row (rows_of t used)) n)
            → Seen builtins j (rows_of u used') (set seen (index % 1024) (index + 1))
        by_answer row e (Ok (Inserted n)) is a =
            let rs : rows_of u used' ≡ registered (capacity t) row (rows_of t used) = cc in
            rw rs (seen_more (capacity t) index row (rows_of t used) seen (omega (arith, long)) e (find_registered_same (capacity t) row (rows_of t used) (λ h. zero_one (cc)) (λ h. zero_one (cc))) held.known)
        by_answer row e (Ok Repeat) is a =
            let rs : rows_of u used' ≡ registered (capacity t) row (rows_of t used) = cc in
            rw rs (seen_more (capacity t) index row (rows_of t used) seen (omega (arith, long)) e (find_registered_same (capacity t) row (rows_of t used) (λ h. zero_one (cc)) (λ h. zero_one (cc))) held.known)
        by_answer row e (Err Collision) is a = absurd (zero_one (cc))
        by_answer row e (Err Full) is a = absurd (zero_one (cc))

        go : (L : LegacyResult) → row_for builtins j OfIndex index ≡ L → accepted seen (rows_of u used') moves' ≡ settle (capacity t) (target_trace L seen) (rows_of t used) moves → Seen builtins j (rows_of u used') (set seen (index % 1024) (index + 1))
        go (Ok row) e a = by_answer row e (table.register (capacity t) row (rows_of t used)) refl a
        go (Err taken) e a = absurd (zero_one (cc))

    pub held_after : (a : Result Held ElfError) → TargetsIn (row_for builtins j OfIndex index) t u used moves a → StillAlikeIn (target_row j) u a → StillHeldIn builtins j (set seen (index % 1024) (index + 1)) u a
    held_after (Ok kept) did still = record { known = rows_known kept.used kept.moves did; alike = still }
    held_after (Err r) did still = tt

-- nothing is remembered at the start, and there are no rows
pub none_held : (builtins : List ℕ) (j : Job) (t : Slices) (n : ℕ) → CallsHeld builtins j (replicate n 0) t 0
none_held builtins j t n = record {
  known = λ k v e. absurd (zeros n k v e);
  alike = alike_none t (target_row j);
}
  where
    zeros : (n k v : ℕ) → get_or (replicate n 0) k 0 ≡ suc v → ⊥
    zeros zero k v e = zero_one (cc)
    zeros (suc n) zero v e = zero_one (cc)
    zeros (suc n) (suc k) v e = zeros n k v e
