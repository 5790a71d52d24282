-- A removal's answer, with the rows and the moves up to there: what it makes of the rest of a trace. Assumes nothing.
use mathlib.Core.Path.{◌≡◌, refl, sym, ap, ap₂}
use mathlib.Core.List.{List}
use Prim.Native.Nat.{ℕ, ◌+◌, ◌≤◌, ◌<◌, ◌^◌}
use native.Mathlib.Omega.{arith}
use mir.Syntax.{w64}
use mir.Val.{Fits}
use Rattle.std.specs.Prelude.{Option, Some, None}
use Rattle.std.specs.Option.{unwrap_or}
use Rattle.ebpf.specs.Murmur3.{murmur3}
use Rattle.program.specs.declared.Row.{Row}
use Rattle.program.specs.HashedLegacy.{entrypoint}
use Rattle.program.specs.Rows.{remove, unregister}
use Rattle.program.specs.Runs.{moves_gone}
use Rattle.program.specs.declared.FunctionRegistry.{FunctionRegistry}
use Rattle.program.specs.Table.{Slices, SameLens, columns_of, used_without, rows_of, Removal, Unregisters}
use Rattle.program.proofs.Rows.{remove_missing}
use Rattle.program.proofs.Laws.{absent_iff}
use Rattle.program.proofs.Keys.{entrypoint_key}
use Rattle.program.proofs.Tables.{counted_ready, unregisters_ready, after_gone, after_absent, same_removed}
use Rattle.loader.specs.Deeds.{Held}
use Rattle.loader.specs.declared.error.ElfError.{ElfError}
use Rattle.std.specs.Prelude.{Result}
use Rattle.loader.specs.Deeds.{holding}
use Rattle.loader.specs.Trace.{done, forget, accepted, settle}
use Rattle.loader.specs.Entry.{forgotten_by}
use Rattle.loader.specs.declared.deeds.Outputs.{Outputs}
use Rattle.loader.specs.InnerContracts.{Begins, BeginsIn, Settles}

-- version 2 forgets nothing
pub forgets_nothing : (t : Slices) (used moves : ℕ) (im : List ℕ) → BeginsIn 1 t used moves → Settles (done im) im t t 1 used moves (holding used moves)
unfolding settle
forgets_nothing t used moves im b = record { answers = refl; sound = b.ready; near = (omega arith, omega arith) }

module _ (t u : Slices) (used moves : ℕ) (begins : BeginsIn 1 t used moves) where
  few : (k m : ℕ) → Removal t u used k (Some m) → m < used
  few k m did = (after_gone t u used k begins.ready m did).1

  moves_few : (k : ℕ) (a : Option ℕ) → Removal t u used k a → unwrap_or a 0 ≤ used
  moves_few k (Some m) did = omega (arith, few k m did)
  moves_few k None did = omega arith

  -- the sum of the moves does not wrap
  pub gone_sums : (k : ℕ) (a : Option ℕ) → Unregisters t u used k a → moves + unwrap_or a 0 < 2 ^ 64
  gone_sums k a did = omega (arith, moves_few k a (unregisters_ready t used begins.ready u k a did), begins.room.few, begins.room.moved)

  forgets_by : (k : ℕ) (a : Option ℕ) → Removal t u used k a → (im : List ℕ) → Settles (forget k (done im)) im t u 1 used moves (forgotten_by a used moves)
  unfolding settle
  forgets_by k (Some m) did im =
      let is = after_gone t u used k begins.ready m did in
      let moved : m ≡ moves_gone (unregister k (rows_of t used)) = ap moves_gone did.answers in
      record {
        answers = ap₂ (λ (rs : List Row) (n : ℕ). accepted im rs n) is.0.rows_are (ap (λ (n : ℕ). moves + n) moved);
        sound = is.0.ready;
        near = (omega arith, omega (arith, is.1, begins.room.few));
      }
  forgets_by k None did im =
      let same : u ≡ t = after_absent t u used k begins.ready did in
      let kept : remove k (rows_of t used) ≡ rows_of t used = remove_missing k (rows_of t used) ((absent_iff k (rows_of t used)).0 (sym did.answers)) in
      let moved : 0 ≡ moves_gone (unregister k (rows_of t used)) = ap moves_gone did.answers in
      let none : moves ≡ moves + moves_gone (unregister k (rows_of t used)) = omega arith in
      record {
        answers = rw same (ap₂ (λ (rs : List Row) (n : ℕ). accepted im rs n) (sym kept) none);
        sound = rw same begins.ready;
        near = (omega arith, omega arith);
      }

  pub forgets : (a : Option ℕ) (b : Result Held ElfError) → Unregisters t u used 0x71e3cf81 a → b ≡ forgotten_by a used moves → (im : List ℕ) → Settles (forget (murmur3 entrypoint) (done im)) im t u 1 used moves b
  forgets a b did e im =
      rw (e, entrypoint_key) (forgets_by 0x71e3cf81 a (unregisters_ready t used begins.ready u 0x71e3cf81 a did) im)

-- the outputs after a removal from their table
module _ (o : Outputs) (r : FunctionRegistry) (a : Option ℕ) (begins : Begins 1 o) (did : Unregisters (columns_of o.registry.now) (columns_of r) o.registry.now.used 0x71e3cf81 a) where
  pub lens_row : SameLens (columns_of o.registry.now) (columns_of r)
  lens_row =
      same_removed (columns_of o.registry.now) (columns_of r) o.registry.now.used 0x71e3cf81 begins.ready a
      (unregisters_ready (columns_of o.registry.now) o.registry.now.used begins.ready (columns_of r) 0x71e3cf81 a did)

  -- the sum of the moves does not wrap
  pub gone_fit : (n : ℕ) → n ≡ unwrap_or a 0 → Fits w64 (o.moves + n)
  gone_fit n e = rw e record { fits = gone_sums (columns_of o.registry.now) (columns_of r) o.registry.now.used o.moves begins 0x71e3cf81 a did }

  -- all rows of a table count
  used_row : r.used ≡ used_without (columns_of o.registry.now) o.registry.now.used a → holding r.used (o.moves + unwrap_or a 0) ≡ forgotten_by a o.registry.now.used o.moves
  used_row u = go a u
    where
      go : (a : Option ℕ) → r.used ≡ used_without (columns_of o.registry.now) o.registry.now.used a → holding r.used (o.moves + unwrap_or a 0) ≡ forgotten_by a o.registry.now.used o.moves
      go (Some n) u = rw (u, counted_ready (columns_of o.registry.now) o.registry.now.used begins.ready) refl
      go None u = let e : o.moves + 0 ≡ o.moves = omega arith in rw (u, e) refl

  pub forgets_row : r.used ≡ used_without (columns_of o.registry.now) o.registry.now.used a → (n : ℕ) → n ≡ unwrap_or a 0 → (im : List ℕ)
      → Settles (forget (murmur3 entrypoint) (done im)) im (columns_of o.registry.now) (columns_of r) 1 o.registry.now.used o.moves (holding r.used (o.moves + n))
  forgets_row u n e = rw e (forgets (columns_of o.registry.now) (columns_of r) o.registry.now.used o.moves begins a _ did (used_row u))
