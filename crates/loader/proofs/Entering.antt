-- A registration's answer, with the rows and the moves up to there: what it makes of the rest of a trace. For every part of a load.
-- Assumes nothing.
use mathlib.Core.Path.{◌≡◌, refl, sym, ap, subst, ◌∙◌}
use mathlib.Core.List.{List}
use Prim.Native.Nat.{ℕ, ◌+◌, ◌≤◌, ◌<◌, ◌^◌}
use native.Mathlib.Omega.{arith}
use lib.ListN.{length}
use Rattle.program.specs.declared.RegisterError.TheVariants.{Collision, Full}
use Rattle.program.specs.declared.Registered.TheVariants.{Inserted, Repeat}
use Rattle.std.specs.Prelude.{Ok, Err}
use Rattle.program.specs.declared.Row.{Row}
use Rattle.program.specs.Table.{Slices, SameColumns, SameLens, columns_of, capacity, rows_of, Registers, Registration, used_after}
use Rattle.program.specs.Rows.{register, registered, RegisterResult}
use Rattle.program.specs.Runs.{moves_of}
use Rattle.program.proofs.Cases.{zero_one}
use Rattle.program.proofs.Laying.{length_rows}
use Rattle.program.proofs.Laws.{kept_rows, more_rows}
use Rattle.program.proofs.Tables.{registers_ready, ready_after, rows_after_lem, same_after, capacity_same}
use Rattle.loader.specs.declared.error.ElfError.{ElfError}
use Rattle.loader.specs.declared.error.ElfError.TheVariants.{SymbolHashCollision, TableFull}
use Rattle.loader.specs.Deeds.{Held}
use Rattle.std.specs.Prelude.{Result, Ok, Err}
use Rattle.loader.specs.Trace.{Settled, done, refused, on_registered, settle}
use Rattle.loader.specs.Trace as trace
use Rattle.loader.specs.declared.deeds.Outputs.{Outputs}
use Rattle.std.specs.Borrow.{MutBor}
use Rattle.program.specs.declared.FunctionRegistry.{FunctionRegistry}
use Rattle.loader.specs.InnerContracts.{entered_as, entered_by, moved_by, held_of, Begins, BeginsIn, Keeps, Enters, Settles}

-- one row more, whatever the image
abbrev pub EntersIn : Row → Slices → Slices → ℕ → ℕ → Result Held ElfError → Type 0
EntersIn row t t' used moves a = (im : List ℕ) → Settles (trace.register row (done im)) im t t' 1 used moves a

-- the answer, with the rows and moves that the outputs hold then
pub entered_held : (a : RegisterResult) (used moves key rows : ℕ) (o : Outputs) → o.registry.now.used ≡ used_after used a → o.moves ≡ moves + moves_of a → held_of (entered_as a key rows) o ≡ entered_by a used moves key rows
entered_held (Ok (Inserted n)) used moves key rows o u m = rw (u, m) refl
entered_held (Ok Repeat) used moves key rows o u m = let m' : o.moves ≡ moves = omega (arith, m) in rw (u, m') refl
entered_held (Err Collision) used moves key rows o u m = refl
entered_held (Err Full) used moves key rows o u m = refl

-- a registration that is held: the rest goes on with its moves
held_on : (a : RegisterResult) (used moves key rows : ℕ) (held : Held) (k : ℕ → Settled) → entered_by a used moves key rows ≡ Ok held → on_registered a rows key moves k ≡ k held.moves
held_on (Ok (Inserted n)) used moves key rows held k e = let m : moves + n ≡ held.moves = cc in ap k m
held_on (Ok Repeat) used moves key rows held k e = let m : moves ≡ held.moves = cc in ap k m
held_on (Err Collision) used moves key rows held k e = absurd (zero_one (cc))
held_on (Err Full) used moves key rows held k e = absurd (zero_one (cc))

-- one that is refused: the rest does not matter
held_not : (a : RegisterResult) (used moves key rows : ℕ) (r : ElfError) (k : ℕ → Settled) → entered_by a used moves key rows ≡ Err r → on_registered a rows key moves k ≡ refused r
held_not (Ok (Inserted n)) used moves key rows r k e = absurd (zero_one (cc))
held_not (Ok Repeat) used moves key rows r k e = absurd (zero_one (cc))
held_not (Err Collision) used moves key rows r k e = let m : SymbolHashCollision key ≡ r = cc in ap refused m
held_not (Err Full) used moves key rows r k e = let m : TableFull rows ≡ r = cc in ap refused m

-- how many rows there are then, and how many moved
pub record Grown (cap : ℕ) (r : Row) (rs : List Row) (moves used' moves' : ℕ) : Type 0 where
  pub rows_now : length (registered cap r rs) ≡ used'
  pub one_more : used' ≤ length rs + 1
  pub few_moved : moves' ≤ moves + length rs

grown : (a : RegisterResult) (cap : ℕ) (r : Row) (rs : List Row) (moves key rows : ℕ) (held : Held) → a ≡ register cap r rs → entered_by a (length rs) moves key rows ≡ Ok held → Grown cap r rs moves held.used held.moves
grown (Ok (Inserted n)) cap r rs moves key rows held is e =
    let u : length rs + 1 ≡ held.used = cc in
    let m : moves + n ≡ held.moves = cc in
    let both = more_rows cap r rs n (sym is) in
    record { rows_now = omega (arith, both.0); one_more = omega arith; few_moved = omega (arith, both.1) }
grown (Ok Repeat) cap r rs moves key rows held is e =
    let u : length rs ≡ held.used = cc in
    let m : moves ≡ held.moves = cc in
    let same = kept_rows cap r rs (λ n h. zero_one (cc)) in
    record { rows_now = ap length same ∙ u; one_more = omega arith; few_moved = omega arith }
grown (Err Collision) cap r rs moves key rows held is e = absurd (zero_one (cc))
grown (Err Full) cap r rs moves key rows held is e = absurd (zero_one (cc))

moved_at_most : (a : RegisterResult) (cap : ℕ) (r : Row) (rs : List Row) → a ≡ register cap r rs → moves_of a ≤ length rs
moved_at_most (Ok (Inserted n)) cap r rs is = (more_rows cap r rs n (sym is)).1
moved_at_most (Ok Repeat) cap r rs is = omega arith
moved_at_most (Err Collision) cap r rs is = omega arith
moved_at_most (Err Full) cap r rs is = omega arith

-- the slices after a registration
module _ (t u : Slices) (used moves : ℕ) (row : Row) (a : RegisterResult) (begins : BeginsIn 1 t used moves) (did : Registration t u used row a) where
  entering : (b : Result Held ElfError) → entered_by a used moves row.key (capacity t) ≡ b → EntersIn row t u used moves b
  unfolding settle
  entering (Ok held) e im =
      let g = grown a (capacity t) row (rows_of t used) moves row.key (capacity t) held did.answers (rw (length_rows t used) e) in
      let l = length_rows t used in
      let rs : rows_of u held.used ≡ registered (capacity t) row (rows_of t used) = rw g.rows_now at (rows_after_lem t u used row a begins.ready did) in
      record {
        answers = rw (rs, ← did.answers) (sym (held_on a used moves row.key (capacity t) held _ e));
        sound = rw g.rows_now at (ready_after t u used row a begins.ready did);
        near = (omega (arith, g.one_more, l), omega (arith, g.few_moved, l, begins.room.few));
      }
  entering (Err r) e im = record { answers = rw (← did.answers) (sym (held_not a used moves row.key (capacity t) r _ e)); sound = tt; near = tt }

  pub enters : (b : Result Held ElfError) → b ≡ entered_by a used moves row.key (capacity t) → EntersIn row t u used moves b
  enters b e = entering b (sym e)

-- the sum of `entered` does not wrap
pub moves_fit : (t u : Slices) (used moves : ℕ) (row : Row) (a : RegisterResult) → BeginsIn 1 t used moves → Registers t u used row a → moves + moves_of a < 2 ^ 64
moves_fit t u used moves row a begins did =
    let m : moves_of a ≤ used = rw (length_rows t used) at (moved_at_most a (capacity t) row (rows_of t used) (registers_ready t used begins.ready u row a did).answers) in
    omega (arith, begins.room.few, begins.room.moved)

-- the outputs after a registration in their table
module _ (o : Outputs) (r : MutBor FunctionRegistry) (o' : Outputs) (row : Row) (a : RegisterResult) (res : Result (Unit {0}) ElfError)
    (begins : Begins 1 o) (registers : Registers (columns_of o.registry.now) (columns_of r.now) o.registry.now.used row a) (used : r.now.used ≡ used_after o.registry.now.used a)
    (moved : o' ≡ moved_by (moves_of a) (record { image = o.image; registry = r; moves = o.moves }))
    (answers : res ≡ entered_as a row.key (capacity (columns_of r.now))) where
  did : Registration (columns_of o.registry.now) (columns_of r.now) o.registry.now.used row a
  did = registers_ready (columns_of o.registry.now) o.registry.now.used begins.ready (columns_of r.now) row a registers

  lens : SameLens (columns_of o.registry.now) (columns_of r.now)
  lens = same_after (columns_of o.registry.now) (columns_of r.now) o.registry.now.used row a begins.ready did

  pub held_row : held_of res o' ≡ entered_by a o.registry.now.used o.moves row.key (capacity (columns_of o.registry.now))
  held_row =
      rw (moved, answers, ← capacity_same (columns_of o.registry.now) (columns_of r.now) lens)
      (entered_held a o.registry.now.used o.moves row.key (capacity (columns_of r.now)) (moved_by (moves_of a) (record { image = o.image; registry = r; moves = o.moves })) used refl)

  pub keeps_row : r.ghost_name ≡ o.registry.ghost_name → SameColumns o.registry.now r.now → Keeps o o'
  keeps_row is same = rw moved (record { image_is = refl; image_as = refl; registry_is = is; table_is = same; table_as = lens })

  pub enters_row : Enters row o o' res
  enters_row im =
      let b : Result Held ElfError = held_of res o' in
      subst (λ (u : Slices). Settles (trace.register row (done im)) im (columns_of o.registry.now) u 1 o.registry.now.used o.moves b) (ap (λ (x : Outputs). columns_of x.registry.now) (sym moved))
      (enters (columns_of o.registry.now) (columns_of r.now) o.registry.now.used o.moves row a begins did b held_row im)
