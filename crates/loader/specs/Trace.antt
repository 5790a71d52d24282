-- What a file asks of a load, in order, and what comes of it in a table.
use Rattle.program.specs.declared.RegisterError.TheVariants.{Collision, Full}
use Rattle.program.specs.declared.Registered.TheVariants.{Inserted, Repeat}
use Rattle.std.specs.Prelude.{ℕ, zero, suc, ◌+◌, ◌≡◌, refl, List, Ok, Err}
use Rattle.std.proofs.Common.{ap}
use Rattle.std.proofs.Math.Path.{fun_ext}
use Rattle.program.specs.declared.Row.{Row}
use Rattle.program.specs.Rows.{registered, remove, unregister, RegisterResult}
use Rattle.program.specs.Runs.{moves_gone}
use Rattle.program.specs.Rows as table
use Rattle.loader.specs.declared.error.ElfError.{ElfError}
use Rattle.loader.specs.declared.error.ElfError.TheVariants.{SymbolHashCollision, TableFull}

-- what the file asks for, in order; the table has no part in it
pub data Trace : Type 0 where
  -- nothing is left, and this is the image
  done : List ℕ → Trace
  -- a refusal by a check that does not look at the table; a collision with a built-in's key is one
  stop : ElfError → Trace
  -- a function is registered
  register : Row → Trace → Trace
  -- the row under a key goes
  forget : ℕ → Trace → Trace

-- one part of a trace after another, which is handed the image
unfoldable pub and_then : Trace → (List ℕ → Trace) → Trace
and_then (done im) k = k im
and_then (stop r) k = stop r
and_then (register row t) k = register row (and_then t k)
and_then (forget key t) k = forget key (and_then t k)

-- n parts of one kind, numbered from i on
unfoldable pub each : (ℕ → List ℕ → Trace) → ℕ → ℕ → List ℕ → Trace
each step zero i im = done im
each step (suc n) i im = and_then (step i im) (λ (im' : List ℕ). each step n (i + 1) im')

-- what comes of a trace
pub data Settled : Type 0 where
  -- the image, the rows and the moves in all
  accepted : List ℕ → List Row → ℕ → Settled
  refused : ElfError → Settled

-- after a registration: its refusal, or what follows, with its moves
abbrev pub on_registered : RegisterResult → ℕ → ℕ → ℕ → (ℕ → Settled) → Settled
on_registered (Ok (Inserted n)) capacity key m k = k (m + n)
on_registered (Ok Repeat) capacity key m k = k m
on_registered (Err Collision) capacity key m k = refused (SymbolHashCollision key)
on_registered (Err Full) capacity key m k = refused (TableFull capacity)

-- a trace in a table of `capacity` rows that holds `rows`, after m moves
unfoldable pub settle : ℕ → Trace → List Row → ℕ → Settled
settle capacity (done im) rows m = accepted im rows m
settle capacity (stop r) rows m = refused r
settle capacity (register row t) rows m =
    on_registered (table.register capacity row rows) capacity row.key m (λ (n : ℕ). settle capacity t (registered capacity row rows) n)
settle capacity (forget key t) rows m = settle capacity t (remove key rows) (m + moves_gone (unregister key rows))

-- what follows what was accepted
abbrev pub on_settled : Settled → (List ℕ → List Row → ℕ → Settled) → Settled
on_settled (accepted im rows m) k = k im rows m
on_settled (refused r) k = refused r

on_registered_then : (a : RegisterResult) (capacity key m : ℕ) (k : ℕ → Settled) (j : List ℕ → List Row → ℕ → Settled)
    → on_registered a capacity key m (λ (n : ℕ). on_settled (k n) j) ≡ on_settled (on_registered a capacity key m k) j
on_registered_then (Ok (Inserted n)) capacity key m k j = refl
on_registered_then (Ok Repeat) capacity key m k j = refl
on_registered_then (Err Collision) capacity key m k j = refl
on_registered_then (Err Full) capacity key m k j = refl

-- a trace in two parts settles as the first and then, with what it left, the second
pub settle_and_then : (capacity : ℕ) (t : Trace) (k : List ℕ → Trace) (rows : List Row) (m : ℕ)
    → settle capacity (and_then t k) rows m ≡ on_settled (settle capacity t rows m) (λ (im : List ℕ) (rows' : List Row) (m' : ℕ). settle capacity (k im) rows' m')
unfolding settle and_then
settle_and_then capacity (done im) k rows m = refl
settle_and_then capacity (stop r) k rows m = refl
settle_and_then capacity (register row t) k rows m =
    rw (← on_registered_then (table.register capacity row rows) capacity row.key m (λ (n : ℕ). settle capacity t (registered capacity row rows) n) (λ (im : List ℕ) (rows' : List Row) (m' : ℕ). settle capacity (k im) rows' m'))
    (ap (on_registered (table.register capacity row rows) capacity row.key m) (fun_ext (λ n. settle_and_then capacity t k (registered capacity row rows) n)))
settle_and_then capacity (forget key t) k rows m = settle_and_then capacity t k (remove key rows) (m + moves_gone (unregister key rows))
