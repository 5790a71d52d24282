-- What the inner functions of this crate ask and promise; the public ones ask nothing.
use Rattle.ebpf.specs.Murmur3.{murmur3}
use Rattle.program.specs.HashedLegacy.{entrypoint}
use Rattle.program.specs.Rows.{RegisterResult}
use Rattle.program.specs.declared.RegisterError.TheVariants.{Collision, Full}
use Rattle.program.specs.declared.Registered.TheVariants.{Inserted, Repeat}
use Rattle.std.specs.Prelude.{ℕ, ◌+◌, ◌*◌, ◌≤◌, ◌^◌, ◌≡◌, List, length, Ok, Err, Result}
use Rattle.program.specs.declared.Row.{Row}
use Rattle.program.specs.Table.{Slices, SameLens, SameColumns, columns_of, capacity, rows_of, Ready}
use Rattle.loader.specs.declared.error.ElfError.TheVariants.{SymbolHashCollision, TableFull}
use Rattle.loader.specs.declared.deeds.Outputs.{Outputs}
use Rattle.loader.specs.declared.inputs.Inputs.{Inputs}
use Rattle.loader.specs.declared.error.ElfError.{ElfError}
use Rattle.loader.specs.Deeds.{Held, holding}
use Rattle.loader.specs.Trace.{Trace, done, register, forget, Settled, accepted, refused, settle}

-- a registration's answer, as the load's
abbrev pub entered_as : RegisterResult → ℕ → ℕ → Result (Unit {0}) ElfError
entered_as (Ok a) key rows = Ok tt
entered_as (Err Collision) key rows = Err (SymbolHashCollision key)
entered_as (Err Full) key rows = Err (TableFull rows)

-- the same, with the rows and moves up to there
abbrev pub entered_by : RegisterResult → ℕ → ℕ → ℕ → ℕ → Result Held ElfError
entered_by (Ok (Inserted n)) used moves key rows = holding (used + 1) (moves + n)
entered_by (Ok Repeat) used moves key rows = holding used moves
entered_by (Err Collision) used moves key rows = Err (SymbolHashCollision key)
entered_by (Err Full) used moves key rows = Err (TableFull rows)

-- what came of a trace, as an answer, an image and a table say it
abbrev pub outcome : Result Held ElfError → List ℕ → Slices → Settled
outcome (Ok held) im t = accepted im (rows_of t held.used) held.moves
outcome (Err r) im t = refused r

-- where the load goes on, the used rows ascend and the rest is zero
abbrev pub Sound : Result Held ElfError → Slices → Type 0
Sound (Ok held) t = Ready t held.used
Sound (Err r) t = Unit {0}

-- no sum wraps: at most n rows more, each with at most 2 ^ 26 moves
abbrev pub Near : ℕ → ℕ → ℕ → Result Held ElfError → Type 0
Near n used moves (Ok held) = (held.used ≤ used + n) × (held.moves ≤ moves + n * 2 ^ 26)
Near n used moves (Err r) = Unit {0}

-- room for n registrations more: no sum wraps
pub record Room (n used moves : ℕ) : Type 0 where
  pub few : used + n ≤ 2 ^ 26
  pub moved : moves + n * 2 ^ 26 ≤ 2 ^ 60

-- what a part of a load is handed: the slices are a table, and there is room for n registrations more
pub record BeginsIn (n : ℕ) (t : Slices) (used moves : ℕ) : Type 0 where
  pub ready : Ready t used
  pub room : Room n used moves

-- WHAT A PART OF A LOAD LEAVES: the answer, the image and the table are what the trace settles to
pub record Settles (trace : Trace) (im' : List ℕ) (t t' : Slices) (n used moves : ℕ) (a : Result Held ElfError) : Type 0 where
  pub answers : outcome a im' t' ≡ settle (capacity t) trace (rows_of t used) moves
  pub sound : Sound a t'
  pub near : Near n used moves a

-- ---- over a load's outputs, at the call and on return

-- an answer, with the rows and moves that the outputs hold
abbrev pub held_of : Result (Unit {0}) ElfError → Outputs → Result Held ElfError
held_of (Ok tt) o = holding o.registry.now.used o.moves
held_of (Err r) o = Err r

-- n moves more
abbrev pub moved_by : ℕ → Outputs → Outputs
moved_by n o = record { image = o.image; registry = o.registry; moves = o.moves + n }

-- they are still the slices that they were, as long as they were, whatever they hold now
pub record Keeps (o o' : Outputs) : Type 0 where
  pub image_is : o'.image.ghost_name ≡ o.image.ghost_name
  pub image_as : length o'.image.now ≡ length o.image.now
  pub registry_is : o'.registry.ghost_name ≡ o.registry.ghost_name
  pub table_is : SameColumns o.registry.now o'.registry.now
  pub table_as : SameLens (columns_of o.registry.now) (columns_of o'.registry.now)

abbrev pub Begins : ℕ → Outputs → Type 0
Begins n o = BeginsIn n (columns_of o.registry.now) o.registry.now.used o.moves

-- the same, with no row
abbrev pub Starts : ℕ → Outputs → Type 0
Starts n o = Begins n o × (o.registry.now.used ≡ 0)

-- what a trace leaves, with this image
abbrev pub SettlesAs : Trace → List ℕ → ℕ → Outputs → Outputs → Result (Unit {0}) ElfError → Type 0
SettlesAs trace im' n o o' a = Settles trace im' (columns_of o.registry.now) (columns_of o'.registry.now) n o.registry.now.used o.moves (held_of a o')

-- with the outputs' own
abbrev pub SettlesTo : Trace → ℕ → Outputs → Outputs → Result (Unit {0}) ElfError → Type 0
SettlesTo trace n o o' a = SettlesAs trace o'.image.now n o o' a

-- one row more, whatever the image
abbrev pub Enters : Row → Outputs → Outputs → Result (Unit {0}) ElfError → Type 0
Enters row o o' a = (im : List ℕ) → SettlesAs (register row (done im)) im 1 o o' a

-- the key of the name entrypoint forgotten, whatever the image
abbrev pub Forgets : Outputs → Outputs → Type 0
Forgets o o' = (im : List ℕ) → SettlesAs (forget (murmur3 entrypoint) (done im)) im 1 o o' (Ok tt)

-- what a part of a load asks: an image as long as the file, and room for n registrations more
abbrev pub PartAsks : ℕ → Inputs → Outputs → Type 0
PartAsks n i o = (length o.image.now ≡ length i.file.now) × Begins n o

-- the same of the first, before which there is no row
abbrev pub FirstAsks : ℕ → Inputs → Outputs → Type 0
FirstAsks n i o = (length o.image.now ≡ length i.file.now) × Starts n o
