-- What a loop over the slots of a text keeps, and what a run of slots leads to.
use Rattle.std.specs.Prelude.{ℕ, suc, ◌+◌, ◌-◌, ◌*◌, ◌≤◌, ◌<◌, ◌≡◌, List, [], ◌++◌, get_or, take, drop, Ok, Err, Result}
use Rattle.program.specs.declared.Row.{Row}
use Rattle.program.specs.declared.FunctionName.TheVariants.{OfIndex}
use Rattle.program.specs.HashedLegacy.{LegacyResult, legacy_key, kept_name, row_of}
use Rattle.program.specs.Rows.{Repeats}
use Rattle.program.specs.Table.{Slices, columns_of, capacity, rows_of, Alike}
use Rattle.loader.specs.declared.error.ElfError.TheVariants.{SymbolHashCollision}
use Rattle.loader.specs.declared.validate.Job.{Job}
use Rattle.loader.specs.declared.deeds.Outputs.{Outputs}
use Rattle.loader.specs.declared.inputs.Inputs.{Inputs}
use Rattle.loader.specs.declared.error.ElfError.{ElfError}
use Rattle.loader.specs.Calls.{slot_count, slot_trace}
use Rattle.loader.specs.Functions.{row_for}
use Rattle.loader.specs.Trace.{Trace, done, stop, register, each, Settled, refused, settle}
use Rattle.loader.specs.Deeds.{Held}
use Rattle.loader.specs.InnerContracts.{Begins, PartAsks, Sound, Near, held_of, SettlesAs}

-- an image whose bytes from q on are still the file's
abbrev pub ahead : ℕ → List ℕ → List ℕ → List ℕ
ahead q im file = take q im ++ drop q file

-- a target's key: in version 2 its index
abbrev pub target_key : Job → ℕ → ℕ
target_key j index = legacy_key [] j.version2 OfIndex index

-- a row with the name that every call's target has
abbrev pub target_row : Job → Row
target_row j = row_of 0 0 (kept_name j.labels OfIndex)

-- a target's row is there: a call to it asks for nothing more
abbrev pub Known : List ℕ → Job → List Row → ℕ → Type 0
Known builtins j rs v = (row : Row) × (row_for builtins j OfIndex v ≡ Ok row) × Repeats row rs

-- a place of `seen` holds 0, or a target plus 1; each such target is known
abbrev pub Seen : List ℕ → Job → List Row → List ℕ → Type 0
Seen builtins j rs seen = (k v : ℕ) → get_or seen k 0 ≡ suc v → Known builtins j rs v

-- what the loop keeps beside the table: the targets that are remembered, and that no row has a name of its own
pub record CallsHeld (builtins : List ℕ) (j : Job) (seen : List ℕ) (t : Slices) (used : ℕ) : Type 0 where
  pub known : Seen builtins j (rows_of t used) seen
  pub alike : Alike t used (target_row j)

-- the same of an answer, where it holds; and of the names alone
abbrev pub StillHeldIn : List ℕ → Job → List ℕ → Slices → Result Held ElfError → Type 0
StillHeldIn builtins j seen t (Ok held) = CallsHeld builtins j seen t held.used
StillHeldIn builtins j seen t (Err r) = Unit {0}

abbrev pub StillAlikeIn : Row → Slices → Result Held ElfError → Type 0
StillAlikeIn row t (Ok held) = Alike t held.used row
StillAlikeIn row t (Err r) = Unit {0}

-- a target's registration, or its collision with a built-in
abbrev pub target_trace : LegacyResult → List ℕ → Trace
target_trace (Ok row) im = register row (done im)
target_trace (Err taken) im = stop (SymbolHashCollision taken.key)

abbrev pub leads_to : Result Held ElfError → (ℕ → ℕ → Settled) → Settled
leads_to (Ok held) k = k held.used held.moves
leads_to (Err r) k = refused r

-- A RUN OF PARTS, of n in all: with what was held before it, the parts from number i on settle to what those from k on settle to
-- with what is held behind it
pub record Leads (step : ℕ → List ℕ → Trace) (n i k : ℕ) (im im' : List ℕ) (t t' : Slices) (used moves : ℕ) (a : Result Held ElfError) : Type 0 where
  pub answers :
      settle (capacity t) (each step (n - i) i im) (rows_of t used) moves
      ≡ leads_to a (λ (used' moves' : ℕ). settle (capacity t') (each step (n - k) k im') (rows_of t' used') moves')
  pub sound : Sound a t'
  pub near : Near (k - i) used moves a

-- ---- over a load's outputs, at the call and on return

-- every row has the row's name
abbrev pub AlikeIn : Outputs → Row → Type 0
AlikeIn o row = Alike (columns_of o.registry.now) o.registry.now.used row

-- and still has, where the answer holds
abbrev pub StillAlike : Row → Outputs → Result (Unit {0}) ElfError → Type 0
StillAlike row o' a = StillAlikeIn row (columns_of o'.registry.now) (held_of a o')

-- what the loop keeps, and still keeps
abbrev pub Holds : Inputs → List ℕ → Outputs → Type 0
Holds i seen o = CallsHeld i.builtins.now i.job seen (columns_of o.registry.now) o.registry.now.used

abbrev pub StillHeld : Inputs → List ℕ → Outputs → Result (Unit {0}) ElfError → Type 0
StillHeld i seen o' a = StillHeldIn i.builtins.now i.job seen (columns_of o'.registry.now) (held_of a o')

-- a target: what its registration asks, and what it leaves, whatever the image
abbrev pub TargetAsks : Job → ℕ → ℕ → Outputs → Type 0
TargetAsks j key index o = (key ≡ target_key j index) × Begins 1 o × AlikeIn o (target_row j)

abbrev pub Targets : LegacyResult → Outputs → Outputs → Result (Unit {0}) ElfError → Type 0
Targets target o o' a = (im : List ℕ) → SettlesAs (target_trace target im) im 1 o o' a

-- slot number `at`
abbrev pub SlotAsks : ℕ → Inputs → List ℕ → Outputs → Type 0
SlotAsks at i seen o = PartAsks 1 i o × (at < slot_count i.job) × Holds i seen o

-- the slots from number `from` up to `to`
abbrev pub SlotsAsk : ℕ → ℕ → Inputs → List ℕ → Outputs → Type 0
SlotsAsk from to i seen o = PartAsks (to - from) i o × (from ≤ to) × (to ≤ slot_count i.job) × Holds i seen o

abbrev pub SlotsLead : ℕ → ℕ → Inputs → Outputs → Outputs → Result (Unit {0}) ElfError → Type 0
SlotsLead from to i o o' a =
    Leads (slot_trace i.file.now i.builtins.now i.job) (slot_count i.job) from to
    (ahead (i.job.text.start + 8 * to) o.image.now i.file.now)
    (ahead (i.job.text.start + 8 * to) o'.image.now i.file.now)
    (columns_of o.registry.now) (columns_of o'.registry.now) o.registry.now.used o.moves (held_of a o')
