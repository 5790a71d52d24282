-- Questions to a trace, and to what a part asks of the table: the rows it registers, whether it forgets. They see no table.
-- Assumes nothing.
use mathlib.Core.Path.{◌≡◌}
use mathlib.Core.Logic.{◌⊎◌, ◌↔◌}
use mathlib.Core.Bool.{true, false}
use Rattle.program.specs.declared.Row.{Row}
use Rattle.loader.specs.Deeds.{Entry, Nothing, Enter}
use Rattle.std.specs.Prelude.{Result, Ok, Err}
use Rattle.loader.specs.declared.error.ElfError.{ElfError}
use Rattle.loader.specs.Trace.{Trace, done, stop, register, forget}

-- this row is among those that it registers
abbrev pub Asks : Row → Trace → Type 0
Asks row (done im) = ⊥
Asks row (stop r) = ⊥
Asks row (register r t) = (row ≡ r) ⊎ Asks row t
Asks row (forget key t) = Asks row t

-- it forgets nothing
abbrev pub Keeps : Trace → Type 0
Keeps (done im) = Unit {0}
Keeps (stop r) = Unit {0}
Keeps (register row t) = Keeps t
Keeps (forget key t) = ⊥

-- where nothing stops it, the rows that it registers are those of P
abbrev pub AsksFor : Result Entry ElfError → (Row → Type 0) → Type 0
AsksFor (Ok Nothing) P = (row : Row) → P row → ⊥
AsksFor (Err r) P = Unit {0}
AsksFor (Ok (Enter r false)) P = (row : Row) → P row ↔ (row ≡ r)
AsksFor (Ok (Enter r true)) P = Unit {0}
