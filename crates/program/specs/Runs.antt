-- Registrations one after another, from any rows on, in a table with room for n: the rows afterwards, and the moves in all. A refused
-- registration changes nothing and counts nothing, so that a run that stops is the run of what came before.
use Rattle.std.specs.Prelude.{ℕ, zero, suc, ◌+◌, List, [], ◌∷◌, Option, Some, None, Ok, Err}
use Rattle.program.specs.declared.Registered.TheVariants.{Inserted, Repeat}
use Rattle.program.specs.declared.Row.{Row}
use Rattle.program.specs.Rows.{RegisterResult, register, registered}

-- the moves of one registration, and of one removal
abbrev pub moves_of : RegisterResult → ℕ
moves_of (Ok (Inserted m)) = m
moves_of (Ok Repeat) = 0
moves_of (Err e) = 0

abbrev pub moves_gone : Option ℕ → ℕ
moves_gone (Some m) = m
moves_gone None = 0

abbrev pub rows_after : ℕ → List Row → List Row → List Row
rows_after n [] rs = rs
rows_after n (a ∷ more) rs = rows_after n more (registered n a rs)

abbrev pub moves_in : ℕ → List Row → List Row → ℕ
moves_in n [] rs = 0
moves_in n (a ∷ more) rs = moves_of (register n a rs) + moves_in n more (registered n a rs)

-- 0 + 1 + .. + (n - 1)
abbrev pub triangle : ℕ → ℕ
triangle zero = 0
triangle (suc n) = triangle n + n
