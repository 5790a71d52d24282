-- The rows of a table, in ascending rank: what is found, and what a registration and a removal answer and leave.
use Rattle.std.specs.Prelude.{ℕ, suc, ◌≡◌, List, [], ◌∷◌, map, length, ltb, eqb, Option, Some, None, Result, Ok, Err}
use Rattle.ebpf.specs.Choice.{◌if◌else◌}
use Rattle.program.specs.declared.Registered.TheVariants.{Inserted, Repeat}
use Rattle.program.specs.declared.RegisterError.TheVariants.{Collision, Full}
use Rattle.program.specs.declared.Registered.{Registered}
use Rattle.program.specs.declared.RegisterError.{RegisterError}
use Rattle.program.specs.Search.{Rising}
use Rattle.program.specs.declared.Row.{Row}

-- what a registration answers
abbrev pub RegisterResult : Type 0
RegisterResult = Result Registered RegisterError

-- rows are ordered by their key, which is called their rank here
unfoldable pub rank : Row → ℕ
rank r = r.key

-- strictly ascending
abbrev pub Ascending : List Row → Type 0
Ascending rs = Rising (map rank rs)

-- the first row of rank k
abbrev pub find : ℕ → List Row → Option Row
find k [] = None
find k (x ∷ xs) = Some x if eqb (rank x) k else find k xs

-- rank k is held; held with r's index; held with another index
abbrev pub Held : ℕ → List Row → Type 0
Held k rs = (x : Row) × (find k rs ≡ Some x)

abbrev pub Repeats : Row → List Row → Type 0
Repeats r rs = (x : Row) × (find (rank r) rs ≡ Some x) × (x.index ≡ r.index)

abbrev pub Clashes : Row → List Row → Type 0
Clashes r rs = (x : Row) × (find (rank r) rs ≡ Some x) × (x.index ≡ r.index → ⊥)

-- r before the first row of a larger rank
abbrev pub insert : Row → List Row → List Row
insert r [] = r ∷ []
insert r (x ∷ xs) = (r ∷ x ∷ xs) if ltb (rank r) (rank x) else (x ∷ insert r xs)

-- without the first row of rank k
abbrev pub remove : ℕ → List Row → List Row
remove k [] = []
remove k (x ∷ xs) = xs if eqb (rank x) k else (x ∷ remove k xs)

-- how many rows have a larger rank than k
abbrev pub above : ℕ → List Row → ℕ
above k [] = 0
above k (x ∷ xs) = suc (above k xs) if ltb k (rank x) else above k xs

-- a registration of r in a table with room for n rows: the answer, and the rows afterwards, by what is found of r's rank
abbrev pub answer : Option Row → ℕ → Row → List Row → RegisterResult
answer (Some x) n r rs = Ok Repeat if eqb x.index r.index else Err Collision
answer None n r rs = Ok (Inserted (above (rank r) rs)) if ltb (length rs) n else Err Full

abbrev pub after : Option Row → ℕ → Row → List Row → List Row
after (Some x) n r rs = rs
after None n r rs = insert r rs if ltb (length rs) n else rs

unfoldable pub register : ℕ → Row → List Row → RegisterResult
register n r rs = answer (find (rank r) rs) n r rs

unfoldable pub registered : ℕ → Row → List Row → List Row
registered n r rs = after (find (rank r) rs) n r rs

-- a removal of rank k: the answer; the rows afterwards are `remove k rs`
abbrev pub gone_if : Option Row → ℕ → List Row → Option ℕ
gone_if (Some x) k rs = Some (above k rs)
gone_if None k rs = None

unfoldable pub unregister : ℕ → List Row → Option ℕ
unregister k rs = gone_if (find k rs) k rs
