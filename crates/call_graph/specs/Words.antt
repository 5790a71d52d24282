-- The work words: one for each row. A settled row's word is the depth of its function; any other is 2^31 and the end of its slots.
use Rattle.std.specs.Prelude.{ℕ, zero, suc, ◌+◌, ◌≤◌, ◌<◌, ◌≡◌, Bool, true, false, List, [], ◌∷◌, ◌⊎◌, length, get_or, ltb}
use Rattle.ebpf.specs.Choice.{◌if◌else◌}
use Rattle.call_graph.specs.Ways.{Longest}
use Rattle.call_graph.specs.Profile.{Profile, CallsFunction}

abbrev pub FLAG : ℕ
FLAG = 0x8000_0000

-- how many pass a test
abbrev pub count_in : (ℕ → Bool) → List ℕ → ℕ
count_in t [] = 0
count_in t (x ∷ xs) = suc (count_in t xs) if t x else count_in t xs

-- how many are settled
abbrev pub settled_in : List ℕ → ℕ
settled_in w = count_in (λ (x : ℕ). ltb x FLAG) w

-- what a program of fewer than 2^30 slots and rows has, and every row's slots lie in the text
pub record Sized (P : Profile) (slots : ℕ) : Type 0 where
  pub few : slots < 0x4000_0000
  pub rows_few : P.rows < 0x4000_0000
  pub within : (i : ℕ) → P.end i ≤ slots

-- the words say what they are to say
pub record Good (P : Profile) (w : List ℕ) : Type 0 where
  pub long : length w ≡ P.rows
  pub depths : (r : ℕ) → r < P.rows → get_or w r 0 < FLAG → Longest (CallsFunction P) (P.index r) (get_or w r 0)
  pub small : (r : ℕ) → r < P.rows → get_or w r 0 < FLAG → get_or w r 0 ≤ settled_in w
  pub ends : (r : ℕ) → r < P.rows → FLAG ≤ get_or w r 0 → get_or w r 0 ≡ FLAG + P.end (P.index r)

-- a slot of the function at i calls a row that is not settled
abbrev pub Stuck : Profile → List ℕ → ℕ → Type 0
Stuck P w i = (s : ℕ) × (i ≤ s) × (s < P.end i) × (FLAG ≤ get_or w (P.callee s) 0)

-- so does every function that is not settled
abbrev pub Still : Profile → List ℕ → Type 0
Still P w = (r : ℕ) → r < P.rows → FLAG ≤ get_or w r 0 → Stuck P w (P.index r)

-- the slots from `from` up to s call settled rows only; m is 0 or the depth of a row that a slot before `end` calls, and none is deeper
pub record OverSlots (callee : ℕ → ℕ) (w : List ℕ) (from end s m : ℕ) : Type 0 where
  pub small : m < FLAG
  pub most : (t : ℕ) → from ≤ t → t < s → get_or w (callee t) 0 ≤ m
  pub met : (m ≡ 0) ⊎ ((t : ℕ) × (from ≤ t) × (t < end) × (get_or w (callee t) 0 ≡ m))

-- a scan's answer: 0 where a slot calls a row that is not settled, else 1 and the largest depth
abbrev pub Scan : (ℕ → ℕ) → List ℕ → ℕ → ℕ → ℕ → Type 0
Scan callee w from end zero = (t : ℕ) × (from ≤ t) × (t < end) × (FLAG ≤ get_or w (callee t) 0)
Scan callee w from end (suc m) = OverSlots callee w from end end m

-- what each pass needs
pub record WordsReady (P : Profile) (slots : ℕ) (w : List ℕ) : Type 0 where
  pub sized : Sized P slots
  pub good : Good P w

-- one row tried, and whether it is newly settled
pub record RowTried (P : Profile) (w w' : List ℕ) (r : ℕ) (any : Bool) : Type 0 where
  pub good : Good P w'
  pub more : any ≡ true → settled_in w < settled_in w'
  pub same : any ≡ false → w' ≡ w
  pub stuck : any ≡ false → FLAG ≤ get_or w' r 0 → Stuck P w' (P.index r)

-- the rows below r tried, one after the other, and whether any is newly settled
pub record Passing (P : Profile) (w w' : List ℕ) (r : ℕ) (any : Bool) : Type 0 where
  pub good : Good P w'
  pub more : any ≡ true → settled_in w < settled_in w'
  pub same : any ≡ false → w' ≡ w
  pub stuck : any ≡ false → (q : ℕ) → q < r → FLAG ≤ get_or w' q 0 → Stuck P w' (P.index q)

-- as far as passes go
pub record Exhausted (P : Profile) (w : List ℕ) : Type 0 where
  pub good : Good P w
  pub still : Still P w

-- passes stop: row e is settled, or no more can be
pub record Stopped (P : Profile) (e : ℕ) (w : List ℕ) : Type 0 where
  pub good : Good P w
  pub still : FLAG ≤ get_or w e 0 → Still P w

-- the word of a row that is not settled
abbrev pub unsettled : Profile → ℕ → ℕ → ℕ
unsettled P r x = FLAG + P.end (P.index r)
