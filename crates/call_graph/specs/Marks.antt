-- Marks on rows that are not settled: 2^30 more in the word.
use Rattle.std.specs.Prelude.{ℕ, ◌+◌, ◌-◌, ◌≤◌, ◌<◌, ◌≡◌, Bool, true, false, List, ◌⊎◌, length, get_or, ltb, leb, eqb}
use Rattle.ebpf.specs.Choice.{◌if◌else◌}
use Rattle.call_graph.specs.Ways.{Reaches, Calling}
use Rattle.call_graph.specs.Profile.{Profile}
use Rattle.call_graph.specs.Words.{FLAG, Sized, Exhausted, count_in}

abbrev pub MARK : ℕ
MARK = 0x4000_0000

abbrev pub BOTH : ℕ
BOTH = 0xc000_0000

abbrev pub marked_in : List ℕ → ℕ
marked_in w = count_in (λ (x : ℕ). leb BOTH x) w

-- the calls, from row to row
abbrev pub RowCalls : Profile → ℕ → ℕ → Type 0
RowCalls P r q = (s : ℕ) × (P.index r ≤ s) × (s < P.end (P.index r)) × (P.callee s ≡ q) × (q < P.rows)

-- something that r reaches reaches itself
abbrev pub Looping : Profile → ℕ → Type 0
Looping P r = (q : ℕ) × Reaches (RowCalls P) r q × Calling (RowCalls P) q q

-- where e reaches r, r reaches nothing that reaches itself; r does not reach itself
abbrev pub Harmless : Profile → ℕ → ℕ → Type 0
Harmless P e r = Reaches (RowCalls P) e r → Looping P r → ⊥

abbrev pub Idle : Profile → ℕ → ℕ → Type 0
Idle P e r = Reaches (RowCalls P) e r → Calling (RowCalls P) r r → ⊥

-- the words of rows that are not settled hold the ends
pub record Shaped (P : Profile) (slots : ℕ) (w : List ℕ) : Type 0 where
  pub sized : Sized P slots
  pub long : length w ≡ P.rows
  pub ends : (r : ℕ) → r < P.rows → FLAG ≤ get_or w r 0 → (get_or w r 0 ≡ FLAG + P.end (P.index r)) ⊎ (get_or w r 0 ≡ BOTH + P.end (P.index r))

-- rows are marked, each one that Src names
pub record Grown (Src : ℕ → Type 0) (w w' : List ℕ) : Type 0 where
  pub long : length w' ≡ length w
  pub each : (q : ℕ) → (get_or w' q 0 ≡ get_or w q 0) ⊎ ((FLAG ≤ get_or w q 0) × (get_or w q 0 < BOTH) × (get_or w' q 0 ≡ get_or w q 0 + MARK) × Src q)

-- and whether there are any
pub record Marking (Src : ℕ → Type 0) (w w' : List ℕ) (any : Bool) : Type 0 where
  pub grown : Grown Src w w'
  pub more : any ≡ true → marked_in w < marked_in w'
  pub same : any ≡ false → w' ≡ w

-- what the slots from `from` up to s call is marked
pub record Slots (callee : ℕ → ℕ) (from end s : ℕ) (w w' : List ℕ) (any : Bool) : Type 0 where
  pub marks : Marking (λ (q : ℕ). (t : ℕ) × (from ≤ t) × (t < end) × (callee t ≡ q)) w w' any
  pub closed : (t : ℕ) → from ≤ t → t < s → FLAG ≤ get_or w' (callee t) 0 → BOTH ≤ get_or w' (callee t) 0

abbrev pub always : ℕ → ℕ → ℕ
always q t = q

-- all that row r calls and that is not settled is marked
abbrev pub Closed : Profile → List ℕ → ℕ → Type 0
Closed P w r = (t : ℕ) → P.index r ≤ t → t < P.end (P.index r) → FLAG ≤ get_or w (P.callee t) 0 → BOTH ≤ get_or w (P.callee t) 0

-- what row r calls is marked
abbrev pub CallsMarked : Profile → ℕ → List ℕ → List ℕ → Bool → Type 0
CallsMarked P r w w' any = Slots P.callee (P.index r) (P.end (P.index r)) (P.end (P.index r)) w w' any

-- row r, if it is marked, marks what it calls
pub record Followed (P : Profile) (r : ℕ) (w w' : List ℕ) (any : Bool) : Type 0 where
  pub marks : Marking (λ (q : ℕ). (BOTH ≤ get_or w r 0) × RowCalls P r q) w w' any
  pub closed : any ≡ false → BOTH ≤ get_or w' r 0 → Closed P w' r

-- what is marked is called from b on
abbrev pub MarksSound : Profile → ℕ → List ℕ → Type 0
MarksSound P b w = (q : ℕ) → q < P.rows → BOTH ≤ get_or w q 0 → Calling (RowCalls P) b q

-- the rows below r, if they are marked, mark what they call
pub record Round (P : Profile) (b r : ℕ) (w w' : List ℕ) (any : Bool) : Type 0 where
  pub marks : Marking (λ (q : ℕ). Calling (RowCalls P) b q) w w' any
  pub closed : any ≡ false → (q : ℕ) → q < r → BOTH ≤ get_or w' q 0 → Closed P w' q

-- all rows that are marked, and b, mark what they call
pub record Circled (P : Profile) (b : ℕ) (w w' : List ℕ) (any : Bool) : Type 0 where
  pub round : Round P b P.rows w w' any
  pub first : any ≡ false → Closed P w' b

-- all that b calls, and so on, is marked
pub record Spread (P : Profile) (b : ℕ) (w w' : List ℕ) : Type 0 where
  pub grown : Grown (λ (q : ℕ). Calling (RowCalls P) b q) w w'
  pub first : Closed P w' b
  pub closed : (q : ℕ) → q < P.rows → BOTH ≤ get_or w' q 0 → Closed P w' q

-- the words before marking
pub record Plain (P : Profile) (slots : ℕ) (w : List ℕ) : Type 0 where
  pub shaped : Shaped P slots w
  pub plain : (q : ℕ) → get_or w q 0 < BOTH

-- each number below r is changed by f
pub record Each (f : ℕ → ℕ → ℕ) (r : ℕ) (w w' : List ℕ) : Type 0 where
  pub long : length w' ≡ length w
  pub done : (q : ℕ) → q < r → get_or w' q 0 ≡ f q (get_or w q 0)
  pub rest : (q : ℕ) → r ≤ q → get_or w' q 0 ≡ get_or w q 0

-- the mark off
abbrev pub bare : ℕ → ℕ → ℕ
bare q x = x - MARK if leb BOTH x else x

-- the mark off; what is not marked nor settled is given up, but for e
abbrev pub keep : ℕ → ℕ → ℕ → ℕ
keep e q x = x - MARK if leb BOTH x else x if ltb x FLAG else x if eqb q e else 0

-- the rows that are left are reached from e, and no other that is reaches itself
pub record Open (P : Profile) (slots e : ℕ) (w : List ℕ) : Type 0 where
  pub ready : Plain P slots w
  pub reached : (q : ℕ) → q < P.rows → FLAG ≤ get_or w q 0 → Reaches (RowCalls P) e q
  pub harmless : (q : ℕ) → q < P.rows → get_or w q 0 < FLAG → Idle P e q

-- the word of r after all that r calls, and so on, is marked; the words are as they were
pub record Tested (P : Profile) (r : ℕ) (w w' : List ℕ) (x : ℕ) : Type 0 where
  pub same : w' ≡ w
  pub itself : BOTH ≤ x → Calling (RowCalls P) r r
  pub other : x < BOTH → (v : List ℕ) × Spread P r w v × (get_or v r 0 < BOTH)

-- best has the smallest index of the rows below r that are left, if any is
pub record Lowest (rows : ℕ) (index : ℕ → ℕ) (w : List ℕ) (r best : ℕ) : Type 0 where
  pub left : best < rows → FLAG ≤ get_or w best 0
  pub low : (q : ℕ) → q < r → FLAG ≤ get_or w q 0 → (best < rows) × (index best ≤ index q)

-- rows are left, and one of them reaches itself
pub record Kept (P : Profile) (slots e : ℕ) (w : List ℕ) : Type 0 where
  pub left : Open P slots e w
  pub loops : Looping P e

-- marking from b may go on
pub record Begun (P : Profile) (slots b : ℕ) (w : List ℕ) : Type 0 where
  pub shaped : Shaped P slots w
  pub below : b < P.rows
  pub unsettled : FLAG ≤ get_or w b 0
  pub sound : MarksSound P b w

-- the end of a row's slots, in its word
abbrev pub end_in : ℕ → ℕ
end_in x = x - BOTH if leb BOTH x else x - FLAG

-- where passes stop short of the entry
pub record Short (P : Profile) (slots e : ℕ) (w : List ℕ) : Type 0 where
  pub sized : Sized P slots
  pub settled : Exhausted P w
  pub below : e < P.rows
  pub unsettled : FLAG ≤ get_or w e 0

-- what the rows below r call is marked, where they are not settled
pub record Spotted (P : Profile) (r : ℕ) (w w' : List ℕ) : Type 0 where
  pub grown : Grown (λ (q : ℕ). Unit {0}) w w'
  pub closed : (q : ℕ) → q < r → FLAG ≤ get_or w q 0 → Closed P w' q

-- what one of them calls
pub record Spot (P : Profile) (r : ℕ) (w w' : List ℕ) : Type 0 where
  pub grown : Grown (λ (q : ℕ). Unit {0}) w w'
  pub closed : FLAG ≤ get_or w r 0 → Closed P w' r
