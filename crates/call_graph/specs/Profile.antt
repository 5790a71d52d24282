-- What a loaded program calls. Its functions are the distinct indices of the table's rows.
use Rattle.std.specs.Prelude.{ℕ, ◌≤◌, ◌<◌, ◌≡◌, ◌&&◌, List, [], ◌∷◌, length, get_or, ltb, Result, Ok, Err}
use Rattle.ebpf.specs.Choice.{◌if◌else◌}
use Rattle.call_graph.specs.Ways.{Longest, Smallest}
use Rattle.call_graph.specs.declared.Recursive.{Recursive}

pub record Profile : Type 0 where
  pub rows : ℕ
  pub index : ℕ → ℕ  -- of the function that a row stands for
  pub end : ℕ → ℕ  -- of the slots of the function at an index
  pub callee : ℕ → ℕ  -- the row that a slot's call finds; not below `rows` where it is no call or finds none

-- the function at i calls the function at j
abbrev pub CallsFunction : Profile → ℕ → ℕ → Type 0
CallsFunction P i j = (s : ℕ) × (i ≤ s) × (s < P.end i) × (P.callee s < P.rows) × (P.index (P.callee s) ≡ j)

-- the longest chain of calls, in functions; or the smallest index of a function that is reached and reaches itself
abbrev pub Depth : Type 0
Depth = Result ℕ Recursive

abbrev pub recursive : ℕ → Depth
recursive i = Err (record { index = i })

-- the answer's meaning
abbrev pub Answers : Profile → ℕ → Depth → Type 0
Answers P e (Ok d) = Longest (CallsFunction P) e d
Answers P e (Err r) = Smallest (CallsFunction P) e r.index

-- the smallest of the starts above i, or `end`
abbrev pub next_above : ℕ → ℕ → List ℕ → ℕ
next_above i end [] = end
next_above i end (x ∷ xs) = next_above i (x if ltb i x && ltb x end else end) xs

abbrev pub nth_of : List ℕ → ℕ → ℕ
nth_of l i = get_or l i 0

-- the profile given by a start for each row, and a row for each slot
abbrev pub profile : List ℕ → List ℕ → Profile
profile starts callee = record {
  rows = length starts;
  index = nth_of starts;
  end = λ i. next_above i (length callee) starts;
  callee = nth_of callee;
}
