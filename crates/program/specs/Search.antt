-- Searches in a list of numbers. Each has an answer on any list; what it means on an ascending one is a law.
use Rattle.std.specs.Prelude.{ℕ, zero, suc, ◌+◌, ◌-◌, ◌/◌, ◌≤◌, ◌<◌, ◌≡◌, Bool, true, false, List, [], ◌∷◌, length, get_or, drop, ltb, leb, eqb, Result, Ok, Err}
use Rattle.ebpf.specs.Choice.{◌if◌else◌}

-- the place `half` numbers behind `base` where the number there is at most k, else `base` again
abbrev pub halved : ℕ → List ℕ → ℕ → ℕ → ℕ
halved k xs base half = base + (half if leb (get_or xs (base + half) 0) k else 0)

-- r is that place; the bound, which follows, stands beside it for the proofs
pub record Halved (k : ℕ) (xs : List ℕ) (base half r : ℕ) : Type 0 where
  pub is : r ≡ halved k xs base half
  pub within : r ≤ base + half

-- a binary search for k halves `size` numbers, from `base` on, until one is left, in at most `turns` turns: where that one stands
unfoldable pub narrowed : ℕ → ℕ → List ℕ → ℕ → ℕ → ℕ
narrowed zero k xs base size = base
narrowed (suc turns) k xs base size = narrowed turns k xs (halved k xs base (size / 2)) (size - size / 2) if ltb 1 size else base

-- of all numbers of a list
abbrev pub left_of : ℕ → List ℕ → ℕ
left_of k xs = narrowed (length xs) k xs 0 (length xs)

-- the binary search for k: the place of the number that is left, or the next one where that number is below k; 0 in an empty list. On an ascending list it is
-- how many numbers are below k (`search_place` in proofs/Searches.antt)
unfoldable pub binary_search : ℕ → List ℕ → ℕ
binary_search k xs =
    0 if eqb (length xs) 0 else
    left_of k xs + 1 if ltb (get_or xs (left_of k xs) 0) k else
    left_of k xs

-- whether the binary search finds k: on an ascending list, whether k is in it (`among_member` in proofs/Searches.antt)
unfoldable pub is_among : ℕ → List ℕ → Bool
is_among k xs = false if leb (length xs) (binary_search k xs) else eqb (get_or xs (binary_search k xs) 0) k

-- what the search answers: that place, where k stands there, and else as the place where it would
unfoldable pub search_result : ℕ → List ℕ → Result ℕ ℕ
search_result k xs = Ok (binary_search k xs) if is_among k xs else Err (binary_search k xs)

-- the index of the first k, or the length where there is none
abbrev pub index_of : ℕ → List ℕ → ℕ
index_of k [] = 0
index_of k (n ∷ ns) = 0 if eqb n k else suc (index_of k ns)

-- before the place r no k stands
pub record PassesTo (k : ℕ) (ks : List ℕ) (r : ℕ) : Type 0 where
  pub within : r ≤ length ks
  pub same : index_of k ks ≡ r + index_of k (drop r ks)

abbrev pub member : ℕ → List ℕ → Bool
member k [] = false
member k (n ∷ ns) = true if eqb n k else member k ns

-- every number of the list is above k
abbrev pub Over : ℕ → List ℕ → Type 0
Over k [] = Unit {0}
Over k (n ∷ ns) = (k < n) × Over k ns

-- strictly ascending: each number is below those behind it
abbrev pub Rising : List ℕ → Type 0
Rising [] = Unit {0}
Rising (n ∷ ns) = Over n ns × Rising ns

-- how many numbers of an ascending list stand before k
abbrev pub place : ℕ → List ℕ → ℕ
place k [] = 0
place k (n ∷ ns) = suc (place k ns) if ltb n k else 0
