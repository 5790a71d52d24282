-- A slice that holds one field of the rows: its length, its numbers, and what opening and closing a place makes of it. The five slices
-- together. Assumes nothing.
use mathlib.Core.Path.{◌≡◌, refl, ap, ◌∙◌}
use mathlib.Core.List.{List, [], ◌∷◌, ◌++◌, map}
use Prim.Native.Nat.{ℕ, zero, suc, ◌-◌, ◌≤◌, ◌<◌, zero-le, suc-le-suc}
use native.Mathlib.Nat.{le_of_suc-le-suc, not-suc-le-zero}
use native.Mathlib.Omega.{arith}
use lib.ListN.{length, take, drop, get_or, length-append, length-replicate, length-map, length-take, length-drop, get_or-append, get_or-map}
use Rattle.program.specs.declared.Row.{Row}
use Rattle.program.specs.Rows.{rank}
use Rattle.program.specs.Table.{Slices, opened, closed, ranks_of, column, lay, capacity, Within, tab, row_at, rows_of, opened_row, closed_row, least}

-- ---- opening and closing a place before a seam

opened_none : (xs : List ℕ) (z : ℕ) (zs : List ℕ) → take (length xs) (xs ++ (z ∷ zs)) ++ drop (suc (length xs)) (xs ++ (z ∷ zs)) ≡ xs ++ zs
opened_none [] z zs = refl
opened_none (x ∷ xs) z zs = ap (λ (l : List ℕ). x ∷ l) (opened_none xs z zs)

opened_seam : (at v : ℕ) (xs : List ℕ) (z : ℕ) (zs : List ℕ) → at ≤ length xs → opened at (length xs) v (xs ++ (z ∷ zs)) ≡ take at xs ++ (v ∷ drop at xs) ++ zs
unfolding opened
opened_seam zero v xs z zs l = ap (λ (l : List ℕ). v ∷ l) (opened_none xs z zs)
opened_seam (suc at) v [] z zs l = absurd (not-suc-le-zero l)
opened_seam (suc at) v (x ∷ xs) z zs l = ap (λ (l : List ℕ). x ∷ l) (opened_seam at v xs z zs (le_of_suc-le-suc l))

closed_none : (xs zs : List ℕ) → take (length xs) (xs ++ zs) ++ (0 ∷ drop (length xs) (xs ++ zs)) ≡ xs ++ (0 ∷ zs)
closed_none [] zs = refl
closed_none (x ∷ xs) zs = ap (λ (l : List ℕ). x ∷ l) (closed_none xs zs)

closed_seam : (at : ℕ) (xs zs : List ℕ) → at < length xs → closed at (length xs) (xs ++ zs) ≡ take at xs ++ drop (suc at) xs ++ (0 ∷ zs)
unfolding closed
closed_seam at [] zs l = absurd (not-suc-le-zero l)
closed_seam zero (x ∷ xs) zs l = closed_none xs zs
closed_seam (suc at) (x ∷ xs) zs l = ap (λ (l : List ℕ). x ∷ l) (closed_seam at xs zs (le_of_suc-le-suc l))

-- ---- a column

-- the rows with r at a place, and without the row at a place
map_with : (f : Row → ℕ) (at : ℕ) (r : Row) (rs : List Row) → map f (take at rs ++ (r ∷ drop at rs)) ≡ take at (map f rs) ++ (f r ∷ drop at (map f rs))
map_with f zero r rs = refl
map_with f (suc at) r [] = refl
map_with f (suc at) r (x ∷ rs) = ap (λ (l : List ℕ). f x ∷ l) (map_with f at r rs)

map_without : (f : Row → ℕ) (at : ℕ) (rs : List Row) → map f (take at rs ++ drop (suc at) rs) ≡ take at (map f rs) ++ drop (suc at) (map f rs)
map_without f zero [] = refl
map_without f (suc at) [] = refl
map_without f zero (x ∷ rs) = refl
map_without f (suc at) (x ∷ rs) = ap (λ (l : List ℕ). f x ∷ l) (map_without f at rs)

module _ (f : Row → ℕ) (rs : List Row) (n : ℕ) where
  pub length_column : length rs ≤ n → length (column f rs n) ≡ n
  unfolding column
  length_column h = simp (length-append, length-replicate, length-map) (omega arith)

  get_d_column : (z : Row) (i : ℕ) → i < length rs → f z ≡ 0 → get_or (column f rs n) i 0 ≡ f (get_or rs i z)
  unfolding column
  get_d_column z i l e =
      get_or-append (map f rs) _ 0 i (rw length-map l)
      ∙ rw (← e) (get_or-map f rs i z)

  opened_column : (at : ℕ) (r : Row) → at ≤ length rs → length rs < n → opened at (length rs) (f r) (column f rs n) ≡ column f (take at rs ++ (r ∷ drop at rs)) n
  unfolding column
  opened_column at r l h =
      let more : n - length rs ≡ suc (n - suc (length rs)) = omega arith in
      let left : n - length (take at rs ++ (r ∷ drop at rs)) ≡ n - suc (length rs) = simp (length-append, length-take, length-drop) (omega arith) in
      rw (more, left, map_with, ← length-map rs f) (opened_seam at (f r) (map f rs) 0 _ (rw length-map l))

  closed_column : (at : ℕ) → at < length rs → length rs ≤ n → closed at (length rs) (column f rs n) ≡ column f (take at rs ++ drop (suc at) rs) n
  unfolding column
  closed_column at l h =
      let left : n - length (take at rs ++ drop (suc at) rs) ≡ suc (n - length rs) = simp (length-append, length-take, length-drop) (omega arith) in
      rw (left, map_without, ← length-map rs f) (closed_seam at (map f rs) _ (rw length-map l))

-- ---- the capacity

pub within_room : (n : ℕ) (t : Slices) → n ≤ capacity t → Within n t
unfolding capacity least
within_room n t h = record { in_keys = omega arith; in_indices = omega arith; in_kinds = omega arith; in_starts = omega arith; in_lengths = omega arith }

-- ---- the rows of the slices

abbrev pub zero_row : Row
zero_row = record { key = 0; index = 0; kind = 0; start = 0; length = 0 }

length_tab : (n : ℕ) (f : ℕ → Row) → length (tab n f) ≡ n
length_tab zero f = refl
length_tab (suc n) f = ap suc (length_tab n (λ (k : ℕ). f (suc k)))

tab_is : (rs : List Row) (f : ℕ → Row) → ((i : ℕ) → i < length rs → f i ≡ get_or rs i zero_row) → tab (length rs) f ≡ rs
tab_is [] f h = refl
tab_is (r ∷ rs) f h = λ i. h 0 (suc-le-suc zero-le) i ∷ tab_is rs (λ (k : ℕ). f (suc k)) (λ k l. h (suc k) (suc-le-suc l)) i

-- a field of the first rows is the first numbers of its slice
map_tab : (g : Row → ℕ) (n : ℕ) (f : ℕ → Row) (xs : List ℕ) → n ≤ length xs → ((i : ℕ) → g (f i) ≡ get_or xs i 0) → map g (tab n f) ≡ take n xs
map_tab g zero f xs l h = refl
map_tab g (suc n) f [] l h = absurd (not-suc-le-zero l)
map_tab g (suc n) f (x ∷ xs) l h = λ i. h 0 i ∷ map_tab g n (λ (k : ℕ). f (suc k)) xs (le_of_suc-le-suc l) (λ k. h (suc k)) i

pub length_rows : (t : Slices) (n : ℕ) → length (rows_of t n) ≡ n
unfolding rows_of
length_rows t n = length_tab n (row_at t)

-- the ranks of the first rows
pub ranks_rows : (t : Slices) (n : ℕ) → n ≤ length t.keys → map rank (rows_of t n) ≡ ranks_of t n
unfolding rows_of rank ranks_of
ranks_rows t n l = map_tab rank n (row_at t) t.keys l (λ i. refl)

module _ (t : Slices) (rs : List Row) (room : length rs ≤ capacity t) where
  row_lay : (i : ℕ) → i < length rs → row_at (lay t rs) i ≡ get_or rs i zero_row
  unfolding lay
  row_lay i l = λ j. record {
    key = get_d_column (λ (r : Row). r.key) rs (length t.keys) zero_row i l refl j;
    index = get_d_column (λ (r : Row). r.index) rs (length t.indices) zero_row i l refl j;
    kind = get_d_column (λ (r : Row). r.kind) rs (length t.kinds) zero_row i l refl j;
    start = get_d_column (λ (r : Row). r.start) rs (length t.starts) zero_row i l refl j;
    length = get_d_column (λ (r : Row). r.length) rs (length t.lengths) zero_row i l refl j;
  }

  -- what was laid is read back
  pub rows_lay : rows_of (lay t rs) (length rs) ≡ rs
  unfolding rows_of
  rows_lay = tab_is rs (row_at (lay t rs)) row_lay

  pub capacity_lay : capacity (lay t rs) ≡ capacity t
  unfolding lay capacity least
  capacity_lay =
      let a : length rs ≤ length t.keys = omega arith in
      let b : length rs ≤ length t.indices = omega arith in
      let c : length rs ≤ length t.kinds = omega arith in
      let d : length rs ≤ length t.starts = omega arith in
      let e : length rs ≤ length t.lengths = omega arith in
      simp length_column

  -- a place opened and closed in every slice
  pub opened_lay : (at : ℕ) (r : Row) → at ≤ length rs → length rs < capacity t → opened_row at (length rs) r (lay t rs) ≡ lay t (take at rs ++ (r ∷ drop at rs))
  unfolding lay opened_row capacity least
  opened_lay at r l h = λ i. record {
    keys = opened_column (λ (r : Row). r.key) rs (length t.keys) at r l (omega arith) i;
    indices = opened_column (λ (r : Row). r.index) rs (length t.indices) at r l (omega arith) i;
    kinds = opened_column (λ (r : Row). r.kind) rs (length t.kinds) at r l (omega arith) i;
    starts = opened_column (λ (r : Row). r.start) rs (length t.starts) at r l (omega arith) i;
    lengths = opened_column (λ (r : Row). r.length) rs (length t.lengths) at r l (omega arith) i;
  }

  pub closed_lay : (at : ℕ) → at < length rs → closed_row at (length rs) (lay t rs) ≡ lay t (take at rs ++ drop (suc at) rs)
  unfolding lay closed_row capacity least
  closed_lay at l = λ i. record {
    keys = closed_column (λ (r : Row). r.key) rs (length t.keys) at l (omega arith) i;
    indices = closed_column (λ (r : Row). r.index) rs (length t.indices) at l (omega arith) i;
    kinds = closed_column (λ (r : Row). r.kind) rs (length t.kinds) at l (omega arith) i;
    starts = closed_column (λ (r : Row). r.start) rs (length t.starts) at l (omega arith) i;
    lengths = closed_column (λ (r : Row). r.length) rs (length t.lengths) at l (omega arith) i;
  }

get_d_tab : (z : Row) (n : ℕ) (f : ℕ → Row) (i : ℕ) → i < n → get_or (tab n f) i z ≡ f i
get_d_tab z zero f i l = absurd (not-suc-le-zero l)
get_d_tab z (suc n) f zero l = refl
get_d_tab z (suc n) f (suc i) l = get_d_tab z n (λ (k : ℕ). f (suc k)) i (le_of_suc-le-suc l)

pub row_at_lem : (t : Slices) (n i : ℕ) → i < n → get_or (rows_of t n) i zero_row ≡ row_at t i
unfolding rows_of
row_at_lem t n i l = get_d_tab zero_row n (row_at t) i l
