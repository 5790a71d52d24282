-- Opening and closing a place of a list, a store a turn: what the loops of `open_at` and `close_at` have made of the list so far. Assumes
-- nothing.
use mathlib.Core.Path.{◌≡◌, refl, ap}
use mathlib.Core.List.{List, [], ◌∷◌, ◌++◌}
use Prim.Native.Nat.{ℕ, zero, suc, ◌+◌, ◌-◌, ◌≤◌, ◌<◌}
use native.Mathlib.Nat.{le_of_suc-le-suc, not-suc-le-zero}
use native.Mathlib.Numerals.{sub-one, add-one}
use lib.ListN.{length, take, drop, get_or, set}
use Rattle.program.specs.Table.{opened, closed}

-- the place i is open: the numbers from i up to `n` stand one place further, and i still holds what it held
unfoldable pub opening : ℕ → ℕ → List ℕ → List ℕ
opening i n s = take (suc i) s ++ (drop i (take n s) ++ drop (suc n) s)

pub opening_start : (n : ℕ) (s : List ℕ) → opening n n s ≡ s
unfolding opening
opening_start zero [] = refl
opening_start zero (x ∷ s) = refl
opening_start (suc n) [] = refl
opening_start (suc n) (x ∷ s) = ap (λ (l : List ℕ). x ∷ l) (opening_start n s)

-- a turn
opening_step : (i n : ℕ) (s : List ℕ) → i < n → n < length s → set (opening (suc i) n s) (suc i) (get_or (opening (suc i) n s) i 0) ≡ opening i n s
unfolding opening
opening_step i zero s l h = absurd (not-suc-le-zero l)
opening_step i (suc u) [] l h = absurd (not-suc-le-zero h)
opening_step zero (suc u) (x ∷ []) l h = absurd (not-suc-le-zero (le_of_suc-le-suc h))
opening_step zero (suc u) (x ∷ y ∷ s) l h = refl
opening_step (suc i) (suc u) (x ∷ s) l h = ap (λ (l : List ℕ). x ∷ l) (opening_step i u s (le_of_suc-le-suc l) (le_of_suc-le-suc h))

-- the last store
pub opening_end : (at n v : ℕ) (s : List ℕ) → at ≤ n → n < length s → set (opening at n s) at v ≡ opened at n v s
unfolding opening opened
opening_end at n v [] l h = absurd (not-suc-le-zero h)
opening_end zero n v (x ∷ s) l h = refl
opening_end (suc at) zero v (x ∷ s) l h = absurd (not-suc-le-zero l)
opening_end (suc at) (suc n) v (x ∷ s) l h = ap (λ (l : List ℕ). x ∷ l) (opening_end at n v s (le_of_suc-le-suc l) (le_of_suc-le-suc h))

-- a turn, as the code counts
pub opening_turn : (i n : ℕ) (s : List ℕ) → 0 < i → i ≤ n → n < length s → set (opening i n s) i (get_or (opening i n s) (i - 1) 0) ≡ opening (i - 1) n s
opening_turn zero n s p l h = absurd (not-suc-le-zero p)
opening_turn (suc i) n s p l h = rw sub-one (opening_step i n s l h)

-- the numbers behind `at` up to i stand one place nearer, and i still holds what it held
unfoldable pub closing : ℕ → ℕ → List ℕ → List ℕ
closing at i s = take at s ++ (drop (suc at) (take (suc i) s) ++ drop i s)

pub closing_start : (at : ℕ) (s : List ℕ) → closing at at s ≡ s
unfolding closing
closing_start zero [] = refl
closing_start zero (x ∷ s) = refl
closing_start (suc n) [] = refl
closing_start (suc n) (x ∷ s) = ap (λ (l : List ℕ). x ∷ l) (closing_start n s)

-- a turn at the place 0: the numbers of t so far, and those of s behind them
closing_front : (i : ℕ) (s : List ℕ) (x : ℕ) → suc i < length (x ∷ s) → set (take i s ++ drop i (x ∷ s)) i (get_or (take i s ++ drop i (x ∷ s)) (suc i) 0) ≡ take (suc i) s ++ drop (suc i) (x ∷ s)
closing_front i [] x h = absurd (not-suc-le-zero (le_of_suc-le-suc h))
closing_front zero (y ∷ s) x h = refl
closing_front (suc i) (y ∷ s) x h = ap (λ (l : List ℕ). y ∷ l) (closing_front i s y (le_of_suc-le-suc h))

closing_step : (at i : ℕ) (s : List ℕ) → at ≤ i → suc i < length s → set (closing at i s) i (get_or (closing at i s) (suc i) 0) ≡ closing at (suc i) s
unfolding closing
closing_step at i [] l h = absurd (not-suc-le-zero h)
closing_step zero i (x ∷ s) l h = closing_front i s x h
closing_step (suc at) zero (x ∷ s) l h = absurd (not-suc-le-zero l)
closing_step (suc at) (suc i) (x ∷ s) l h = ap (λ (l : List ℕ). x ∷ l) (closing_step at i s (le_of_suc-le-suc l) (le_of_suc-le-suc h))

closed_front : (i : ℕ) (s : List ℕ) (x : ℕ) → i < length (x ∷ s) → set (take i s ++ drop i (x ∷ s)) i 0 ≡ take i s ++ (0 ∷ drop i s)
closed_front zero s x h = refl
closed_front (suc i) [] x h = absurd (not-suc-le-zero (le_of_suc-le-suc h))
closed_front (suc i) (y ∷ s) x h = ap (λ (l : List ℕ). y ∷ l) (closed_front i s y (le_of_suc-le-suc h))

-- the last store
closing_end : (at i : ℕ) (s : List ℕ) → at ≤ i → i < length s → set (closing at i s) i 0 ≡ closed at (suc i) s
unfolding closing closed
closing_end at i [] l h = absurd (not-suc-le-zero h)
closing_end zero i (x ∷ s) l h = closed_front i s x h
closing_end (suc at) zero (x ∷ s) l h = absurd (not-suc-le-zero l)
closing_end (suc at) (suc i) (x ∷ s) l h = ap (λ (l : List ℕ). x ∷ l) (closing_end at i s (le_of_suc-le-suc l) (le_of_suc-le-suc h))

-- a turn, and the last store, as the code counts
pub closing_turn : (at i : ℕ) (s : List ℕ) → at ≤ i → i + 1 < length s → set (closing at i s) i (get_or (closing at i s) (i + 1) 0) ≡ closing at (i + 1) s
closing_turn at i s l h = rw add-one (closing_step at i s l (rw add-one at h))

pub closing_finish : (at n : ℕ) (s : List ℕ) → at < n → n ≤ length s → set (closing at (n - 1) s) (n - 1) 0 ≡ closed at n s
closing_finish at zero s l h = absurd (not-suc-le-zero l)
closing_finish at (suc u) s l h = rw sub-one (closing_end at u s (le_of_suc-le-suc l) h)

-- at the end of the n numbers nothing moves
pub opened_end : (n v : ℕ) (s : List ℕ) → n < length s → opened n n v s ≡ set s n v
unfolding opened
opened_end n v [] l = absurd (not-suc-le-zero l)
opened_end zero v (x ∷ s) l = refl
opened_end (suc n) v (x ∷ s) l = ap (λ (l : List ℕ). x ∷ l) (opened_end n v s (le_of_suc-le-suc l))
