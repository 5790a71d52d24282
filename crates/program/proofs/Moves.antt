-- The moves of a run: at most n * (n - 1) / 2 for n rows, and 2 * (n - 1) more with a removal and a last registration. Assumes nothing.
use mathlib.Core.Path.{◌≡◌, refl}
use mathlib.Core.List.{List, [], ◌∷◌}
use Prim.Native.Nat.{ℕ, zero, suc, ◌+◌, ◌-◌, ◌*◌, ◌/◌, ◌≤◌, zero-le}
use native.Mathlib.Nat.{le_of_suc-le-suc, not-suc-le-zero, mul-suc, suc-mul}
use native.Mathlib.Numerals.{sub-one}
use native.Mathlib.Omega.{arith}
use lib.ListN.{length}
use Rattle.std.specs.Prelude.{Option, Some, None}
use Rattle.program.specs.declared.Row.{Row}
use Rattle.program.specs.Rows.{RegisterResult, rank, find, gone_if, remove, register, registered, unregister}
use Rattle.program.specs.Runs.{moves_of, moves_gone, rows_after, moves_in, triangle}
use Rattle.program.proofs.Laws.{by_registered, length_insert, above_le, above_less, registered_room}

-- what each registration adds, counted against the rows: for a run whose steps a caller takes one by one
pub moves_step : (n : ℕ) (r : Row) (rs : List Row) → moves_of (register n r rs) + triangle (length rs) ≤ triangle (length (registered n r rs))
moves_step n r rs = by_registered (λ (l : List Row) (a : RegisterResult). moves_of a + triangle (length rs) ≤ triangle (length l)) n r rs
    (λ _ _ _. omega arith) (λ _ _ _. omega arith) (λ _ _. omega arith) (λ _ _. rw (length_insert r rs) (omega (arith, above_le (rank r) rs)))

moves_triangle : (n : ℕ) (more rs : List Row) → moves_in n more rs + triangle (length rs) ≤ triangle (length (rows_after n more rs))
moves_triangle n [] rs = omega arith
moves_triangle n (a ∷ more) rs = omega (arith, moves_step n a rs, moves_triangle n more (registered n a rs))

rows_after_room : (n : ℕ) (more rs : List Row) → length rs ≤ n → length (rows_after n more rs) ≤ n
rows_after_room n [] rs h = h
rows_after_room n (a ∷ more) rs h = rows_after_room n more (registered n a rs) (registered_room n a rs h)

pub triangle_mono : (m n : ℕ) → m ≤ n → triangle m ≤ triangle n
triangle_mono zero n l = zero-le
triangle_mono (suc m) zero l = absurd (not-suc-le-zero l)
triangle_mono (suc m) (suc n) l = omega (arith, triangle_mono m n (le_of_suc-le-suc l))

twice : (n : ℕ) → 2 * triangle (suc n) ≡ suc n * n
twice zero = refl
twice (suc n) = simp (mul-suc, suc-mul) (omega (arith, simp suc-mul at (twice n)))

pub triangle_twice : (n : ℕ) → 2 * triangle n ≡ n * (n - 1)
triangle_twice zero = refl
triangle_twice (suc n) = rw sub-one (twice n)

-- THE BOUND: any run of registrations, of any length, from no rows
pub moves_bound : (n : ℕ) (more : List Row) → moves_in n more [] ≤ n * (n - 1) / 2
moves_bound n more = omega (arith, moves_triangle n more [], triangle_mono (length (rows_after n more [])) n (rows_after_room n more [] zero-le), triangle_twice n)

-- a removal and a registration move at most all rows but one
pub removal_moves : (k : ℕ) (rs : List Row) → moves_gone (unregister k rs) ≤ length rs - 1
unfolding unregister
removal_moves k rs = go (find k rs) refl
  where
    go : (f : Option Row) → find k rs ≡ f → moves_gone (gone_if f k rs) ≤ length rs - 1
    go (Some x) e = omega (arith, above_less k x rs e)
    go None e = zero-le

pub registration_moves : (n : ℕ) (r : Row) (rs : List Row) → moves_of (register n r rs) ≤ n - 1
registration_moves n r rs = by_registered (λ (_ : List Row) (a : RegisterResult). moves_of a ≤ n - 1) n r rs
    (λ _ _ _. zero-le) (λ _ _ _. zero-le) (λ _ _. zero-le) (λ _ l. omega (arith, above_le (rank r) rs))

total : (m g i half n len : ℕ) → m ≤ half → g ≤ len - 1 → len ≤ n → i ≤ n - 1 → m + g + i ≤ half + 2 * (n - 1)
total m g i half n len a b c d = omega arith

-- THE BOUND with version 1's removal and the entry's registration behind the run
pub moves_bound_entry : (n : ℕ) (more : List Row) (k : ℕ) (entry : Row)
    → moves_in n more [] + moves_gone (unregister k (rows_after n more [])) + moves_of (register n entry (remove k (rows_after n more []))) ≤ n * (n - 1) / 2 + 2 * (n - 1)
moves_bound_entry n more k entry =
    let rs : List Row = rows_after n more [] in
    total (moves_in n more []) (moves_gone (unregister k rs)) (moves_of (register n entry (remove k rs))) (n * (n - 1) / 2) n (length rs)
    (moves_bound n more)
    (removal_moves k rs)
    (rows_after_room n more [] zero-le)
    (registration_moves n entry (remove k rs))
