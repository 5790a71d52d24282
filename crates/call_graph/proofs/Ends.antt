-- The end of a function's slots: the smallest start above its index, or the text's end.
-- Assumes nothing.
use Prim.Native.Nat.{ℕ, zero, suc, min, ◌+◌, ◌≤◌, ◌<◌}
use mathlib.Core.Path.{◌≡◌, refl}
use mathlib.Core.Bool.{◌&&◌}
use mathlib.Core.List.{List, [], ◌∷◌}
use mathlib.Core.Logic.{◌⊎◌, inl, inr, ⊎_elim}
use native.Mathlib.Omega.{arith}
use native.Mathlib.Numerals.{add-one}
use lib.ListN.{length, get_or, drop, drop_of_length-le}
use lib.Seq.{drop-cons}
use lib.Dec.{ltb}
use Rattle.ebpf.specs.Choice.{◌if◌else◌}
use Rattle.call_graph.specs.Profile.{next_above}
use Rattle.program.proofs.Cases.{by_lt}

abbrev closer : ℕ → ℕ → ℕ → ℕ
closer i x end = x if ltb i x && ltb x end else end

pub by_closer : (Q : ℕ → Type 0) (i x end : ℕ) → (i < x → x < end → Q x) → (x ≤ i → Q end) → (end ≤ x → Q end) → Q (closer i x end)
unfolding ◌if◌else◌
by_closer Q i x end a b c = by_lt i x (λ t. Q (x if t && ltb x end else end)) (λ l. by_lt x end (λ t. Q (x if t else end)) (a l) c) b

pub next_within : (i end : ℕ) (xs : List ℕ) → next_above i end xs ≤ end
next_within i end [] = omega arith
next_within i end (x ∷ xs) =
    let h : next_above i (closer i x end) xs ≤ closer i x end = next_within i (closer i x end) xs in
    let g : closer i x end ≤ end = by_closer (λ n. n ≤ end) i x end (λ _ l. omega arith) (λ _. omega arith) (λ _. omega arith) in
    omega arith

-- by the least of two, where a start that is not above counts as the largest number
closer_min : (i x best : ℕ) → best ≤ 0xffff_ffff → min best (x if ltb i x else 0xffff_ffff) ≡ closer i x best
unfolding ◌if◌else◌
closer_min i x best l = by_lt i x (λ t. min best (x if t else 0xffff_ffff) ≡ (x if t && ltb x best else best))
    (λ a. by_lt x best (λ t. min best x ≡ (x if t else best)) (λ b. omega arith) (λ b. omega arith))
    (λ a. omega arith)

pub next_turn : (i best r x : ℕ) (xs : List ℕ) → r < length xs → x ≡ get_or xs r 0 → best ≤ 0xffff_ffff
    → next_above i best (drop r xs) ≡ next_above i (min best (x if ltb i x else 0xffff_ffff)) (drop (r + 1) xs)
next_turn i best r x xs l e m = rw (closer_min i x best m, e, add-one, drop-cons xs r 0 l) refl

pub next_end : (i best r : ℕ) (xs : List ℕ) → length xs ≤ r → next_above i best (drop r xs) ≡ best
next_end i best r xs l = rw (drop_of_length-le xs l) refl

-- what it means: no start lies between, and it is the text's end or a start above
pub next_least : (i end r : ℕ) (xs : List ℕ) → r < length xs → i < get_or xs r 0 → next_above i end xs ≤ get_or xs r 0
next_least i end r [] l h = absurd (let z : r < 0 = l in omega arith)
next_least i end zero (x ∷ xs) l h =
    let w : next_above i (closer i x end) xs ≤ closer i x end = next_within i (closer i x end) xs in
    let g : closer i x end ≤ x = by_closer (λ n. n ≤ x) i x end (λ _ _. omega arith) (λ q. absurd (omega arith)) (λ q. q) in
    omega arith
next_least i end (suc r) (x ∷ xs) l h = next_least i (closer i x end) r xs (omega arith) h

pub next_met : (i end : ℕ) (xs : List ℕ) → (next_above i end xs ≡ end) ⊎ ((r : ℕ) × (r < length xs) × (i < get_or xs r 0) × (next_above i end xs ≡ get_or xs r 0))
next_met i end [] = inl refl
next_met i end (x ∷ xs) = ⊎_elim
    (λ e. by_closer (λ n. next_above i (closer i x end) xs ≡ n → Met)
    i x end
    (λ a b q. inr (0, omega arith, a, q)) (λ _ q. inl q) (λ _ q. inl q) e)
    (λ m. inr (suc m.0, omega arith, m.2, m.3))
    (next_met i (closer i x end) xs)
  where
    Met : Type 0
    Met = (next_above i end (x ∷ xs) ≡ end) ⊎ ((r : ℕ) × (r < length (x ∷ xs)) × (i < get_or (x ∷ xs) r 0) × (next_above i end (x ∷ xs) ≡ get_or (x ∷ xs) r 0))
