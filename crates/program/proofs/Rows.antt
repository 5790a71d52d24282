-- Rows in ascending rank, where the place of a rank is known: what is found there, what an insertion and a removal make, and how many rows
-- are above. Everything goes through `rank`. Assumes nothing.
use mathlib.Core.Path.{◌≡◌, refl, ap}
use mathlib.Core.Bool.{Bool}
use mathlib.Core.List.{List, [], ◌∷◌, ◌++◌, map}
use Prim.Native.Nat.{ℕ, suc, ◌+◌, ◌≤◌, ◌<◌, zero-le, suc-le-suc}
use native.Mathlib.Nat.{le_of_suc-le-suc, not-suc-le-zero}
use native.Mathlib.Omega.{arith}
use lib.ListN.{length, take, drop, get_or}
use borrow.Author.Tests.{lt-ltb, le-ltb, eq-eqb, ne_eqb}
use Rattle.ebpf.specs.Choice.{◌if◌else◌}
use Rattle.std.specs.Prelude.{Option, Some, None}
use Rattle.program.specs.declared.Row.{Row}
use Rattle.program.specs.Search.{Over, place, index_of}
use Rattle.program.specs.Rows.{rank, find, insert, remove, above, Ascending}
use Rattle.program.proofs.Cases.{by_lt, by_eq, zero_one}
use Rattle.program.proofs.Searches.{over_below}

-- the place of a rank among rows
abbrev pub place_of : ℕ → List Row → ℕ
place_of k rs = place k (map rank rs)

-- ---- rows that are all above k

pub find_over : (k : ℕ) (rs : List Row) → Over k (map rank rs) → find k rs ≡ None
unfolding ◌if◌else◌
find_over k [] o = refl
find_over k (r ∷ rs) o = rw (ne_eqb (rank r) k (omega arith)) (find_over k rs o.1)

above_over : (k : ℕ) (rs : List Row) → Over k (map rank rs) → above k rs ≡ length rs
unfolding ◌if◌else◌
above_over k [] o = refl
above_over k (r ∷ rs) o = rw (lt-ltb k (rank r) o.0) (ap suc (above_over k rs o.1))

-- ---- what stands at the place

-- a row of rank k at the place is what is found
pub find_here : (k : ℕ) (z : Row) (rs : List Row) → place_of k rs < length rs → rank (get_or rs (place_of k rs) z) ≡ k → find k rs ≡ Some (get_or rs (place_of k rs) z)
unfolding ◌if◌else◌
find_here k z [] l e = absurd (not-suc-le-zero l)
find_here k z (r ∷ rs) l e = by_lt (rank r) k
    (λ (b : Bool). (suc (place_of k rs) if b else 0) < suc (length rs) → rank (get_or (r ∷ rs) (suc (place_of k rs) if b else 0) z) ≡ k → find k (r ∷ rs) ≡ Some (get_or (r ∷ rs) (suc (place_of k rs) if b else 0) z))
    (λ lt l e. rw (ne_eqb (rank r) k (omega arith)) (find_here k z rs (le_of_suc-le-suc l) e))
    (λ ge l e. rw (eq-eqb (rank r) k e) refl)
    l e

-- no row of rank k at the place: none is found
pub find_missing : (k : ℕ) (z : Row) (rs : List Row) → Ascending rs → (place_of k rs < length rs → rank (get_or rs (place_of k rs) z) ≡ k → ⊥) → find k rs ≡ None
unfolding ◌if◌else◌
find_missing k z [] a h = refl
find_missing k z (r ∷ rs) a h = by_lt (rank r) k
    (λ (b : Bool). ((suc (place_of k rs) if b else 0) < suc (length rs) → rank (get_or (r ∷ rs) (suc (place_of k rs) if b else 0) z) ≡ k → ⊥) → find k (r ∷ rs) ≡ None)
    (λ lt h. rw (ne_eqb (rank r) k (omega arith)) (find_missing k z rs a.1 (λ l e. h (suc-le-suc l) e)))
    (λ ge h.
    let ne : rank r ≡ k → ⊥ = h (suc-le-suc zero-le) in
    rw (ne_eqb (rank r) k ne) (find_over k rs (over_below k (rank r) (map rank rs) (omega arith) a.0)))
    h

-- ---- a rank that is not held

pub not_both : (x : Row) (f : Option Row) → f ≡ Some x → f ≡ None → ⊥
not_both x f p q = zero_one (cc)

pub missing_cons : (k : ℕ) (x : Row) (rs : List Row) → find k (x ∷ rs) ≡ None → (rank x ≡ k → ⊥) × (find k rs ≡ None)
unfolding ◌if◌else◌
missing_cons k x rs = by_eq (rank x) k (λ (b : Bool). (Some x if b else find k rs) ≡ None → (rank x ≡ k → ⊥) × (find k rs ≡ None))
    (λ e h. absurd (not_both x (Some x) refl h))
    (λ ne h. (ne, h))

-- ---- an insertion at the place

pub insert_here : (r : Row) (rs : List Row) → find (rank r) rs ≡ None → insert r rs ≡ take (place_of (rank r) rs) rs ++ (r ∷ drop (place_of (rank r) rs) rs)
unfolding ◌if◌else◌
insert_here r [] none = refl
insert_here r (x ∷ rs) none =
    let m = missing_cons (rank r) x rs none in
    let ne : rank x ≡ rank r → ⊥ = m.0 in
    by_lt (rank x) (rank r)
    (λ (b : Bool). insert r (x ∷ rs) ≡ take (suc (place_of (rank r) rs) if b else 0) (x ∷ rs) ++ (r ∷ drop (suc (place_of (rank r) rs) if b else 0) (x ∷ rs)))
    (λ lt. rw (le-ltb (rank r) (rank x) (omega arith)) (ap (λ (l : List Row). x ∷ l) (insert_here r rs m.1)))
    (λ ge. rw (lt-ltb (rank r) (rank x) (omega arith)) refl)

pub above_missing : (k : ℕ) (rs : List Row) → Ascending rs → find k rs ≡ None → place_of k rs + above k rs ≡ length rs
unfolding ◌if◌else◌
above_missing k [] a none = refl
above_missing k (x ∷ rs) a none =
    let m = missing_cons k x rs none in
    let ne : rank x ≡ k → ⊥ = m.0 in
    by_lt (rank x) k (λ (b : Bool). (suc (place_of k rs) if b else 0) + above k (x ∷ rs) ≡ suc (length rs))
    (λ lt. rw (le-ltb k (rank x) (omega arith)) (omega (arith, above_missing k rs a.1 m.1)))
    (λ ge.
    let lt : k < rank x = omega arith in
    rw (lt-ltb k (rank x) lt) (omega (arith, above_over k rs (over_below k (rank x) (map rank rs) (omega arith) a.0))))

-- ---- a removal at the place

pub remove_here : (k : ℕ) (z : Row) (rs : List Row) → place_of k rs < length rs → rank (get_or rs (place_of k rs) z) ≡ k → remove k rs ≡ take (place_of k rs) rs ++ drop (suc (place_of k rs)) rs
unfolding ◌if◌else◌
remove_here k z [] l e = absurd (not-suc-le-zero l)
remove_here k z (r ∷ rs) l e = by_lt (rank r) k
    (λ (b : Bool). (suc (place_of k rs) if b else 0) < suc (length rs) → rank (get_or (r ∷ rs) (suc (place_of k rs) if b else 0) z) ≡ k → remove k (r ∷ rs) ≡ take (suc (place_of k rs) if b else 0) (r ∷ rs) ++ drop (suc (suc (place_of k rs) if b else 0)) (r ∷ rs))
    (λ lt l e. rw (ne_eqb (rank r) k (omega arith)) (ap (λ (l : List Row). r ∷ l) (remove_here k z rs (le_of_suc-le-suc l) e)))
    (λ ge l e. rw (eq-eqb (rank r) k e) refl)
    l e

pub above_held : (k : ℕ) (z : Row) (rs : List Row) → Ascending rs → place_of k rs < length rs → rank (get_or rs (place_of k rs) z) ≡ k → suc (place_of k rs) + above k rs ≡ length rs
unfolding ◌if◌else◌
above_held k z [] a l e = absurd (not-suc-le-zero l)
above_held k z (r ∷ rs) a l e = by_lt (rank r) k
    (λ (b : Bool). (suc (place_of k rs) if b else 0) < suc (length rs) → rank (get_or (r ∷ rs) (suc (place_of k rs) if b else 0) z) ≡ k → suc (suc (place_of k rs) if b else 0) + above k (r ∷ rs) ≡ suc (length rs))
    (λ lt l e. rw (le-ltb k (rank r) (omega arith)) (omega (arith, above_held k z rs a.1 (le_of_suc-le-suc l) e)))
    (λ ge l e. rw (le-ltb k (rank r) (omega arith)) (omega (arith, above_over k rs (rw e at a.0))))
    l e

pub remove_missing : (k : ℕ) (rs : List Row) → find k rs ≡ None → remove k rs ≡ rs
unfolding ◌if◌else◌
remove_missing k [] none = refl
remove_missing k (x ∷ rs) none =
    let m = missing_cons k x rs none in
    rw (ne_eqb (rank x) k m.0) (ap (λ (l : List Row). x ∷ l) (remove_missing k rs m.1))

-- ---- the first row of a rank, by the first index of the rank

pub find_first : (k : ℕ) (z : Row) (rs : List Row) → index_of k (map rank rs) < length rs → find k rs ≡ Some (get_or rs (index_of k (map rank rs)) z)
unfolding ◌if◌else◌
find_first k z [] l = absurd (not-suc-le-zero l)
find_first k z (r ∷ rs) l = by_eq (rank r) k
    (λ (b : Bool). (0 if b else suc (index_of k (map rank rs))) < suc (length rs) → (Some r if b else find k rs) ≡ Some (get_or (r ∷ rs) (0 if b else suc (index_of k (map rank rs))) z))
    (λ e l. refl)
    (λ ne l. find_first k z rs (le_of_suc-le-suc l))
    l

pub find_none : (k : ℕ) (rs : List Row) → length rs ≤ index_of k (map rank rs) → find k rs ≡ None
unfolding ◌if◌else◌
find_none k [] l = refl
find_none k (r ∷ rs) l = by_eq (rank r) k
    (λ (b : Bool). suc (length rs) ≤ (0 if b else suc (index_of k (map rank rs))) → (Some r if b else find k rs) ≡ None)
    (λ e l. absurd (not-suc-le-zero l))
    (λ ne l. find_none k rs (le_of_suc-le-suc l))
    l
