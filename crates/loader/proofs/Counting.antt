-- How many distinct numbers a list has: which lists have the same ones, and how many the keys of a table are.
-- Assumes nothing.
use Prim.Native.Nat.{ℕ, suc, ◌≤◌, zero-le, suc-le-suc}
use native.Mathlib.Decide.{ℕ_discrete}
use native.Mathlib.Omega.{arith}
use mathlib.Core.Path.{◌≡◌, refl, sym, ap, subst, ◌∙◌}
use mathlib.Core.Bool.{Bool, true, false, ◌||◌}
use mathlib.Core.List.{List, [], ◌∷◌, ◌++◌, map}
use lib.ListN.{length}
use lib.Dec.{eqb}
use borrow.Author.Tests.{eq-eqb, ne_eqb}
use Rattle.std.proofs.Math.Bool.{or_comm, or_assoc}
use Rattle.std.specs.Prelude.{Some, None}
use Rattle.ebpf.specs.Choice.{◌if◌else◌}
use Rattle.program.specs.declared.Row.{Row}
use Rattle.program.specs.Search.{Over}
use Rattle.program.specs.Rows.{rank, Ascending, find, insert, remove}
use Rattle.program.proofs.Cases.{by_lt, by_eq}
use Rattle.program.proofs.Rows.{not_both, missing_cons}
use Rattle.loader.specs.Demand.{is_one_of, distinct}

-- ---- lists with the same numbers

-- as many distinct ones, and the same
pub record Same (xs ys : List ℕ) : Type 0 where
  pub count : distinct xs ≡ distinct ys
  pub has : (k : ℕ) → is_one_of k xs ≡ is_one_of k ys

same_refl : (xs : List ℕ) → Same xs xs
same_refl xs = record { count = refl; has = λ k. refl }

same_sym : (xs ys : List ℕ) → Same xs ys → Same ys xs
same_sym xs ys s = record { count = sym s.count; has = λ k. sym (s.has k) }

same_then : (xs ys zs : List ℕ) → Same xs ys → Same ys zs → Same xs zs
same_then xs ys zs s t = record { count = s.count ∙ t.count; has = λ k. s.has k ∙ t.has k }

same_cons : (a : ℕ) (xs ys : List ℕ) → Same xs ys → Same (a ∷ xs) (a ∷ ys)
unfolding distinct
same_cons a xs ys s = record { count = rw (s.has a, s.count) refl; has = λ k. rw (s.has k) refl }

or_swap : (a b c : Bool) → (a || (b || c)) ≡ (b || (a || c))
or_swap a b c = sym (or_assoc a b c) ∙ ap (λ (x : Bool). x || c) (or_comm a b) ∙ or_assoc b a c

count_swap : (a b : Bool) (n : ℕ)
    → ((n if b else suc n) if a else suc (n if b else suc n)) ≡ ((n if a else suc n) if b else suc (n if a else suc n))
unfolding ◌if◌else◌
count_swap true true n = refl
count_swap true false n = refl
count_swap false true n = refl
count_swap false false n = refl

same_swap : (a b : ℕ) (xs : List ℕ) → Same (a ∷ b ∷ xs) (b ∷ a ∷ xs)
unfolding distinct
same_swap a b xs = record { count = swapped (ℕ_discrete a b); has = λ k. or_swap (eqb k a) (eqb k b) (is_one_of k xs) }
  where
    swapped : Dec (a ≡ b) → distinct (a ∷ b ∷ xs) ≡ distinct (b ∷ a ∷ xs)
    swapped (yes e) = subst (λ (x : ℕ). distinct (a ∷ x ∷ xs) ≡ distinct (x ∷ a ∷ xs)) e refl
    swapped (no ne) = rw (ne_eqb a b ne, ne_eqb b a (λ e. ne (sym e))) (count_swap (is_one_of a xs) (is_one_of b xs) (distinct xs))

pub same_again : (a : ℕ) (xs : List ℕ) → is_one_of a xs ≡ true → Same (a ∷ xs) xs
unfolding distinct ◌if◌else◌
same_again a xs e = record {
  count = rw e refl;
  has = λ k. by_eq k a (λ (b : Bool). (b || is_one_of k xs) ≡ is_one_of k xs) (λ h. rw (h, e) refl) (λ _. refl);
}

pub same_behind : (zs xs ys : List ℕ) → Same xs ys → Same (zs ++ xs) (zs ++ ys)
same_behind [] xs ys s = s
same_behind (z ∷ zs) xs ys s = same_cons z (zs ++ xs) (zs ++ ys) (same_behind zs xs ys s)

-- a number of the back comes to the front
pub same_front : (a : ℕ) (zs xs : List ℕ) → Same (zs ++ (a ∷ xs)) (a ∷ (zs ++ xs))
same_front a [] xs = same_refl (a ∷ xs)
same_front a (z ∷ zs) xs =
    same_then (z ∷ (zs ++ (a ∷ xs))) (z ∷ a ∷ (zs ++ xs)) (a ∷ z ∷ (zs ++ xs))
    (same_cons z (zs ++ (a ∷ xs)) (a ∷ (zs ++ xs)) (same_front a zs xs))
    (same_swap z a (zs ++ xs))

pub one_behind : (k : ℕ) (zs xs : List ℕ) → is_one_of k xs ≡ true → is_one_of k (zs ++ xs) ≡ true
one_behind k [] xs e = e
one_behind k (z ∷ zs) xs e = rw (one_behind k zs xs e) (or_true (eqb k z))
  where
    or_true : (b : Bool) → (b || true) ≡ true
    or_true true = refl
    or_true false = refl

-- ---- the keys of rows

abbrev pub keys_of : List Row → List ℕ
keys_of rows = map (λ r. r.key) rows

pub one_held : (k : ℕ) (x : Row) (rs : List Row) → find k rs ≡ Some x → is_one_of k (keys_of rs) ≡ true
unfolding ◌if◌else◌ rank
one_held k x [] e = absurd (not_both x None e refl)
one_held k x (y ∷ rs) e = by_eq y.key k (λ (b : Bool). (Some y if b else find k rs) ≡ Some x → is_one_of k (keys_of (y ∷ rs)) ≡ true)
    (λ h _. rw (eq-eqb k y.key (sym h)) refl)
    (λ ne e. rw (ne_eqb k y.key (λ h. ne (sym h))) (one_held k x rs e))
    e

pub one_missing : (k : ℕ) (rs : List Row) → find k rs ≡ None → is_one_of k (keys_of rs) ≡ false
unfolding rank
one_missing k [] e = refl
one_missing k (y ∷ rs) e = let m = missing_cons k y rs e in rw (ne_eqb k y.key (λ h. m.0 (sym h))) (one_missing k rs m.1)

one_over : (k : ℕ) (rs : List Row) → Over k (map rank rs) → is_one_of k (keys_of rs) ≡ false
unfolding rank
one_over k [] o = refl
one_over k (y ∷ rs) o = rw (ne_eqb k y.key (omega (arith, o.0))) (one_over k rs o.1)

-- the keys of a table are all distinct
pub distinct_rows : (rs : List Row) → Ascending rs → distinct (keys_of rs) ≡ length rs
unfolding distinct ◌if◌else◌ rank
distinct_rows [] a = refl
distinct_rows (y ∷ rs) a = rw (one_over y.key rs a.0) (ap suc (distinct_rows rs a.1))

pub same_insert : (r : Row) (rs : List Row) → Same (keys_of (insert r rs)) (r.key ∷ keys_of rs)
unfolding ◌if◌else◌ rank
same_insert r [] = same_refl (r.key ∷ [])
same_insert r (x ∷ rs) = by_lt r.key x.key (λ (b : Bool). Same (keys_of ((r ∷ x ∷ rs) if b else (x ∷ insert r rs))) (r.key ∷ x.key ∷ keys_of rs))
    (λ _. same_refl (r.key ∷ x.key ∷ keys_of rs))
    (λ _. same_then (x.key ∷ keys_of (insert r rs)) (x.key ∷ r.key ∷ keys_of rs) (r.key ∷ x.key ∷ keys_of rs)
    (same_cons x.key (keys_of (insert r rs)) (r.key ∷ keys_of rs) (same_insert r rs))
    (same_swap x.key r.key (keys_of rs)))

-- a key that goes and comes back
pub same_remove : (k : ℕ) (rs : List Row) → Same (k ∷ keys_of (remove k rs)) (k ∷ keys_of rs)
unfolding ◌if◌else◌ rank
same_remove k [] = same_refl (k ∷ [])
same_remove k (x ∷ rs) = by_eq x.key k (λ (b : Bool). Same (k ∷ keys_of (rs if b else (x ∷ remove k rs))) (k ∷ x.key ∷ keys_of rs))
    (λ e. rw e (same_sym (k ∷ k ∷ keys_of rs) (k ∷ keys_of rs) (same_again k (k ∷ keys_of rs) (rw (eq-eqb k k refl) refl))))
    (λ _. same_then (k ∷ x.key ∷ keys_of (remove k rs)) (x.key ∷ k ∷ keys_of (remove k rs)) (k ∷ x.key ∷ keys_of rs)
    (same_swap k x.key (keys_of (remove k rs)))
    (same_then (x.key ∷ k ∷ keys_of (remove k rs)) (x.key ∷ k ∷ keys_of rs) (k ∷ x.key ∷ keys_of rs)
    (same_cons x.key (k ∷ keys_of (remove k rs)) (k ∷ keys_of rs) (same_remove k rs))
    (same_swap x.key k (keys_of rs))))

pub remove_le : (k : ℕ) (rs : List Row) → length (remove k rs) ≤ length rs
unfolding ◌if◌else◌
remove_le k [] = zero-le
remove_le k (x ∷ rs) = by_eq (rank x) k (λ (b : Bool). length (rs if b else (x ∷ remove k rs)) ≤ suc (length rs))
    (λ _. omega arith)
    (λ _. suc-le-suc (remove_le k rs))

-- what is found has the rank
pub find_rank : (k : ℕ) (x : Row) (rs : List Row) → find k rs ≡ Some x → rank x ≡ k
unfolding ◌if◌else◌
find_rank k x [] e = absurd (not_both x None e refl)
find_rank k x (y ∷ rs) e = by_eq (rank y) k (λ (b : Bool). (Some y if b else find k rs) ≡ Some x → rank x ≡ k)
    (λ h e. let s : y ≡ x = cc in rw (← s) h)
    (λ _ e. find_rank k x rs e)
    e
