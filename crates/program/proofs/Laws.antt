-- The laws of a table's rows, for whoever relies on the contracts: order, what is found afterwards, when each answer is given, which keys are
-- held. Assumes nothing.
use mathlib.Core.Path.{◌≡◌, refl, sym, ap, ◌∙◌}
use mathlib.Core.Logic.{◌⊎◌, inl, inr, ◌↔◌}
use mathlib.Core.Bool.{Bool}
use mathlib.Core.List.{List, [], ◌∷◌, map}
use Prim.Native.Nat.{ℕ, suc, ◌≤◌, ◌<◌, zero-le, suc-le-suc}
use native.Mathlib.Decide.{ℕ_discrete}
use native.Mathlib.Omega.{arith}
use lib.ListN.{length}
use borrow.Author.Tests.{lt-ltb, le-ltb, eq-eqb, ne_eqb}
use Rattle.ebpf.specs.Choice.{◌if◌else◌}
use Rattle.std.specs.Prelude.{Option, Some, None, Ok, Err}
use Rattle.program.specs.declared.Registered.TheVariants.{Inserted, Repeat}
use Rattle.program.specs.declared.RegisterError.TheVariants.{Collision, Full}
use Rattle.program.specs.declared.Row.{Row}
use Rattle.program.specs.Search.{Over}
use Rattle.program.specs.Rows.{RegisterResult, rank, Ascending, find, Held, Repeats, Clashes, insert, remove, above, answer, after, register, registered, gone_if, unregister}
use Rattle.program.proofs.Cases.{by_lt, by_eq, zero_one}
use Rattle.program.proofs.Searches.{over_below}
use Rattle.program.proofs.Rows.{not_both, missing_cons, find_over}

-- ---- order

over_insert : (k : ℕ) (r : Row) (rs : List Row) → k < rank r → Over k (map rank rs) → Over k (map rank (insert r rs))
unfolding ◌if◌else◌
over_insert k r [] l o = (l, tt)
over_insert k r (x ∷ rs) l o = by_lt (rank r) (rank x) (λ (b : Bool). Over k (map rank ((r ∷ x ∷ rs) if b else (x ∷ insert r rs))))
    (λ _. (l, o))
    (λ _. (o.0, over_insert k r rs l o.1))

pub insert_ascending : (r : Row) (rs : List Row) → Ascending rs → find (rank r) rs ≡ None → Ascending (insert r rs)
unfolding ◌if◌else◌
insert_ascending r [] a none = (tt, tt)
insert_ascending r (x ∷ rs) a none =
    let m = missing_cons (rank r) x rs none in
    let ne : rank x ≡ rank r → ⊥ = m.0 in
    by_lt (rank r) (rank x) (λ (b : Bool). Ascending ((r ∷ x ∷ rs) if b else (x ∷ insert r rs)))
    (λ lt. ((lt, over_below (rank r) (rank x) (map rank rs) (omega arith) a.0), a))
    (λ ge. (over_insert (rank x) r rs (omega arith) a.0, insert_ascending r rs a.1 m.1))

over_remove : (k j : ℕ) (rs : List Row) → Over k (map rank rs) → Over k (map rank (remove j rs))
unfolding ◌if◌else◌
over_remove k j [] o = tt
over_remove k j (x ∷ rs) o = by_eq (rank x) j (λ (b : Bool). Over k (map rank (rs if b else (x ∷ remove j rs))))
    (λ _. o.1)
    (λ _. (o.0, over_remove k j rs o.1))

pub remove_ascending : (k : ℕ) (rs : List Row) → Ascending rs → Ascending (remove k rs)
unfolding ◌if◌else◌
remove_ascending k [] a = tt
remove_ascending k (x ∷ rs) a = by_eq (rank x) k (λ (b : Bool). Ascending (rs if b else (x ∷ remove k rs)))
    (λ _. a.1)
    (λ _. (over_remove (rank x) k rs a.0, remove_ascending k rs a.1))

-- ---- what is found after an insertion and a removal

pub find_insert_same : (r : Row) (rs : List Row) → find (rank r) rs ≡ None → find (rank r) (insert r rs) ≡ Some r
unfolding ◌if◌else◌
find_insert_same r [] none = rw (eq-eqb (rank r) (rank r) refl) refl
find_insert_same r (x ∷ rs) none =
    let m = missing_cons (rank r) x rs none in
    by_lt (rank r) (rank x) (λ (b : Bool). find (rank r) ((r ∷ x ∷ rs) if b else (x ∷ insert r rs)) ≡ Some r)
    (λ _. rw (eq-eqb (rank r) (rank r) refl) refl)
    (λ _. rw (ne_eqb (rank x) (rank r) m.0) (find_insert_same r rs m.1))

pub find_insert_other : (k : ℕ) (r : Row) (rs : List Row) → (rank r ≡ k → ⊥) → find k (insert r rs) ≡ find k rs
unfolding ◌if◌else◌
find_insert_other k r [] ne = rw (ne_eqb (rank r) k ne) refl
find_insert_other k r (x ∷ rs) ne = by_lt (rank r) (rank x) (λ (b : Bool). find k ((r ∷ x ∷ rs) if b else (x ∷ insert r rs)) ≡ find k (x ∷ rs))
    (λ _. rw (ne_eqb (rank r) k ne) refl)
    (λ _. rw (find_insert_other k r rs ne) refl)

pub find_remove_same : (k : ℕ) (rs : List Row) → Ascending rs → find k (remove k rs) ≡ None
unfolding ◌if◌else◌
find_remove_same k [] a = refl
find_remove_same k (x ∷ rs) a = by_eq (rank x) k (λ (b : Bool). find k (rs if b else (x ∷ remove k rs)) ≡ None)
    (λ e. find_over k rs (rw e at a.0))
    (λ ne. rw (ne_eqb (rank x) k ne) (find_remove_same k rs a.1))

pub find_remove_other : (j k : ℕ) (rs : List Row) → (j ≡ k → ⊥) → find j (remove k rs) ≡ find j rs
unfolding ◌if◌else◌
find_remove_other j k [] ne = refl
find_remove_other j k (x ∷ rs) ne = by_eq (rank x) k (λ (b : Bool). find j (rs if b else (x ∷ remove k rs)) ≡ find j (x ∷ rs))
    (λ e. sym (rw (ne_eqb (rank x) j (λ f. ne (sym f ∙ e))) refl))
    (λ _. rw (find_remove_other j k rs ne) refl)

-- ---- lengths

pub length_insert : (r : Row) (rs : List Row) → length (insert r rs) ≡ suc (length rs)
unfolding ◌if◌else◌
length_insert r [] = refl
length_insert r (x ∷ rs) = by_lt (rank r) (rank x) (λ (b : Bool). length ((r ∷ x ∷ rs) if b else (x ∷ insert r rs)) ≡ suc (suc (length rs)))
    (λ _. refl)
    (λ _. ap suc (length_insert r rs))

pub length_remove : (k : ℕ) (x : Row) (rs : List Row) → find k rs ≡ Some x → suc (length (remove k rs)) ≡ length rs
unfolding ◌if◌else◌
length_remove k x [] e = absurd (not_both x None e refl)
length_remove k x (y ∷ rs) e = by_eq (rank y) k (λ (b : Bool). (Some y if b else find k rs) ≡ Some x → suc (length (rs if b else (y ∷ remove k rs))) ≡ suc (length rs))
    (λ _ _. refl)
    (λ _ e. ap suc (length_remove k x rs e))
    e

pub above_le : (k : ℕ) (rs : List Row) → above k rs ≤ length rs
unfolding ◌if◌else◌
above_le k [] = zero-le
above_le k (x ∷ rs) = by_lt k (rank x) (λ (b : Bool). (suc (above k rs) if b else above k rs) ≤ suc (length rs))
    (λ _. suc-le-suc (above_le k rs))
    (λ _. omega (arith, above_le k rs))

pub above_less : (k : ℕ) (x : Row) (rs : List Row) → find k rs ≡ Some x → above k rs < length rs
unfolding ◌if◌else◌
above_less k x [] e = absurd (not_both x None e refl)
above_less k x (y ∷ rs) e = by_eq (rank y) k (λ (b : Bool). (Some y if b else find k rs) ≡ Some x → above k (y ∷ rs) < suc (length rs))
    (λ e _. rw (le-ltb k (rank y) (omega arith)) (omega (arith, above_le k rs)))
    (λ _ e. by_lt k (rank y) (λ (b : Bool). (suc (above k rs) if b else above k rs) < suc (length rs))
    (λ _. omega (arith, above_less k x rs e))
    (λ _. omega (arith, above_le k rs)))
    e

-- ---- a registration

-- the four ways that a registration goes, for any statement of the rows afterwards and the answer
pub by_registered : (P : List Row → RegisterResult → Type 0) (n : ℕ) (r : Row) (rs : List Row)
    → ((x : Row) → find (rank r) rs ≡ Some x → x.index ≡ r.index → P rs (Ok Repeat))
    → ((x : Row) → find (rank r) rs ≡ Some x → (x.index ≡ r.index → ⊥) → P rs (Err Collision))
    → (find (rank r) rs ≡ None → n ≤ length rs → P rs (Err Full))
    → (find (rank r) rs ≡ None → length rs < n → P (insert r rs) (Ok (Inserted (above (rank r) rs))))
    → P (registered n r rs) (register n r rs)
unfolding register registered ◌if◌else◌
by_registered P n r rs same other full more = go (find (rank r) rs) refl
  where
    go : (f : Option Row) → find (rank r) rs ≡ f → P (after f n r rs) (answer f n r rs)
    go (Some x) e = by_eq x.index r.index (λ (b : Bool). P rs (Ok Repeat if b else Err Collision)) (same x e) (other x e)
    go None e = by_lt (length rs) n (λ (b : Bool). P (insert r rs if b else rs) (Ok (Inserted (above (rank r) rs)) if b else Err Full)) (more e) (full e)

module _ (n : ℕ) (r : Row) (rs : List Row) where
  -- Repeat exactly where the key is held with the same index
  pub repeat_iff : (register n r rs ≡ Ok Repeat) ↔ Repeats r rs
  unfolding register ◌if◌else◌
  repeat_iff = (
    by_registered (λ (_ : List Row) (a : RegisterResult). a ≡ Ok Repeat → Repeats r rs) n r rs
        (λ x e s _. (x, e, s))
        (λ _ _ _ h. absurd (zero_one (cc)))
        (λ _ _ h. absurd (zero_one (cc)))
        (λ _ _ h. absurd (zero_one (cc))),
    λ h. rw (h.1, eq-eqb h.0.index r.index h.2) refl,
  )

  -- Collision exactly where the key is held with another index
  pub collision_iff : (register n r rs ≡ Err Collision) ↔ Clashes r rs
  unfolding register ◌if◌else◌
  collision_iff = (
    by_registered (λ (_ : List Row) (a : RegisterResult). a ≡ Err Collision → Clashes r rs) n r rs
        (λ _ _ _ h. absurd (zero_one (cc)))
        (λ x e ne _. (x, e, ne))
        (λ _ _ h. absurd (zero_one (cc)))
        (λ _ _ h. absurd (zero_one (cc))),
    λ h. rw (h.1, ne_eqb h.0.index r.index h.2) refl,
  )

  -- Full exactly where the key is not held and the rows are used up
  pub full_iff : (register n r rs ≡ Err Full) ↔ ((find (rank r) rs ≡ None) × (n ≤ length rs))
  unfolding register ◌if◌else◌
  full_iff = (
    by_registered (λ (_ : List Row) (a : RegisterResult). a ≡ Err Full → (find (rank r) rs ≡ None) × (n ≤ length rs)) n r rs
        (λ _ _ _ h. absurd (zero_one (cc)))
        (λ _ _ _ h. absurd (zero_one (cc)))
        (λ none l _. (none, l))
        (λ _ _ h. absurd (zero_one (cc))),
    λ h. rw (h.0, le-ltb (length rs) n h.1) refl,
  )

  -- Inserted exactly where the key is not held and there is room; the moves are the rows above
  pub inserted_iff : (m : ℕ) → (register n r rs ≡ Ok (Inserted m)) ↔ ((find (rank r) rs ≡ None) × (length rs < n) × (m ≡ above (rank r) rs))
  unfolding register ◌if◌else◌
  inserted_iff m = (
    by_registered (λ (_ : List Row) (a : RegisterResult). a ≡ Ok (Inserted m) → (find (rank r) rs ≡ None) × (length rs < n) × (m ≡ above (rank r) rs)) n r rs
        (λ _ _ _ h. absurd (zero_one (cc)))
        (λ _ _ _ h. absurd (zero_one (cc)))
        (λ _ _ h. absurd (zero_one (cc)))
        (λ none l h. (none, l, cc)),
    λ h. rw (h.0, lt-ltb (length rs) n h.1, h.2) refl,
  )

  pub registered_ascending : Ascending rs → Ascending (registered n r rs)
  registered_ascending a = by_registered (λ (l : List Row) (_ : RegisterResult). Ascending l) n r rs
      (λ _ _ _. a) (λ _ _ _. a) (λ _ _. a) (λ none _. insert_ascending r rs a none)

  pub registered_room : length rs ≤ n → length (registered n r rs) ≤ n
  registered_room h = by_registered (λ (l : List Row) (_ : RegisterResult). length l ≤ n) n r rs
      (λ _ _ _. h) (λ _ _ _. h) (λ _ _. h) (λ _ l. rw (length_insert r rs) l)

  -- the rows where the answer is no insertion, and where it is one
  pub kept_rows : ((m : ℕ) → register n r rs ≡ Ok (Inserted m) → ⊥) → registered n r rs ≡ rs
  kept_rows = by_registered (λ (l : List Row) (a : RegisterResult). ((m : ℕ) → a ≡ Ok (Inserted m) → ⊥) → l ≡ rs) n r rs
      (λ _ _ _ _. refl) (λ _ _ _ _. refl) (λ _ _ _. refl) (λ _ _ h. absurd (h (above (rank r) rs) refl))

  pub more_rows : (m : ℕ) → register n r rs ≡ Ok (Inserted m) → (length (registered n r rs) ≡ suc (length rs)) × (m ≤ length rs)
  more_rows m = by_registered (λ (l : List Row) (a : RegisterResult). a ≡ Ok (Inserted m) → (length l ≡ suc (length rs)) × (m ≤ length rs)) n r rs
      (λ _ _ _ h. absurd (zero_one (cc)))
      (λ _ _ _ h. absurd (zero_one (cc)))
      (λ _ _ h. absurd (zero_one (cc)))
      (λ _ _ h. let e : m ≡ above (rank r) rs = cc in (length_insert r rs, omega (arith, above_le (rank r) rs)))

  -- a registration that is not refused leaves its key finding its index
  pub find_registered_same : (register n r rs ≡ Err Collision → ⊥) → (register n r rs ≡ Err Full → ⊥) → Repeats r (registered n r rs)
  find_registered_same = by_registered (λ (l : List Row) (a : RegisterResult). (a ≡ Err Collision → ⊥) → (a ≡ Err Full → ⊥) → Repeats r l) n r rs
      (λ x e s _ _. (x, e, s))
      (λ _ _ _ h _. absurd (h refl))
      (λ _ _ _ h. absurd (h refl))
      (λ none _ _ _. (r, find_insert_same r rs none, refl))

  -- a key that finds the row's index: a repeat, which changes nothing
  pub repeat_held : (x : Row) → find (rank r) rs ≡ Some x → x.index ≡ r.index → (register n r rs ≡ Ok Repeat) × (registered n r rs ≡ rs)
  unfolding registered
  repeat_held x e s = (repeat_iff.1 (x, e, s), rw e refl)

  -- what is found stays found
  pub find_stays : (k : ℕ) (x : Row) → find k rs ≡ Some x → find k (registered n r rs) ≡ Some x
  find_stays k x e = by_registered (λ (l : List Row) (_ : RegisterResult). find k l ≡ Some x) n r rs
      (λ _ _ _. e) (λ _ _ _. e) (λ _ _. e) (λ none _. find_insert_other k r rs (λ same. not_both x (find k rs) e (rw same at none)) ∙ e)

  -- other keys are found as before
  pub find_registered_other : (k : ℕ) → (rank r ≡ k → ⊥) → find k (registered n r rs) ≡ find k rs
  find_registered_other k ne = by_registered (λ (l : List Row) (_ : RegisterResult). find k l ≡ find k rs) n r rs
      (λ _ _ _. refl) (λ _ _ _. refl) (λ _ _. refl) (λ _ _. find_insert_other k r rs ne)

  -- the key itself is held afterwards, unless the table was full
  held_registered : (register n r rs ≡ Err Full → ⊥) → Held (rank r) (registered n r rs)
  held_registered = by_registered (λ (l : List Row) (a : RegisterResult). (a ≡ Err Full → ⊥) → Held (rank r) l) n r rs
      (λ x e _ _. (x, e)) (λ x e _ _. (x, e)) (λ _ _ h. absurd (h refl)) (λ none _ _. (r, find_insert_same r rs none))

-- the keys afterwards are the old ones and the new one
pub keys_registered : (n k : ℕ) (r : Row) (rs : List Row) → (register n r rs ≡ Err Full → ⊥) → Held k (registered n r rs) ↔ (Held k rs ⊎ (rank r ≡ k))
keys_registered n k r rs room = (split (ℕ_discrete (rank r) k), join)
  where
    split : Dec (rank r ≡ k) → Held k (registered n r rs) → Held k rs ⊎ (rank r ≡ k)
    split (yes e) h = inr e
    split (no ne) h = inl (h.0, sym (find_registered_other n r rs k ne) ∙ h.1)

    old : Dec (rank r ≡ k) → Held k rs → Held k (registered n r rs)
    old (yes e) h = rw e at (held_registered n r rs room)
    old (no ne) h = (h.0, find_registered_other n r rs k ne ∙ h.1)

    join : Held k rs ⊎ (rank r ≡ k) → Held k (registered n r rs)
    join (inl h) = old (ℕ_discrete (rank r) k) h
    join (inr e) = rw e at (held_registered n r rs room)

-- ---- a removal

module _ (k : ℕ) (rs : List Row) where
  -- None exactly where the key is not held; Some exactly where it is, and the moves are the rows above
  pub absent_iff : (unregister k rs ≡ None) ↔ (find k rs ≡ None)
  unfolding unregister
  absent_iff = (go (find k rs), λ h. rw h refl)
    where
      go : (f : Option Row) → gone_if f k rs ≡ None → f ≡ None
      go (Some x) h = absurd (zero_one (cc))
      go None h = refl

  pub gone_iff : (m : ℕ) → (unregister k rs ≡ Some m) ↔ (Held k rs × (m ≡ above k rs))
  unfolding unregister
  gone_iff m = (go (find k rs), λ h. rw (h.0.1, h.1) refl)
    where
      go : (f : Option Row) → gone_if f k rs ≡ Some m → ((x : Row) × (f ≡ Some x)) × (m ≡ above k rs)
      go (Some x) h = ((x, refl), cc)
      go None h = absurd (zero_one (cc))

  -- the keys afterwards are the others
  pub keys_removed : (j : ℕ) → Ascending rs → Held j (remove k rs) ↔ (Held j rs × (j ≡ k → ⊥))
  keys_removed j a = (split (ℕ_discrete j k), λ h. (h.0.0, find_remove_other j k rs h.1 ∙ h.0.1))
    where
      split : Dec (j ≡ k) → Held j (remove k rs) → Held j rs × (j ≡ k → ⊥)
      split (yes e) h = absurd (not_both h.0 (find j (remove k rs)) h.1 (rw e (find_remove_same k rs a)))
      split (no ne) h = ((h.0, sym (find_remove_other j k rs ne) ∙ h.1), ne)
