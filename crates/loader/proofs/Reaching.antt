-- Any trace: which registrations are reached, and what a refusal for a collision or a full table says of them.
-- Assumes nothing.
use Prim.Native.Nat.{ℕ, zero, suc, ◌+◌, ◌≤◌, ◌<◌}
use native.Mathlib.Decide.{ℕ_discrete}
use native.Mathlib.Omega.{arith}
use mathlib.Core.Path.{◌≡◌, refl, sym, ap, ◌∙◌}
use mathlib.Core.Logic.{◌⊎◌, inl, inr, ◌↔◌}
use mathlib.Core.Bool.{true}
use mathlib.Core.List.{List, [], ◌∷◌, ◌++◌}
use lib.ListN.{length}
use Rattle.program.specs.declared.RegisterError.TheVariants.{Collision, Full}
use Rattle.program.specs.declared.Registered.TheVariants.{Inserted, Repeat}
use Rattle.std.specs.Prelude.{Some, None, Ok, Err}
use Rattle.ebpf.specs.Choice.{◌if◌else◌}
use Rattle.program.specs.declared.Row.{Row}
use Rattle.program.specs.Rows.{rank, Ascending, find, insert, remove, above, registered, unregister, RegisterResult}
use Rattle.program.specs.Rows as table
use Rattle.program.specs.Runs.{moves_gone}
use Rattle.program.proofs.Cases.{zero_one}
use Rattle.program.proofs.Laws.{by_registered, insert_ascending, remove_ascending, find_insert_same, find_insert_other, length_insert}
use Rattle.loader.specs.declared.error.ElfError.{ElfError}
use Rattle.loader.specs.declared.error.ElfError.TheVariants.{SymbolHashCollision, TableFull}
use Rattle.loader.specs.Trace.{Trace, done, stop, register, forget, and_then, each, Settled, accepted, refused, settle, on_registered}
use Rattle.loader.specs.Demand.{on_reached, reached, Among, distinct}
use Rattle.loader.proofs.Plain.{Plain, of_table}
use Rattle.loader.proofs.Counting.{same_again, same_behind, same_front, one_behind, keys_of, one_held, one_missing, distinct_rows, same_insert, same_remove, remove_le, find_rank}

-- refused for a collision; for a full table
abbrev pub Collides : Settled → Type 0
Collides s = (key : ℕ) × (s ≡ refused (SymbolHashCollision key))

abbrev pub Fills : Settled → Type 0
Fills s = (n : ℕ) × (s ≡ refused (TableFull n))

-- what a plain refusal is not
pub no_collision : (r : ElfError) → Plain r → Collides (refused r) → ⊥
no_collision r p (k, e) = let t : of_table r ≡ true = cc in zero_one (cc)

no_full : (r : ElfError) → Plain r → Fills (refused r) → ⊥
no_full r p (n, e) = let t : of_table r ≡ true = cc in zero_one (cc)

-- ---- traces that forget nothing

-- it forgets nothing, its rows are P, and it stops plainly if at all
abbrev pub Steady : (Row → Type 0) → Trace → Type 0
Steady P (done im) = Unit {0}
Steady P (stop r) = Plain r
Steady P (register row t) = P row × Steady P t
Steady P (forget key t) = ⊥

pub steady_then : (P : Row → Type 0) (T : Trace) (K : List ℕ → Trace) → Steady P T → ((im : List ℕ) → Steady P (K im)) → Steady P (and_then T K)
unfolding and_then
steady_then P (done im) K s k = k im
steady_then P (stop r) K s k = s
steady_then P (register row T) K s k = (s.0, steady_then P T K s.1 k)
steady_then P (forget key T) K s k = absurd s

pub steady_each : (P : Row → Type 0) (step : ℕ → List ℕ → Trace) → ((i : ℕ) (im : List ℕ) → Steady P (step i im)) → (n i : ℕ) (im : List ℕ) → Steady P (each step n i im)
unfolding each
steady_each P step s zero i im = tt
steady_each P step s (suc n) i im = steady_then P (step i im) (λ (im' : List ℕ). each step n (i + 1) im') (s i im) (λ im'. steady_each P step s n (i + 1) im')

among_on : (x : Row) (a : RegisterResult) (l : List Row) → Among x (on_reached a l) → Among x l
among_on x (Ok (Inserted m)) l h = h
among_on x (Ok Repeat) l h = h
among_on x (Err Collision) l h = absurd h
among_on x (Err Full) l h = absurd h

module _ (cap : ℕ) (P : Row → Type 0) where
  -- the rows reached are P
  pub reached_are : (T : Trace) → Steady P T → (rows : List Row) (x : Row) → Among x (reached cap T rows) → P x
  unfolding reached
  reached_are (done im) s rows x h = absurd h
  reached_are (stop r) s rows x h = absurd h
  reached_are (register r T) s rows x (inl e) = rw e s.0
  reached_are (register r T) s rows x (inr h) =
      reached_are T s.1 (registered cap r rows) x (among_on x (table.register cap r rows) (reached cap T (registered cap r rows)) h)
  reached_are (forget key T) s rows x h = absurd s

  -- what is found is P
  abbrev pub AllFound : List Row → Type 0
  AllFound rows = (k : ℕ) (x : Row) → find k rows ≡ Some x → P x

  insert_found : (r : Row) (rows : List Row) → find (rank r) rows ≡ None → P r → AllFound rows → AllFound (insert r rows)
  insert_found r rows none p all k x e = go (ℕ_discrete (rank r) k)
    where
      go : Dec (rank r ≡ k) → P x
      go (yes h) =
          let f : find (rank r) (insert r rows) ≡ Some r = find_insert_same r rows none in
          let same : r ≡ x = cc in
          rw (← same) p
      go (no ne) = all k x (sym (find_insert_other k r rows ne) ∙ e)

  -- and stays so, in ascending rows
  pub accepted_rows : (T : Trace) → Steady P T → (rows : List Row) (m : ℕ) → Ascending rows → AllFound rows
      → (im' : List ℕ) (rows' : List Row) (m' : ℕ) → settle cap T rows m ≡ accepted im' rows' m' → Ascending rows' × AllFound rows'
  unfolding settle
  accepted_rows (done im) s rows m a all im' rows' m' e = let same : rows ≡ rows' = cc in rw (← same) (a, all)
  accepted_rows (stop r) s rows m a all im' rows' m' e = absurd (zero_one (cc))
  accepted_rows (register r T) s rows m a all im' rows' m' e =
      by_registered (λ (l : List Row) (g : RegisterResult). on_registered g cap r.key m (λ (n : ℕ). settle cap T l n) ≡ accepted im' rows' m' → Ascending rows' × AllFound rows') cap r rows
      (λ _ _ _ e. accepted_rows T s.1 rows m a all im' rows' m' e)
      (λ _ _ _ e. absurd (zero_one (cc)))
      (λ _ _ e. absurd (zero_one (cc)))
      (λ none _ e. accepted_rows T s.1 (insert r rows) _ (insert_ascending r rows a none) (insert_found r rows none s.0 all) im' rows' m' e)
      e
  accepted_rows (forget key T) s rows m a all im' rows' m' e = absurd s

  -- a row reached whose key finds another index is refused
  hit : (T : Trace) → Steady P T → (rows : List Row) (m : ℕ) (x y : Row)
      → find (rank y) rows ≡ Some x → (x.index ≡ y.index → ⊥) → Among y (reached cap T rows) → Collides (settle cap T rows m)
  unfolding settle reached
  hit (done im) s rows m x y f ne h = absurd h
  hit (stop r) s rows m x y f ne h = absurd h
  hit (register r T) s rows m x y f ne h =
      by_registered (λ (l : List Row) (g : RegisterResult). (y ≡ r) ⊎ Among y (on_reached g (reached cap T l)) → Collides (on_registered g cap r.key m (λ (n : ℕ). settle cap T l n))) cap r rows
      (same (λ q. hit T s.1 rows m x y f ne q)) (λ _ _ _ _. (r.key, refl)) full (more (λ g q. hit T s.1 (insert r rows) _ x y g ne q)) h
    where
      same : (Among y (reached cap T rows) → Collides (settle cap T rows m))
          → (z : Row) → find (rank r) rows ≡ Some z → z.index ≡ r.index → (y ≡ r) ⊎ Among y (reached cap T rows) → Collides (settle cap T rows m)
      same on z e i (inl q) = absurd (ne (cc))
      same on z e i (inr q) = on q

      full : find (rank r) rows ≡ None → cap ≤ length rows → (y ≡ r) ⊎ ⊥ → Collides (refused (TableFull cap))
      full none l (inl q) = absurd (zero_one (cc))
      full none l (inr q) = absurd q

      more : (find (rank y) (insert r rows) ≡ Some x → Among y (reached cap T (insert r rows)) → Collides (settle cap T (insert r rows) (m + above (rank r) rows)))
          → find (rank r) rows ≡ None → length rows < cap → (y ≡ r) ⊎ Among y (reached cap T (insert r rows)) → Collides (settle cap T (insert r rows) (m + above (rank r) rows))
      more on none l (inl q) = absurd (zero_one (cc))
      more on none l (inr q) = on (find_insert_other (rank y) r rows (λ k. zero_one (cc)) ∙ f) q
  hit (forget key T) s rows m x y f ne h = absurd s

  -- two rows reached with one key and two indices: the later is refused
  pub two : (T : Trace) → Steady P T → (rows : List Row) (m : ℕ) (x y : Row)
      → rank x ≡ rank y → (x.index ≡ y.index → ⊥) → Among x (reached cap T rows) → Among y (reached cap T rows) → Collides (settle cap T rows m)
  unfolding settle reached
  two (done im) s rows m x y k ne h g = absurd h
  two (stop r) s rows m x y k ne h g = absurd h
  two (register r T) s rows m x y k ne h g =
      by_registered (λ (l : List Row) (a : RegisterResult).
      (x ≡ r) ⊎ Among x (on_reached a (reached cap T l)) → (y ≡ r) ⊎ Among y (on_reached a (reached cap T l)) → Collides (on_registered a cap r.key m (λ (n : ℕ). settle cap T l n))) cap r rows
      (λ z e i. later rows m (λ p q. two T s.1 rows m x y k ne p q) z e i)
      (λ _ _ _ _ _. (r.key, refl))
      (λ _ _. full)
      (λ none _. later (insert r rows) (m + above (rank r) rows) (λ p q. two T s.1 (insert r rows) _ x y k ne p q) r (find_insert_same r rows none) refl)
      h g
    where
      later : (l : List Row) (n : ℕ) → (Among x (reached cap T l) → Among y (reached cap T l) → Collides (settle cap T l n)) → (z : Row) → find (rank r) l ≡ Some z → z.index ≡ r.index
          → (x ≡ r) ⊎ Among x (reached cap T l) → (y ≡ r) ⊎ Among y (reached cap T l) → Collides (settle cap T l n)
      later l n on z e i (inl p) (inl q) = absurd (ne (cc))
      later l n on z e i (inl p) (inr q) = hit T s.1 l n z y (let h : find (rank y) l ≡ Some z = rw (← k, p) e in h) (λ j. ne (cc)) q
      later l n on z e i (inr p) (inl q) = hit T s.1 l n z x (let h : find (rank x) l ≡ Some z = rw (k, q) e in h) (λ j. ne (cc)) p
      later l n on z e i (inr p) (inr q) = on p q

      full : (x ≡ r) ⊎ ⊥ → (y ≡ r) ⊎ ⊥ → Collides (refused (TableFull cap))
      full (inl p) (inl q) = absurd (ne (cc))
      full (inl p) (inr q) = absurd q
      full (inr p) q = absurd p
  two (forget key T) s rows m x y k ne h g = absurd s

  -- a collision is one of a row reached with a row held before, or reached
  pub record Meets (rows : List Row) (l : List Row) : Type 0 where
    pub x : Row
    pub y : Row
    pub before : (find (rank x) rows ≡ Some x) ⊎ Among x l
    pub reaches : Among y l
    pub key : rank x ≡ rank y
    pub apart : x.index ≡ y.index → ⊥

  further : (r : Row) (rows held l : List Row) → ((x : Row) → find (rank x) held ≡ Some x → (find (rank x) rows ≡ Some x) ⊎ (x ≡ r)) → Meets held l → Meets rows (r ∷ l)
  further r rows held l old w = record { x = w.x; y = w.y; before = go w.before; reaches = inr w.reaches; key = w.key; apart = w.apart }
    where
      first : (find (rank w.x) rows ≡ Some w.x) ⊎ (w.x ≡ r) → (find (rank w.x) rows ≡ Some w.x) ⊎ Among w.x (r ∷ l)
      first (inl f) = inl f
      first (inr e) = inr (inl e)

      go : (find (rank w.x) held ≡ Some w.x) ⊎ Among w.x l → (find (rank w.x) rows ≡ Some w.x) ⊎ Among w.x (r ∷ l)
      go (inl f) = first (old w.x f)
      go (inr h) = inr (inr h)

  inserted_old : (r : Row) (rows : List Row) → find (rank r) rows ≡ None → (x : Row) → find (rank x) (insert r rows) ≡ Some x → (find (rank x) rows ≡ Some x) ⊎ (x ≡ r)
  inserted_old r rows none x e = go (ℕ_discrete (rank r) (rank x))
    where
      go : Dec (rank r ≡ rank x) → (find (rank x) rows ≡ Some x) ⊎ (x ≡ r)
      go (yes h) =
          let f : find (rank r) (insert r rows) ≡ Some r = find_insert_same r rows none in
          let same : x ≡ r = cc in
          inr same
      go (no ne) = inl (sym (find_insert_other (rank x) r rows ne) ∙ e)

  pub meets : (T : Trace) → Steady P T → (rows : List Row) (m : ℕ) → Collides (settle cap T rows m) → Meets rows (reached cap T rows)
  unfolding settle reached
  meets (done im) s rows m c = absurd (let e = c.1 in zero_one (cc))
  meets (stop r) s rows m c = absurd (no_collision r s c)
  meets (register r T) s rows m c =
      by_registered (λ (l : List Row) (a : RegisterResult). Collides (on_registered a cap r.key m (λ (n : ℕ). settle cap T l n)) → Meets rows (r ∷ on_reached a (reached cap T l))) cap r rows
      (λ _ _ _ c. further r rows rows (reached cap T rows) (λ _ f. inl f) (meets T s.1 rows m c))
      (λ z e ne _. let k : rank z ≡ rank r = find_rank (rank r) z rows e in record { x = z; y = r; before = inl (rw k e); reaches = inl refl; key = k; apart = ne })
      (λ _ _ c. absurd (let e = c.1 in zero_one (cc)))
      (λ none _ c. further r rows (insert r rows) (reached cap T (insert r rows)) (inserted_old r rows none) (meets T s.1 (insert r rows) _ c))
      c
  meets (forget key T) s rows m c = absurd s

-- ---- a full table

-- it starts with a registration of this key, or stops
abbrev pub Again : ℕ → Trace → Type 0
Again key (done im) = ⊥
Again key (stop r) = Unit {0}
Again key (register row t) = row.key ≡ key
Again key (forget k t) = ⊥

-- it stops plainly if at all, and a key that it forgets it registers at once again
abbrev pub Counted : Trace → Type 0
Counted (done im) = Unit {0}
Counted (stop r) = Plain r
Counted (register row t) = Counted t
Counted (forget key t) = Again key t × Counted t

again_then : (key : ℕ) (T : Trace) (K : List ℕ → Trace) → Again key T → Again key (and_then T K)
unfolding and_then
again_then key (done im) K a = absurd a
again_then key (stop r) K a = tt
again_then key (register row T) K a = a
again_then key (forget k T) K a = absurd a

pub counted_then : (T : Trace) (K : List ℕ → Trace) → Counted T → ((im : List ℕ) → Counted (K im)) → Counted (and_then T K)
unfolding and_then
counted_then (done im) K s k = k im
counted_then (stop r) K s k = s
counted_then (register row T) K s k = counted_then T K s k
counted_then (forget key T) K s k = (again_then key T K s.0, counted_then T K s.1 k)

pub steady_counted : (P : Row → Type 0) (T : Trace) → Steady P T → Counted T
steady_counted P (done im) s = tt
steady_counted P (stop r) s = s
steady_counted P (register row T) s = steady_counted P T s.1
steady_counted P (forget key T) s = absurd s

-- the keys reached and those held before, without repetition
abbrev counts : List Row → List Row → ℕ
counts l rows = distinct (keys_of l ++ keys_of rows)

-- no registration is refused for want of a row, where these are no more than the rows there are
neither : (s : Settled) (cap n : ℕ) → (Fills s → ⊥) → n ≤ cap → Fills s ↔ (cap < n)
neither s cap n never l = (λ f. absurd (never f), λ h. absurd (omega arith))

-- a key held before counts once
counts_held : (r x : Row) (l rows : List Row) → find (rank r) rows ≡ Some x → counts (r ∷ l) rows ≡ counts l rows
unfolding rank
counts_held r x l rows e = (same_again r.key (keys_of l ++ keys_of rows) (one_behind r.key (keys_of l) (keys_of rows) (one_held r.key x rows e))).count

counts_new : (r : Row) (rows : List Row) → Ascending rows → find (rank r) rows ≡ None → counts (r ∷ []) rows ≡ suc (length rows)
unfolding distinct ◌if◌else◌ rank
counts_new r rows a none = rw (one_missing r.key rows none) (ap suc (distinct_rows rows a))

counts_insert : (r : Row) (l rows : List Row) → counts (r ∷ l) rows ≡ counts l (insert r rows)
counts_insert r l rows =
    sym (same_front r.key (keys_of l) (keys_of rows)).count
    ∙ sym (same_behind (keys_of l) (keys_of (insert r rows)) (r.key ∷ keys_of rows) (same_insert r rows)).count

counts_remove : (key : ℕ) (r : Row) (l rows : List Row) → r.key ≡ key → counts (r ∷ l) (remove key rows) ≡ counts (r ∷ l) rows
counts_remove key r l rows e =
    let k : ℕ = r.key in
    rw (← e)
    (sym (same_front k (keys_of l) (keys_of (remove k rows))).count
    ∙ (same_behind (keys_of l) (k ∷ keys_of (remove k rows)) (k ∷ keys_of rows) (same_remove k rows)).count
    ∙ (same_front k (keys_of l) (keys_of rows)).count)

module _ (cap : ℕ) where
  -- A TABLE IS FULL exactly where there are more keys than rows
  pub full_counts : (T : Trace) → Counted T → (rows : List Row) (m : ℕ) → Ascending rows → length rows ≤ cap → Fills (settle cap T rows m) ↔ (cap < counts (reached cap T rows) rows)
  unfolding settle reached
  full_counts (done im) s rows m a l = neither (accepted im rows m) cap (counts [] rows) (λ c. let e = c.1 in zero_one (cc)) (omega (arith, distinct_rows rows a))
  full_counts (stop r) s rows m a l = neither (refused r) cap (counts [] rows) (no_full r s) (omega (arith, distinct_rows rows a))
  full_counts (register r T) s rows m a l =
      by_registered (λ (h : List Row) (g : RegisterResult). Fills (on_registered g cap r.key m (λ (n : ℕ). settle cap T h n)) ↔ (cap < counts (r ∷ on_reached g (reached cap T h)) rows)) cap r rows
      (λ x e _. rw (counts_held r x (reached cap T rows) rows e) (full_counts T s rows m a l))
      (λ x e _. neither (refused (SymbolHashCollision r.key)) cap (counts (r ∷ []) rows) (λ c. let e = c.1 in zero_one (cc)) (omega (arith, counts_held r x [] rows e, distinct_rows rows a)))
      (λ none short. (λ _. omega (arith, counts_new r rows a none), λ _. (cap, refl)))
      (λ none more. rw (counts_insert r (reached cap T (insert r rows)) rows)
      (full_counts T s (insert r rows) (m + above (rank r) rows) (insert_ascending r rows a none) (omega (arith, length_insert r rows))))
  full_counts (forget key (done im)) s rows m a l = absurd s.0
  full_counts (forget key (stop r)) s rows m a l = neither (refused r) cap (counts [] rows) (no_full r s.1) (omega (arith, distinct_rows rows a))
  full_counts (forget key (register r T)) s rows m a l =
      rw (← counts_remove key r (on_reached (table.register cap r (remove key rows)) (reached cap T (registered cap r (remove key rows)))) rows s.0)
      (full_counts (register r T) s.1 (remove key rows) (m + moves_gone (unregister key rows)) (remove_ascending key rows a) (omega (arith, remove_le key rows)))
  full_counts (forget key (forget k T)) s rows m a l = absurd s.0
