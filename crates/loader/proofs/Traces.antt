-- What a trace that was accepted tells: of any trace, by induction over it, once.
-- Assumes nothing.
use Prim.Native.Nat.{ℕ, zero, suc, ◌+◌, ◌≤◌, ◌<◌}
use native.Mathlib.Omega.{arith}
use native.Mathlib.Decide.{ℕ_discrete}
use mathlib.Core.Path.{◌≡◌, refl, sym, ◌∙◌, subst}
use mathlib.Core.Logic.{◌⊎◌, inl, inr, ◌↔◌}
use mathlib.Core.List.{List}
use lib.ListN.{length}
use Rattle.program.specs.declared.RegisterError.TheVariants.{Collision, Full}
use Rattle.program.specs.declared.Registered.TheVariants.{Inserted, Repeat}
use Rattle.std.specs.Prelude.{Some, None, Ok, Err}
use Rattle.program.specs.declared.Row.{Row}
use Rattle.program.specs.Rows.{rank, Ascending, find, Held, Repeats, registered, RegisterResult}
use Rattle.program.specs.Rows as table
use Rattle.program.specs.Runs.{moves_of, triangle}
use Rattle.program.proofs.Cases.{zero_one}
use Rattle.program.proofs.Laws.{by_registered, find_insert_other, find_registered_same, find_registered_other, registered_room, registered_ascending, remove_ascending}
use Rattle.program.proofs.Moves.{moves_step}
use Rattle.loader.specs.Trace.{Trace, done, stop, register, forget, and_then, each, Settled, accepted, refused, settle, on_registered, on_settled, settle_and_then}
use Rattle.loader.proofs.Counting.{remove_le}
use Rattle.loader.proofs.Ends.{Ends, ends_then}
use Rattle.loader.proofs.Asked.{Asks, Keeps}

-- ---- one registration

-- what was accepted after a registration
pub record Went (a : RegisterResult) (m : ℕ) (k : ℕ → Settled) (s : Settled) : Type 0 where
  pub moves : ℕ
  pub more : moves ≡ m + moves_of a
  pub on : k moves ≡ s
  pub no_clash : a ≡ Err Collision → ⊥
  pub not_full : a ≡ Err Full → ⊥

pub went : (a : RegisterResult) (cap key m : ℕ) (k : ℕ → Settled) (im : List ℕ) (rows : List Row) (n : ℕ) → on_registered a cap key m k ≡ accepted im rows n → Went a m k (accepted im rows n)
went (Ok (Inserted d)) cap key m k im rows n e = record { moves = m + d; more = refl; on = e; no_clash = λ h. zero_one (cc); not_full = λ h. zero_one (cc) }
went (Ok Repeat) cap key m k im rows n e = record { moves = m; more = omega arith; on = e; no_clash = λ h. zero_one (cc); not_full = λ h. zero_one (cc) }
went (Err Collision) cap key m k im rows n e = absurd (zero_one (cc))
went (Err Full) cap key m k im rows n e = absurd (zero_one (cc))

-- what is found stays
find_stays : (cap : ℕ) (r : Row) (rs : List Row) (k : ℕ) (x : Row) → find k rs ≡ Some x → find k (registered cap r rs) ≡ Some x
find_stays cap r rs k x h = by_registered (λ (l : List Row) (_ : RegisterResult). find k l ≡ Some x) cap r rs
    (λ _ _ _. h) (λ _ _ _. h) (λ _ _. h)
    (λ none _. find_insert_other k r rs (λ e. let none' : find k rs ≡ None = rw e at none in zero_one (cc)) ∙ h)

-- ---- a trace

module _ (cap : ℕ) (im' : List ℕ) (rows' : List Row) (m' : ℕ) where
  -- the rest, after a registration
  next : (r : Row) (T : Trace) (rows : List Row) (m : ℕ) → settle cap (register r T) rows m ≡ accepted im' rows' m' → Went (table.register cap r rows) m (λ (n : ℕ). settle cap T (registered cap r rows) n) (accepted im' rows' m')
  unfolding settle
  next r T rows m e = went (table.register cap r rows) cap r.key m _ im' rows' m' e

  -- the image is the trace's own
  pub settle_ends : (T : Trace) (rows : List Row) (m : ℕ) → settle cap T rows m ≡ accepted im' rows' m' → Ends T im'
  unfolding settle
  settle_ends (done im) rows m e = cc
  settle_ends (stop r) rows m e = absurd (zero_one (cc))
  settle_ends (register r T) rows m e = let w = next r T rows m e in settle_ends T _ _ w.on
  settle_ends (forget key T) rows m e = settle_ends T _ _ e

  -- the moves are at most what the rows added count (`triangle`)
  pub settle_moves : (T : Trace) (rows : List Row) (m : ℕ) → Keeps T → settle cap T rows m ≡ accepted im' rows' m' → m' + triangle (length rows) ≤ m + triangle (length rows')
  unfolding settle
  settle_moves (done im) rows m keeps e = let same : rows ≡ rows' = cc in let n : m ≡ m' = cc in rw (← same, ← n) (omega arith)
  settle_moves (stop r) rows m keeps e = absurd (zero_one (cc))
  settle_moves (register r T) rows m keeps e =
      let w = next r T rows m e in
      let on = settle_moves T (registered cap r rows) w.moves keeps w.on in
      omega (arith, on, w.more, moves_step cap r rows)
  settle_moves (forget key T) rows m keeps e = absurd keeps

  -- no more rows than there is room for
  pub settle_room : (T : Trace) (rows : List Row) (m : ℕ) → length rows ≤ cap → settle cap T rows m ≡ accepted im' rows' m' → length rows' ≤ cap
  unfolding settle
  settle_room (done im) rows m h e = let same : rows ≡ rows' = cc in rw (← same) h
  settle_room (stop r) rows m h e = absurd (zero_one (cc))
  settle_room (register r T) rows m h e = let w = next r T rows m e in settle_room T _ _ (registered_room cap r rows h) w.on
  settle_room (forget key T) rows m h e = settle_room T _ _ (omega (arith, remove_le key rows)) e

  -- the rows ascend
  pub settle_ascends : (T : Trace) (rows : List Row) (m : ℕ) → Ascending rows → settle cap T rows m ≡ accepted im' rows' m' → Ascending rows'
  unfolding settle
  settle_ascends (done im) rows m h e = let same : rows ≡ rows' = cc in rw (← same) h
  settle_ascends (stop r) rows m h e = absurd (zero_one (cc))
  settle_ascends (register r T) rows m h e = let w = next r T rows m e in settle_ascends T _ _ (registered_ascending cap r rows h) w.on
  settle_ascends (forget key T) rows m h e = settle_ascends T _ _ (remove_ascending key rows h) e

  -- what was held stays
  pub settle_keeps : (T : Trace) (rows : List Row) (m : ℕ) → Keeps T → settle cap T rows m ≡ accepted im' rows' m' → (k : ℕ) (x : Row) → find k rows ≡ Some x → find k rows' ≡ Some x
  unfolding settle
  settle_keeps (done im) rows m keeps e k x h = let same : rows ≡ rows' = cc in rw (← same) h
  settle_keeps (stop r) rows m keeps e k x h = absurd (zero_one (cc))
  settle_keeps (register r T) rows m keeps e k x h = let w = next r T rows m e in settle_keeps T _ _ keeps w.on k x (find_stays cap r rows k x h)
  settle_keeps (forget key T) rows m keeps e k x h = absurd keeps

  -- what was asked for is found
  pub settle_finds : (T : Trace) (rows : List Row) (m : ℕ) → Keeps T → settle cap T rows m ≡ accepted im' rows' m' → (row : Row) → Asks row T → Repeats row rows'
  settle_finds (done im) rows m keeps e row asks = absurd asks
  settle_finds (stop r) rows m keeps e row asks = absurd asks
  settle_finds (register r T) rows m keeps e row (inl h) =
      let w = next r T rows m e in
      let f = find_registered_same cap r rows w.no_clash w.not_full in
      rw h (f.0, settle_keeps T _ _ keeps w.on (rank r) f.0 f.1, f.2)
  settle_finds (register r T) rows m keeps e row (inr h) = let w = next r T rows m e in settle_finds T _ _ keeps w.on row h
  settle_finds (forget key T) rows m keeps e row asks = absurd keeps

  -- and nothing else but what was held
  pub settle_only : (T : Trace) (rows : List Row) (m : ℕ) → Keeps T → settle cap T rows m ≡ accepted im' rows' m' → (k : ℕ) → Held k rows' → Held k rows ⊎ ((row : Row) × Asks row T × (rank row ≡ k))
  unfolding settle
  settle_only (done im) rows m keeps e k h = let same : rows ≡ rows' = cc in inl (rw same h)
  settle_only (stop r) rows m keeps e k h = absurd (zero_one (cc))
  settle_only (register r T) rows m keeps e k h =
      let w = next r T rows m e in
      either r T rows k (settle_only T _ _ keeps w.on k h) (ℕ_discrete (rank r) k)
    where
      either : (r : Row) (T : Trace) (rows : List Row) (k : ℕ) → Held k (registered cap r rows) ⊎ ((row : Row) × Asks row T × (rank row ≡ k)) → Dec (rank r ≡ k) → Held k rows ⊎ ((row : Row) × Asks row (register r T) × (rank row ≡ k))
      either r T rows k (inr a) d = inr (a.0, inr a.1, a.2)
      either r T rows k (inl a) (yes e) = inr (r, inl refl, e)
      either r T rows k (inl a) (no ne) = inl (a.0, sym (find_registered_other cap r rows k ne) ∙ a.1)
  settle_only (forget key T) rows m keeps e k h = absurd keeps

  -- ---- two parts that were accepted

  -- where the first part ended
  pub record Between (T : Trace) (K : List ℕ → Trace) (rows : List Row) (m : ℕ) : Type 0 where
    pub image : List ℕ
    pub held : List Row
    pub moves : ℕ
    pub first : settle cap T rows m ≡ accepted image held moves
    pub second : settle cap (K image) held moves ≡ accepted im' rows' m'

  pub settle_split : (T : Trace) (K : List ℕ → Trace) (rows : List Row) (m : ℕ) → settle cap (and_then T K) rows m ≡ accepted im' rows' m' → Between T K rows m
  settle_split T K rows m e = go (settle cap T rows m) refl (sym (settle_and_then cap T K rows m) ∙ e)
    where
      go : (s : Settled) → settle cap T rows m ≡ s → on_settled s (λ (im : List ℕ) (held : List Row) (n : ℕ). settle cap (K im) held n) ≡ accepted im' rows' m' → Between T K rows m
      go (accepted im held n) f g = record { image = im; held = held; moves = n; first = f; second = g }
      go (refused r) f g = absurd (zero_one (cc))

-- a part that was accepted, and then another
pub settle_then : (cap : ℕ) (T : Trace) (K : List ℕ → Trace) (rows : List Row) (m : ℕ) (im : List ℕ) (held : List Row) (n : ℕ)
    → settle cap T rows m ≡ accepted im held n → settle cap (and_then T K) rows m ≡ settle cap (K im) held n
settle_then cap T K rows m im held n e = settle_and_then cap T K rows m ∙ rw e refl

-- ---- the questions, of two parts

asks_first : (row : Row) (T : Trace) (K : List ℕ → Trace) → Asks row T → Asks row (and_then T K)
unfolding and_then
asks_first row (done im) K a = absurd a
asks_first row (stop r) K a = absurd a
asks_first row (register r T) K (inl h) = inl h
asks_first row (register r T) K (inr h) = inr (asks_first row T K h)
asks_first row (forget key T) K a = asks_first row T K a

asks_second : (row : Row) (T : Trace) (K : List ℕ → Trace) (im : List ℕ) → Ends T im → Asks row (K im) → Asks row (and_then T K)
unfolding and_then
asks_second row (done l) K im e a = rw e a
asks_second row (stop r) K im e a = absurd e
asks_second row (register r T) K im e a = inr (asks_second row T K im e a)
asks_second row (forget key T) K im e a = asks_second row T K im e a

asks_either : (row : Row) (T : Trace) (K : List ℕ → Trace) (im : List ℕ) → Ends T im → Asks row (and_then T K) → Asks row T ⊎ Asks row (K im)
unfolding and_then
asks_either row (done l) K im e a = inr (rw e at a)
asks_either row (stop r) K im e a = absurd e
asks_either row (register r T) K im e (inl h) = inl (inl h)
asks_either row (register r T) K im e (inr h) = more (asks_either row T K im e h)
  where
    more : Asks row T ⊎ Asks row (K im) → Asks row (register r T) ⊎ Asks row (K im)
    more (inl a) = inl (inr a)
    more (inr a) = inr a
asks_either row (forget key T) K im e a = asks_either row T K im e a

-- two parts ask what either asks
pub asks_then : (row : Row) (T : Trace) (K : List ℕ → Trace) (im : List ℕ) → Ends T im → Asks row (and_then T K) ↔ (Asks row T ⊎ Asks row (K im))
asks_then row T K im e = (asks_either row T K im e, join)
  where
    join : Asks row T ⊎ Asks row (K im) → Asks row (and_then T K)
    join (inl a) = asks_first row T K a
    join (inr a) = asks_second row T K im e a

pub keeps_then : (T : Trace) (K : List ℕ → Trace) → Keeps T → ((im : List ℕ) → Keeps (K im)) → Keeps (and_then T K)
unfolding and_then
keeps_then (done im) K t k = k im
keeps_then (stop r) K t k = tt
keeps_then (register row T) K t k = keeps_then T K t k
keeps_then (forget key T) K t k = absurd t

-- ---- and of a loop

module _ (step : ℕ → List ℕ → Trace) where
  pub keeps_each : ((i : ℕ) (im : List ℕ) → Keeps (step i im)) → (n i : ℕ) (im : List ℕ) → Keeps (each step n i im)
  unfolding each
  keeps_each k zero i im = tt
  keeps_each k (suc n) i im = keeps_then (step i im) _ (k i im) (λ im'. keeps_each k n (i + 1) im')

  first_or_later : (i k : ℕ) → i ≤ k → (k ≡ i) ⊎ (i + 1 ≤ k)
  first_or_later i k l = go (ℕ_discrete k i)
    where
      go : Dec (k ≡ i) → (k ≡ i) ⊎ (i + 1 ≤ k)
      go (yes e) = inl e
      go (no ne) = inr (omega arith)

  -- every turn ends
  pub record Turn (k : ℕ) : Type 0 where
    pub before : List ℕ
    pub after : List ℕ
    pub ends : Ends (step k before) after

  pub ends_turn : (n i : ℕ) (im im' : List ℕ) → Ends (each step n i im) im' → (k : ℕ) → i ≤ k → k < i + n → Turn k
  unfolding each
  ends_turn zero i im im' e k l h = absurd (omega arith)
  ends_turn (suc n) i im im' e k l h =
      let b = ends_then (step i im) (λ (l : List ℕ). each step n (i + 1) l) im' e in
      go b.0 b.1 (λ m. ends_turn n (i + 1) b.0 im' b.2 k m (omega arith)) (first_or_later i k l)
    where
      go : (im₁ : List ℕ) → Ends (step i im) im₁ → (i + 1 ≤ k → Turn k) → (k ≡ i) ⊎ (i + 1 ≤ k) → Turn k
      go im₁ f later (inl s) = rw s (record { before = im; after = im₁; ends = f })
      go im₁ f later (inr m) = later m

  -- a loop whose turn i asks for the rows of P i asks for the rows of every P i
  module _ (P : ℕ → Row → Type 0) (count : ℕ) (few : (i : ℕ) (row : Row) → P i row → i < count) (turn : (i : ℕ) (im im' : List ℕ) → i < count → Ends (step i im) im' → (row : Row) → Asks row (step i im) ↔ P i row) where
    -- from turn i on
    abbrev Later : ℕ → Row → Type 0
    Later i row = (k : ℕ) × (i ≤ k) × P k row

    asks_on : (i : ℕ) (im im₁ : List ℕ) (row : Row) (K : List ℕ → Trace) → i < count → Ends (step i im) im₁ → Asks row (K im₁) ↔ Later (i + 1) row → Asks row (and_then (step i im) K) ↔ Later i row
    asks_on i im im₁ row K l e later = (λ a. out (both.0 a), λ h. both.1 (into h (first_or_later i h.0 h.1)))
      where
        both : Asks row (and_then (step i im) K) ↔ (Asks row (step i im) ⊎ Asks row (K im₁))
        both = asks_then row (step i im) K im₁ e

        out : Asks row (step i im) ⊎ Asks row (K im₁) → Later i row
        out (inl a) = (i, omega arith, (turn i im im₁ l e row).0 a)
        out (inr a) = let h = later.0 a in (h.0, omega (arith, h.1), h.2)

        into : (h : Later i row) → (h.0 ≡ i) ⊎ (i + 1 ≤ h.0) → Asks row (step i im) ⊎ Asks row (K im₁)
        into h (inl s) = inl ((turn i im im₁ l e row).1 (subst (λ (k : ℕ). P k row) s h.2))
        into h (inr m) = inr (later.1 (h.0, m, h.2))

    asks_from : (n i : ℕ) (im im' : List ℕ) → i + n ≡ count → Ends (each step n i im) im' → (row : Row) → Asks row (each step n i im) ↔ Later i row
    unfolding each
    asks_from zero i im im' s e row = (λ a. absurd a, λ h. absurd (omega (arith, few h.0 row h.2, h.1)))
    asks_from (suc n) i im im' s e row =
        let b = ends_then (step i im) (λ (l : List ℕ). each step n (i + 1) l) im' e in
        asks_on i im b.0 row _ (omega arith) b.1 (asks_from n (i + 1) b.0 im' (omega arith) b.2 row)

    pub asks_each : (im im' : List ℕ) → Ends (each step count 0 im) im' → (row : Row) → Asks row (each step count 0 im) ↔ ((k : ℕ) × P k row)
    asks_each im im' e row =
        let h = asks_from count 0 im im' (omega arith) e row in
        (λ a. ((h.0 a).0, (h.0 a).2), λ p. h.1 (p.0, omega arith, p.1))
