-- What reaches itself: it exists where passes stop short of the entry, and the marks find it.
-- Assumes nothing.
use Prim.Native.Nat.{ℕ, zero, suc, ◌+◌, ◌-◌, ◌≤◌, ◌<◌}
use mathlib.Core.Path.{◌≡◌, refl, sym, ◌∙◌, ap}
use mathlib.Core.Bool.{Bool, true, false}
use mathlib.Core.List.{List}
use native.Mathlib.Omega.{arith}
use lib.ListN.{get_or}
use lib.Dec.{ltb}
use borrow.Author.Tests.{ltb-true, ltb-false}
use Rattle.call_graph.specs.Ways.{Way, Reaches, Calling, Longest}
use Rattle.call_graph.specs.Profile.{Profile, CallsFunction}
use Rattle.call_graph.specs.Words.{FLAG, Exhausted}
use Rattle.call_graph.specs.Marks.{BOTH, RowCalls, Looping, Closed}
use Rattle.call_graph.proofs.Marking.{inside}
use Rattle.call_graph.proofs.Ways.{join, no_return}
use Rattle.call_graph.proofs.Pigeons.{pigeons}

-- ways, joined
pub reach_then : (R : ℕ → ℕ → Type 0) (i h j : ℕ) → Reaches R i h → Reaches R h j → Reaches R i j
reach_then R i h j a b = let r = join R a.0 b.0 i h j a.1 b.1 in (r.0, r.2)

pub reach_more : (R : ℕ → ℕ → Type 0) (i h j : ℕ) → Reaches R i h → R h j → Reaches R i j
reach_more R i h j a b = reach_then R i h j a (1, (j, b, refl))

module _ (P : Profile) where
  -- from rows to functions
  pub project : (k r q : ℕ) → Way (RowCalls P) k r q → Way (CallsFunction P) k (P.index r) (P.index q)
  project zero r q e = ap P.index e
  project (suc k) r q v =
      let c = v.1 in
      (P.index v.0, (c.0, c.1, c.2, rw c.3 c.4, ap P.index c.3), project k v.0 q v.2)

  -- from functions to rows: the last call says which row
  pub lift : (k i j : ℕ) → Way (CallsFunction P) (suc k) i j → (g : ℕ) × (g < P.rows) × (P.index g ≡ j) × ((r : ℕ) → P.index r ≡ i → Way (RowCalls P) (suc k) r g)
  lift zero i j v =
      let c = v.1 in
      (P.callee c.0, c.3, c.4 ∙ v.2, λ r e. (P.callee c.0, (c.0, rw e c.1, rw e c.2, refl, c.3), refl))
  lift (suc k) i j v =
      let c = v.1 in
      let h = lift k v.0 j v.2 in
      (h.0, h.1, h.2, λ r e. (P.callee c.0, (c.0, rw e c.1, rw e c.2, refl, c.3), h.3 (P.callee c.0) c.4))

  pub way_row : (k r q : ℕ) → Way (RowCalls P) (suc k) r q → q < P.rows
  way_row zero r q v = rw v.2 at v.1.4
  way_row (suc k) r q v = way_row k v.0 q v.2

  pub looping_back : (k g t : ℕ) → Way (RowCalls P) k g t → Looping P t → Looping P g
  looping_back k g t v l = (l.0, reach_then (RowCalls P) g t l.0 (k, v) l.1, l.2)

  -- what is settled reaches nothing that reaches itself
  pub settled_harmless : (r d : ℕ) → Longest (CallsFunction P) (P.index r) d → Looping P r → ⊥
  settled_harmless r d l c =
      no_return (CallsFunction P) (P.index r) d (P.index c.0) l (c.1.0, project c.1.0 r c.0 c.1.1) (c.2.0, project (suc c.2.0) c.0 c.0 c.2.1)

-- where every row that is not settled calls another such row, there is a way that comes back
module _ (P : Profile) (w : List ℕ) (s : Exhausted P w) where
  abbrev Row : Type 0
  Row = (r : ℕ) × (r < P.rows) × (FLAG ≤ get_or w r 0)

  abbrev next : Row → Row
  next u =
      let c = s.still u.0 u.1 u.2 in
      (P.callee c.0, omega (arith, inside w (P.callee c.0) c.3, s.good.long), c.3)

  abbrev nth : Row → ℕ → Row
  nth u zero = u
  nth u (suc k) = next (nth u k)

  step : (u : Row) → RowCalls P u.0 (next u).0
  step u = let c = s.still u.0 u.1 u.2 in (c.0, c.1, c.2, refl, (next u).1)

  abbrev ahead : ℕ → ℕ → ℕ
  ahead zero i = i
  ahead (suc d) i = ahead d (suc i)

  ahead_is : (d i : ℕ) → ahead d i ≡ d + i
  ahead_is zero i = omega arith
  ahead_is (suc d) i = let h : ahead d (suc i) ≡ d + suc i = ahead_is d (suc i) in omega arith

  along : (u : Row) (d i : ℕ) → Way (RowCalls P) d (nth u i).0 (nth u (ahead d i)).0
  along u zero i = refl
  along u (suc d) i = ((nth u (suc i)).0, step (nth u i), along u d (suc i))

  along_to : (u : Row) (d i j : ℕ) → j ≡ d + i → Way (RowCalls P) d (nth u i).0 (nth u j).0
  along_to u d i j e = let q : ahead d i ≡ j = ahead_is d i ∙ sym e in rw q at (along u d i)

  pub stuck_loops : (e : ℕ) → e < P.rows → FLAG ≤ get_or w e 0 → Looping P e
  stuck_loops e l f =
      let u : Row = (e, l, f) in
      let p = pigeons P.rows (λ i. (nth u i).0) (λ i _. (nth u i).1) in
      let i = p.0 in
      let j = p.1 in
      let k : ℕ = j - suc i in
      let back : Way (RowCalls P) (suc k) (nth u i).0 (nth u j).0 = along_to u (suc k) i j (omega (arith, p.2)) in
      ((nth u i).0, (i, along_to u i 0 i (omega arith)), (k, rw p.4 (rw p.4 at back)))

-- marks are complete: what the marked rows call is marked, if it matters. F is carried forward along calls, L back
module _ (P : Profile) (v : List ℕ) (F L : ℕ → Type 0)
    (ahead : (r g : ℕ) → F r → RowCalls P r g → F g)
    (back : (r g : ℕ) → RowCalls P r g → L g → L r)
    (closed : (q : ℕ) → q < P.rows → BOTH ≤ get_or v q 0 → Closed P v q)
    (harmless : (q : ℕ) → q < P.rows → get_or v q 0 < FLAG → F q → L q → ⊥) where
  back_all : (k g t : ℕ) → Way (RowCalls P) k g t → L t → L g
  back_all zero g t y z = rw y z
  back_all (suc k) g t y z = back g y.0 y.1 (back_all k y.0 t y.2 z)

  mark_step : (r g : ℕ) → F g → Closed P v r → RowCalls P r g → L g → BOTH ≤ get_or v g 0
  mark_step r g a c rc l = go (ltb (get_or v g 0) FLAG) refl
    where
      go : (b : Bool) → ltb (get_or v g 0) FLAG ≡ b → BOTH ≤ get_or v g 0
      go true t = absurd (harmless g rc.4 (ltb-true (get_or v g 0) FLAG t) a l)
      go false t =
          let h : FLAG ≤ get_or v (P.callee rc.0) 0 → BOTH ≤ get_or v (P.callee rc.0) 0 = c rc.0 rc.1 rc.2 in
          let m : FLAG ≤ get_or v g 0 → BOTH ≤ get_or v g 0 = rw rc.3 at h in
          m (ltb-false (get_or v g 0) FLAG t)

  marked_on : (k r t : ℕ) → r < P.rows → BOTH ≤ get_or v r 0 → F r → Way (RowCalls P) k r t → L t → BOTH ≤ get_or v t 0
  marked_on zero r t l b a y z = rw y at b
  marked_on (suc k) r t l b a y z =
      let g = y.0 in
      let f : F g = ahead r g a y.1 in
      let m : BOTH ≤ get_or v g 0 = mark_step r g f (closed r l b) y.1 (back_all k g t y.2 z) in
      marked_on k g t y.1.4 m f y.2 z

  pub marked_from : (k b t : ℕ) → ((g : ℕ) → RowCalls P b g → F g) → Closed P v b → Way (RowCalls P) (suc k) b t → L t → BOTH ≤ get_or v t 0
  marked_from k b t a c y z =
      let g = y.0 in
      let f : F g = a g y.1 in
      let m : BOTH ≤ get_or v g 0 = mark_step b g f c y.1 (back_all k g t y.2 z) in
      marked_on k g t y.1.4 m f y.2 z

-- the last call of a way
pub last_call : (R : ℕ → ℕ → Type 0) (k i j : ℕ) → Way R (suc k) i j → (h : ℕ) × Way R k i h × R h j
last_call R zero i j v = (i, refl, rw v.2 at v.1)
last_call R (suc k) i j v = let r = last_call R k v.0 j v.2 in (r.0, (v.0, v.1, r.1), r.2)

-- there and back
pub there_back : (R : ℕ → ℕ → Type 0) (b q : ℕ) → Calling R b q → Reaches R q b → Calling R q q
there_back R b q c a = go a.0 a.1
  where
    go : (k : ℕ) → Way R k q b → Calling R q q
    go zero e = rw e (rw e at c)
    go (suc k) v = let j = join R k (suc c.0) v.0 b q v.2 c.1 in (j.0, (v.0, v.1, j.2))
