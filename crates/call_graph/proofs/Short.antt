-- A way through n numbers or more: a shorter one, and a longer one.
-- Assumes nothing.
use Prim.Native.Nat.{ℕ, zero, suc, ◌+◌, ◌≤◌, ◌<◌}
use mathlib.Core.Path.{◌≡◌, refl}
use mathlib.Core.Bool.{Bool, true, false}
use native.Mathlib.Omega.{arith}
use lib.Dec.{ltb}
use borrow.Author.Tests.{ltb-true, ltb-false}
use Rattle.call_graph.specs.Ways.{Way, Reaches, Calling}
use Rattle.call_graph.proofs.Ways.{join}
use Rattle.call_graph.proofs.Pigeons.{pigeons}

module _ (R : ℕ → ℕ → Type 0) where
  -- the t-th of a way
  abbrev node : (k i j : ℕ) → Way R k i j → ℕ → ℕ
  node zero i j v t = i
  node (suc k) i j v zero = i
  node (suc k) i j v (suc t) = node k v.0 j v.2 t

  split : (k i j : ℕ) (v : Way R k i j) (t : ℕ) → t ≤ k → (l : ℕ) × (t + l ≡ k) × Way R t i (node k i j v t) × Way R l (node k i j v t) j
  split zero i j v zero h = (0, omega arith, refl, v)
  split zero i j v (suc t) h = absurd (omega arith)
  split (suc k) i j v zero h = (suc k, omega arith, refl, v)
  split (suc k) i j v (suc t) h =
      let r = split k v.0 j v.2 t (omega arith) in
      (r.0, omega (arith, r.1), (v.0, v.1, r.2), r.3)

  pub prefix : (k i j : ℕ) → Way R k i j → (t : ℕ) → t ≤ k → (h : ℕ) × Way R t i h
  prefix k i j v t h = (node k i j v t, (split k i j v t h).2)

  between : (k i j : ℕ) (v : Way R k i j) (a b : ℕ) → a < b → b ≤ k → Calling R (node k i j v a) (node k i j v b)
  between k i j v a zero h m = absurd (omega arith)
  between zero i j v a (suc b) h m = absurd (omega arith)
  between (suc k) i j v zero (suc b) h m = (b, (split (suc k) i j v (suc b) m).2)
  between (suc k) i j v (suc a) (suc b) h m = between k v.0 j v.2 a b (omega arith) (omega arith)

  module _ (n : ℕ) (below : (a b : ℕ) → R a b → b < n) where
    node_below : (k i j : ℕ) (v : Way R k i j) → i < n → (t : ℕ) → node k i j v t < n
    node_below zero i j v l t = l
    node_below (suc k) i j v l zero = l
    node_below (suc k) i j v l (suc t) = node_below k v.0 j v.2 (below i v.0 v.1) t

    -- the same number twice
    twice : (k i j : ℕ) → Way R k i j → i < n → n ≤ k → (l : ℕ) × (m : ℕ) × (l < k) × (k < m) × Way R l i j × Way R m i j
    twice k i j v l h =
        let p = pigeons n (node k i j v) (λ t _. node_below k i j v l t) in
        let a = split k i j v p.0 (omega (arith, p.2, p.3)) in
        let b = split k i j v p.1 (omega (arith, p.3)) in
        let x = join R p.0 b.0 i (node k i j v p.0) j a.2 (rw p.4 b.3) in
        let y = join R p.1 a.0 i (node k i j v p.1) j b.2 (rw p.4 at a.3) in
        (x.0, y.0, omega (arith, p.2, b.1, x.1), omega (arith, p.2, a.1, y.1), x.2, y.2)

    pub longer : (k i j : ℕ) → Way R k i j → i < n → n ≤ k → (m : ℕ) × (k < m) × Way R m i j
    longer k i j v l h = let t = twice k i j v l h in (t.1, t.3, t.5)

    shorter : (fuel k i j : ℕ) → k ≤ fuel → Way R k i j → i < n → (m : ℕ) × (m < n) × Way R m i j
    shorter zero k i j f v l = (k, omega arith, v)
    shorter (suc fuel) k i j f v l = go (ltb k n) refl (λ m g w. shorter fuel m i j g w l)
      where
        go : (b : Bool) → ltb k n ≡ b → ((m : ℕ) → m ≤ fuel → Way R m i j → (m : ℕ) × (m < n) × Way R m i j) → (m : ℕ) × (m < n) × Way R m i j
        go true e f' = (k, ltb-true k n e, v)
        go false e f' = let t = twice k i j v l (ltb-false k n e) in f' t.0 (omega (arith, t.2)) t.4

    -- whatever is reached is reached by fewer than n calls
    pub short : (i j : ℕ) → Reaches R i j → i < n → (m : ℕ) × (m < n) × Way R m i j
    short i j a l = shorter a.0 a.0 i j (omega arith) a.1 l

    -- a way of n calls or more passes something that reaches itself
    pub loop_on : (k i j : ℕ) → Way R k i j → i < n → n ≤ k → (q : ℕ) × Reaches R i q × Calling R q q
    loop_on k i j v l h =
        let p = pigeons n (node k i j v) (λ t _. node_below k i j v l t) in
        let a = split k i j v p.0 (omega (arith, p.2, p.3)) in
        (node k i j v p.0, (p.0, a.2), rw p.4 (rw p.4 at (between k i j v p.0 p.1 p.2 (omega (arith, p.3)))))
