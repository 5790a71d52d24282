-- Ways: joined, gone round again and again, and cut off by a longest chain; by two relations that say the same.
-- Assumes nothing.
use Prim.Native.Nat.{ℕ, zero, suc, ◌+◌, ◌≤◌, ◌<◌}
use mathlib.Core.Path.{◌≡◌, refl}
use native.Mathlib.Omega.{arith}
use Rattle.call_graph.specs.Ways.{Way, Reaches, Calling, Longest, Smallest}

module _ (R : ℕ → ℕ → Type 0) where
  pub join : (k l : ℕ) (i h j : ℕ) → Way R k i h → Way R l h j → (m : ℕ) × (m ≡ k + l) × Way R m i j
  join zero l i h j e v = (l, omega arith, rw e v)
  join (suc k) l i h j w v = let r = join k l w.0 h j w.2 v in (suc r.0, omega arith, (w.0, w.1, r.2))

  pub round : (i : ℕ) → Calling R i i → (n : ℕ) → (k : ℕ) × (n ≤ k) × Way R k i i
  round i c zero = (0, omega arith, refl)
  round i c (suc n) =
      let r = round i c n in
      let b = join (suc c.0) r.0 i i i c.1 r.2 in
      (b.0, omega arith, b.2)

  -- from where there is a longest chain nothing is reached that reaches itself
  pub no_return : (i d j : ℕ) → Longest R i d → Reaches R i j → Calling R j j → ⊥
  no_return i d j l a c =
      let r = round j c d in
      let b = join a.0 r.0 i j j a.1 r.2 in
      let h : b.0 < d = l.longest b.0 j b.2 in
      omega arith

way_as : (R S : ℕ → ℕ → Type 0) → ((i j : ℕ) → R i j → S i j) → (k i j : ℕ) → Way R k i j → Way S k i j
way_as R S f zero i j e = e
way_as R S f (suc k) i j v = (v.0, f i v.0 v.1, way_as R S f k v.0 j v.2)

module _ (R S : ℕ → ℕ → Type 0) (f : (i j : ℕ) → R i j → S i j) where
  pub reaches_as : (i j : ℕ) → Reaches R i j → Reaches S i j
  reaches_as i j a = (a.0, way_as R S f a.0 i j a.1)

  pub calling_as : (i j : ℕ) → Calling R i j → Calling S i j
  calling_as i j a = (a.0, way_as R S f (suc a.0) i j a.1)

  module _ (g : (i j : ℕ) → S i j → R i j) where
    pub longest_as : (i d : ℕ) → Longest R i d → Longest S i d
    longest_as i d l = record {
      chain = (l.chain.0, l.chain.1, (l.chain.2.0, way_as R S f l.chain.0 i l.chain.2.0 l.chain.2.1));
      longest = λ k j v. l.longest k j (way_as S R g k i j v);
    }

    pub smallest_as : (e i : ℕ) → Smallest R e i → Smallest S e i
    smallest_as e i m = record {
      reached = reaches_as e i m.reached;
      again = calling_as i i m.again;
      smallest = λ j a c. m.smallest j (a.0, way_as S R g a.0 e j a.1) (c.0, way_as S R g (suc c.0) j j c.1);
    }
