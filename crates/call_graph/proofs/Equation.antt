-- The answer's meaning determines it, and the computed answer is it.
-- Assumes nothing.
use Prim.Native.Nat.{ℕ, zero, suc, ◌+◌, ◌-◌, ◌≤◌, ◌<◌, max, min}
use mathlib.Core.Path.{◌≡◌, refl, sym, ◌∙◌, ap}
use mathlib.Core.Bool.{Bool, true, false, ◌&&◌, ◌||◌}
use mathlib.Core.Logic.{◌⊎◌, inl, inr, ⊎_elim}
use native.Mathlib.Omega.{arith}
use lib.Dec.{ltb, eqb}
use Rattle.std.specs.Prelude.{Ok, Err}
use Rattle.ebpf.specs.Choice.{◌if◌else◌}
use borrow.Author.Tests.{ltb-true, lt-ltb, le-ltb, eqb-true, eq-eqb}
use Rattle.call_graph.specs.Ways.{Way, Reaches, Calling, Longest, Smallest}
use Rattle.call_graph.specs.Profile.{Profile, Depth, recursive, CallsFunction, Answers}
use Rattle.call_graph.specs.Marks.{RowCalls}
use Rattle.call_graph.specs.Answer.{most, some, least_of, chain_from, some_callee, reached_within, comes_back, depth_of}
use Rattle.program.proofs.Cases.{by_test, by_lt}
use Rattle.call_graph.proofs.Ways.{join, round, no_return}
use Rattle.call_graph.proofs.Loops.{project, lift}
use Rattle.call_graph.proofs.Short.{prefix, longer, short, loop_on}
use Rattle.call_graph.proofs.Scans.{max_or}

-- one answer at most
pub unique : (P : Profile) (e : ℕ) (a b : Depth) → Answers P e a → Answers P e b → a ≡ b
unique P e (Ok c) (Ok d) x y =
    let p = x.chain in
    let q = y.chain in
    let h : p.0 < d = y.longest p.0 p.2.0 p.2.1 in
    let g : q.0 < c = x.longest q.0 q.2.0 q.2.1 in
    ap Ok (omega (arith, p.1, q.1))
unique P e (Ok c) (Err s) x y = absurd (no_return (CallsFunction P) e c s.index x y.reached y.again)
unique P e (Err r) (Ok d) x y = absurd (no_return (CallsFunction P) e d r.index y x.reached x.again)
unique P e (Err r) (Err s) x y =
    let h : r.index ≤ s.index = x.smallest s.index y.reached y.again in
    let g : s.index ≤ r.index = y.smallest r.index x.reached x.again in
    let i : r.index ≡ s.index = omega arith in
    ap recursive i

-- tests
and_both : (a b : Bool) → (a && b) ≡ true → (a ≡ true) × (b ≡ true)
unfolding ◌if◌else◌
and_both true b e = (refl, e)
and_both false b e = absurd (let z : ◌≡◌ {A = ℕ} 0 1 = ap (λ (t : Bool). 1 if t else 0) e in omega arith)

or_either : (a b : Bool) → (a || b) ≡ true → (a ≡ true) ⊎ (b ≡ true)
or_either true b e = inl refl
or_either false b e = inr e

or_right : (a b : Bool) → b ≡ true → (a || b) ≡ true
or_right true b e = refl
or_right false b e = e

-- folds over slots
most_at : (f : ℕ → ℕ) (s n t : ℕ) → s ≤ t → t < s + n → f t ≤ most f s n
most_at f s zero t a b = absurd (omega arith)
most_at f s (suc n) t a b = by_lt s t (λ _. f t ≤ max (f s) (most f (suc s) n))
    (λ l. let h : f t ≤ most f (suc s) n = most_at f (suc s) n t l (omega arith) in omega arith)
    (λ l. let e : s ≡ t = omega arith in let h : f s ≡ f t = ap f e in omega arith)

most_met : (f : ℕ → ℕ) (s n : ℕ) → (most f s n ≡ 0) ⊎ ((t : ℕ) × (s ≤ t) × (t < s + n) × (f t ≡ most f s n))
most_met f s zero = inl refl
most_met f s (suc n) = ⊎_elim
    (λ e. inr (s, omega arith, omega arith, sym e))
    (λ e. ⊎_elim (λ z. inl (e ∙ z)) (λ z. inr (z.0, omega (arith, z.1), omega (arith, z.2), z.3 ∙ sym e)) (most_met f (suc s) n))
    (max_or (f s) (most f (suc s) n))

some_at : (t : ℕ → Bool) (s n q : ℕ) → s ≤ q → q < s + n → t q ≡ true → some t s n ≡ true
some_at t s zero q a b e = absurd (omega arith)
some_at t s (suc n) q a b e = by_lt s q (λ _. (t s || some t (suc s) n) ≡ true)
    (λ l. or_right (t s) (some t (suc s) n) (some_at t (suc s) n q l (omega arith) e))
    (λ l. let p : q ≡ s = omega arith in let h : t s ≡ true = rw p at e in rw h refl)

some_met : (t : ℕ → Bool) (s n : ℕ) → some t s n ≡ true → (q : ℕ) × (s ≤ q) × (q < s + n) × (t q ≡ true)
unfolding ◌if◌else◌
some_met t s zero e = absurd (let z : ◌≡◌ {A = ℕ} 0 1 = ap (λ (t : Bool). 1 if t else 0) e in omega arith)
some_met t s (suc n) e = ⊎_elim
    (λ h. (s, omega arith, omega arith, h))
    (λ h. let r = some_met t (suc s) n h in (r.0, omega (arith, r.1), omega (arith, r.2), r.3))
    (or_either (t s) (some t (suc s) n) e)

least_at : (t : ℕ → Bool) (f : ℕ → ℕ) (n q : ℕ) → q < n → t q ≡ true → least_of t f n ≤ f q
unfolding ◌if◌else◌
least_at t f zero q l e = absurd (omega arith)
least_at t f (suc n) q l e = by_lt q n (λ _. (min (f n) (least_of t f n) if t n else least_of t f n) ≤ f q)
    (λ h. let r : least_of t f n ≤ f q = least_at t f n q h e in by_test (t n) (λ b. (min (f n) (least_of t f n) if b else least_of t f n) ≤ f q) (λ _. omega arith) (λ _. r))
    (λ h. let p : q ≡ n = omega arith in let g : t n ≡ true = rw p at e in rw (g, p) (omega arith))

least_met : (t : ℕ → Bool) (f : ℕ → ℕ) (n : ℕ) → (least_of t f n ≡ 0x1_0000_0000) ⊎ ((q : ℕ) × (q < n) × (t q ≡ true) × (least_of t f n ≡ f q))
unfolding ◌if◌else◌
least_met t f zero = inl refl
least_met t f (suc n) = go (t n) refl (least_met t f n)
  where
    go : (b : Bool) → t n ≡ b → (least_of t f n ≡ 0x1_0000_0000) ⊎ ((q : ℕ) × (q < n) × (t q ≡ true) × (least_of t f n ≡ f q))
        → ((min (f n) (least_of t f n) if t n else least_of t f n) ≡ 0x1_0000_0000) ⊎ ((q : ℕ) × (q < suc n) × (t q ≡ true) × ((min (f n) (least_of t f n) if t n else least_of t f n) ≡ f q))
    go true e m = rw e (by_lt (f n) (least_of t f n) (λ _. (min (f n) (least_of t f n) ≡ 0x1_0000_0000) ⊎ ((q : ℕ) × (q < suc n) × (t q ≡ true) × (min (f n) (least_of t f n) ≡ f q)))
        (λ l. inr (n, omega arith, e, omega arith))
        (λ l. ⊎_elim (λ z. inl (omega arith)) (λ z. inr (z.0, omega (arith, z.1), z.2, omega (arith, z.3))) m))
    go false e m = rw e (⊎_elim (λ z. inl z) (λ z. inr (z.0, omega (arith, z.1), z.2, z.3)) m)

module _ (P : Profile) where
  called_at : (i h : ℕ) (t : ℕ → Bool) → CallsFunction P i h → t h ≡ true → some_callee P i t ≡ true
  called_at i h t c e = some_at (λ s. ltb (P.callee s) P.rows && t (P.index (P.callee s))) i (P.end i - i) c.0 c.1 (omega (arith, c.1, c.2))
      (rw (lt-ltb (P.callee c.0) P.rows c.3, c.4) e)

  called_met : (i : ℕ) (t : ℕ → Bool) → some_callee P i t ≡ true → (h : ℕ) × CallsFunction P i h × (t h ≡ true)
  called_met i t e =
      let m = some_met (λ s. ltb (P.callee s) P.rows && t (P.index (P.callee s))) i (P.end i - i) e in
      let b = and_both (ltb (P.callee m.0) P.rows) (t (P.index (P.callee m.0))) m.3 in
      (P.index (P.callee m.0), (m.0, m.1, omega (arith, m.1, m.2), ltb-true (P.callee m.0) P.rows b.0, refl), b.1)

  within_at : (k l i j : ℕ) → l ≤ k → Way (CallsFunction P) l i j → reached_within P k i j ≡ true
  within_at zero zero i j h v = eq-eqb i j v
  within_at zero (suc l) i j h v = absurd (omega arith)
  within_at (suc k) zero i j h v = rw (eq-eqb i j v) refl
  within_at (suc k) (suc l) i j h v = or_right (eqb i j) (some_callee P i (λ h. reached_within P k h j)) (called_at i v.0 (λ h. reached_within P k h j) v.1 (within_at k l v.0 j (omega arith) v.2))

  within_met : (k i j : ℕ) → reached_within P k i j ≡ true → Reaches (CallsFunction P) i j
  within_met zero i j e = (0, eqb-true i j e)
  within_met (suc k) i j e = ⊎_elim
      (λ h. (0, eqb-true i j h))
      (λ h. let m = called_met i (λ h. reached_within P k h j) h in let r = within_met k m.0 j m.2 in (suc r.0, (m.0, m.1, r.1)))
      (or_either (eqb i j) (some_callee P i (λ h. reached_within P k h j)) e)

  -- a chain of as many functions as computed, and none longer
  chain_way : (k i : ℕ) → (m : ℕ) × (chain_from P (suc k) i ≡ suc m) × ((j : ℕ) × Way (CallsFunction P) m i j)
  unfolding ◌if◌else◌
  chain_way zero i = (0, ap suc (all_zero i (P.end i - i)), (i, refl))
    where
      all_zero : (s n : ℕ) → most (λ s. 0 if ltb (P.callee s) P.rows else 0) s n ≡ 0
      all_zero s zero = refl
      all_zero s (suc n) =
          let h : most (λ s. 0 if ltb (P.callee s) P.rows else 0) (suc s) n ≡ 0 = all_zero (suc s) n in
          by_test (ltb (P.callee s) P.rows) (λ b. max (0 if b else 0) (most (λ s. 0 if ltb (P.callee s) P.rows else 0) (suc s) n) ≡ 0) (λ _. omega arith) (λ _. omega arith)
  chain_way (suc k) i = ⊎_elim
      (λ z. (0, ap suc z, (i, refl)))
      (λ z. go z (ltb (P.callee z.0) P.rows) refl (chain_way k (P.index (P.callee z.0))))
      (most_met (λ s. chain_from P (suc k) (P.index (P.callee s)) if ltb (P.callee s) P.rows else 0) i (P.end i - i))
    where
      M : ℕ
      M = most (λ s. chain_from P (suc k) (P.index (P.callee s)) if ltb (P.callee s) P.rows else 0) i (P.end i - i)

      go : (z : (t : ℕ) × (i ≤ t) × (t < i + (P.end i - i)) × ((chain_from P (suc k) (P.index (P.callee t)) if ltb (P.callee t) P.rows else 0) ≡ M))
          → (b : Bool) → ltb (P.callee z.0) P.rows ≡ b
          → (m : ℕ) × (chain_from P (suc k) (P.index (P.callee z.0)) ≡ suc m) × ((j : ℕ) × Way (CallsFunction P) m (P.index (P.callee z.0)) j)
          → (m : ℕ) × (suc M ≡ suc m) × ((j : ℕ) × Way (CallsFunction P) m i j)
      go z true e r =
          let q : chain_from P (suc k) (P.index (P.callee z.0)) ≡ M = rw e at z.3 in
          (suc r.0, ap suc (sym q ∙ r.1), (r.2.0, (P.index (P.callee z.0), (z.0, z.1, omega (arith, z.1, z.2), ltb-true (P.callee z.0) P.rows e, refl), r.2.1)))
      go z false e r =
          let q : 0 ≡ M = rw e at z.3 in
          (0, ap suc (sym q), (i, refl))

  way_chain : (k l i j : ℕ) → l < k → Way (CallsFunction P) l i j → l < chain_from P k i
  unfolding ◌if◌else◌
  way_chain zero l i j h v = absurd (omega arith)
  way_chain (suc k) zero i j h v = omega arith
  way_chain (suc k) (suc l) i j h v =
      let c = v.1 in
      let s = c.0 in
      let f : ℕ → ℕ = λ s. chain_from P k (P.index (P.callee s)) if ltb (P.callee s) P.rows else 0 in
      let a : f s ≤ most f i (P.end i - i) = most_at f i (P.end i - i) s c.1 (omega (arith, c.1, c.2)) in
      let b : l < chain_from P k (P.index (P.callee s)) = way_chain k l (P.index (P.callee s)) j (omega arith) (rw c.4 v.2) in
      let d : f s ≡ chain_from P k (P.index (P.callee s)) = rw (lt-ltb (P.callee s) P.rows c.3) refl in
      omega (arith, a, b, d)

  chain_longest : (k i d : ℕ) → d ≤ suc k → Longest (CallsFunction P) i d → chain_from P (suc k) i ≡ d
  chain_longest k i d h l =
      let c = l.chain in
      let a : c.0 < chain_from P (suc k) i = way_chain (suc k) c.0 i c.2.0 (omega (arith, c.1)) c.2.1 in
      let w = chain_way k i in
      let b : w.0 < d = l.longest w.0 w.2.0 w.2.1 in
      omega (arith, c.1, w.1, a, b)

  -- a longest chain has no more functions than there are rows
  longest_few : (e d : ℕ) → e < P.rows → Longest (CallsFunction P) (P.index e) d → d ≤ P.rows
  longest_few e d h l = go c.0 c.1 c.2.1
    where
      c : (k : ℕ) × (d ≡ suc k) × ((j : ℕ) × Way (CallsFunction P) k (P.index e) j)
      c = l.chain

      go : (k : ℕ) → d ≡ suc k → Way (CallsFunction P) k (P.index e) c.2.0 → d ≤ P.rows
      go zero q v = omega arith
      go (suc k) q v = by_lt P.rows d (λ _. d ≤ P.rows)
          (λ m.
          let g = lift P k (P.index e) c.2.0 v in
          let y = longer (RowCalls P) P.rows (λ a b r. r.4) (suc k) e g.0 (g.3 e refl) h (omega arith) in
          let z : y.0 < d = l.longest y.0 (P.index g.0) (project P y.0 e g.0 y.2) in
          absurd (omega (arith, y.1, z)))
          (λ m. m)

  -- what comes back makes chains of any length
  loops_full : (i j k : ℕ) → Reaches (CallsFunction P) i j → Calling (CallsFunction P) j j → k < chain_from P (suc k) i
  loops_full i j k a c =
      let r = round (CallsFunction P) j c k in
      let b = join (CallsFunction P) a.0 r.0 i j j a.1 r.2 in
      let p = prefix (CallsFunction P) b.0 i j b.2 k (omega (arith, r.1, b.1)) in
      way_chain (suc k) k i p.0 (omega arith) p.1

  -- reached from a row: by few calls
  few_calls : (r j : ℕ) → r < P.rows → Reaches (CallsFunction P) (P.index r) j → reached_within P P.rows (P.index r) j ≡ true
  few_calls r j h a = go a.0 a.1
    where
      go : (k : ℕ) → Way (CallsFunction P) k (P.index r) j → reached_within P P.rows (P.index r) j ≡ true
      go zero v = within_at P.rows 0 (P.index r) j (omega arith) v
      go (suc k) v =
          let g = lift P k (P.index r) j v in
          let s = short (RowCalls P) P.rows (λ a b r. r.4) r g.0 (suc k, g.3 r refl) h in
          within_at P.rows s.0 (P.index r) j (omega (arith, s.1)) (rw g.2 at (project P s.0 r g.0 s.2))

  comes_back_lem : (e r : ℕ) → e < P.rows → r < P.rows → Reaches (CallsFunction P) (P.index e) (P.index r) → Calling (CallsFunction P) (P.index r) (P.index r) → comes_back P (P.index e) r ≡ true
  comes_back_lem e r h l a c =
      let v = c.1 in
      let s = v.1 in
      let w : reached_within P P.rows v.0 (P.index r) ≡ true = rw s.4 at (few_calls (P.callee s.0) (P.index r) s.3 (c.0, rw s.4 v.2)) in
      rw (few_calls e (P.index r) h a) (called_at (P.index r) v.0 (λ h. reached_within P P.rows h (P.index r)) s w)

  comes_back_met : (i r : ℕ) → comes_back P i r ≡ true → Reaches (CallsFunction P) i (P.index r) × Calling (CallsFunction P) (P.index r) (P.index r)
  comes_back_met i r e =
      let b = and_both (reached_within P P.rows i (P.index r)) (some_callee P (P.index r) (λ h. reached_within P P.rows h (P.index r))) e in
      let m = called_met (P.index r) (λ h. reached_within P P.rows h (P.index r)) b.1 in
      let a = within_met P.rows m.0 (P.index r) m.2 in
      (within_met P.rows i (P.index r) b.0, (a.0, (m.0, m.1, a.1)))

  least_is : (e i : ℕ) → e < P.rows → i < 0x1_0000_0000 → Smallest (CallsFunction P) (P.index e) i → least_of (comes_back P (P.index e)) P.index P.rows ≡ i
  least_is e i h f s =
      let g = lift P s.again.0 i i s.again.1 in
      let a : comes_back P (P.index e) g.0 ≡ true = comes_back_lem e g.0 h g.1 (rw g.2 s.reached) (rw g.2 s.again) in
      let b : least_of (comes_back P (P.index e)) P.index P.rows ≤ P.index g.0 = least_at (comes_back P (P.index e)) P.index P.rows g.0 g.1 a in
      let low : i ≤ least_of (comes_back P (P.index e)) P.index P.rows = ⊎_elim
      (λ z. absurd (omega (arith, z, b, f, g.2)))
      (λ z. let m = comes_back_met (P.index e) z.0 z.2 in let q : i ≤ P.index z.0 = s.smallest (P.index z.0) m.0 m.1 in omega (arith, z.3, q))
      (least_met (comes_back P (P.index e)) P.index P.rows) in
      omega (arith, b, low, g.2)

  -- the computed answer
  pub chain_is : (e d : ℕ) → e < P.rows → Longest (CallsFunction P) (P.index e) d → Ok d ≡ depth_of P (P.index e)
  unfolding depth_of ◌if◌else◌
  chain_is e d h l =
      let few : d ≤ P.rows = longest_few e d h l in
      let c : chain_from P (suc P.rows) (P.index e) ≡ d = chain_longest P.rows (P.index e) d (omega arith) l in
      rw (c, le-ltb P.rows d few) refl

  pub recursive_is : (e i : ℕ) → e < P.rows → i < 0x1_0000_0000 → Smallest (CallsFunction P) (P.index e) i → recursive i ≡ depth_of P (P.index e)
  unfolding depth_of ◌if◌else◌
  recursive_is e i h f s =
      let c : P.rows < chain_from P (suc P.rows) (P.index e) = loops_full (P.index e) i P.rows s.reached s.again in
      rw (lt-ltb P.rows (chain_from P (suc P.rows) (P.index e)) c, least_is e i h f s) refl

  pub answer_is : (e : ℕ) (a : Depth) → e < P.rows → ((r : ℕ) → P.index r < 0x1_0000_0000) → Answers P (P.index e) a → a ≡ depth_of P (P.index e)
  answer_is e (Ok d) h f l = chain_is e d h l
  answer_is e (Err r) h f s =
      let g = lift P s.again.0 r.index r.index s.again.1 in
      recursive_is e r.index h (omega (arith, f g.0, g.2)) s

  -- and what it means
  chain_is_longest : (i : ℕ) → chain_from P (suc P.rows) i ≤ P.rows → Longest (CallsFunction P) i (chain_from P (suc P.rows) i)
  chain_is_longest i h = record {
    chain = chain_way P.rows i;
    longest = λ l j v. by_lt l (suc P.rows) (λ _. l < chain_from P (suc P.rows) i)
        (λ m. way_chain (suc P.rows) l i j m v)
        (λ m.
        let p = prefix (CallsFunction P) l i j v P.rows (omega arith) in
        let z : P.rows < chain_from P (suc P.rows) i = way_chain (suc P.rows) P.rows i p.0 (omega arith) p.1 in
        absurd (omega arith));
  }

  least_is_smallest : (e : ℕ) → e < P.rows → ((r : ℕ) → P.index r < 0x1_0000_0000) → P.rows < chain_from P (suc P.rows) (P.index e)
      → Smallest (CallsFunction P) (P.index e) (least_of (comes_back P (P.index e)) P.index P.rows)
  least_is_smallest e h f l = ⊎_elim
      (λ z. absurd (omega (arith, z, first (P.index q.0) q.1 q.2, f q.0)))
      (λ z. let m = comes_back_met (P.index e) z.0 z.2 in record { reached = rw z.3 m.0; again = rw z.3 m.1; smallest = first })
      (least_met (comes_back P (P.index e)) P.index P.rows)
    where
      first : (j : ℕ) → Reaches (CallsFunction P) (P.index e) j → Calling (CallsFunction P) j j → least_of (comes_back P (P.index e)) P.index P.rows ≤ j
      first j a c =
          let g = lift P c.0 j j c.1 in
          let t : comes_back P (P.index e) g.0 ≡ true = comes_back_lem e g.0 h g.1 (rw g.2 a) (rw g.2 c) in
          let b : least_of (comes_back P (P.index e)) P.index P.rows ≤ P.index g.0 = least_at (comes_back P (P.index e)) P.index P.rows g.0 g.1 t in
          omega (arith, b, g.2)

      found : (m j : ℕ) → P.rows ≤ m → Way (CallsFunction P) m (P.index e) j → (q : ℕ) × Reaches (RowCalls P) e q × Calling (RowCalls P) q q
      found zero j n v = absurd (omega arith)
      found (suc m) j n v = let g = lift P m (P.index e) j v in loop_on (RowCalls P) P.rows (λ a b r. r.4) (suc m) e g.0 (g.3 e refl) h n

      q : (r : ℕ) × Reaches (CallsFunction P) (P.index e) (P.index r) × Calling (CallsFunction P) (P.index r) (P.index r)
      q =
          let w = chain_way P.rows (P.index e) in
          let x = found w.0 w.2.0 (omega (arith, w.1)) w.2.1 in
          (x.0, (x.1.0, project P x.1.0 e x.0 x.1.1), (x.2.0, project P (suc x.2.0) x.0 x.0 x.2.1))

  pub answer_means : (e : ℕ) → e < P.rows → ((r : ℕ) → P.index r < 0x1_0000_0000) → Answers P (P.index e) (depth_of P (P.index e))
  unfolding depth_of ◌if◌else◌
  answer_means e h f = by_lt P.rows (chain_from P (suc P.rows) (P.index e))
      (λ b. Answers P (P.index e) (recursive (least_of (comes_back P (P.index e)) P.index P.rows) if b else Ok (chain_from P (suc P.rows) (P.index e))))
      (least_is_smallest e h f)
      (chain_is_longest (P.index e))
