-- The words changed one by one; the rows that are left; the smallest index.
-- Assumes nothing.
use Prim.Native.Nat.{ℕ, zero, suc, ◌+◌, ◌-◌, ◌≤◌, ◌<◌}
use mathlib.Core.Path.{◌≡◌, refl, sym, ◌∙◌, ap}
use mathlib.Core.Bool.{Bool, true, false}
use mathlib.Core.List.{List}
use mathlib.Core.Logic.{◌⊎◌, inl, ⊎_elim}
use native.Mathlib.Omega.{arith}
use lib.ListN.{length, get_or, set, length-set, get_or-eq_default}
use lib.Seq.{ext_get_or}
use lib.Dec.{ltb, eqb}
use Rattle.ebpf.specs.Choice.{◌if◌else◌}
use borrow.Author.Tests.{ltb-true, ltb-false, le-leb, lt-leb}
use Rattle.call_graph.specs.Ways.{Way, Reaches, Calling, Smallest}
use Rattle.call_graph.specs.Profile.{Profile, CallsFunction}
use Rattle.call_graph.specs.Words.{FLAG, settled_in, unsettled, Sized, Good, WordsReady, Stopped}
use Rattle.call_graph.specs.Marks.{MARK, BOTH, RowCalls, Looping, Harmless, Idle, Shaped, Grown, Spread, Plain, Each, bare, keep, Open, Lowest, Kept, Begun, Tested, Short, Spotted}
use Rattle.program.proofs.Cases.{by_lt, by_le, by_eq}
use Rattle.call_graph.proofs.Scans.{below_or}
use Rattle.call_graph.proofs.Settling.{at_set, settled_set, settled_le}
use Rattle.call_graph.proofs.Marking.{inside, calling_more}
use Rattle.call_graph.proofs.Loops.{reach_then, reach_more, looping_back, last_call, there_back, project, lift, way_row, settled_harmless, marked_from, stuck_loops}

-- a number after another
pub each_start : (f : ℕ → ℕ → ℕ) (w : List ℕ) → Each f 0 w w
each_start f w = record { long = refl; done = λ q l. absurd (omega arith); rest = λ q l. refl }

pub each_next : (f : ℕ → ℕ → ℕ) (r x : ℕ) (w u : List ℕ) → r < length u → x ≡ f r (get_or u r 0) → Each f r w u → Each f (r + 1) w (set u r x)
each_next f r x w u l e y = record {
  long = length-set u r x ∙ y.long;
  done = λ q h. at_set (λ n. n ≡ f q (get_or w q 0)) u r x q l
      (λ p. let g : get_or u r 0 ≡ get_or w r 0 = y.rest r (omega arith) in rw p (e ∙ ap (f r) g))
      (λ p. y.done q (omega arith));
  rest = λ q h. at_set (λ n. n ≡ get_or w q 0) u r x q l (λ p. absurd (omega arith)) (λ p. y.rest q (omega arith));
}

-- the words at the start
pub good_start : (P : Profile) (w u : List ℕ) → length w ≡ P.rows → Each (λ r _. FLAG + P.end (P.index r)) P.rows w u → Good P u
good_start P w u e y = record {
  long = y.long ∙ e;
  depths = λ r l f. absurd (let h : get_or u r 0 ≡ FLAG + P.end (P.index r) = y.done r l in omega arith);
  small = λ r l f. absurd (let h : get_or u r 0 ≡ FLAG + P.end (P.index r) = y.done r l in omega arith);
  ends = λ r l f. y.done r l;
}

-- the words when passes stop
module _ (P : Profile) (slots : ℕ) (w : List ℕ) (z : Sized P slots) (g : Good P w) where
  pub plain_words : (q : ℕ) → get_or w q 0 < BOTH
  plain_words q = go (ltb (get_or w q 0) FLAG) refl
    where
      go : (b : Bool) → ltb (get_or w q 0) FLAG ≡ b → get_or w q 0 < BOTH
      go true t = omega (arith, ltb-true (get_or w q 0) FLAG t)
      go false t =
          let f : FLAG ≤ get_or w q 0 = ltb-false (get_or w q 0) FLAG t in
          let l : q < P.rows = omega (arith, inside w q f, g.long) in
          omega (arith, g.ends q l f, z.within (P.index q), z.few)

  pub shaped_words : Shaped P slots w
  shaped_words = record { sized = z; long = g.long; ends = λ r l f. inl (g.ends r l f) }

  pub begun_words : (e : ℕ) → e < P.rows → FLAG ≤ get_or w e 0 → Begun P slots e w
  begun_words e l f = record { shaped = shaped_words; below = l; unsettled = f; sound = λ q _ b. absurd (omega (arith, plain_words q)) }

-- the marks off again
pub restored : (P : Profile) (slots : ℕ) (Src : ℕ → Type 0) (w v u : List ℕ) → Plain P slots w → Grown Src w v → Each bare (length v) v u → u ≡ w
unfolding ◌if◌else◌
restored P slots Src w v u z g y = ext_get_or 0 u w (y.long ∙ g.long) (λ q l. y.done q (omega (arith, y.long)) ∙ off q)
  where
    off : (q : ℕ) → bare q (get_or v q 0) ≡ get_or w q 0
    off q = ⊎_elim
        (λ e. rw (lt-leb BOTH (get_or v q 0) (omega (arith, z.plain q))) e)
        (λ e. rw (le-leb BOTH (get_or v q 0) (omega (arith, e.0, e.2))) (omega (arith, e.2)))
        (g.each q)

pub by_keep : (Q : ℕ → Type 0) (e q x : ℕ) → (BOTH ≤ x → Q (x - MARK)) → (x < FLAG → Q x) → (FLAG ≤ x → x < BOTH → q ≡ e → Q x) → (FLAG ≤ x → x < BOTH → (q ≡ e → ⊥) → Q 0) → Q (keep e q x)
unfolding ◌if◌else◌
by_keep Q e q x a b c d = by_le BOTH x (λ t. Q (x - MARK if t else x if ltb x FLAG else x if eqb q e else 0)) a
    (λ m. by_lt x FLAG (λ t. Q (x if t else x if eqb q e else 0)) b
    (λ f. by_eq q e (λ t. Q (x if t else 0)) (c f m) (d f m)))

-- what is left after the entry's marks
module _ (P : Profile) (slots e : ℕ) (w v u : List ℕ) (z : Sized P slots) (g : Good P w) (le : e < P.rows) (fe : FLAG ≤ get_or w e 0)
    (s : Spread P e w v) (y : Each (keep e) (length v) v u) where
  v_long : length v ≡ P.rows
  v_long = s.grown.long ∙ g.long

  u_is : (q : ℕ) → q < P.rows → get_or u q 0 ≡ keep e q (get_or v q 0)
  u_is q l = y.done q (omega (arith, v_long))

  -- by a row's word: settled; marked; the entry; given up
  by_row : (Q : ℕ → Type 0) (q : ℕ) → q < P.rows
      → (get_or w q 0 < FLAG → Q (get_or w q 0))
      → (FLAG ≤ get_or w q 0 → Reaches (RowCalls P) e q → Q (get_or w q 0))
      → (FLAG ≤ get_or v q 0 → get_or v q 0 < BOTH → (q ≡ e → ⊥) → Q 0)
      → Q (get_or u q 0)
  by_row Q q l a b c = rw (u_is q l) (by_keep Q e q (get_or v q 0)
      (λ m. ⊎_elim
      (λ x. absurd (omega (arith, plain_words P slots w z g q)))
      (λ x. let h : get_or v q 0 - MARK ≡ get_or w q 0 = omega (arith, x.2) in rw h (b x.0 (suc x.3.0, x.3.1)))
      (s.grown.each q))
      (λ m. ⊎_elim (λ x. rw x (a (omega arith))) (λ x. absurd (omega (arith, x.0, x.2))) (s.grown.each q))
      (λ f m p. ⊎_elim (λ x. rw x (b (omega arith) (0, sym p))) (λ x. absurd (omega (arith, x.0, x.2))) (s.grown.each q))
      c)

  pub v_harmless : (q : ℕ) → q < P.rows → get_or v q 0 < FLAG → Harmless P e q
  v_harmless q l f = ⊎_elim
      (λ x _. settled_harmless P q (get_or w q 0) (g.depths q l (omega arith)))
      (λ x. absurd (omega (arith, x.0, x.2)))
      (s.grown.each q)

  given_up : (q : ℕ) → get_or v q 0 < BOTH → (q ≡ e → ⊥) → Harmless P e q
  given_up q m n a l = go a.0 a.1
    where
      go : (k : ℕ) → Way (RowCalls P) k e q → ⊥
      go zero x = n (sym x)
      go (suc k) x = let h : BOTH ≤ get_or v q 0 = marked_from P v (Reaches (RowCalls P) e) (Looping P)
          (λ r g a c. reach_more (RowCalls P) e r g a c) (λ r g c. looping_back P 1 r g (g, c, refl)) s.closed v_harmless
          k e q (λ g c. (1, (g, c, refl))) s.first x l in omega arith

  past : (q : ℕ) → P.rows ≤ q → get_or u q 0 ≡ 0
  past q l = get_or-eq_default u 0 (omega (arith, y.long, v_long))

  pub open_words : Open P slots e u
  open_words = record {
    ready = record {
      shaped = record {
        sized = z;
        long = y.long ∙ v_long;
        ends = λ r l. by_row (λ n. FLAG ≤ n → (n ≡ FLAG + P.end (P.index r)) ⊎ (n ≡ BOTH + P.end (P.index r))) r l
            (λ a f. absurd (omega arith))
            (λ a _ f. inl (g.ends r l a))
            (λ _ _ _ f. absurd (omega arith));
      };
      plain = λ q. by_lt_rows q;
    };
    reached = λ q l. by_row (λ n. FLAG ≤ n → Reaches (RowCalls P) e q) q l (λ a f. absurd (omega arith)) (λ _ r _. r) (λ _ _ _ f. absurd (omega arith));
    harmless = λ q l. by_row (λ n. n < FLAG → Idle P e q) q l
        (λ a _ _ c. settled_harmless P q (get_or w q 0) (g.depths q l a) (q, (0, refl), c))
        (λ a _ f. absurd (omega arith))
        (λ _ m n _ a c. given_up q m n a (q, (0, refl), c));
  }
    where
      by_lt_rows : (q : ℕ) → get_or u q 0 < BOTH
      by_lt_rows q = go (ltb q P.rows) refl
        where
          go : (b : Bool) → ltb q P.rows ≡ b → get_or u q 0 < BOTH
          go true t = by_row (λ n. n < BOTH) q (ltb-true q P.rows t) (λ _. plain_words P slots w z g q) (λ _ _. plain_words P slots w z g q) (λ _ _ _. omega arith)
          go false t = omega (arith, past q (ltb-false q P.rows t))

-- a row that its own marks do not reach does not reach itself
pub not_itself : (P : Profile) (slots e r : ℕ) (w v : List ℕ) → Open P slots e w → r < P.rows → FLAG ≤ get_or w r 0 → Spread P r w v → get_or v r 0 < BOTH → Calling (RowCalls P) r r → ⊥
not_itself P slots e r w v o l f s m c =
    let h : BOTH ≤ get_or v r 0 = marked_from P v (λ q. Reaches (RowCalls P) e q × Calling (RowCalls P) r q) (λ q. Reaches (RowCalls P) q r)
    (λ q g a c. (reach_more (RowCalls P) e q g a.0 c, calling_more (RowCalls P) r q g a.1 c))
    (λ q g c a. reach_then (RowCalls P) q g r (1, (g, c, refl)) a)
    s.closed
    (λ q ql x a b. ⊎_elim (λ y. o.harmless q ql (omega arith) a.0 (there_back (RowCalls P) r q a.1 b)) (λ y. absurd (omega (arith, y.0, y.2))) (s.grown.each q))
    c.0 r r (λ g d. (reach_more (RowCalls P) e r g (o.reached r l f) d, (0, (g, d, refl)))) s.first c.1 (0, refl) in
    omega arith

pub plain_begun : (P : Profile) (slots r : ℕ) (w : List ℕ) → Plain P slots w → r < P.rows → FLAG ≤ get_or w r 0 → Begun P slots r w
plain_begun P slots r w z l f = record { shaped = z.shaped; below = l; unsettled = f; sound = λ q _ b. absurd (omega (arith, z.plain q)) }

pub tested : (P : Profile) (slots r : ℕ) (w v u : List ℕ) → Plain P slots w → r < P.rows → Spread P r w v → Each bare (length v) v u → Tested P r w u (get_or v r 0)
tested P slots r w v u z l s y = record {
  same = restored P slots _ w v u z s.grown y;
  itself = λ b. ⊎_elim (λ x. absurd (omega (arith, z.plain r))) (λ x. x.3) (s.grown.each r);
  other = λ m. (v, s, m);
}

-- the parts joined
pub ready_of : (P : Profile) (slots : ℕ) (w u : List ℕ) → Sized P slots → length w ≡ P.rows → Each (unsettled P) P.rows w u → WordsReady P slots u
ready_of P slots w u z l y = record { sized = z; good = good_start P w u l y }

pub stopped_short : (P : Profile) (slots e : ℕ) (w : List ℕ) → Sized P slots → Stopped P e w → e < P.rows → FLAG ≤ get_or w e 0 → Short P slots e w
stopped_short P slots e w z s l f = record { sized = z; settled = record { good = s.good; still = s.still f }; below = l; unsettled = f }

module _ (P : Profile) (slots e : ℕ) (w : List ℕ) (z : Short P slots e w) where
  pub short_begun : Begun P slots e w
  short_begun = begun_words P slots w z.sized z.settled.good e z.below z.unsettled

  pub short_open : (v u : List ℕ) → Spread P e w v → Each (keep e) (length v) v u → Open P slots e u
  short_open v u s y = open_words P slots e w v u z.sized z.settled.good z.below z.unsettled s y

  pub short_kept : (u : List ℕ) → Open P slots e u → Kept P slots e u
  short_kept u o = record { left = o; loops = stuck_loops P w z.settled e z.below z.unsettled }

-- rows that no row which is left calls are given up
module _ (P : Profile) (slots e : ℕ) (w v u : List ℕ) (o : Open P slots e w) (s : Spotted P P.rows w v) (y : Each (keep P.rows) (length v) v u) where
  long_v : length v ≡ P.rows
  long_v = s.grown.long ∙ o.ready.shaped.long

  -- by a row's word: kept, or given up
  by_left : (Q : ℕ → Type 0) (q : ℕ) → q < P.rows → Q (get_or w q 0) → (FLAG ≤ get_or w q 0 → get_or v q 0 < BOTH → Q 0) → Q (get_or u q 0)
  by_left Q q l a c =
      let h : get_or u q 0 ≡ keep P.rows q (get_or v q 0) = y.done q (omega (arith, long_v)) in
      rw h (by_keep Q P.rows q (get_or v q 0)
      (λ m. ⊎_elim
      (λ x. absurd (omega (arith, o.ready.plain q)))
      (λ x. let z : get_or v q 0 - MARK ≡ get_or w q 0 = omega (arith, x.2) in rw z a)
      (s.grown.each q))
      (λ m. ⊎_elim (λ x. rw x a) (λ x. absurd (omega (arith, x.0, x.2))) (s.grown.each q))
      (λ f m p. absurd (omega arith))
      (λ f m _. ⊎_elim (λ x. c (omega arith) m) (λ x. absurd (omega (arith, x.0, x.2))) (s.grown.each q)))

  not_called : (q : ℕ) → FLAG ≤ get_or w q 0 → get_or v q 0 < BOTH → Idle P e q
  not_called q f m a c =
      let t = last_call (RowCalls P) c.0 q q c.1 in
      let p = t.0 in
      let d = t.2 in
      let up : Reaches (RowCalls P) e p = reach_then (RowCalls P) e q p a (c.0, t.1) in
      let rd : Calling (RowCalls P) p p = (c.0, (q, d, t.1)) in
      let l : p < P.rows = way_row P c.0 p p rd.1 in
      let fv : FLAG ≤ get_or v q 0 = ⊎_elim (λ x. omega arith) (λ x. omega (arith, x.0, x.2)) (s.grown.each q) in
      by_lt (get_or w p 0) FLAG (λ _. ⊥)
      (λ x. o.harmless p l x up rd)
      (λ x.
      let h : FLAG ≤ get_or v (P.callee d.0) 0 → BOTH ≤ get_or v (P.callee d.0) 0 = s.closed p l x d.0 d.1 d.2 in
      let n : FLAG ≤ get_or v q 0 → BOTH ≤ get_or v q 0 = rw d.3 at h in
      let b : BOTH ≤ get_or v q 0 = n fv in
      omega arith)

  pub open_left : Open P slots e u
  open_left = record {
    ready = record {
      shaped = record {
        sized = o.ready.shaped.sized;
        long = y.long ∙ long_v;
        ends = λ r l. by_left (λ n. FLAG ≤ n → (n ≡ FLAG + P.end (P.index r)) ⊎ (n ≡ BOTH + P.end (P.index r))) r l
            (o.ready.shaped.ends r l)
            (λ _ _ f. absurd (omega arith));
      };
      plain = small;
    };
    reached = λ q l. by_left (λ n. FLAG ≤ n → Reaches (RowCalls P) e q) q l (o.reached q l) (λ _ _ f. absurd (omega arith));
    harmless = λ q l. by_left (λ n. n < FLAG → Idle P e q) q l (o.harmless q l) (λ f m _. not_called q f m);
  }
    where
      small : (q : ℕ) → get_or u q 0 < BOTH
      small q = go (ltb q P.rows) refl
        where
          go : (b : Bool) → ltb q P.rows ≡ b → get_or u q 0 < BOTH
          go true t = by_left (λ n. n < BOTH) q (ltb-true q P.rows t) (o.ready.plain q) (λ _ _. omega arith)
          go false t =
              let z : get_or u q 0 ≡ 0 = get_or-eq_default u 0 (omega (arith, y.long, long_v, ltb-false q P.rows t)) in
              omega arith

-- the row of the smallest index
module _ (rows : ℕ) (index : ℕ → ℕ) (w : List ℕ) where
  pub lowest_start : Lowest rows index w 0 rows
  lowest_start = record { left = λ l. absurd (omega arith); low = λ q l. absurd (omega arith) }

  pub lowest_settled : (r best : ℕ) → get_or w r 0 < FLAG → Lowest rows index w r best → Lowest rows index w (r + 1) best
  lowest_settled r best f y = record {
    left = y.left;
    low = λ q l. below_or (λ q. FLAG ≤ get_or w q 0 → (best < rows) × (index best ≤ index q)) r q l (y.low q) (λ g. absurd (omega arith));
  }

  pub lowest_kept : (r best : ℕ) → best < rows → index best ≤ index r → Lowest rows index w r best → Lowest rows index w (r + 1) best
  lowest_kept r best b i y = record {
    left = y.left;
    low = λ q l. below_or (λ q. FLAG ≤ get_or w q 0 → (best < rows) × (index best ≤ index q)) r q l (y.low q) (λ g. (b, i));
  }

  pub lowest_new : (r best : ℕ) → r < rows → FLAG ≤ get_or w r 0 → (best < rows → index r ≤ index best) → Lowest rows index w r best → Lowest rows index w (r + 1) r
  lowest_new r best l f i y = record {
    left = λ _. f;
    low = λ q h. below_or (λ q. FLAG ≤ get_or w q 0 → (r < rows) × (index r ≤ index q)) r q h
        (λ m g. let x = y.low q m g in (l, omega (arith, x.1, i x.0)))
        (λ _. (l, omega arith));
  }

module _ (P : Profile) (slots e : ℕ) (w : List ℕ) (k : Kept P slots e w) (best : ℕ) (y : Lowest P.rows P.index w P.rows best) where
  -- what reaches itself is left
  left_low : (q : ℕ) → q < P.rows → Reaches (RowCalls P) e q → Calling (RowCalls P) q q → (best < P.rows) × (P.index best ≤ P.index q)
  left_low q l a c = by_lt (get_or w q 0) FLAG (λ _. (best < P.rows) × (P.index best ≤ P.index q)) (λ f. absurd (k.left.harmless q l f a c)) (y.low q l)

  pub best_below : best < P.rows
  best_below =
      let l = k.loops in
      (left_low l.0 (way_row P l.2.0 l.0 l.0 l.2.1) l.1 l.2).0

  pub best_left : FLAG ≤ get_or w best 0
  best_left = y.left best_below

  pub best_answer : Calling (RowCalls P) best best → Smallest (CallsFunction P) (P.index e) (P.index best)
  best_answer c = record {
    reached = let a = k.left.reached best best_below best_left in (a.0, project P a.0 e best a.1);
    again = (c.0, project P (suc c.0) best best c.1);
    smallest = first;
  }
    where
      to_row : (n j g : ℕ) → Way (CallsFunction P) n (P.index e) j → ((r : ℕ) → P.index r ≡ j → Reaches (RowCalls P) r g) → Reaches (RowCalls P) e g
      to_row zero j g v f = f e v
      to_row (suc n) j g v f =
          let h = lift P n (P.index e) j v in
          reach_then (RowCalls P) e h.0 g (suc n, h.3 e refl) (f h.0 h.2)

      first : (j : ℕ) → Reaches (CallsFunction P) (P.index e) j → Calling (CallsFunction P) j j → P.index best ≤ j
      first j a d =
          let h = lift P d.0 j j d.1 in
          let r : Reaches (RowCalls P) e h.0 = to_row a.0 j h.0 a.1 (λ r p. (suc d.0, h.3 r p)) in
          let l = left_low h.0 h.1 r (d.0, h.3 h.0 h.2) in
          omega (arith, l.1, h.2)

  pub best_gone : (v : List ℕ) → Spread P best w v → get_or v best 0 < BOTH → Kept P slots e (set w best 0)
  best_gone v s m =
      let o = k.left in
      let l : best < length w = omega (arith, best_below, o.ready.shaped.long) in
      record {
        left = record {
          ready = record {
            shaped = record {
              sized = o.ready.shaped.sized;
              long = length-set w best 0 ∙ o.ready.shaped.long;
              ends = λ r h. at_set (λ n. FLAG ≤ n → (n ≡ FLAG + P.end (P.index r)) ⊎ (n ≡ BOTH + P.end (P.index r))) w best 0 r l
                  (λ _ f. absurd (omega arith)) (λ _. o.ready.shaped.ends r h);
            };
            plain = λ q. at_set (λ n. n < BOTH) w best 0 q l (λ _. omega arith) (λ _. o.ready.plain q);
          };
          reached = λ q h. at_set (λ n. FLAG ≤ n → Reaches (RowCalls P) e q) w best 0 q l (λ _ f. absurd (omega arith)) (λ _. o.reached q h);
          harmless = λ q h. at_set (λ n. n < FLAG → Idle P e q) w best 0 q l
              (λ p _ a c. not_itself P slots e best w v o best_below best_left s m (rw p at c))
              (λ _. o.harmless q h);
        };
        loops = k.loops;
      }

  -- and fewer are left
  pub best_less : P.rows - settled_in (set w best 0) < P.rows - settled_in w
  best_less =
      let l : best < length w = omega (arith, best_below, k.left.ready.shaped.long) in
      omega (arith, settled_set w best 0 l best_left (omega arith), settled_le (set w best 0), length-set w best 0, k.left.ready.shaped.long)
