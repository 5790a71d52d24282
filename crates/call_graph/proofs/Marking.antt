-- Rows marked, one after another.
-- Assumes nothing.
use Prim.Native.Nat.{ℕ, ◌+◌, ◌-◌, ◌≤◌, ◌<◌}
use mathlib.Core.Path.{◌≡◌, refl, sym, ◌∙◌}
use mathlib.Core.Bool.{Bool, true, false, true≢false, ◌||◌}
use mathlib.Core.List.{List}
use mathlib.Core.Logic.{◌⊎◌, inl, inr, ⊎_elim}
use native.Mathlib.Omega.{arith}
use lib.ListN.{length, get_or, set, length-set, get_or-eq_default}
use lib.Seq.{get_or-set_same}
use lib.Dec.{ltb, leb}
use borrow.Author.Tests.{ltb-true, ltb-false, le-leb, lt-leb}
use Rattle.call_graph.specs.Ways.{Calling}
use Rattle.call_graph.specs.Profile.{Profile}
use Rattle.call_graph.specs.Words.{FLAG}
use Rattle.call_graph.specs.Marks.{MARK, BOTH, marked_in, RowCalls, Shaped, Grown, Marking, Slots, always, Closed, CallsMarked, Followed, MarksSound, Round, Circled, Spread, Begun, end_in, Spot, Spotted}
use Rattle.ebpf.specs.Choice.{◌if◌else◌}
use Rattle.call_graph.proofs.Scans.{below_or}
use Rattle.call_graph.proofs.Settling.{neither, either_more, at_set, count_le, count_set}
use Rattle.call_graph.proofs.Ways.{join}

-- what is not 0 stands in the list
pub inside : (w : List ℕ) (q : ℕ) → FLAG ≤ get_or w q 0 → q < length w
inside w q f = go (ltb q (length w)) refl
  where
    go : (b : Bool) → ltb q (length w) ≡ b → q < length w
    go true t = ltb-true q (length w) t
    go false t = let z : get_or w q 0 ≡ 0 = get_or-eq_default w 0 (ltb-false q (length w) t) in omega arith

pub grown_same : (Src : ℕ → Type 0) (w : List ℕ) → Grown Src w w
grown_same Src w = record { long = refl; each = λ q. inl refl }

pub grown_then : (A B C : ℕ → Type 0) (w u v : List ℕ) → ((q : ℕ) → FLAG ≤ get_or w q 0 → A q → C q) → ((q : ℕ) → FLAG ≤ get_or w q 0 → B q → C q)
    → Grown A w u → Grown B u v → Grown C w v
grown_then A B C w u v f g a b = record {
  long = b.long ∙ a.long;
  each = λ q. ⊎_elim
      (λ x. ⊎_elim
      (λ y. inl (y ∙ x))
      (λ y. let h : FLAG ≤ get_or w q 0 = omega (arith, x, y.0) in inr (h, omega (arith, x, y.1), omega (arith, x, y.2), g q h y.3))
      (b.each q))
      (λ x. ⊎_elim
      (λ y. inr (x.0, x.1, omega (arith, x.2, y), f q x.0 x.3))
      (λ y. absurd (omega (arith, x.0, x.2, y.1)))
      (b.each q))
      (a.each q);
}

pub marking_same : (Src : ℕ → Type 0) (w : List ℕ) → Marking Src w w false
marking_same Src w = record { grown = grown_same Src w; more = λ e. absurd (true≢false (sym e)); same = λ _. refl }

pub marking_then : (A B C : ℕ → Type 0) (w u v : List ℕ) (k d : Bool) → ((q : ℕ) → FLAG ≤ get_or w q 0 → A q → C q) → ((q : ℕ) → FLAG ≤ get_or w q 0 → B q → C q)
    → Marking A w u k → Marking B u v d → Marking C w v (k || d)
marking_then A B C w u v k d f g a b = record {
  grown = grown_then A B C w u v f g a.grown b.grown;
  more = either_more marked_in w u v k d a.more a.same b.more b.same;
  same = λ e. let n = neither k d e in b.same n.1 ∙ a.same n.0;
}

pub marking_less : (Src : ℕ → Type 0) (w u : List ℕ) (n : ℕ) (k : Bool) → length w ≡ n → Marking Src w u k → k ≡ true → n - marked_in u < n - marked_in w
marking_less Src w u n k e m h = omega (arith, m.more h, m.grown.long, count_le (λ x. leb BOTH x) u)

-- one row
pub row_kept : (w : List ℕ) (q : ℕ) → (get_or w q 0 < FLAG) ⊎ (BOTH ≤ get_or w q 0) → Slots (always q) 0 1 1 w w false
row_kept w q o = record { marks = marking_same _ w; closed = λ t a b f. ⊎_elim (λ x. absurd (omega arith)) (λ x. x) o }

pub row_marked : (w : List ℕ) (q : ℕ) → q < length w → FLAG ≤ get_or w q 0 → get_or w q 0 < BOTH → Slots (always q) 0 1 1 w (set w q (get_or w q 0 + MARK)) true
row_marked w q l f b = record {
  marks = record {
    grown = record {
      long = length-set w q (get_or w q 0 + MARK);
      each = λ p. at_set (λ n. (n ≡ get_or w p 0) ⊎ ((FLAG ≤ get_or w p 0) × (get_or w p 0 < BOTH) × (n ≡ get_or w p 0 + MARK) × ((t : ℕ) × (0 ≤ t) × (t < 1) × (q ≡ p))))
          w q (get_or w q 0 + MARK) p l
          (λ e. inr (rw e f, rw e b, rw e refl, (0, omega arith, omega arith, sym e)))
          (λ _. inl refl);
    };
    more = λ _. omega (arith, count_set (λ x. leb BOTH x) w q (get_or w q 0 + MARK) l (lt-leb _ _ b) (le-leb BOTH (get_or w q 0 + MARK) (omega arith)));
    same = λ e. absurd (true≢false e);
  };
  closed = λ t a c _. let h : BOTH ≤ get_or (set w q (get_or w q 0 + MARK)) q 0 = omega (arith, get_or-set_same w q (get_or w q 0 + MARK) 0 l) in h;
}

-- what is closed stays so
pub closed_kept : (Src : ℕ → Type 0) (u v : List ℕ) (q : ℕ) → Grown Src u v → (FLAG ≤ get_or u q 0 → BOTH ≤ get_or u q 0) → FLAG ≤ get_or v q 0 → BOTH ≤ get_or v q 0
closed_kept Src u v q g c f = ⊎_elim (λ x. let h : BOTH ≤ get_or u q 0 = c (omega arith) in omega arith) (λ x. omega (arith, x.0, x.2)) (g.each q)

-- slots
pub slots_start : (callee : ℕ → ℕ) (from end : ℕ) (w : List ℕ) → Slots callee from end from w w false
slots_start callee from end w = record { marks = marking_same _ w; closed = λ t a b. absurd (omega arith) }

pub slots_next : (callee : ℕ → ℕ) (from end s g : ℕ) (w u v : List ℕ) (k d : Bool) → g ≡ callee s → from ≤ s → s < end → Slots callee from end s w u k → Slots (always g) 0 1 1 u v d
    → Slots callee from end (s + 1) w v (k || d)
slots_next callee from end s g w u v k d e a b x y = record {
  marks = marking_then _ _ _ w u v k d (λ q _ c. c) (λ q _ c. (s, a, b, sym e ∙ c.3)) x.marks y.marks;
  closed = λ t c l. below_or (λ t. from ≤ t → FLAG ≤ get_or v (callee t) 0 → BOTH ≤ get_or v (callee t) 0) s t l
      (λ h c. closed_kept _ u v (callee t) y.marks.grown (x.closed t c h))
      (λ c. rw e at (y.closed 0 (omega arith) (omega arith)))
      c;
}

-- a slot that calls no row
pub slots_past : (callee : ℕ → ℕ) (from end s : ℕ) (w u : List ℕ) (k : Bool) → length u ≤ callee s → Slots callee from end s w u k → Slots callee from end (s + 1) w u k
slots_past callee from end s w u k l x = record {
  marks = x.marks;
  closed = λ t c q. below_or (λ t. from ≤ t → FLAG ≤ get_or u (callee t) 0 → BOTH ≤ get_or u (callee t) 0) s t q
      (λ h c. x.closed t c h)
      (λ c f. absurd (omega (arith, l, inside u (callee s) f)))
      c;
}

pub slots_end : (callee : ℕ → ℕ) (from end s : ℕ) (w u : List ℕ) (k : Bool) → end ≤ s → Slots callee from end s w u k → Slots callee from end end w u k
slots_end callee from end s w u k l x = record { marks = x.marks; closed = λ t a b. x.closed t a (omega arith) }

-- rows
pub marking_from : (A C : ℕ → Type 0) (w u : List ℕ) (k : Bool) → ((q : ℕ) → FLAG ≤ get_or w q 0 → A q → C q) → Marking A w u k → Marking C w u k
marking_from A C w u k f m = record {
  grown = record { long = m.grown.long; each = λ q. ⊎_elim (λ x. inl x) (λ x. inr (x.0, x.1, x.2, f q x.0 x.3)) (m.grown.each q) };
  more = m.more;
  same = m.same;
}

module _ (P : Profile) (slots : ℕ) (w : List ℕ) (z : Shaped P slots w) where
  pub end_in_lem : (r : ℕ) → r < P.rows → FLAG ≤ get_or w r 0 → end_in (get_or w r 0) ≡ P.end (P.index r)
  unfolding ◌if◌else◌
  end_in_lem r l f =
      let few : P.end (P.index r) < MARK = omega (arith, z.sized.few, z.sized.within (P.index r)) in
      ⊎_elim
      (λ e. rw (lt-leb BOTH (get_or w r 0) (omega arith)) (omega arith))
      (λ e. rw (le-leb BOTH (get_or w r 0) (omega arith)) (omega arith))
      (z.ends r l f)

  pub shaped_kept : (Src : ℕ → Type 0) (u : List ℕ) → Grown Src w u → Shaped P slots u
  shaped_kept Src u g = record {
    sized = z.sized;
    long = g.long ∙ z.long;
    ends = λ r l f. ⊎_elim
        (λ e. ⊎_elim (λ x. inl (e ∙ x)) (λ x. inr (e ∙ x)) (z.ends r l (omega arith)))
        (λ e. ⊎_elim (λ x. inr (omega (arith, e.2))) (λ x. absurd (omega (arith, e.1))) (z.ends r l e.0))
        (g.each r);
  }

  -- what a row's slots mark are rows that it calls
  pub called_row : (r q : ℕ) → FLAG ≤ get_or w q 0 → (t : ℕ) × (P.index r ≤ t) × (t < P.end (P.index r)) × (P.callee t ≡ q) → RowCalls P r q
  called_row r q f c = (c.0, c.1, c.2, c.3, omega (arith, inside w q f, z.long))

  pub followed : (r : ℕ) (u : List ℕ) (k : Bool) → CallsMarked P r w u k → BOTH ≤ get_or w r 0 → Followed P r w u k
  followed r u k s b = record {
    marks = marking_from _ _ w u k (λ q f c. (b, called_row r q f c)) s.marks;
    closed = λ e _. s.closed;
  }

  pub not_followed : (r : ℕ) → get_or w r 0 < BOTH → Followed P r w w false
  not_followed r l = record { marks = marking_same _ w; closed = λ _ b. absurd (omega arith) }

-- one call more
pub calling_one : (R : ℕ → ℕ → Type 0) (b q : ℕ) → R b q → Calling R b q
calling_one R b q c = (0, (q, c, refl))

pub calling_more : (R : ℕ → ℕ → Type 0) (b r q : ℕ) → Calling R b r → R r q → Calling R b q
calling_more R b r q c d =
    let j = join R c.0 1 c.1.0 r q c.1.2 (q, d, refl) in
    (j.0, (c.1.0, c.1.1, j.2))

pub sound_kept : (P : Profile) (b : ℕ) (w u : List ℕ) → MarksSound P b w → Grown (λ q. Calling (RowCalls P) b q) w u → MarksSound P b u
sound_kept P b w u s g q l m = ⊎_elim (λ e. s q l (omega arith)) (λ e. e.3) (g.each q)

pub begun_kept : (P : Profile) (slots b : ℕ) (w u : List ℕ) → Begun P slots b w → Grown (λ q. Calling (RowCalls P) b q) w u → Begun P slots b u
begun_kept P slots b w u z g = record {
  shaped = shaped_kept P slots w z.shaped _ u g;
  below = z.below;
  unsettled = ⊎_elim (λ e. omega (arith, z.unsettled)) (λ e. omega (arith, e.0, e.2)) (g.each b);
  sound = sound_kept P b w u z.sound g;
}

pub round_start : (P : Profile) (b : ℕ) (w : List ℕ) → Round P b 0 w w false
round_start P b w = record { marks = marking_same _ w; closed = λ _ q l. absurd (omega arith) }

pub round_next : (P : Profile) (slots b r : ℕ) (w u v : List ℕ) (k d : Bool) → Begun P slots b w → r < P.rows → Round P b r w u k → Followed P r u v d → Round P b (r + 1) w v (k || d)
round_next P slots b r w u v k d z l x y = record {
  marks = marking_then _ _ _ w u v k d (λ q _ c. c)
      (λ q _ c. calling_more (RowCalls P) b r q (sound_kept P b w u z.sound x.marks.grown r l c.0) c.1)
      x.marks y.marks;
  closed = λ e q h. let n = neither k d e in below_or (λ q. BOTH ≤ get_or v q 0 → Closed P v q) r q h
      (λ h. rw (y.marks.same n.1) (x.closed n.0 q h))
      (y.closed n.1);
}

pub round_last : (P : Profile) (slots b n : ℕ) (w u v : List ℕ) (k d : Bool) → Begun P slots b w → P.rows ≤ n → Round P b n w u k
    → CallsMarked P b u v d → Circled P b w v (k || d)
round_last P slots b n w u v k d z l x y = record {
  round = record {
    marks = marking_then _ _ _ w u v k d (λ q _ c. c)
        (λ q f c. calling_one (RowCalls P) b q (called_row P slots w z.shaped b q f c))
        x.marks y.marks;
    closed = λ e q h. let n = neither k d e in rw (y.marks.same n.1) (x.closed n.0 q (omega (arith, l, h)));
  };
  first = λ e. y.closed;
}

pub round_done : (P : Profile) (b : ℕ) (w u v : List ℕ) (k : Bool) → Grown (λ q. Calling (RowCalls P) b q) w u → Circled P b u v k → k ≡ false → Spread P b w v
round_done P b w u v k g x e = record {
  grown = grown_then _ _ _ w u v (λ q _ c. c) (λ q _ c. c) g x.round.marks.grown;
  first = x.first e;
  closed = x.round.closed e;
}

-- a row's slots, as the code reads them
module _ (P : Profile) (slots : ℕ) (w : List ℕ) (z : Shaped P slots w) (r : ℕ) (l : r < P.rows) (f : FLAG ≤ get_or w r 0)
    (end : ℕ) (b : end ≡ end_in (get_or w r 0)) where
  the_end : end ≡ P.end (P.index r)
  the_end = b ∙ end_in_lem P slots w z r l f

  pub slots_within : end ≤ slots
  slots_within = omega (arith, the_end, z.sized.within (P.index r))

  pub slots_of : (u : List ℕ) (k : Bool) → Slots P.callee (P.index r) end end w u k → CallsMarked P r w u k
  slots_of u k s = rw the_end at s

-- a row's slots mark what it calls
pub spot_none : (P : Profile) (r : ℕ) (w : List ℕ) → get_or w r 0 < FLAG → Spot P r w w
spot_none P r w l = record { grown = grown_same _ w; closed = λ f. absurd (omega arith) }

pub spot_some : (P : Profile) (r : ℕ) (w u : List ℕ) (k : Bool) → CallsMarked P r w u k → Spot P r w u
spot_some P r w u k s = record { grown = (marking_from _ _ w u k (λ q _ _. tt) s.marks).grown; closed = λ _. s.closed }

pub spotted_start : (P : Profile) (w : List ℕ) → Spotted P 0 w w
spotted_start P w = record { grown = grown_same _ w; closed = λ q l. absurd (omega arith) }

pub spotted_next : (P : Profile) (r : ℕ) (w u v : List ℕ) → Spotted P r w u → Spot P r u v → Spotted P (r + 1) w v
spotted_next P r w u v x y = record {
  grown = grown_then _ _ _ w u v (λ q _ _. tt) (λ q _ _. tt) x.grown y.grown;
  closed = λ q l. below_or (λ q. FLAG ≤ get_or w q 0 → Closed P v q) r q l
      (λ h f t a b. closed_kept _ u v (P.callee t) y.grown (x.closed q h f t a b))
      (λ f. y.closed (⊎_elim (λ e. omega arith) (λ e. omega (arith, e.0, e.2)) (x.grown.each r)));
}
