-- A row is settled when all that it calls is.
-- Assumes nothing.
use Prim.Native.Nat.{ℕ, zero, suc, ◌+◌, ◌-◌, ◌≤◌, ◌<◌}
use mathlib.Core.Path.{◌≡◌, refl, sym, ◌∙◌}
use mathlib.Core.Bool.{Bool, true, false, true≢false, ◌||◌}
use mathlib.Core.List.{List, [], ◌∷◌}
use mathlib.Core.Logic.{⊎_elim}
use native.Mathlib.Omega.{arith}
use lib.ListN.{length, get_or, set, length-set, get_or-eq_default}
use lib.Seq.{get_or-set_same, get_or-set_other}
use lib.Dec.{ltb, eqb}
use Rattle.ebpf.specs.Choice.{◌if◌else◌}
use borrow.Author.Tests.{ltb-true, ltb-false, eqb-true, eqb-false, lt-ltb, le-ltb}
use Rattle.call_graph.specs.Ways.{Way, Longest}
use Rattle.call_graph.specs.Profile.{Profile, CallsFunction}
use Rattle.call_graph.specs.Words.{FLAG, count_in, settled_in, Sized, Good, Stuck, OverSlots, Scan, WordsReady, RowTried, Passing, Stopped}
use Rattle.program.proofs.Cases.{by_test}
use Rattle.call_graph.proofs.Scans.{below_or}

-- two steps, each of which changes the words only where it says so
pub neither : (a b : Bool) → (a || b) ≡ false → (a ≡ false) × (b ≡ false)
neither true b e = absurd (true≢false e)
neither false b e = (refl, e)

pub either_more : (m : List ℕ → ℕ) (w u v : List ℕ) (a b : Bool) → (a ≡ true → m w < m u) → (a ≡ false → u ≡ w) → (b ≡ true → m u < m v) → (b ≡ false → v ≡ u) → (a || b) ≡ true → m w < m v
either_more m w u v true true f g h i e = omega (arith, f refl, h refl)
either_more m w u v true false f g h i e = rw (i refl) (f refl)
either_more m w u v false b f g h i e = rw (← g refl) (h e)

-- the words after a store
pub at_set : (Q : ℕ → Type 0) (w : List ℕ) (r v q : ℕ) → r < length w → (q ≡ r → Q v) → ((q ≡ r → ⊥) → Q (get_or w q 0)) → Q (get_or (set w r v) q 0)
at_set Q w r v q l f g = go (eqb q r) refl
  where
    go : (b : Bool) → eqb q r ≡ b → Q (get_or (set w r v) q 0)
    go true e = let h : q ≡ r = eqb-true q r e in rw (h, get_or-set_same w r v 0 l) (f h)
    go false e = let h : q ≡ r → ⊥ = eqb-false q r e in rw (get_or-set_other w r q v 0 h) (g h)

pub count_le : (t : ℕ → Bool) (w : List ℕ) → count_in t w ≤ length w
unfolding ◌if◌else◌
count_le t [] = omega arith
count_le t (x ∷ xs) =
    let h : count_in t xs ≤ length xs = count_le t xs in
    by_test (t x) (λ b. (suc (count_in t xs) if b else count_in t xs) ≤ suc (length xs)) (λ _. omega arith) (λ _. omega arith)

pub count_set : (t : ℕ → Bool) (w : List ℕ) (r d : ℕ) → r < length w → t (get_or w r 0) ≡ false → t d ≡ true → count_in t (set w r d) ≡ suc (count_in t w)
unfolding ◌if◌else◌
count_set t [] r d l f s = absurd (let z : r < 0 = l in omega arith)
count_set t (x ∷ xs) zero d l f s = rw (s, f)
count_set t (x ∷ xs) (suc r) d l f s =
    let h : count_in t (set xs r d) ≡ suc (count_in t xs) = count_set t xs r d (omega arith) f s in
    by_test (t x) (λ b. (suc (count_in t (set xs r d)) if b else count_in t (set xs r d)) ≡ suc (suc (count_in t xs) if b else count_in t xs)) (λ _. omega arith) (λ _. omega arith)

pub settled_le : (w : List ℕ) → settled_in w ≤ length w
settled_le w = count_le (λ x. ltb x FLAG) w

pub settled_set : (w : List ℕ) (r d : ℕ) → r < length w → FLAG ≤ get_or w r 0 → d < FLAG → settled_in (set w r d) ≡ suc (settled_in w)
settled_set w r d l f s = count_set (λ x. ltb x FLAG) w r d l (le-ltb _ _ f) (lt-ltb _ _ s)

module _ (P : Profile) (w : List ℕ) (g : Good P w) where
  -- what a slot calls that is deeper than 0 is a row
  pub a_row : (q m : ℕ) → get_or w q 0 ≡ suc m → q < P.rows
  a_row q m e = go (ltb q P.rows) refl
    where
      go : (b : Bool) → ltb q P.rows ≡ b → q < P.rows
      go true t = ltb-true q P.rows t
      go false t =
          let l : length w ≤ q = omega (arith, ltb-false q P.rows t, g.long) in
          let z : get_or w q 0 ≡ 0 = get_or-eq_default w 0 l in
          omega arith

  module _ (i m : ℕ) (o : OverSlots P.callee w i (P.end i) (P.end i) m) where
    none_longer : (k j : ℕ) → Way (CallsFunction P) k i j → k < suc m
    none_longer zero j v = omega arith
    none_longer (suc k) j v =
        let c = v.1 in
        let s = c.0 in
        let h : get_or w (P.callee s) 0 ≤ m = o.most s c.1 c.2 in
        let f : get_or w (P.callee s) 0 < FLAG = omega (arith, o.small) in
        let l = g.depths (P.callee s) c.3 f in
        let b : k < get_or w (P.callee s) 0 = l.longest k j (rw c.4 v.2) in
        omega arith

    one : (n : ℕ) → m ≡ n → (k : ℕ) × (suc m ≡ suc k) × ((j : ℕ) × Way (CallsFunction P) k i j)
    one zero e = (0, omega arith, (i, refl))
    one (suc n) e = ⊎_elim
        (λ z. absurd (omega arith))
        (λ z.
        let q = P.callee z.0 in
        let lies : q < P.rows = a_row q n (z.3 ∙ e) in
        let l = g.depths q lies (omega (arith, o.small, z.3)) in
        let c = l.chain in
        (suc c.0, omega (arith, c.1, z.3), (c.2.0, (P.index q, (z.0, z.1, z.2, lies, refl), c.2.1))))
        o.met

    pub settle_up : Longest (CallsFunction P) i (suc m)
    settle_up = record { chain = one m refl; longest = none_longer }

    pub depth_small : m ≤ settled_in w
    depth_small = go m refl
      where
        go : (n : ℕ) → m ≡ n → m ≤ settled_in w
        go zero e = omega arith
        go (suc n) e = ⊎_elim
            (λ z. omega arith)
            (λ z. let h : get_or w (P.callee z.0) 0 ≤ settled_in w = g.small (P.callee z.0) (a_row (P.callee z.0) n (z.3 ∙ e)) (omega (arith, o.small, z.3)) in omega (arith, z.3))
            o.met

  pub tried_kept : (r : ℕ) → get_or w r 0 < FLAG → RowTried P w w r false
  tried_kept r l = record { good = g; more = λ e. absurd (true≢false (sym e)); same = λ _. refl; stuck = λ _ f. absurd (omega arith) }

  pub tried_stuck : (r : ℕ) → Stuck P w (P.index r) → RowTried P w w r false
  tried_stuck r s = record { good = g; more = λ e. absurd (true≢false (sym e)); same = λ _. refl; stuck = λ _ _. s }

  pub tried_settled : (slots r m : ℕ) → Sized P slots → r < P.rows → FLAG ≤ get_or w r 0
      → OverSlots P.callee w (P.index r) (P.end (P.index r)) (P.end (P.index r)) m → RowTried P w (set w r (suc m)) r true
  tried_settled slots r m z l f o =
      let r< : r < length w = omega (arith, g.long) in
      let few : m ≤ settled_in w = depth_small (P.index r) m o in
      let all : settled_in w ≤ length w = settled_le w in
      let fits : suc m < FLAG = omega (arith, z.rows_few, g.long) in
      let up : settled_in (set w r (suc m)) ≡ suc (settled_in w) = settled_set w r (suc m) r< f fits in
      record {
        good = record {
          long = length-set w r (suc m) ∙ g.long;
          depths = λ q ql. at_set (λ n. n < FLAG → Longest (CallsFunction P) (P.index q) n) w r (suc m) q r<
              (λ e _. rw e (settle_up (P.index r) m o))
              (λ _ h. g.depths q ql h);
          small = λ q ql. at_set (λ n. n < FLAG → n ≤ settled_in (set w r (suc m))) w r (suc m) q r<
              (λ _ _. omega arith)
              (λ _ h. let s : get_or w q 0 ≤ settled_in w = g.small q ql h in omega arith);
          ends = λ q ql. at_set (λ n. FLAG ≤ n → n ≡ FLAG + P.end (P.index q)) w r (suc m) q r<
              (λ _ h. absurd (omega arith))
              (λ _ h. g.ends q ql h);
        };
        more = λ _. omega arith;
        same = λ e. absurd (true≢false e);
        stuck = λ e. absurd (true≢false e);
      }

pub passing_start : (P : Profile) (w : List ℕ) → Good P w → Passing P w w 0 false
passing_start P w g = record { good = g; more = λ e. absurd (true≢false (sym e)); same = λ _. refl; stuck = λ _ q l. absurd (omega arith) }

pub passing_next : (P : Profile) (w u v : List ℕ) (r : ℕ) (a b : Bool) → Passing P w u r a → RowTried P u v r b → Passing P w v (r + 1) (a || b)
passing_next P w u v r a b p t = record {
  good = t.good;
  more = either_more settled_in w u v a b p.more p.same t.more t.same;
  same = λ e. let n = neither a b e in t.same n.1 ∙ p.same n.0;
  stuck = λ e q l. let n = neither a b e in below_or (λ q. FLAG ≤ get_or v q 0 → Stuck P v (P.index q)) r q l
      (λ h. rw (t.same n.1) (p.stuck n.0 q h))
      (t.stuck n.1);
}

-- what a scan of a row's slots says of the row
module _ (P : Profile) (slots : ℕ) (w : List ℕ) (y : WordsReady P slots w) (r : ℕ) (l : r < P.rows) (f : FLAG ≤ get_or w r 0) where
  pub end_is : get_or w r 0 - FLAG ≡ P.end (P.index r)
  end_is = omega (arith, y.good.ends r l f)

  pub end_within : get_or w r 0 - FLAG ≤ slots
  end_within = omega (arith, end_is, y.sized.within (P.index r))

  pub tried_zero : (d : ℕ) → Scan P.callee w (P.index r) (get_or w r 0 - FLAG) d → d ≡ 0 → RowTried P w w r false
  tried_zero d s e = tried_stuck P w y.good r (rw (e, end_is) at s)

  pub tried_some : (d : ℕ) → Scan P.callee w (P.index r) (get_or w r 0 - FLAG) d → 0 < d → RowTried P w (set w r d) r true
  tried_some zero s n = absurd (omega arith)
  tried_some (suc m) s n = tried_settled P w y.good slots r m y.sized l f (rw end_is at s)

-- passes stop after one that settles nothing, and once row e is settled
pub stopped_still : (P : Profile) (w u : List ℕ) (a : Bool) (e : ℕ) → Passing P w u P.rows a → a ≡ false → Stopped P e u
stopped_still P w u a e p z = record { good = p.good; still = λ _. p.stuck z }

pub stopped_settled : (P : Profile) (u : List ℕ) (e : ℕ) → Good P u → get_or u e 0 < FLAG → Stopped P e u
stopped_settled P u e g l = record { good = g; still = λ f. absurd (omega arith) }

-- a pass that settles something leaves fewer
pub passing_less : (P : Profile) (w u : List ℕ) (n r : ℕ) (a : Bool) → n ≡ P.rows → Passing P w u r a → a ≡ true → n - settled_in u < n - settled_in w
passing_less P w u n r a e p z = omega (arith, e, p.more z, settled_le u, p.good.long)
