-- What marking places in the numbers leaves there, one marking after another. Assumes nothing.
use Prim.Native.Nat.{ℕ, zero, suc, ◌+◌, ◌-◌, ◌≤◌, ◌<◌}
use native.Mathlib.Omega.{arith}
use native.Mathlib.Decide.{ℕ_discrete}
use mathlib.Core.Path.{◌≡◌, refl, ◌∙◌}
use mathlib.Core.Bool.{Bool, true, false, ◌&&◌, ◌||◌}
use mathlib.Core.Logic.{◌⊎◌, inl, inr}
use mathlib.Core.List.{List, [], ◌∷◌, ◌++◌}
use lib.ListN.{length, get_or, set, length-set, take, drop}
use lib.Seq.{get_or-set_same, get_or-set_other}
use lib.Dec.{ltb}
use borrow.Author.Tests.{lt-ltb}
use Rattle.ebpf.specs.Choice.{◌if◌else◌, yes as picks, no_go}
use Rattle.program.proofs.Cases.{by_lt}
use Rattle.loader.specs.Deeds.{is_in}
use Rattle.loader.proofs.Kept.{not_in, in_places}
use Rattle.writers.specs.declared.Writer.{Writer}
use Rattle.std.proofs.lemmas.List.{get_or_append_left, get_or-append_right, get_or-drop, length-append, length-drop, length-take-le}
use Rattle.writers.specs.Whole.{code_of, OnlyZeros, Marked, Holds}
use Rattle.writers.proofs.Places.{parts, past_all}

-- ---- one marking behind another

pub either : (p q l : Bool) (x y : ℕ) → (x if q && l else x if p && l else y) ≡ (x if (p || q) && l else y)
unfolding ◌if◌else◌
either true true true x y = refl
either true true false x y = refl
either true false true x y = refl
either true false false x y = refl
either false true true x y = refl
either false true false x y = refl
either false false true x y = refl
either false false false x y = refl

-- a store marks one place
one_at : (code : ℕ) (s : List ℕ) (at b : ℕ) → at < length s → get_or (set s at code) b 0 ≡ (code if is_in at 1 b && ltb b (length s) else get_or s b 0)
one_at code s at b l = go (ℕ_discrete b at)
  where
    apart : (b ≡ at → ⊥) → (b < at) ⊎ (at + 1 ≤ b)
    apart e = by_lt b at (λ (x : Bool). (b < at) ⊎ (at + 1 ≤ b)) (λ h. inl h) (λ h. inr (omega arith))

    go : Dec (b ≡ at) → get_or (set s at code) b 0 ≡ (code if is_in at 1 b && ltb b (length s) else get_or s b 0)
    go (yes e) =
        let h : (is_in at 1 b && ltb b (length s)) ≡ true = rw (in_places at 1 b (omega arith) (omega arith)) (lt-ltb b (length s) (omega arith)) in
        let k : get_or (set s at code) b 0 ≡ code = rw e (get_or-set_same s at code 0 l) in
        k ∙ picks (is_in at 1 b && ltb b (length s)) code (get_or s b 0) h
    go (no e) = no_go (is_in at 1 b && ltb b (length s)) code (get_or s b 0) (get_or (set s at code) b 0) (rw (not_in at 1 b (apart e)) refl) (get_or-set_other s at b code 0 e)

-- of the places from `start` on the one behind the first k
module _ (start k code : ℕ) (s u : List ℕ) (m : Marked (is_in start k) code s u) where
  pub marked_more : start + k < length u → Marked (is_in start (k + 1)) code s (set u (start + k) code)
  marked_more l = record {
    length_as = length-set u (start + k) code ∙ m.length_as;
    at = λ b. one_at code u (start + k) b l ∙ rw (m.length_as, m.at b, parts start k 1 b) (either (is_in start k b) (is_in (start + k) 1 b) (ltb b (length s)) code (get_or s b 0));
  }

  pub marked_past : length u ≤ start + k → Marked (is_in start (k + 1)) code s u
  marked_past l = record {
    length_as = m.length_as;
    at = λ b. no_go (is_in (start + k) 1 b && ltb b (length s)) code (code if is_in start k b && ltb b (length s) else get_or s b 0) (get_or u b 0) (past_all (start + k) 1 (length s) b (rw (← m.length_as) l)) (m.at b)
        ∙ rw (parts start k 1 b) (either (is_in start k b) (is_in (start + k) 1 b) (ltb b (length s)) code (get_or s b 0));
  }

-- ---- the numbers of writers

pub later : (p l : Bool) (x w : Writer) → (code_of x if p && l else code_of w if l else 0) ≡ (code_of (x if p else w) if l else 0)
unfolding ◌if◌else◌
later true true x w = refl
later true false x w = refl
later false true x w = refl
later false false x w = refl

pub only_zero : (l : Bool) → ◌≡◌ {A = ℕ} 0 (0 if l else 0)
unfolding ◌if◌else◌
only_zero true = refl
only_zero false = refl

-- ---- the first n of zeros, and what is left once they are written

pub zeros_front : (n : ℕ) (s : List ℕ) → OnlyZeros s → OnlyZeros (take n s)
zeros_front zero s z b = refl
zeros_front (suc n) [] z b = refl
zeros_front (suc n) (x ∷ s) z zero = z zero
zeros_front (suc n) (x ∷ s) z (suc b) = zeros_front n s (λ k. z (suc k)) b

module _ (w : ℕ → Writer) (n : ℕ) (s u : List ℕ) (fits : n ≤ length s) (z : OnlyZeros s) (o : Holds w (take n s) u) where
  front_long : length u ≡ n
  front_long = o.length_as ∙ length-take-le n s fits

  pub joined_long : length (u ++ drop n s) ≡ length s
  joined_long = omega (arith, length-append u (drop n s), length-drop n s, front_long)

  pub joined_at : (b : ℕ) → get_or (u ++ drop n s) b 0 ≡ (code_of (w b) if ltb b n else 0)
  unfolding ◌if◌else◌
  joined_at b =
      by_lt b n (λ (x : Bool). get_or (u ++ drop n s) b 0 ≡ (code_of (w b) if x else 0))
      (λ l. get_or_append_left u (drop n s) 0 b (omega (arith, front_long)) ∙ o.at b ∙ rw (length-take-le n s fits, lt-ltb b n l) refl)
      (λ l. get_or-append_right u (drop n s) n b 0 front_long l ∙ get_or-drop n s (b - n) 0 ∙ z (n + (b - n)))
