-- A choice by a test. A definition with several answers is a row of choices, with the code's tests in the code's order:
-- `x if test else y if test else z`.
use Rattle.std.specs.Prelude.{Bool, not, ◌&&◌, ◌||◌, ◌≡◌, ℕ, ◌+◌, ◌-◌, ◌^◌, ◌≤◌, ◌<◌, ltb, leb, eqb}
use Rattle.std.proofs.Math.Bool.{true, false}
use Rattle.std.proofs.Common.{true≢false, sym, ◌∙◌, arith, lt-ltb, le-ltb, le-leb, ltb-true, ltb-false, eq-eqb, ne_eqb}
use Rattle.std.proofs.Math.Path.{refl}
use Rattle.std.proofs.lemmas.Bool.{lt-leb}

module _ {A : Type 0} where
  infixr 4 ◌if◌else◌
  unfoldable pub ◌if◌else◌ : A → Bool → A → A
  x if true else y = x
  x if false else y = y

  -- `search choices` goes through a row of choices by these two
  pub yes : (b : Bool) (x y : A) → b ≡ true → x ≡ (x if b else y)
  unfolding ◌if◌else◌
  yes b x y e = rw e

  pub no_go : (b : Bool) (x y z : A) → b ≡ false → z ≡ y → z ≡ (x if b else y)
  unfolding ◌if◌else◌
  no_go b x y z e p = rw e p

  -- what a row of choices says where its answer is not that of its first choice
  pub not_first : (b : Bool) (x y z : A) → (x ≡ z → ⊥) → (x if b else y) ≡ z → b ≡ false
  unfolding ◌if◌else◌
  not_first true x y z h e = absurd (h e)
  not_first false x y z h e = refl

  pub row_rest : (b : Bool) (x y z : A) → (x ≡ z → ⊥) → (x if b else y) ≡ z → y ≡ z
  unfolding ◌if◌else◌
  row_rest true x y z h e = absurd (h e)
  row_rest false x y z h e = e

  -- a choice by its two sides
  pub row_cases : (b : Bool) (x y z : A) (G : Type 0) → (b ≡ true → x ≡ z → G) → (b ≡ false → y ≡ z → G) → (x if b else y) ≡ z → G
  unfolding ◌if◌else◌
  row_cases true x y z G f g e = f refl e
  row_cases false x y z G f g e = g refl e

-- what a joined test says of its parts
pub and_left : (a b : Bool) → (a && b) ≡ true → a ≡ true
and_left true b e = refl
and_left false b e = e

pub and_right : (a b : Bool) → (a && b) ≡ true → b ≡ true
and_right true b e = e
and_right false b e = absurd (true≢false (sym e))

pub and_false : (a b : Bool) → (a && b) ≡ false → a ≡ true → b ≡ false
and_false true b e h = e
and_false false b e h = absurd (true≢false (sym h))

pub or_false : (a b : Bool) → (a || b) ≡ false → (a ≡ false) × (b ≡ false)
or_false true b e = absurd (true≢false e)
or_false false b e = (refl, e)

pub eq_not : (a b : ℕ) → a ≡ b → not (eqb a b) ≡ false
eq_not a b h = simp (eq-eqb a b h)

pub ne_not : (a b : ℕ) → (a ≡ b → ⊥) → not (eqb a b) ≡ true
ne_not a b h = simp (ne_eqb a b h)

-- n takes more than 64 bits; the code tests a sum before it adds
abbrev pub past_word : ℕ → Bool
past_word n = leb (2 ^ 64) n

pub sum_past : (a b : ℕ) → 0xffff_ffff_ffff_ffff - a < b → past_word (a + b) ≡ true
sum_past a b h = le-leb (2 ^ 64) (a + b) (omega arith)

pub sum_fits : (a b : ℕ) → a < 2 ^ 64 → b ≤ 0xffff_ffff_ffff_ffff - a → past_word (a + b) ≡ false
sum_fits a b f h = lt-leb (2 ^ 64) (a + b) (omega arith)

-- b bytes from a on end past len; the code takes b from len before it compares
pub same_ltb : (len a b : ℕ) → b ≤ len → ltb (len - b) a ≡ ltb len (a + b)
same_ltb len a b h = go (ltb (len - b) a) refl
  where
    go : (t : Bool) → ltb (len - b) a ≡ t → ltb (len - b) a ≡ ltb len (a + b)
    go true e = e ∙ sym (lt-ltb len (a + b) (omega (arith, ltb-true (len - b) a e)))
    go false e = e ∙ sym (le-ltb len (a + b) (omega (arith, ltb-false (len - b) a e)))

pub past_alone : (len a b : ℕ) → len < b → true ≡ ltb len (a + b)
past_alone len a b h = sym (lt-ltb len (a + b) (omega arith))

pub ruleset choices = (yes, no_go, sum_past, sum_fits, lt-ltb, le-ltb, le-leb, lt-leb, eq-eqb, ne_eqb, eq_not, ne_not)
