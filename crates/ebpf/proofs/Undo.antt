-- The hash's steps on a word of 32 bits, each with a left inverse. Assumes nothing.
use mathlib.Core.Path.{◌≡◌, sym, ap, ap₂, ◌∙◌}
use Prim.Native.Nat.{ℕ, ◌+◌, ◌*◌, ◌/◌, ◌%◌, ◌^◌, ◌≤◌, ◌<◌}
use native.Mathlib.Nat.{mul_comm, mul_assoc, mul-one, add-mul, mod-lt, mod-eq_of_lt, div-eq_of_lt, lt_of_lt_of_le, lt_of_le_of_lt, mul-lt-mul_of_pos_right, div-lt_iff_lt-mul}
use native.Mathlib.Omega.{arith}
use lib.Arith.{digits_lt, digits_mod}
use lib.Pow.{pow_mono, pow_pos, split, high, shr-shr, shr_le}
use lib.Bits.{bit_xor, xor_shr, xor_self, xor_zero_r, xor_lt}
use Rattle.std.specs.Int.Bits.{xor_assoc}
use Rattle.std.proofs.lemmas.Nat.{mul-mod_first, mul-mod_second}
use Rattle.ebpf.specs.Murmur3.{times, plus, fold}

-- f takes words to words, and back undoes it
pub record Undo (f : ℕ → ℕ) : Type 0 where
  pub back : ℕ → ℕ
  pub stays : (x : ℕ) → x < 2 ^ 32 → f x < 2 ^ 32
  pub undone : (x : ℕ) → x < 2 ^ 32 → back (f x) ≡ x

pub then : {f g : ℕ → ℕ} → Undo f → Undo g → Undo (λ x. g (f x))
then {f} {g} u v =
    record {
      back = λ y. u.back (v.back y);
      stays = λ x h. v.stays (f x) (u.stays x h);
      undone = λ x h. ap u.back (v.undone (f x) (u.stays x h)) ∙ u.undone x h;
    }

pub injective : {f : ℕ → ℕ} → Undo f → (x y : ℕ) → x < 2 ^ 32 → y < 2 ^ 32 → f x ≡ f y → x ≡ y
injective u x y hx hy e = sym (u.undone x hx) ∙ ap u.back e ∙ u.undone y hy

-- ---- a product, with a constant that has an inverse

pub times_undo : (c d : ℕ) → c * d % 2 ^ 32 ≡ 1 → Undo (times c)
times_undo c d e =
    record {
      back = times d;
      stays = λ x h. mod-lt (x * c) (pow_pos 32);
      undone = λ x h.
          mul-mod_first (x * c) d (2 ^ 32) ∙ ap (λ y. y % 2 ^ 32) (mul_assoc x c d) ∙ sym (mul-mod_second x (c * d) (2 ^ 32)) ∙ ap (λ y. x * y % 2 ^ 32) e
          ∙ ap (λ y. y % 2 ^ 32) (mul-one x)
          ∙ mod-eq_of_lt h;
    }

-- ---- a sum, and a rotation

pub plus_undo : (c d : ℕ) → c + d ≡ 2 ^ 32 → Undo (plus c)
plus_undo c d e = record { back = plus d; stays = λ x h. omega arith; undone = λ x h. omega arith }

-- `rotl32 j`, with k = 32 - j
abbrev rotl : ℕ → ℕ → ℕ → ℕ
rotl j k x = x * 2 ^ j % 2 ^ 32 + x / 2 ^ k

-- the upper j bits and the lower k change places
parts : (j k : ℕ) → 2 ^ k * 2 ^ j ≡ 2 ^ 32 → (hi lo : ℕ) → lo < 2 ^ k → rotl j k (hi * 2 ^ k + lo) ≡ lo * 2 ^ j + hi
parts j k e hi lo h =
    ap₂ (λ x y. x + y)
    (ap (λ x. x % 2 ^ 32) (add-mul (hi * 2 ^ k) lo (2 ^ j) ∙ ap (λ x. x + lo * 2 ^ j) (mul_assoc hi (2 ^ k) (2 ^ j) ∙ ap (λ x. hi * x) e))
    ∙ digits_mod hi (rw (← e) (mul-lt-mul_of_pos_right h (pow_pos j))))
    (high hi k h)

pub rotl_undo : (j k : ℕ) → 2 ^ k * 2 ^ j ≡ 2 ^ 32 → Undo (rotl j k)
rotl_undo j k e = record { back = rotl k j; stays = λ x h. rw (moved x, ← e) (digits_lt (mod-lt x (pow_pos k)) (top x h)); undone = λ x h. rw (moved x, parts k j e' (x % 2 ^ k) (x / 2 ^ k) (top x h)) (split x k) }
  where
    e' : 2 ^ j * 2 ^ k ≡ 2 ^ 32
    e' = mul_comm (2 ^ j) (2 ^ k) ∙ e

    moved : (x : ℕ) → rotl j k x ≡ x % 2 ^ k * 2 ^ j + x / 2 ^ k
    moved x = ap (rotl j k) (sym (split x k)) ∙ parts j k e (x / 2 ^ k) (x % 2 ^ k) (mod-lt x (pow_pos k))

    top : (x : ℕ) → x < 2 ^ 32 → x / 2 ^ k < 2 ^ j
    top x h = (div-lt_iff_lt-mul (pow_pos k)).1 (rw e' h)

-- ---- xor, twice the same

pub xor_undo : (c : ℕ) → c < 2 ^ 32 → Undo (λ x. bit_xor x c)
xor_undo c hc =
    record {
      back = λ y. bit_xor y c;
      stays = λ x h. xor_lt 32 x c h hc;
      undone = λ x h. xor_assoc x c c ∙ ap (bit_xor x) (xor_self c) ∙ xor_zero_r x;
    }

-- ---- x ^ (x >> k): done twice it is the same with 2 k, and from 32 on it does nothing

fold_fold : (k x : ℕ) → fold k (fold k x) ≡ fold (k + k) x
fold_fold k x =
    let a : ℕ = x / 2 ^ k in
    let b : ℕ = a / 2 ^ k in
    ap (bit_xor (bit_xor x a)) (xor_shr x a k) ∙ xor_assoc x a (bit_xor a b)
    ∙ ap (bit_xor x) (sym (xor_assoc a a b) ∙ ap (λ y. bit_xor y b) (xor_self a) ∙ shr-shr x k k)

fold_none : (k x : ℕ) → x < 2 ^ k → fold k x ≡ x
fold_none k x h = ap (bit_xor x) (div-eq_of_lt h) ∙ xor_zero_r x

pub fold_undo : (k : ℕ) → 32 ≤ k + k + (k + k) → Undo (fold k)
fold_undo k l =
    record {
      back = λ y. fold (k + k) (fold k y);
      stays = λ x h. xor_lt 32 x (x / 2 ^ k) h (lt_of_le_of_lt (shr_le x k) h);
      undone = λ x h. ap (fold (k + k)) (fold_fold k x) ∙ fold_fold (k + k) x ∙ fold_none (k + k + (k + k)) x (lt_of_lt_of_le h (pow_mono l));
    }
