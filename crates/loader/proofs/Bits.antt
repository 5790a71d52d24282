-- A bit that is not 0 is 1. Assumes nothing.
use Prim.Native.Nat.{ℕ, zero, suc, ◌<◌, ◌/◌, ◌%◌, ◌^◌, ◌*◌}
use native.Mathlib.Omega.{arith}
use mathlib.Core.Path.{◌≡◌, refl}
use mathlib.Core.Bool.{not}
use lib.Dec.{eqb}
use borrow.Author.Tests.{eq-eqb, ne_eqb}
use Rattle.std.specs.Int.Bits.{bit_and}
use Rattle.std.proofs.lemmas.Nat.Bits.{and_pow}
use Rattle.std.proofs.lemmas.Nat.{pow_pos}
use Rattle.loader.specs.Settings.{bit_of}

bit_one : (k x : ℕ) → x < 2 → not (eqb (x * 2 ^ k) 0) ≡ eqb x 1
bit_one k zero l = rw (eq-eqb (0 * 2 ^ k) 0 (omega arith)) refl
bit_one k (suc zero) l = let p : 0 < 2 ^ k = pow_pos k in rw (ne_eqb (1 * 2 ^ k) 0 (omega arith)) refl
bit_one k (suc (suc x)) l = absurd (omega arith)

-- the bit number k of n, by the word with that bit alone
pub bit_set : (n k : ℕ) → not (eqb (bit_and n (2 ^ k)) 0) ≡ bit_of n (2 ^ k)
unfolding bit_of
bit_set n k = rw (and_pow n k) (bit_one k (n / 2 ^ k % 2) (omega arith))
