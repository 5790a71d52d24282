-- A rotation of a word of 32 bits: the parts that meet have no bit in common, so that their "or" is their sum.
-- Assumes nothing.
use Rattle.std.specs.Prelude.{◌≡◌, ℕ, ◌+◌, ◌*◌, ◌/◌, ◌%◌, ◌^◌, ◌<◌, bit_or}
use Rattle.std.specs.Int.{w32, rotate_left}
use Rattle.std.proofs.Common.{refl, mul_comm, add-zero}
use Rattle.std.proofs.Math.Nat.{mul-mod_left, mul-div_cancel, div-lt_iff_lt-mul}
use Rattle.std.proofs.lemmas.Nat.{or_shifted}
use lib.Arith.{mod-mul}
use lib.Pow.{pow_pos}
use Rattle.ebpf.specs.Murmur3.{rotl32}

-- the low k bits go up by j, and the others come down
meet : (j k x : ℕ) → 2 ^ k * 2 ^ j ≡ 2 ^ 32 → x < 2 ^ 32 → bit_or (x * 2 ^ j % 2 ^ 32) (x / 2 ^ k) ≡ x * 2 ^ j % 2 ^ 32 + x / 2 ^ k
meet j k x e h =
    let up : x * 2 ^ j % 2 ^ 32 ≡ x % 2 ^ k * 2 ^ j = rw (← e, mod-mul (x * 2 ^ j) (pow_pos k) (pow_pos j), mul-mod_left, add-zero, mul-div_cancel x (pow_pos j)) refl in
    let down : x / 2 ^ k < 2 ^ j = (div-lt_iff_lt-mul (pow_pos k)).1 (rw (mul_comm (2 ^ j) (2 ^ k), e) h) in
    rw up (or_shifted (x % 2 ^ k) j (x / 2 ^ k) down)

pub rotated_15 : (x : ℕ) → x < 2 ^ 32 → rotate_left w32 x 15 ≡ rotl32 15 x
rotated_15 x h = meet 15 17 x refl h

pub rotated_13 : (x : ℕ) → x < 2 ^ 32 → rotate_left w32 x 13 ≡ rotl32 13 x
rotated_13 x h = meet 13 19 x refl h
