-- Laws of the keys for other crates: no two indices below 2 ^ 32 share a key, since each step of the hash can be undone; a
-- hash fits 32 bits. Assumes nothing.
use mathlib.Core.Path.{◌≡◌, refl, sym, ap₂, ◌∙◌}
use Prim.Native.Nat.{ℕ, ◌%◌, ◌^◌, ◌<◌}
use native.Mathlib.Nat.{mod-eq_of_lt, div-eq_of_lt, mod-lt}
use native.Mathlib.Omega.{arith}
use mathlib.Core.List.{List}
use lib.ListN.{length}
use lib.Bits.{bit_xor}
use lib.Pow.{pow_pos}
use lib.Dec.{lit<, lit≤}
use Rattle.ebpf.specs.LittleEndian.{bytes_of}
use Rattle.ebpf.specs.Murmur3.{body, murmur3, scramble, step, fmix32, fold, times}
use Rattle.ebpf.specs.IndexKeys.{index_key, key_of}
use Rattle.ebpf.proofs.Words.{key}
use Rattle.ebpf.proofs.Undo.{Undo, then, injective, times_undo, plus_undo, rotl_undo, xor_undo, fold_undo}

scramble_undo : Undo scramble
scramble_undo = then (times_undo 0xcc9e2d51 0xdee13bb1 refl) (then (rotl_undo 15 17 refl) (times_undo 0x1b873593 0x56ed309b refl))

step_undo : Undo step
step_undo = then (rotl_undo 13 19 refl) (then (times_undo 5 0xcccccccd refl) (plus_undo 0xe6546b64 0x19ab949c refl))

fmix32_undo : Undo fmix32
fmix32_undo =
    then (fold_undo 16 (lit≤ tt))
    (then (times_undo 0x85ebca6b 0xa5cb9243 refl)
    (then (fold_undo 13 (lit≤ tt))
    (then (times_undo 0xc2b2ae35 0x7ed1b41d refl)
    (fold_undo 16 (lit≤ tt)))))

-- the second block is 0, and meets the state as 0
key_undo : Undo (λ n. key_of n 0)
key_undo = then scramble_undo (then step_undo (then (xor_undo 0 (lit< tt)) (then step_undo (then (xor_undo 8 (lit< tt)) fmix32_undo))))

low : (n : ℕ) → n < 2 ^ 32 → index_key n ≡ key_of n 0
low n h = sym (key n (omega arith)) ∙ ap₂ key_of (mod-eq_of_lt h) (div-eq_of_lt h)

-- THE LAW
pub key_injective : (i j : ℕ) → i < 2 ^ 32 → j < 2 ^ 32 → index_key i ≡ index_key j → i ≡ j
key_injective i j hi hj e = injective key_undo i j hi hj (sym (low i hi) ∙ e ∙ low j hj)

-- the last step gives a word, whatever the state before it
fmix32_lt : (h : ℕ) → fmix32 h < 2 ^ 32
fmix32_lt h = (fold_undo 16 (lit≤ tt)).stays (times 0xc2b2ae35 (fold 13 (times 0x85ebca6b (fold 16 h)))) (mod-lt _ (pow_pos 32))

pub hash_lt : (s : List ℕ) → murmur3 s < 2 ^ 32
unfolding murmur3
hash_lt s = fmix32_lt (bit_xor (body 0 s) (length s % 2 ^ 32))

pub key_lt : (i : ℕ) → index_key i < 2 ^ 32
unfolding index_key
key_lt i = hash_lt (bytes_of 8 i)
