-- The gABI's hash of a name, in the words of its text, with sums modulo 2^32.
use Rattle.std.specs.Prelude.{ℕ, suc, ◌<◌, ◌≤◌, length, drop, get_or, ◌+◌, ◌-◌, ◌*◌, ◌/◌, ◌%◌, ◌^◌, List, [], ◌∷◌, ◌≡◌, refl}
use Rattle.std.proofs.Common.{arith}
use Rattle.std.proofs.Math.ListN.{drop_of_length-le}
use Rattle.std.proofs.Math.Seq.{drop-cons}
use Rattle.std.specs.Int.Bits.{bit_and, bit_xor}

-- h = (h << 4) + *name++
abbrev pub sum_with : ℕ → ℕ → ℕ
sum_with h byte = (h * 16 + byte) % 2 ^ 32

-- g = h & 0xf0000000
abbrev pub high_bits : ℕ → ℕ
high_bits h = bit_and h 0xf000_0000

-- h ^= g >> 24; h &= ~g
abbrev pub without_high : ℕ → ℕ → ℕ
without_high h g = bit_and (bit_xor h (g / 2 ^ 24)) (2 ^ 32 - 1 - g)

abbrev pub hash_with : ℕ → ℕ → ℕ
hash_with h byte = without_high (sum_with h byte) (high_bits (sum_with h byte))

-- the state after the bytes of a list
unfoldable pub hash_from : ℕ → List ℕ → ℕ
hash_from h [] = h
hash_from h (byte ∷ bytes) = hash_from (hash_with h byte) bytes

abbrev pub elf_hash : List ℕ → ℕ
elf_hash name = hash_from 0 name

-- ---- laws, for a loop over the bytes

pub hash_next : (name : List ℕ) (h i : ℕ) → i < length name → hash_from h (drop i name) ≡ hash_from (hash_with h (get_or name i 0)) (drop (i + 1) name)
unfolding hash_from
hash_next name h i l = let k : i + 1 ≡ suc i = omega arith in rw (drop-cons name i 0 l, k)

pub hash_end : (name : List ℕ) (h i : ℕ) → length name ≤ i → hash_from h (drop i name) ≡ h
unfolding hash_from
hash_end name h i l = rw (drop_of_length-le name l)

-- ---- examples: no bytes; "a"; "printf" (0x077905a6, as the gABI's function gives it); bytes for which a sum of 64 bits gives 0x1000000d0
vectors :
    elf_hash []
    ∷ elf_hash (97 ∷ [])
    ∷ elf_hash (112 ∷ 114 ∷ 105 ∷ 110 ∷ 116 ∷ 102 ∷ [])
    ∷ elf_hash (0xf0 ∷ 0xfe ∷ 0x10 ∷ 0xfe ∷ 0x10 ∷ 0xfe ∷ 0xf0 ∷ [])
    ∷ []
    ≡ 0 ∷ 97 ∷ 0x077905a6 ∷ 0xd0 ∷ []
unfolding hash_from
vectors = refl
