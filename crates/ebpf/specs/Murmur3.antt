-- MurmurHash3, x86 32-bit, seed 0, of a list of bytes, in the words of the public algorithm.
-- `bit_xor` is the machine's xor, and computes on numerals.
use Rattle.std.specs.Prelude.{ℕ, ◌+◌, ◌-◌, ◌*◌, ◌/◌, ◌%◌, ◌^◌, List, [], ◌∷◌, length}
use Rattle.std.specs.Int.Bits.{bit_xor}

-- x * c and x + c on 32-bit words
abbrev pub times : ℕ → ℕ → ℕ
times c x = x * c % 2 ^ 32

abbrev pub plus : ℕ → ℕ → ℕ
plus c x = (x + c) % 2 ^ 32

-- ROTL32(x, r)
abbrev pub rotl32 : ℕ → ℕ → ℕ
rotl32 r x = x * 2 ^ r % 2 ^ 32 + x / 2 ^ (32 - r)

-- x ^ (x >> r)
abbrev pub fold : ℕ → ℕ → ℕ
fold r x = bit_xor x (x / 2 ^ r)

-- k *= c1; k = ROTL32(k, 15); k *= c2
abbrev pub scramble : ℕ → ℕ
scramble k = times 0x1b873593 (rotl32 15 (times 0xcc9e2d51 k))

-- h = ROTL32(h, 13); h = h * 5 + 0xe6546b64
abbrev pub step : ℕ → ℕ
step h = plus 0xe6546b64 (times 5 (rotl32 13 h))

-- the state after a block
abbrev pub mix : ℕ → ℕ → ℕ
mix h k = step (bit_xor h (scramble k))

-- the finalization mix
abbrev pub fmix32 : ℕ → ℕ
fmix32 h = fold 16 (times 0xc2b2ae35 (fold 13 (times 0x85ebca6b (fold 16 h))))

-- a block: four bytes, the lowest first
abbrev pub block : ℕ → ℕ → ℕ → ℕ → ℕ
block a b c d = a + b * 2 ^ 8 + c * 2 ^ 16 + d * 2 ^ 24

-- the body, block by block, then the tail
unfoldable pub body : ℕ → List ℕ → ℕ
body h [] = h
body h (a ∷ []) = bit_xor h (scramble (block a 0 0 0))
body h (a ∷ b ∷ []) = bit_xor h (scramble (block a b 0 0))
body h (a ∷ b ∷ c ∷ []) = bit_xor h (scramble (block a b c 0))
body h (a ∷ b ∷ c ∷ d ∷ s) = body (mix h (block a b c d)) s

unfoldable pub murmur3 : List ℕ → ℕ
murmur3 s = fmix32 (bit_xor (body 0 s) (length s % 2 ^ 32))
