-- Published vectors of MurmurHash3, x86 32-bit, seed 0, and names that loaders meet: the definition gives them, by computation.
use Rattle.std.specs.Prelude.{◌≡◌, refl, List, [], ◌∷◌, map, ℕ}
use Rattle.ebpf.specs.Murmur3.{body, murmur3}

record Vector : Type 0 where
  bytes : List ℕ
  hash : ℕ

abbrev vector : List ℕ → ℕ → Vector
vector s h = record { bytes = s; hash = h }

vectors : List Vector
vectors =
    vector [] 0x00000000
    ∷ vector (0 ∷ []) 0x514e28b7
    ∷ vector (0 ∷ 0 ∷ []) 0x30f4c306
    ∷ vector (0 ∷ 0 ∷ 0 ∷ []) 0x85f0b427
    ∷ vector (0 ∷ 0 ∷ 0 ∷ 0 ∷ []) 0x2362f9de
    ∷ vector (0x21 ∷ []) 0x72661cf4
    ∷ vector (0x21 ∷ 0x43 ∷ []) 0xa0f7b07a
    ∷ vector (0x21 ∷ 0x43 ∷ 0x65 ∷ []) 0x7e4a8634
    ∷ vector (0x21 ∷ 0x43 ∷ 0x65 ∷ 0x87 ∷ []) 0xf55b516b
    ∷ vector (0xff ∷ 0xff ∷ 0xff ∷ 0xff ∷ []) 0x76293b50
    -- Hello, world!
    ∷ vector (72 ∷ 101 ∷ 108 ∷ 108 ∷ 111 ∷ 44 ∷ 32 ∷ 119 ∷ 111 ∷ 114 ∷ 108 ∷ 100 ∷ 33 ∷ []) 0xc0363e43
    -- entrypoint
    ∷ vector (101 ∷ 110 ∷ 116 ∷ 114 ∷ 121 ∷ 112 ∷ 111 ∷ 105 ∷ 110 ∷ 116 ∷ []) 0x71e3cf81
    -- abort
    ∷ vector (97 ∷ 98 ∷ 111 ∷ 114 ∷ 116 ∷ []) 0xb6fc1a11
    ∷ []

published : map (λ v. murmur3 v.bytes) vectors ≡ map (λ v. v.hash) vectors
unfolding vectors murmur3 body
published = refl
