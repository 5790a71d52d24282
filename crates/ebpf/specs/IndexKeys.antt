-- The keys of instruction indices in version 1.
use Rattle.std.specs.Prelude.{ℕ, zero, suc, List, [], ◌∷◌, get_or}
use Rattle.std.specs.Int.Bits.{bit_xor}
use Rattle.ebpf.specs.LittleEndian.{bytes_of}
use Rattle.ebpf.specs.Murmur3.{murmur3, mix, fmix32}

-- the hash of the index's eight little-endian bytes
unfoldable pub index_key : ℕ → ℕ
index_key i = murmur3 (bytes_of 8 i)

-- n values of f, from i on
abbrev pub values : (ℕ → ℕ) → ℕ → ℕ → List ℕ
values f zero i = []
values f (suc n) i = f i ∷ values f n (suc i)

-- the keys of the first n indices
unfoldable pub first_keys : ℕ → List ℕ
first_keys n = values index_key n 0

-- what a table answers for an index: its entry, and past its end the index's key
unfoldable pub key_in : List ℕ → ℕ → ℕ
key_in table i = get_or table i (index_key i)

-- the key of the index with the lower word lo and the upper word hi, without a list
abbrev pub key_of : ℕ → ℕ → ℕ
key_of lo hi = fmix32 (bit_xor (mix (mix 0 lo) hi) 8)
