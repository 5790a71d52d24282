-- The key of an index, from its two words. Assumes nothing.
use mathlib.Core.Path.{◌≡◌, ◌∙◌, ap₂}
use Prim.Native.Nat.{ℕ, ◌/◌, ◌%◌, ◌^◌, ◌<◌}
use native.Mathlib.Omega.{arith}
use Rattle.ebpf.specs.LittleEndian.{bytes_of}
use Rattle.ebpf.specs.Murmur3.{body, murmur3, block}
use Rattle.ebpf.specs.IndexKeys.{index_key, key_of}

-- four bytes of a number, taken off one by one, are its lowest word
word : (n : ℕ) → n % 2 ^ 32 ≡ block (n % 256) (n / 256 % 256) (n / 256 / 256 % 256) (n / 256 / 256 / 256 % 256)
word n = omega arith

upper : (n : ℕ) → n < 2 ^ 64 → n / 2 ^ 32 ≡ n / 256 / 256 / 256 / 256 % 2 ^ 32
upper n h = omega arith

pub key : (n : ℕ) → n < 2 ^ 64 → key_of (n % 2 ^ 32) (n / 2 ^ 32) ≡ index_key n
unfolding index_key bytes_of murmur3 body
key n h = ap₂ key_of (word n) (upper n h ∙ word (n / 256 / 256 / 256 / 256))
