-- Little-endian numbers in a list of bytes, and the laws that callers cite.
use Rattle.std.specs.Prelude.{ℕ, zero, suc, ◌+◌, ◌*◌, ◌/◌, ◌%◌, ◌^◌, ◌≤◌, List, [], ◌∷◌, ◌≡◌, refl, length, get_or, take, drop}
use Rattle.std.proofs.Math.ListN.{get_or-eq_default}
use Rattle.std.proofs.Common.{get_or-take, get_or-drop, arith, mul_assoc, zero-add, add-zero, one-mul, suc-add, add_assoc}
use Rattle.std.proofs.Math.Nat.{pow-succ'}

-- the number whose k bytes stand at `at` in s, the lowest first; past the end of s stand zeros
unfoldable pub le : ℕ → List ℕ → ℕ → ℕ
le zero s at = 0
le (suc k) s at = get_or s at 0 + 256 * le k s (at + 1)

-- the k bytes at `at` in s; past the end of s stand zeros
unfoldable pub bytes_at : ℕ → List ℕ → ℕ → List ℕ
bytes_at zero s at = []
bytes_at (suc k) s at = get_or s at 0 ∷ bytes_at k s (at + 1)

-- a number of two halves, the lower one of k bytes
abbrev pub join : ℕ → ℕ → ℕ → ℕ
join k a b = a + 256 ^ k * b

-- the k lowest bytes of a number, the lowest first
unfoldable pub bytes_of : ℕ → ℕ → List ℕ
bytes_of zero n = []
bytes_of (suc k) n = n % 256 ∷ bytes_of k (n / 256)

pub le_byte : (s : List ℕ) (at : ℕ) → le 1 s at ≡ get_or s at 0
unfolding le
le_byte s at = omega arith

-- a number of j + k bytes is one of j bytes and above it one of k
pub le_join : (j k : ℕ) (s : List ℕ) (at : ℕ) → le (j + k) s at ≡ join j (le j s at) (le k s (at + j))
unfolding le
le_join zero k s at = simp (zero-add, add-zero, one-mul)
le_join (suc j) k s at =
    let step : at + suc j ≡ at + 1 + j = omega arith in
    let ih = le_join j k s (at + 1) in
    rw (suc-add, step, pow-succ', mul_assoc) (omega (arith, ih))

-- past the end all is zero
pub le_past : (k : ℕ) (s : List ℕ) (at : ℕ) → length s ≤ at → le k s at ≡ 0
unfolding le
le_past zero s at h = refl
le_past (suc k) s at h = rw (get_or-eq_default s 0 h, le_past k s (at + 1) (omega arith))

-- a number inside a part of the bytes
pub le_part : (k n start : ℕ) (s : List ℕ) (at : ℕ) → at + k ≤ n → le k (take n (drop start s)) at ≡ le k s (start + at)
unfolding le
le_part zero n start s at h = refl
le_part (suc k) n start s at h = rw (get_or-take n (drop start s) at 0 (omega arith), get_or-drop start s at 0, le_part k n start s (at + 1) (omega arith), add_assoc)
