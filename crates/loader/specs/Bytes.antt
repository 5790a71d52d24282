-- A little-endian number written over the bytes of a list.
use Rattle.std.specs.Prelude.{ℕ, zero, suc, ◌+◌, ◌/◌, ◌%◌, ◌≡◌, refl, List, set, length}
use Rattle.std.proofs.Common.{◌∙◌, length-set}

-- the k bytes from `at` on are those of v, the lowest first
unfoldable pub put : ℕ → List ℕ → ℕ → ℕ → List ℕ
put zero s at v = s
put (suc k) s at v = put k (set s at (v % 256)) (at + 1) (v / 256)

pub length_put : (k : ℕ) (s : List ℕ) (at v : ℕ) → length (put k s at v) ≡ length s
unfolding put
length_put zero s at v = refl
length_put (suc k) s at v = length_put k (set s at (v % 256)) (at + 1) (v / 256) ∙ length-set s at (v % 256)
