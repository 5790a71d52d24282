-- A table that lists a function's values from 0 on, and what stands at a place of it. Assumes nothing.
use mathlib.Core.Path.{◌≡◌, refl}
use mathlib.Core.List.{List, []}
use Prim.Native.Nat.{ℕ, zero, suc, ◌+◌}
use native.Mathlib.Nat.{add-zero, zero-add, add-suc, suc-add}
use lib.ListN.{get_or}
use Rattle.ebpf.specs.IndexKeys.{values, first_keys, index_key, key_in}

-- past the list the default is the value too
from : (f : ℕ → ℕ) (n i k : ℕ) → get_or (values f n i) k (f (i + k)) ≡ f (i + k)
from f zero i k = refl
from f (suc n) i zero = rw add-zero
from f (suc n) i (suc k) = rw (add-suc, ← suc-add) (from f n (suc i) k)

-- THE LAW: with the keys of the first indices as the table, whatever their number, every index gets its own key
pub key_in_lem : (table : List ℕ) (n i : ℕ) → table ≡ first_keys n → key_in table i ≡ index_key i
unfolding key_in first_keys
key_in_lem table n i e = rw e (simp zero-add at (from index_key n 0 i))

-- no table at all gives every index its key too
pub key_in_none : (i : ℕ) → key_in [] i ≡ index_key i
unfolding key_in
key_in_none i = refl
