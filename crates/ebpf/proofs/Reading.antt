-- The bytes and the number at a place, in the shapes in which the reader meets them. Assumes nothing.
use Rattle.std.specs.Prelude.{◌≡◌, ℕ, zero, suc, ◌+◌, ◌-◌, ◌≤◌, ◌<◌, List, [], ◌∷◌, ◌++◌, length, get_or, take, drop, set, replicate, slice_range}
use Rattle.std.specs.Int.{w8, w16, w32, w64, from_le_bytes}
use Rattle.std.proofs.Math.ListN.{get_or-eq_default}
use Rattle.std.proofs.Common.{arith, suc-add, refl, ap, ◌∙◌, add-zero, zero-add, add_assoc, get_or-drop, length-drop}
use Rattle.std.proofs.lemmas.List.{take_all, take_more_set}
use Rattle.ebpf.specs.LittleEndian.{le, bytes_at}

-- past the end stand zeros
pub past : (n : ℕ) (s : List ℕ) (at : ℕ) → length s ≤ at → replicate n 0 ≡ bytes_at n s at
unfolding bytes_at
past zero s at h = refl
past (suc n) s at h = rw (get_or-eq_default s 0 h, ← past n s (at + 1) (omega arith)) refl

-- no byte, and one byte more
pub none_yet : (s : List ℕ) (at : ℕ) → [] ≡ bytes_at 0 s at
unfolding bytes_at
none_yet s at = refl

more : (n : ℕ) (s : List ℕ) (at : ℕ) → bytes_at (n + 1) s at ≡ bytes_at n s at ++ get_or s (at + n) 0 ∷ []
unfolding bytes_at
more zero s at = rw add-zero refl
more (suc n) s at =
    let step : at + suc n ≡ at + 1 + n = omega arith in
    let next = more n s (at + 1) in
    rw (step, suc-add, next) refl

pub one_more : (i y : ℕ) (s xs : List ℕ) → i < length xs → take i xs ≡ bytes_at i s 0 → y ≡ get_or s i 0 → take (i + 1) (set xs i y) ≡ bytes_at (i + 1) s 0
one_more i y s xs h so_far e = take_more_set xs i y h ∙ rw (so_far, e, more i s 0, zero-add) refl

-- the bytes of what is left from a place on
rest : (n k : ℕ) (s : List ℕ) (at : ℕ) → bytes_at n (drop k s) at ≡ bytes_at n s (k + at)
unfolding bytes_at
rest zero k s at = refl
rest (suc n) k s at = rw (get_or-drop k s at 0, rest n k s (at + 1), add_assoc) refl

pub from_rest : (n at : ℕ) (s part bytes : List ℕ) → part ≡ slice_range s at (length s) → bytes ≡ bytes_at n part 0 → bytes ≡ bytes_at n s at
from_rest n at s part bytes e is =
    let all : take (length s - at) (drop at s) ≡ drop at s = take_all (length s - at) (drop at s) (simp length-drop (omega arith)) in
    is ∙ rw (e, all, rest n at s 0, add-zero) refl

-- the first bytes of a list that has them
pub whole : (n : ℕ) (s : List ℕ) → n ≤ length s → take n s ≡ bytes_at n s 0
unfolding bytes_at
whole zero s h = refl
whole (suc n) [] h = absurd (omega arith)
whole (suc n) (x ∷ s) h = ap (λ (l : List ℕ). x ∷ l) (whole n s (omega arith) ∙ rest n 1 (x ∷ s) 0)

pub number_8 : (s : List ℕ) (at : ℕ) → from_le_bytes w8 (bytes_at 1 s at) ≡ le 1 s at
unfolding le bytes_at
number_8 s at = omega arith

pub number_16 : (s : List ℕ) (at : ℕ) → from_le_bytes w16 (bytes_at 2 s at) ≡ le 2 s at
unfolding le bytes_at
number_16 s at = omega arith

pub number_32 : (s : List ℕ) (at : ℕ) → from_le_bytes w32 (bytes_at 4 s at) ≡ le 4 s at
unfolding le bytes_at
number_32 s at = omega arith

pub number_64 : (s : List ℕ) (at : ℕ) → from_le_bytes w64 (bytes_at 8 s at) ≡ le 8 s at
unfolding le bytes_at
number_64 s at = omega arith
