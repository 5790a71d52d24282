-- `body` at a list: a whole block is taken, or the tail is met. Assumes nothing.
use Rattle.std.specs.Prelude.{◌≡◌, ℕ, ◌+◌, ◌*◌, ◌/◌, ◌%◌, ◌^◌, ◌≤◌, ◌<◌, List, [], ◌∷◌, length, get_or, take, drop, bit_xor}
use Rattle.std.specs.Int.{w32, from_le_bytes}
use Rattle.std.specs.Simd.{first_chunks}
use Rattle.std.proofs.Common.{arith, refl, sym, ap, ◌∙◌, length-drop, drop-drop}
use Rattle.std.specs.Int.Bits.{xor_zero_r}
use Rattle.ebpf.specs.LittleEndian.{le}
use Rattle.ebpf.proofs.Slots.{chunk_at}
use Rattle.ebpf.specs.Murmur3.{body, mix, scramble, block, fmix32, murmur3}

first : (h : ℕ) (l : List ℕ) → 4 ≤ length l → body h l ≡ body (mix h (from_le_bytes w32 (take 4 l))) (drop 4 l)
unfolding body
first h [] p = absurd (omega arith)
first h (a ∷ []) p = absurd (omega arith)
first h (a ∷ b ∷ []) p = absurd (omega arith)
first h (a ∷ b ∷ c ∷ []) p = absurd (omega arith)
first h (a ∷ b ∷ c ∷ d ∷ l) p = refl

block_is : (l : List ℕ) → block (get_or l 0 0) (get_or l 1 0) (get_or l 2 0) (get_or l 3 0) ≡ le 4 l 0
unfolding le
block_is l = omega arith

short : (h : ℕ) (l : List ℕ) → length l < 4 → body h l ≡ bit_xor h (scramble (block (get_or l 0 0) (get_or l 1 0) (get_or l 2 0) (get_or l 3 0)))
unfolding body
short h [] p = sym (xor_zero_r h)
short h (a ∷ []) p = refl
short h (a ∷ b ∷ []) p = refl
short h (a ∷ b ∷ c ∷ []) p = refl
short h (a ∷ b ∷ c ∷ d ∷ l) p = absurd (omega arith)

-- a turn of the loop, and what follows it, in the shapes of what the calls ensure
pub again : (s : List ℕ) (blocks : List (List ℕ)) (h i w r : ℕ)
    → blocks ≡ first_chunks 4 (length s / 4) s → length blocks ≡ length s / 4 → i < length blocks
    → w ≡ from_le_bytes w32 (get_or blocks i []) → r ≡ mix h w
    → body h (drop (i * 4) s) ≡ body 0 s → body r (drop ((i + 1) * 4) s) ≡ body 0 s
again s blocks h i w r e count p ew er inv =
    let next : (i + 1) * 4 ≡ i * 4 + 4 = omega arith in
    let l : List ℕ = drop (i * 4) s in
    let word : w ≡ from_le_bytes w32 (take 4 l) = ew ∙ ap (from_le_bytes w32) (ap (λ x. get_or x i []) e ∙ chunk_at 4 (length s / 4) i s [] (omega arith)) in
    rw (er, word, next, ← drop-drop 4 (i * 4) s) (sym (first h l (simp length-drop (omega arith))) ∙ inv)

pub ended : (s tail : List ℕ) (count h i w k r : ℕ)
    → count ≡ length s / 4 → i ≤ count → count ≤ i → tail ≡ drop (length s / 4 * 4) s
    → w ≡ le 4 tail 0 → k ≡ scramble w → r ≡ fmix32 (bit_xor (bit_xor h k) (length s % 2 ^ 32))
    → body h (drop (i * 4) s) ≡ body 0 s → r ≡ murmur3 s
unfolding murmur3
ended s tail count h i w k r e p q et ew ek er inv =
    let at : i * 4 ≡ length s / 4 * 4 = omega arith in
    let left : length tail < 4 = rw et (simp length-drop (omega arith)) in
    let met = short h tail left ∙ ap (λ x. bit_xor h (scramble x)) (block_is tail) in
    rw (← inv, at, ← et, met, ← ew, ← ek) er
