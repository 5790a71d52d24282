-- Writing words into a lent slice, a store a turn, and reading one of them. Assumes nothing.
use Rattle.std.proofs.Math.Seq.{take-append_seam}
use Rattle.std.proofs.Math.ListN.{drop_of_length-le}
use Rattle.std.proofs.lemmas.List.{length-take, length-append}
use Rattle.program.proofs.Cases.{by_le}
use mathlib.Core.Bool.{Bool}
use mathlib.Core.Path.{◌≡◌, refl, sym, ap, ◌∙◌}
use mathlib.Core.List.{List, [], ◌∷◌, ◌++◌, append-nil}
use Prim.Native.Nat.{ℕ, zero, suc, ◌-◌, ◌<◌, ◌≤◌, ◌+◌, min}
use native.Mathlib.Nat.{le_of_suc-le-suc, not-suc-le-zero}
use native.Mathlib.Numerals.{sub-one, add-one}
use native.Mathlib.Omega.{arith}
use lib.ListN.{length, length-set, length-drop, take, drop, get_or, set, replicate}
use lib.Seq.{take-length, drop-length}
use borrow.Rule.Slice.PartMut.{mid_of, put_mid, same_len_mid}
use Rattle.std.specs.Prelude.{Some, None}
use Rattle.program.specs.declared.Row.{Row}
use Rattle.exports.specs.Answers.{written, Given, row_answer, nine_words}

-- ---- the words, as many as there is room for, and zeros behind them

written_front : (n : ℕ) (ws : List ℕ) → n ≤ length ws → written n ws ≡ take n ws
unfolding written
written_front zero ws h = refl
written_front (suc n) [] h = absurd (not-suc-le-zero h)
written_front (suc n) (w ∷ ws) h = ap (λ (l : List ℕ). w ∷ l) (written_front n ws (le_of_suc-le-suc h))

written_none : (k : ℕ) → written k [] ≡ replicate k 0
unfolding written
written_none zero = refl
written_none (suc k) = ap (λ (l : List ℕ). 0 ∷ l) (written_none k)

written_all : (n k : ℕ) (ws : List ℕ) → n ≡ length ws + k → written n ws ≡ ws ++ replicate k 0
unfolding written
written_all n k [] e = let h : n ≡ k = omega arith in rw h (written_none k)
written_all zero k (w ∷ ws) e = absurd (omega arith)
written_all (suc n) k (w ∷ ws) e = ap (λ (l : List ℕ). w ∷ l) (written_all n k ws (omega arith))

seam : (m : ℕ) (x y : List ℕ) → m ≡ length x → take m (x ++ y) ≡ x
seam m x y e = rw e (take-append_seam x y)

module _ (s ws : List ℕ) (m : ℕ) (e : m ≡ min (length s) (length ws)) where
  both_parts : take m ws ++ replicate (length s - m) 0 ≡ written (length s) ws
  both_parts = by_le (length ws) (length s) (λ (b : Bool). take m ws ++ replicate (length s - m) 0 ≡ written (length s) ws)
      (λ l. let k : m ≡ length ws = omega arith in rw (k, take-length) (sym (written_all (length s) (length s - length ws) ws (omega arith))))
      (λ l. let k : m ≡ length s = omega arith in let none : length s - length s ≡ 0 = omega arith in rw (k, none, append-nil) (sym (written_front (length s) ws (omega arith))))

  -- m words copied to the front of s, and zeros from there on
  module _ (x z : List ℕ) (p : x ≡ take m ws) where
    abbrev copied : List ℕ
    copied = x ++ drop m s

    abbrev left : ℕ
    left = length copied - m

    long : m ≡ length x
    long = rw (p, length-take) (omega arith)

    as_many : length copied ≡ length s
    as_many = rw (length-append, length-drop, ← long) (omega arith)

    behind_them : length (mid_of m left copied) ≡ length s - m
    behind_them = rw (length-take, length-drop, as_many) (omega arith)

    none_past : drop left (drop m copied) ≡ []
    none_past = drop_of_length-le (drop m copied) (rw (length-drop) (omega arith))

    pub filled_all : z ≡ replicate (length (mid_of m left copied)) 0 → put_mid m left copied z ≡ written (length s) ws
    filled_all q = rw (none_past, append-nil, q, behind_them, seam m x (drop m s) long, p) both_parts

-- the first i words are written
unfoldable pub so_far : ℕ → List ℕ → List ℕ → List ℕ
so_far i ws s = take i (written (length s) ws) ++ drop i s

pub so_far_start : (ws s : List ℕ) → s ≡ so_far 0 ws s
unfolding so_far
so_far_start ws s = refl

pub so_far_turn : (i : ℕ) (ws s : List ℕ) → i < length s → set (so_far i ws s) i (get_or ws i 0) ≡ so_far (suc i) ws s
unfolding so_far written
so_far_turn i ws [] h = absurd (not-suc-le-zero h)
so_far_turn zero [] (x ∷ s) h = refl
so_far_turn zero (w ∷ ws) (x ∷ s) h = refl
so_far_turn (suc i) [] (x ∷ s) h = ap (λ (l : List ℕ). 0 ∷ l) (so_far_turn i [] s (le_of_suc-le-suc h))
so_far_turn (suc i) (w ∷ ws) (x ∷ s) h = ap (λ (l : List ℕ). w ∷ l) (so_far_turn i ws s (le_of_suc-le-suc h))

-- the same turn, as the code counts
pub so_far_next : (i : ℕ) (ws s : List ℕ) → i < length s → set (so_far i ws s) i (get_or ws i 0) ≡ so_far (i + 1) ws s
so_far_next i ws s h = rw add-one (so_far_turn i ws s h)

pub so_far_end : (ws s : List ℕ) → so_far (length s) ws s ≡ written (length s) ws
unfolding so_far written
so_far_end ws [] = refl
so_far_end [] (x ∷ s) = ap (λ (l : List ℕ). 0 ∷ l) (so_far_end [] s)
so_far_end (w ∷ ws) (x ∷ s) = ap (λ (l : List ℕ). w ∷ l) (so_far_end ws s)

-- a word, and a part behind it that is filled
module _ (w : ℕ) (s z : List ℕ) where
  abbrev stored : List ℕ
  stored = set s 0 w

  abbrev part : List ℕ
  part = mid_of 1 (length stored - 1) stored

  abbrev whole : List ℕ
  whole = put_mid 1 (length stored - 1) stored z

  pub behind_length : length z ≡ length part → length whole ≡ length s
  behind_length e = same_len_mid 1 (length stored - 1) stored z e ∙ length-set s 0 w

behind : (w : ℕ) (ws s z : List ℕ) (k : ℕ) → k ≡ length s → z ≡ written (length (take k s)) ws → w ∷ (z ++ drop k s) ≡ w ∷ written (length s) ws
behind w ws s z k i e = rw (e, i, take-length, drop-length, append-nil) refl

pub filled_behind : (w : ℕ) (ws s z : List ℕ) → 0 < length s → z ≡ written (length (part w s z)) ws → whole w s z ≡ written (length s) (w ∷ ws)
unfolding written
filled_behind w ws [] z h e = absurd (not-suc-le-zero h)
filled_behind w ws (x ∷ s) z h e = behind w ws s z _ (sub-one (suc (length s))) e

-- where there is no room nothing is written
pub no_room : (ws s : List ℕ) → length s ≤ 0 → s ≡ written (length s) ws
unfolding written
no_room ws [] h = refl
no_room ws (x ∷ s) h = absurd (not-suc-le-zero h)

-- zeros behind the words change nothing
written_zeros : (m n : ℕ) (ws : List ℕ) → written n (ws ++ replicate m 0) ≡ written n ws
unfolding written
written_zeros m zero ws = refl
written_zeros zero (suc n) [] = refl
written_zeros (suc m) (suc n) [] = ap (λ (l : List ℕ). 0 ∷ l) (written_zeros m n [])
written_zeros m (suc n) (w ∷ ws) = ap (λ (l : List ℕ). w ∷ l) (written_zeros m n ws)

-- a row's words are nine, with zeros behind them
pub nine_row : (n found index kind start size : ℕ) → written n (nine_words found index kind start size) ≡ written n (0 ∷ written 23 (0 ∷ 0 ∷ 0 ∷ found ∷ index ∷ kind ∷ start ∷ size ∷ []))
unfolding written
nine_row n found index kind start size = sym (written_zeros 15 n (nine_words found index kind start size))

-- so a row's answer is given
pub row_given : (r : Row) (s z : List ℕ) → z ≡ written (length s) (nine_words 1 r.index r.kind r.start r.length) → Given (row_answer (Some r)) s z 0
row_given r s z e = record { number = refl; words = e ∙ nine_row (length s) 1 r.index r.kind r.start r.length }

pub none_given : (s z : List ℕ) → z ≡ written (length s) (nine_words 0 0 0 0 0) → Given (row_answer None) s z 0
unfolding written
none_given s z e = record { number = refl; words = e ∙ nine_row (length s) 0 0 0 0 0 }
