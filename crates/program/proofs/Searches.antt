-- The searches of a list of numbers: the binary search, turn by turn, and its place on an ascending list; the first index of a number, by
-- a scan. Assumes nothing.
use mathlib.Core.Path.{◌≡◌, refl, sym, ap, ◌∙◌}
use mathlib.Core.Bool.{Bool, true, false, not}
use mathlib.Core.List.{List, [], ◌∷◌}
use Prim.Native.Nat.compare
use Prim.Native.Nat.{ℕ, zero, suc, ◌+◌, ◌-◌, ◌*◌, ◌/◌, ◌^◌, ◌≤◌, ◌<◌, zero-le, suc-le-suc}
use native.Mathlib.Nat.{le_of_suc-le-suc, not-suc-le-zero, lt_trans, mul-one, mul-zero}
use native.Mathlib.Omega.{arith}
use lib.ListN.{length, get_or, take, drop, length-drop}
use lib.Seq.{length-take-le}
use lib.Dec.{ltb, leb, eqb}
use borrow.Author.Tests.{lt-ltb, le-ltb, le-leb, lt-leb, eq-eqb, ne_eqb}
use Rattle.std.specs.Prelude.{cond, position, Option, Some, None, Ok, Err}
use Rattle.std.specs.List.{list_any, position_or_len}
use Rattle.std.specs.Option.{unwrap_or, option_map}
use Rattle.std.specs.Result.{is_ok}
use Rattle.std.specs.Simd.{first_chunks}
use Rattle.std.proofs.Common.{drop-drop}
use Rattle.std.proofs.lemmas.List.Recursion.{is_position_or_len}
use Rattle.std.proofs.lemmas.List.{take_rest}
use Rattle.std.proofs.lemmas.List.Sums.{prefix_len-le-length}
use Rattle.ebpf.specs.Choice.{◌if◌else◌, or_false}
use Rattle.program.specs.Search.{halved, Halved, narrowed, left_of, binary_search, is_among, search_result, index_of, PassesTo, member, Over, Rising, place}
use Rattle.program.proofs.Cases.{by_test, by_lt, by_le, by_eq}

-- ---- a number or 0, by a test

pub half_le : (half a b : ℕ) → (half if leb a b else 0) ≤ half
unfolding ◌if◌else◌
half_le half a b = by_le a b (λ (t : Bool). (half if t else 0) ≤ half) (λ _. omega arith) (λ _. zero-le)

module _ (half a b : ℕ) (in_a : a < 2 ^ 32) (in_b : b < 2 ^ 32) where
  pub half_where : half * ((2 ^ 32 + b - a) / 2 ^ 32) ≡ (half if leb a b else 0)
  unfolding ◌if◌else◌
  half_where =
      by_le a b (λ (t : Bool). half * ((2 ^ 32 + b - a) / 2 ^ 32) ≡ (half if t else 0))
      (λ l. let e : (2 ^ 32 + b - a) / 2 ^ 32 ≡ 1 = omega arith in rw (e, mul-one) refl)
      (λ l. let e : (2 ^ 32 + b - a) / 2 ^ 32 ≡ 0 = omega arith in rw (e, mul-zero) refl)

  pub half_fits : half < 2 ^ 64 → half * ((2 ^ 32 + b - a) / 2 ^ 32) < 2 ^ 64
  half_fits l = rw half_where (omega (arith, half_le half a b))

-- ---- the binary search, on any list

-- the end
narrow_ends : (k : ℕ) (xs : List ℕ) (base size : ℕ) → size ≤ 1 → narrowed size k xs base size ≡ base
unfolding narrowed ◌if◌else◌
narrow_ends k xs base zero l = refl
narrow_ends k xs base (suc n) l = rw (le-ltb 1 (suc n) l) refl

-- turns that are not needed change nothing
spare : (m n k : ℕ) (xs : List ℕ) (base size : ℕ) → size ≤ m → size ≤ n → narrowed m k xs base size ≡ narrowed n k xs base size
unfolding narrowed ◌if◌else◌
spare zero zero k xs base size p q = refl
spare zero (suc n) k xs base size p q = rw (le-ltb 1 size (omega arith)) refl
spare (suc m) zero k xs base size p q = rw (le-ltb 1 size (omega arith)) refl
spare (suc m) (suc n) k xs base size p q =
    by_lt 1 size
    (λ (b : Bool). ◌≡◌ {A = ℕ} (narrowed m k xs (halved k xs base (size / 2)) (size - size / 2) if b else base) (narrowed n k xs (halved k xs base (size / 2)) (size - size / 2) if b else base))
    (λ l. spare m n k xs _ (size - size / 2) (omega arith) (omega arith))
    (λ _. refl)

halved_le : (k : ℕ) (xs : List ℕ) (base half : ℕ) → halved k xs base half ≤ base + half
halved_le k xs base half = omega (arith, half_le half (get_or xs (base + half) 0) k)

module _ (k : ℕ) (xs : List ℕ) (base half : ℕ) where
  pub halved_up : get_or xs (base + half) 0 ≤ k → Halved k xs base half (base + half)
  unfolding ◌if◌else◌
  halved_up l = record { is = rw (le-leb (get_or xs (base + half) 0) k l) refl; within = omega arith }

  pub halved_down : k < get_or xs (base + half) 0 → Halved k xs base half base
  unfolding ◌if◌else◌
  halved_down l = record { is = rw (lt-leb (get_or xs (base + half) 0) k l) (omega arith); within = omega arith }

-- a turn: over one number it changes nothing
pub turn : (k : ℕ) (xs : List ℕ) (base size b : ℕ) → 0 < size → b ≡ halved k xs base (size / 2) → narrowed size k xs base size ≡ narrowed (size - size / 2) k xs b (size - size / 2)
unfolding narrowed ◌if◌else◌
turn k xs base zero b l e = absurd (not-suc-le-zero l)
turn k xs base (suc n) b l e =
    by_lt 1 (suc n)
    (λ (t : Bool). ◌≡◌ {A = ℕ} (narrowed n k xs (halved k xs base (suc n / 2)) (suc n - suc n / 2) if t else base) (narrowed (suc n - suc n / 2) k xs b (suc n - suc n / 2)))
    (λ more. rw (← e) (spare n (suc n - suc n / 2) k xs b (suc n - suc n / 2) (omega arith) (omega arith)))
    (λ one. let same : base ≡ b = omega (arith, e, half_le (suc n / 2) (get_or xs (base + suc n / 2) 0) k) in same ∙ sym (narrow_ends k xs b (suc n - suc n / 2) (omega arith)))

-- four turns over at most sixteen numbers
module _ (k : ℕ) (xs : List ℕ) (base size : ℕ) (some : 0 < size) (few : size ≤ 16) where
  abbrev s₁ : ℕ
  s₁ = size - size / 2

  abbrev s₂ : ℕ
  s₂ = s₁ - s₁ / 2

  abbrev s₃ : ℕ
  s₃ = s₂ - s₂ / 2

  abbrev b₁ : ℕ
  b₁ = halved k xs base (size / 2)

  abbrev b₂ : ℕ
  b₂ = halved k xs b₁ (s₁ / 2)

  abbrev b₃ : ℕ
  b₃ = halved k xs b₂ (s₂ / 2)

  abbrev b₄ : ℕ
  b₄ = halved k xs b₃ (s₃ / 2)

  pub four_turns : narrowed size k xs base size ≡ b₄
  four_turns =
      turn k xs base size b₁ some refl ∙ turn k xs b₁ s₁ b₂ (omega arith) refl ∙ turn k xs b₂ s₂ b₃ (omega arith) refl ∙ turn k xs b₃ s₃ b₄ (omega arith) refl
      ∙ narrow_ends k xs b₄ (s₃ - s₃ / 2) (omega arith)

-- what is left behind a turn lies where it did
pub stays : (k : ℕ) (xs : List ℕ) (base size b n : ℕ) → Halved k xs base (size / 2) b → base + size ≤ n → b + (size - size / 2) ≤ n
stays k xs base size b n h l = omega (arith, h.within)

-- the number that is left is one of them
pub left_within : (turns k : ℕ) (xs : List ℕ) (base size n : ℕ) → 0 < size → base + size ≤ n → narrowed turns k xs base size < n
unfolding narrowed ◌if◌else◌
left_within zero k xs base size n some h = omega arith
left_within (suc turns) k xs base size n some h =
    by_lt 1 size
    (λ (b : Bool). (narrowed turns k xs (halved k xs base (size / 2)) (size - size / 2) if b else base) < n)
    (λ _. left_within turns k xs (halved k xs base (size / 2)) (size - size / 2) n (omega arith) (omega (arith, halved_le k xs base (size / 2))))
    (λ _. omega arith)

-- on any list the place is at most the length
search_within : (k : ℕ) (xs : List ℕ) → binary_search k xs ≤ length xs
unfolding binary_search ◌if◌else◌
search_within k xs =
    by_eq (length xs) 0 (λ (b : Bool). (0 if b else left_of k xs + 1 if ltb (get_or xs (left_of k xs) 0) k else left_of k xs) ≤ length xs)
    (λ _. zero-le)
    (λ some.
    let in_List = left_within (length xs) k xs 0 (length xs) (length xs) (omega (arith, some)) (omega arith) in
    by_lt (get_or xs (left_of k xs) 0) k (λ (b : Bool). (left_of k xs + 1 if b else left_of k xs) ≤ length xs) (λ _. omega (arith, in_List)) (λ _. omega (arith, in_List)))

pub search_le : (ks : List ℕ) (n k : ℕ) → n ≤ length ks → binary_search k (take n ks) ≤ n
search_le ks n k within = omega (arith, search_within k (take n ks), length-take-le n ks within)

-- a number that stands behind those that are left, or is the last of them, was found to be above k
Above : ℕ → List ℕ → ℕ → ℕ → Type 0
Above k xs base size = base + size < length xs → (j : ℕ) × (base < j) × (j ≤ base + size) × (base + size ≤ j + 1) × (k < get_or xs j 0)

above_next : (k : ℕ) (xs : List ℕ) (base size : ℕ) → 0 < size → size ≤ 1 → Above k xs base size → base + 1 < length xs → k < get_or xs (base + 1) 0
unfolding Above
above_next k xs base size some one h l =
    let j = h (omega arith) in
    let e : j.0 ≡ base + 1 = omega (arith, j.1, j.2, j.3) in
    rw e at j.4

next_above : (turns k : ℕ) (xs : List ℕ) (base size : ℕ) → 0 < size → size ≤ turns + 1 → Above k xs base size
    → narrowed turns k xs base size + 1 < length xs → k < get_or xs (narrowed turns k xs base size + 1) 0
unfolding narrowed ◌if◌else◌ Above
next_above zero k xs base size some few h = above_next k xs base size some (omega arith) h
next_above (suc n) k xs base size some few h =
    by_lt 1 size
    (λ (b : Bool). (narrowed n k xs (halved k xs base (size / 2)) (size - size / 2) if b else base) + 1 < length xs
    → k < get_or xs ((narrowed n k xs (halved k xs base (size / 2)) (size - size / 2) if b else base) + 1) 0)
    (λ more. by_le (get_or xs (base + size / 2) 0) k
    (λ (b : Bool). narrowed n k xs (base + (size / 2 if b else 0)) (size - size / 2) + 1 < length xs
    → k < get_or xs (narrowed n k xs (base + (size / 2 if b else 0)) (size - size / 2) + 1) 0)
    (λ up. next_above n k xs (base + size / 2) (size - size / 2) (omega arith) (omega arith)
    (λ l. let j = h (omega arith) in
    let past : base + size / 2 < j.0 = by_lt (base + size / 2) j.0 (λ _. base + size / 2 < j.0) (λ q. q) (λ q. let e : j.0 ≡ base + size / 2 = omega (arith, j.1, j.2, j.3) in let a : k < get_or xs (base + size / 2) 0 = rw e at j.4 in absurd (omega arith)) in
    (j.0, past, omega (arith, j.2), omega (arith, j.3), j.4)))
    (λ down. next_above n k xs (base + 0) (size - size / 2) (omega arith) (omega arith)
    (λ l. (base + size / 2, omega arith, omega arith, omega arith, down))))
    (λ one. above_next k xs base size some one h)

-- what the search answers, at the number that is left
module _ (k : ℕ) (xs : List ℕ) where
  pub search_none : length xs ≡ 0 → Err 0 ≡ search_result k xs
  unfolding search_result is_among binary_search ◌if◌else◌
  search_none none = rw none refl

  module _ (at : ℕ) (left : at ≡ left_of k xs) (within : at < length xs) where
    search_at : binary_search k xs ≡ (at + 1 if ltb (get_or xs at 0) k else at)
    unfolding binary_search ◌if◌else◌
    search_at = rw (← left, ne_eqb (length xs) 0 (omega arith)) refl

    pub search_next : get_or xs at 0 < k → Err (at + 1) ≡ search_result k xs
    unfolding search_result is_among ◌if◌else◌ Above
    search_next l =
        let e : binary_search k xs ≡ at + 1 = search_at ∙ rw (lt-ltb (get_or xs at 0) k l) refl in
        rw e
        (by_le (length xs) (at + 1) (λ (b : Bool). Err (at + 1) ≡ (Ok (at + 1) if (false if b else eqb (get_or xs (at + 1) 0) k) else Err (at + 1)))
        (λ _. refl)
        (λ more.
        let above : k < get_or xs (at + 1) 0 = rw (← left) at (next_above (length xs) k xs 0 (length xs) (omega arith) (omega arith) (λ l. absurd (omega arith)) (rw left at more)) in
        rw (ne_eqb (get_or xs (at + 1) 0) k (omega arith)) refl))

    search_stays : k ≤ get_or xs at 0 → binary_search k xs ≡ at
    unfolding ◌if◌else◌
    search_stays l = search_at ∙ rw (le-ltb (get_or xs at 0) k l) refl

    pub search_here : get_or xs at 0 ≡ k → Ok at ≡ search_result k xs
    unfolding search_result is_among ◌if◌else◌
    search_here e = rw (search_stays (omega arith), lt-leb (length xs) at within, eq-eqb (get_or xs at 0) k e) refl

    pub search_before : k ≤ get_or xs at 0 → (get_or xs at 0 ≡ k → ⊥) → Err at ≡ search_result k xs
    unfolding search_result is_among ◌if◌else◌
    search_before l ne = rw (search_stays l, lt-leb (length xs) at within, ne_eqb (get_or xs at 0) k ne) refl

  pub found_among : is_ok (search_result k xs) ≡ is_among k xs
  unfolding search_result ◌if◌else◌
  found_among = by_test (is_among k xs) (λ (b : Bool). is_ok (Ok (binary_search k xs) if b else Err (binary_search k xs)) ≡ b) (λ _. refl) (λ _. refl)

-- ---- the binary search, on an ascending list

over_at : (k : ℕ) (ns : List ℕ) (i : ℕ) → Over k ns → i < length ns → k < get_or ns i 0
over_at k [] i o l = absurd (not-suc-le-zero l)
over_at k (n ∷ ns) zero o l = o.0
over_at k (n ∷ ns) (suc i) o l = over_at k ns i o.1 (le_of_suc-le-suc l)

-- a number below k stands before k's place
place_past : (k : ℕ) (ns : List ℕ) (i : ℕ) → Rising ns → i < length ns → get_or ns i 0 < k → i < place k ns
unfolding ◌if◌else◌
place_past k [] i r l h = absurd (not-suc-le-zero l)
place_past k (n ∷ ns) zero r l h = rw (lt-ltb n k h) (suc-le-suc zero-le)
place_past k (n ∷ ns) (suc i) r l h =
    rw (lt-ltb n k (lt_trans (over_at n ns i r.0 (le_of_suc-le-suc l)) h)) (suc-le-suc (place_past k ns i r.1 (le_of_suc-le-suc l) h))

-- a number that is not above k stands at k's place or before it
place_reaches : (k : ℕ) (ns : List ℕ) (i : ℕ) → Rising ns → i < length ns → get_or ns i 0 ≤ k → i ≤ place k ns
unfolding ◌if◌else◌
place_reaches k [] i r l h = absurd (not-suc-le-zero l)
place_reaches k (n ∷ ns) zero r l h = zero-le
place_reaches k (n ∷ ns) (suc i) r l h =
    rw (lt-ltb n k (omega (arith, over_at n ns i r.0 (le_of_suc-le-suc l)))) (suc-le-suc (place_reaches k ns i r.1 (le_of_suc-le-suc l) h))

-- a number that is not below k stands at k's place or behind it
place_within : (k : ℕ) (ns : List ℕ) (i : ℕ) → i < length ns → k ≤ get_or ns i 0 → place k ns ≤ i
unfolding ◌if◌else◌
place_within k [] i l h = absurd (not-suc-le-zero l)
place_within k (n ∷ ns) zero l h = rw (le-ltb n k h) zero-le
place_within k (n ∷ ns) (suc i) l h =
    by_lt n k (λ (b : Bool). (suc (place k ns) if b else 0) ≤ suc i) (λ _. suc-le-suc (place_within k ns i (le_of_suc-le-suc l) h)) (λ _. zero-le)

place_le : (k : ℕ) (ns : List ℕ) → place k ns ≤ length ns
unfolding ◌if◌else◌
place_le k [] = zero-le
place_le k (n ∷ ns) = by_lt n k (λ (b : Bool). (suc (place k ns) if b else 0) ≤ suc (length ns)) (λ _. suc-le-suc (place_le k ns)) (λ _. zero-le)

module _ (k : ℕ) (xs : List ℕ) (r : Rising xs) where
  -- k's place is that of the number that is left, or the next
  covers : (turns base size : ℕ) → size ≤ turns → base + size ≤ length xs → base ≤ place k xs → place k xs ≤ base + size
      → (narrowed turns k xs base size ≤ place k xs) × (place k xs ≤ narrowed turns k xs base size + 1)
  unfolding narrowed ◌if◌else◌
  covers zero base size f h p q = (p, omega arith)
  covers (suc n) base size f h p q =
      by_lt 1 size
      (λ (b : Bool). ((narrowed n k xs (halved k xs base (size / 2)) (size - size / 2) if b else base) ≤ place k xs)
      × (place k xs ≤ (narrowed n k xs (halved k xs base (size / 2)) (size - size / 2) if b else base) + 1))
      (λ l. by_le (get_or xs (base + size / 2) 0) k
      (λ (b : Bool). (narrowed n k xs (base + (size / 2 if b else 0)) (size - size / 2) ≤ place k xs) × (place k xs ≤ narrowed n k xs (base + (size / 2 if b else 0)) (size - size / 2) + 1))
      (λ up. covers n (base + size / 2) (size - size / 2) (omega arith) (omega arith) (place_reaches k xs (base + size / 2) r (omega arith) up) (omega arith))
      (λ down. covers n (base + 0) (size - size / 2) (omega arith) (omega arith) (omega arith) (omega (arith, place_within k xs (base + size / 2) (omega arith) (omega arith)))))
      (λ l. (p, omega arith))

  -- THE LAW of the search: on an ascending list it counts the numbers below k
  pub search_place : binary_search k xs ≡ place k xs
  unfolding binary_search ◌if◌else◌
  search_place =
      by_eq (length xs) 0 (λ (b : Bool). (0 if b else left_of k xs + 1 if ltb (get_or xs (left_of k xs) 0) k else left_of k xs) ≡ place k xs)
      (λ none. omega (arith, none, place_le k xs))
      (λ some.
      let in_List = left_within (length xs) k xs 0 (length xs) (length xs) (omega (arith, some)) (omega arith) in
      let near = covers (length xs) 0 (length xs) (omega arith) (omega arith) zero-le (omega (arith, place_le k xs)) in
      by_lt (get_or xs (left_of k xs) 0) k (λ (b : Bool). (left_of k xs + 1 if b else left_of k xs) ≡ place k xs)
      (λ l. omega (arith, near.1, place_past k xs (left_of k xs) r in_List l))
      (λ l. omega (arith, near.0, place_within k xs (left_of k xs) in_List l)))

member_over : (k : ℕ) (xs : List ℕ) → Over k xs → member k xs ≡ false
unfolding ◌if◌else◌
member_over k [] o = refl
member_over k (n ∷ ns) o = rw (ne_eqb n k (omega arith)) (member_over k ns o.1)

pub over_below : (j k : ℕ) (ns : List ℕ) → j ≤ k → Over k ns → Over j ns
over_below j k [] l o = tt
over_below j k (n ∷ ns) l o = (omega arith, over_below j k ns l o.1)

at_place : (k : ℕ) (xs : List ℕ) → Rising xs → (false if leb (length xs) (place k xs) else eqb (get_or xs (place k xs) 0) k) ≡ member k xs
unfolding ◌if◌else◌
at_place k [] r = refl
at_place k (n ∷ ns) r =
    by_lt n k (λ (b : Bool). (false if leb (suc (length ns)) (suc (place k ns) if b else 0) else eqb (get_or (n ∷ ns) (suc (place k ns) if b else 0) 0) k) ≡ (true if eqb n k else member k ns))
    (λ l. rw (ne_eqb n k (omega arith), compare.suc-suc) (at_place k ns r.1))
    (λ l. rw (lt-leb (suc (length ns)) 0 (omega arith)) (by_eq n k (λ (b : Bool). b ≡ (true if b else member k ns)) (λ _. refl) (λ ne. sym (member_over k ns (over_below k n ns l r.0)))))

-- on an ascending list the search finds what is there
pub among_member : (k : ℕ) (xs : List ℕ) → Rising xs → is_among k xs ≡ member k xs
unfolding is_among
among_member k xs r = rw (search_place k xs r) (at_place k xs r)

-- ---- the first index of a number, as a scan finds it

-- numbers without k passed over at once
skipped : (k n : ℕ) (ks : List ℕ) → n ≤ length ks → list_any (λ x. eqb x k) (take n ks) ≡ false → index_of k ks ≡ n + index_of k (drop n ks)
unfolding ◌if◌else◌
skipped k zero ks l e = omega arith
skipped k (suc n) [] l e = absurd (not-suc-le-zero l)
skipped k (suc n) (x ∷ ks) l e =
    let both = or_false (eqb x k) (list_any (λ x. eqb x k) (take n ks)) e in
    rw (both.0, skipped k n ks (le_of_suc-le-suc l) both.1) (omega arith)

-- eights without k
pub eights_passed : (k m : ℕ) (ks : List ℕ) → 8 * m ≤ length ks
    → PassesTo k ks (8 * position_or_len (λ e. list_any (λ x. eqb x k) e) (first_chunks 8 m ks))
eights_passed k zero ks l = record { within = zero-le; same = omega arith }
eights_passed k (suc m) ks l = by_test (list_any (λ x. eqb x k) (take 8 ks))
    (λ (b : Bool). PassesTo k ks (8 * cond (not b) (1 + position_or_len (λ e. list_any (λ x. eqb x k) e) (first_chunks 8 m (drop 8 ks))) 0))
    (λ _. record { within = zero-le; same = omega arith })
    (λ none.
    let r : ℕ = position_or_len (λ e. list_any (λ x. eqb x k) e) (first_chunks 8 m (drop 8 ks)) in
    let rest = eights_passed k m (drop 8 ks) (omega (arith, length-drop 8 ks)) in
    let sum : 8 * (1 + r) ≡ 8 + 8 * r = omega arith in
    record {
      within = omega (arith, rest.within, length-drop 8 ks);
      same = skipped k 8 ks (omega arith) none ∙ ap (λ n. 8 + n) rest.same ∙ rw (sum, drop-drop (8 * r) 8 ks) (omega arith);
    })

pub first_is : (k : ℕ) (xs : List ℕ) → index_of k xs ≡ position_or_len (λ x. eqb x k) xs
unfolding ◌if◌else◌
first_is k xs = is_position_or_len (index_of k) (λ x. eqb x k) refl (λ x ys. by_test (eqb x k) (λ b. (0 if b else suc (index_of k ys)) ≡ cond b 0 (1 + index_of k ys)) (λ _. refl) (λ _. omega arith)) xs

-- as the code finds them
pub eights_found : (k r : ℕ) (ks : List ℕ) (es : List (List ℕ)) → es ≡ first_chunks 8 (length ks / 8) ks
    → r ≡ unwrap_or (position (λ e. list_any (λ x. eqb x k) e) es) (length es) → PassesTo k ks (8 * r)
eights_found k r ks es cut is =
    let at : ℕ = position_or_len (λ e. list_any (λ x. eqb x k) e) es in
    let first : unwrap_or (cond (ltb at (length es)) (Some at) None) (length es) ≡ at =
    by_lt at (length es) (λ (b : Bool). unwrap_or (cond b (Some at) None) (length es) ≡ at) (λ _. refl) (λ l. omega (arith, prefix_len-le-length (λ e. not (list_any (λ x. eqb x k) e)) es)) in
    rw (is, first, cut) (eights_passed k (length ks / 8) ks (omega arith))

-- the first index, where numbers are passed over
pub first_behind : (k from : ℕ) (ks : List ℕ) (r : Option ℕ) → PassesTo k ks from → r ≡ position (λ x. eqb x k) (take (length ks - from) (drop from ks))
    → position (λ x. eqb x k) ks ≡ option_map (λ i. from + i) r
first_behind k from ks r passes is =
    rw (is, take_rest ks from, ← first_is k ks, ← first_is k (drop from ks), passes.same)
    (by_lt (index_of k (drop from ks)) (length (drop from ks))
    (λ (b : Bool). cond (ltb (from + index_of k (drop from ks)) (length ks)) (Some (from + index_of k (drop from ks))) None ≡ option_map (λ i. from + i) (cond b (Some (index_of k (drop from ks))) None))
    (λ l. rw (lt-ltb (from + index_of k (drop from ks)) (length ks) (omega (arith, length-drop from ks))) refl)
    (λ l. rw (le-ltb (from + index_of k (drop from ks)) (length ks) (omega (arith, length-drop from ks, passes.within))) refl))
