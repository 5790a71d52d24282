-- Numbers that ascend, as std tests each and the next; and the sections' survey, as a loop meets it. Assumes nothing.
use mathlib.Core.Path.{◌≡◌, refl, sym}
use mathlib.Core.Bool.{Bool, true, false}
use mathlib.Core.List.{List, [], ◌∷◌}
use Prim.Native.Nat.{ℕ, zero, suc, ◌+◌, ◌≤◌, ◌<◌}
use native.Mathlib.Omega.{arith}
use lib.Dec.{leb, ltb}
use lib.ListN.{length, get_or}
use borrow.Author.Tests.{le-leb, lt-leb, ltb-true, ltb-false}
use Rattle.std.specs.List.{IsAllAdjacentAnswer}
use Rattle.ebpf.specs.Choice.{◌if◌else◌, yes, no_go}
use Rattle.elf_parser.specs.declared.layout.Layout.{Layout}
use Rattle.elf_parser.specs.SectionNames.{same_bytes}
use Rattle.loader.specs.declared.sections.Survey.{Survey}
use Rattle.loader.specs.Sections.{section_at, name_of, dot_text, survey_step}
use Rattle.loader.specs.Validate.{ascends}

after : (k : ℕ) → suc k + 1 ≡ suc (k + 1)
after k = omega arith

abbrev Below : List ℕ → ℕ → ℕ → Bool → Type 0
Below s k d b = b ≡ ltb (get_or s k d) (get_or s (k + 1) d)

each_below : (s : List ℕ) → ((k d : ℕ) → k + 1 < length s → Below s k d true) → ascends s ≡ true
unfolding ascends
each_below [] h = refl
each_below (x ∷ []) h = refl
each_below (x ∷ y ∷ s) h =
    let first : x < y = ltb-true x y (sym (h 0 0 (omega arith))) in
    let rest : ascends (y ∷ s) ≡ true = each_below (y ∷ s) (λ k d q. rw (after k) at (h (suc k) d (omega (arith, q)))) in
    sym (no_go _ _ _ _ (lt-leb y x first) (sym rest))

one_above : (s : List ℕ) (k : ℕ) → k + 1 < length s → ((d : ℕ) → Below s k d false) → ascends s ≡ false
unfolding ascends ◌if◌else◌
one_above [] k q h = absurd (omega (arith, q))
one_above (x ∷ []) k q h = absurd (omega (arith, q))
one_above (x ∷ y ∷ s) zero q h = sym (yes _ _ _ (le-leb y x (ltb-false x y (sym (h 0)))))
one_above (x ∷ y ∷ s) (suc k) q h = go (leb y x) (one_above (y ∷ s) k (omega (arith, q)) (λ d. rw (after k) at (h d)))
  where
    go : (b : Bool) → ascends (y ∷ s) ≡ false → (false if b else ascends (y ∷ s)) ≡ false
    go true e = refl
    go false e = e

-- each number is below the next exactly if they ascend
pub sorted_below : (s : List ℕ) (r : Bool) → IsAllAdjacentAnswer (λ x y b. b ≡ ltb x y) s r → r ≡ ascends s
sorted_below s true h = sym (each_below s h)
sorted_below s false h = sym (one_above s h.0 h.1 h.2)

at_most_one : (b : Bool) (x i : ℕ) → x ≤ i → (x + 1 if b else x) ≤ i + 1
unfolding ◌if◌else◌
at_most_one true x i h = omega arith
at_most_one false x i h = omega arith

pub texts_step : (s : List ℕ) (l : Layout) (i : ℕ) (v : Survey) → v.texts ≤ i → (survey_step s l i v).texts ≤ i + 1
unfolding survey_step
texts_step s l i v h = at_most_one (same_bytes (name_of s l (section_at s l i)) dot_text) v.texts i h
