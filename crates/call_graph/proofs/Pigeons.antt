-- Of n + 1 numbers below n two are equal.
-- Assumes nothing.
use Prim.Native.Nat.{ℕ, zero, suc, ◌≤◌, ◌<◌}
use mathlib.Core.Path.{◌≡◌, refl, sym, ◌∙◌}
use mathlib.Core.Bool.{Bool, true, false}
use mathlib.Core.Logic.{◌⊎◌, inl, inr, ⊎_elim}
use native.Mathlib.Omega.{arith}
use lib.Dec.{eqb}
use borrow.Author.Tests.{eqb-true, eqb-false}
use Rattle.program.proofs.Cases.{by_eq}
use Rattle.call_graph.proofs.Scans.{below_or}
use Rattle.ebpf.specs.Choice.{◌if◌else◌}

find : (m : ℕ) (h : ℕ → ℕ) (v : ℕ) → ((i : ℕ) × (i < m) × (h i ≡ v)) ⊎ ((i : ℕ) → i < m → h i ≡ v → ⊥)
find zero h v = inr (λ i l. absurd (omega arith))
find (suc m) h v = ⊎_elim (λ x. inl (x.0, omega arith, x.2)) (λ n. go n (eqb (h m) v) refl) (find m h v)
  where
    go : ((i : ℕ) → i < m → h i ≡ v → ⊥) → (b : Bool) → eqb (h m) v ≡ b → ((i : ℕ) × (i < suc m) × (h i ≡ v)) ⊎ ((i : ℕ) → i < suc m → h i ≡ v → ⊥)
    go n true e = inl (m, omega arith, eqb-true (h m) v e)
    go n false e = inr (λ i l. below_or (λ i. h i ≡ v → ⊥) m i (omega arith) (n i) (eqb-false (h m) v e))

abbrev other : ℕ → (ℕ → ℕ) → ℕ → ℕ
other n h i = h (suc n) if eqb (h i) n else h i

module _ (n : ℕ) (h : ℕ → ℕ) (f : (i : ℕ) → i ≤ suc n → h i < suc n) (none : (i : ℕ) → i < suc n → h i ≡ h (suc n) → ⊥) where
  other_below : (i : ℕ) → i ≤ n → other n h i < n
  unfolding ◌if◌else◌
  other_below i l = by_eq (h i) n (λ b. (h (suc n) if b else h i) < n)
      (λ e. let d : h (suc n) ≡ n → ⊥ = λ q. none i (omega arith) (e ∙ sym q) in let b : h (suc n) < suc n = f (suc n) (omega arith) in omega arith)
      (λ d. let b : h i < suc n = f i (omega arith) in omega arith)

  same : (i j : ℕ) → i < suc n → j < suc n → other n h i ≡ other n h j → h i ≡ h j
  unfolding ◌if◌else◌
  same i j li lj = by_eq (h i) n (λ b. (h (suc n) if b else h i) ≡ other n h j → h i ≡ h j)
      (λ e. by_eq (h j) n (λ b. h (suc n) ≡ (h (suc n) if b else h j) → h i ≡ h j) (λ e' _. e ∙ sym e') (λ _ q. absurd (none j lj (sym q))))
      (λ _. by_eq (h j) n (λ b. h i ≡ (h (suc n) if b else h j) → h i ≡ h j) (λ _ q. absurd (none i li q)) (λ _ q. q))

pub pigeons : (n : ℕ) (h : ℕ → ℕ) → ((i : ℕ) → i ≤ n → h i < n) → (i : ℕ) × (j : ℕ) × (i < j) × (j ≤ n) × (h i ≡ h j)
pigeons zero h f = absurd (let z : h 0 < 0 = f 0 (omega arith) in omega arith)
pigeons (suc n) h f = ⊎_elim
    (λ x. (x.0, suc n, x.1, omega arith, x.2))
    (λ none. let p = pigeons n (other n h) (other_below n h f none) in (p.0, p.1, p.2, omega arith, same n h f none p.0 p.1 (omega arith) (omega arith) p.4))
    (find (suc n) h (h (suc n)))
