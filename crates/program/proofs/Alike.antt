-- Registrations of rows that all have one name: shifting the name's columns moves equal numbers, so that the name goes to the last place
-- with the same effect. Assumes nothing.
use mathlib.Core.Path.{◌≡◌, refl, sym, ap, ◌∙◌}
use mathlib.Core.Logic.{◌⊎◌, inl, inr, ⊎_elim}
use mathlib.Core.List.{List, [], ◌∷◌}
use Prim.Native.Nat.{ℕ, zero, suc, ◌+◌, ◌-◌, ◌≤◌, ◌<◌, zero-le, suc-le-suc}
use native.Mathlib.Nat.{le_of_suc-le-suc, not-suc-le-zero}
use native.Mathlib.Decide.{ℕ_discrete}
use native.Mathlib.Omega.{arith}
use lib.ListN.{length, get_or, set}
use lib.Seq.{get_or-set_same, get_or-set_other}
use Rattle.std.specs.Prelude.{Ok, Err}
use Rattle.program.specs.declared.Registered.TheVariants.{Inserted, Repeat}
use Rattle.program.specs.declared.RegisterError.TheVariants.{Collision, Full}
use Rattle.program.specs.Rows.{RegisterResult}
use Rattle.program.specs.declared.Row.{Row}
use Rattle.program.specs.Table.{Slices, opened, opened_row, opened_alike, Within, register_in, registered_by, Registers, RegistersAlike, Alike}
use Rattle.program.proofs.Cases.{zero_one}
use Rattle.program.proofs.Steps.{kept, inserted}

-- a place opened for v among v's
opened_same : (at n v : ℕ) (s : List ℕ) → at ≤ n → n < length s → ((i : ℕ) → i < n → get_or s i 0 ≡ v) → opened at n v s ≡ set s n v
unfolding opened
opened_same at n v [] l h same = absurd (not-suc-le-zero h)
opened_same zero zero v (x ∷ s) l h same = refl
opened_same (suc at) zero v (x ∷ s) l h same = absurd (not-suc-le-zero l)
opened_same zero (suc n) v (x ∷ s) l h same =
    let e : x ≡ v = same 0 (suc-le-suc zero-le) in
    rw e (ap (λ (l : List ℕ). v ∷ l) (opened_same zero n v s zero-le (le_of_suc-le-suc h) (λ i m. same (suc i) (suc-le-suc m))))
opened_same (suc at) (suc n) v (x ∷ s) l h same =
    ap (λ (l : List ℕ). x ∷ l) (opened_same at n v s (le_of_suc-le-suc l) (le_of_suc-le-suc h) (λ i m. same (suc i) (suc-le-suc m)))

-- v stored behind n v's
set_same : (n v : ℕ) (s : List ℕ) → n < length s → ((i : ℕ) → i < n → get_or s i 0 ≡ v) → (i : ℕ) → i < n + 1 → get_or (set s n v) i 0 ≡ v
set_same n v s h same i l = go (ℕ_discrete i n)
  where
    go : Dec (i ≡ n) → get_or (set s n v) i 0 ≡ v
    go (yes e) = rw e (get_or-set_same s n v 0 h)
    go (no ne) = get_or-set_other s n i v 0 ne ∙ same i (omega (arith, ne))

-- an answer is an insertion or none
ways : (a : RegisterResult) → ((m : ℕ) × (a ≡ Ok (Inserted m))) ⊎ ((m : ℕ) → a ≡ Ok (Inserted m) → ⊥)
ways (Ok (Inserted m)) = inl (m, refl)
ways (Ok Repeat) = inr (λ m e. zero_one (cc))
ways (Err Collision) = inr (λ m e. zero_one (cc))
ways (Err Full) = inr (λ m e. zero_one (cc))

-- ---- which rows are alike

pub alike_none : (t : Slices) (row : Row) → Alike t 0 row
alike_none t row = record { kinds_alike = λ i l. absurd (not-suc-le-zero l); starts_alike = λ i l. absurd (not-suc-le-zero l); lengths_alike = λ i l. absurd (not-suc-le-zero l) }

-- it is the name that counts
pub alike_named : (t : Slices) (n : ℕ) (r r' : Row) → r.kind ≡ r'.kind → r.start ≡ r'.start → r.length ≡ r'.length → Alike t n r → Alike t n r'
alike_named t n r r' a b c same = record {
  kinds_alike = λ i l. same.kinds_alike i l ∙ a;
  starts_alike = λ i l. same.starts_alike i l ∙ b;
  lengths_alike = λ i l. same.lengths_alike i l ∙ c;
}

-- ---- a registration

module _ (t u : Slices) (used : ℕ) (row : Row) where
  -- no insertion: the slices as they came
  pub alike_kept : (a : RegisterResult) → RegistersAlike t u used row a → ((m : ℕ) → a ≡ Ok (Inserted m) → ⊥) → u ≡ t
  alike_kept a did h = did.leaves ∙ kept opened_alike t used row (λ m e. h m (did.answers ∙ e))

  module _ (alike : Alike t used row) where
    opened_alike_lem : (at : ℕ) → at ≤ used → Within (used + 1) t → opened_row at used row t ≡ opened_alike at used row t
    unfolding opened_row opened_alike
    opened_alike_lem at l w = λ i. record {
      keys = opened at used row.key t.keys;
      indices = opened at used row.index t.indices;
      kinds = opened_same at used row.kind t.kinds l (omega arith) alike.kinds_alike i;
      starts = opened_same at used row.start t.starts l (omega arith) alike.starts_alike i;
      lengths = opened_same at used row.length t.lengths l (omega arith) alike.lengths_alike i;
    }

    named_alike : (at : ℕ) → Within (used + 1) t → Alike (opened_alike at used row t) (used + 1) row
    unfolding opened_alike
    named_alike at w = record {
      kinds_alike = set_same used row.kind t.kinds (omega arith) alike.kinds_alike;
      starts_alike = set_same used row.start t.starts (omega arith) alike.starts_alike;
      lengths_alike = set_same used row.length t.lengths (omega arith) alike.lengths_alike;
    }

    -- THE LAW: it is `register_function`'s
    pub alike_registers : (a : RegisterResult) → RegistersAlike t u used row a → Registers t u used row a
    alike_registers a did = record { answers = did.answers; leaves = did.leaves ∙ ⊎_elim moves stands (ways (register_in t used row)) }
      where
        moves : ((m : ℕ) × (register_in t used row ≡ Ok (Inserted m))) → registered_by opened_alike t used row ≡ registered_by opened_row t used row
        moves w =
            let here = inserted opened_alike t used row w.0 w.1 in
            here.2 ∙ sym ((inserted opened_row t used row w.0 w.1).2 ∙ opened_alike_lem (used - w.0) (omega arith) here.1)

        stands : ((m : ℕ) → register_in t used row ≡ Ok (Inserted m) → ⊥) → registered_by opened_alike t used row ≡ registered_by opened_row t used row
        stands h = kept opened_alike t used row h ∙ sym (kept opened_row t used row h)

    -- and the rows are alike again
    pub alike_after : (m : ℕ) → RegistersAlike t u used row (Ok (Inserted m)) → Alike u (used + 1) row
    alike_after m did =
        let here = inserted opened_alike t used row m (sym did.answers) in
        rw (did.leaves ∙ here.2) (named_alike (used - m) here.1)
