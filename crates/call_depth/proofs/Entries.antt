-- The first row with an index; a slot that is no call.
-- Assumes nothing.
use Prim.Native.Nat.{ℕ, zero, suc, ◌+◌, ◌*◌, ◌/◌, ◌≤◌, ◌<◌}
use mathlib.Core.Path.{◌≡◌, refl, sym}
use mathlib.Core.Bool.{Bool, true, false}
use mathlib.Core.List.{List, [], ◌∷◌}
use native.Mathlib.Omega.{arith}
use lib.ListN.{length, get_or}
use lib.Dec.{ltb, leb, eqb}
use borrow.Author.Tests.{ltb-false, eq-eqb, eqb-true, ne_eqb}
use Rattle.ebpf.specs.Choice.{◌if◌else◌}
use Rattle.ebpf.specs.Instructions.{slot_at, insn_at}
use Rattle.std.specs.Prelude.{Option, Some, None, position, cond}
use Rattle.ebpf.specs.declared.Insn.{Insn}
use Rattle.program.specs.Table.{row_ascending_in}
use Rattle.program.proofs.Steps.{row_below}
use Rattle.std.specs.List.{position_or_len}
use Rattle.std.proofs.lemmas.List.Quantifiers.{position-Some}
use Rattle.std.proofs.lemmas.List.Recursion.{is_position_or_len}
use Rattle.ebpf.specs.LittleEndian.{le_byte}
use Rattle.program.specs.Search.{index_of}
use Rattle.program.proofs.Cases.{by_eq, by_test, zero_one}
use Rattle.loader.specs.Calls.{calls_key}
use Rattle.call_depth.specs.Called.{row_or, callee_by, callee_in, Calls}

-- what a slot calls
module _ (text keys : List ℕ) (version2 : Bool) (s : ℕ) where
  -- another opcode
  pub no_call : (get_or text (8 * s) 0 ≡ 0x85 → ⊥) → length keys ≡ callee_in text keys version2 s
  unfolding callee_in calls_key insn_at slot_at ◌if◌else◌
  no_call n = go (leb (length text / 8) s)
    where
      go : (b : Bool) → length keys ≡ row_or (length keys) (callee_by keys version2 (None if b else Some (slot_at text (8 * s))))
      go true = refl
      go false = rw (le_byte text (8 * s), ne_eqb (get_or text (8 * s) 0) 0x85 n) refl

  callee_below : (r : ℕ) → callee_by keys version2 (insn_at text s) ≡ Some r → r < length keys
  unfolding ◌if◌else◌
  callee_below r e = by_slot (insn_at text s) e
    where
      by_slot : (x : Option Insn) → callee_by keys version2 x ≡ Some r → r < length keys
      by_slot None q = absurd (zero_one (cc))
      by_slot (Some insn) q = by_test (calls_key version2 insn) (λ b. (row_ascending_in keys (length keys) insn.imm if b else None) ≡ Some r → r < length keys) (λ _ h. omega (arith, row_below keys (length keys) insn.imm r h)) (λ _ h. absurd (zero_one (cc))) q

  pub calls_row : (x : Option ℕ) → x ≡ callee_by keys version2 (insn_at text s) → Calls (callee_in text keys version2) (length keys) s x
  unfolding callee_in
  calls_row None e = rw (← e) refl
  calls_row (Some r) e = (rw (← e) refl, callee_below r (sym e))

-- the first row with an index
first_is : (k : ℕ) (xs : List ℕ) → index_of k xs ≡ position_or_len (λ x. eqb x k) xs
unfolding ◌if◌else◌
first_is k xs = is_position_or_len (index_of k) (λ x. eqb x k) refl (λ x ys. by_test (eqb x k) (λ b. (0 if b else suc (index_of k ys)) ≡ cond b 0 (1 + index_of k ys)) (λ _. refl) (λ _. omega arith)) xs

-- there is none
pub first_none : (k : ℕ) (xs : List ℕ) → position (λ x. eqb x k) xs ≡ None → length xs ≤ index_of k xs
first_none k xs e = rw (first_is k xs) (go (ltb n (length xs)) refl e)
  where
    n : ℕ
    n = position_or_len (λ x. eqb x k) xs

    go : (b : Bool) → ltb n (length xs) ≡ b → cond b (Some n) None ≡ None → length xs ≤ n
    go true q h = absurd (zero_one (cc))
    go false q h = ltb-false n (length xs) q

pub first_below : (k : ℕ) (xs : List ℕ) (n : ℕ) → n < length xs → get_or xs n 0 ≡ k → index_of k xs < length xs
unfolding ◌if◌else◌
first_below k [] n l e = absurd (let z : n < 0 = l in omega arith)
first_below k (x ∷ xs) zero l e = rw (eq-eqb x k e) (omega arith)
first_below k (x ∷ xs) (suc n) l e = by_eq x k (λ b. (0 if b else suc (index_of k xs)) < suc (length xs)) (λ _. omega arith) (λ _. let h : index_of k xs < length xs = first_below k xs n (omega arith) e in omega arith)

-- row r is the first
pub first_some : (k : ℕ) (xs : List ℕ) (r : ℕ) → position (λ x. eqb x k) xs ≡ Some r → (r < length xs) × (get_or xs r 0 ≡ k) × (index_of k xs < length xs)
first_some k xs r e =
    let p = position-Some (λ x. eqb x k) xs r 0 e in
    let h : get_or xs r 0 ≡ k = eqb-true (get_or xs r 0) k p.1 in
    (p.0, h, first_below k xs r p.0 h)

-- the first one has the index
pub first_at : (k : ℕ) (xs : List ℕ) → index_of k xs < length xs → get_or xs (index_of k xs) 0 ≡ k
unfolding ◌if◌else◌
first_at k [] l = absurd (let z : 0 < 0 = l in omega arith)
first_at k (x ∷ xs) l = by_eq x k (λ b. (0 if b else suc (index_of k xs)) < suc (length xs) → get_or (x ∷ xs) (0 if b else suc (index_of k xs)) 0 ≡ k)
    (λ e _. e)
    (λ _ h. first_at k xs (omega (arith, h)))
    l
