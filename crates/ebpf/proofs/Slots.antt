-- A list in chunks of one length, as `as_chunks` cuts it, and an instruction's slot among them. Assumes nothing.
use Rattle.std.specs.Prelude.{◌≡◌, ℕ, zero, suc, ◌+◌, ◌*◌, ◌/◌, ◌%◌, ◌≤◌, ◌<◌, List, [], length, get_or, take, drop, leb, Option, Some, None}
use Rattle.std.specs.Simd.{first_chunks}
use Rattle.std.proofs.Common.{arith, refl, ap, ◌∙◌, add-zero, add_comm, zero-mul, suc-mul, drop-drop, le-leb}
use Rattle.std.proofs.lemmas.Bool.{lt-leb}
use Rattle.ebpf.specs.Choice.{yes, no_go}
use Rattle.ebpf.specs.LittleEndian.{le, le_byte, le_part}
use Rattle.ebpf.specs.Instructions.{slot_at, insn_at}
use Rattle.ebpf.specs.declared.Insn.{Insn}

pub chunk_at : (n k i : ℕ) (xs d : List ℕ) → i < k → get_or (first_chunks n k xs) i d ≡ take n (drop (i * n) xs)
chunk_at n zero i xs d p = absurd (omega arith)
chunk_at n (suc k) zero xs d p = rw zero-mul refl
chunk_at n (suc k) (suc i) xs d p = chunk_at n k i (drop n xs) d (omega arith) ∙ rw (drop-drop (i * n) n xs, suc-mul, add_comm n (i * n)) refl

-- an index past the last whole slot
pub no_slot : (s : List ℕ) (count pc : ℕ) (r : Option Insn) → count ≡ length s / 8 → count ≤ pc → r ≡ None → r ≡ insn_at s pc
unfolding insn_at
no_slot s count pc r e h none = none ∙ yes (leb (length s / 8) pc) _ _ (le-leb (length s / 8) pc (omega arith))

-- a slot whose fields were read one by one
pub slot_read : (s slot : List ℕ) (slots : List (List ℕ)) (pc off imm : ℕ)
    → slots ≡ first_chunks 8 (length s / 8) s → length slots ≡ length s / 8 → pc < length slots → slot ≡ get_or slots pc []
    → off ≡ le 2 slot 2 → imm ≡ le 4 slot 4
    → Some (record { opc = get_or slot 0 0; dst = get_or slot 1 0 % 16; src = get_or slot 1 0 / 16; off = off; imm = imm }) ≡ insn_at s pc
unfolding insn_at slot_at
slot_read s slot slots pc off imm cut count h e eo ei =
    no_go (leb (length s / 8) pc) None _ _ (lt-leb (length s / 8) pc (omega arith))
    (rw (eo, ei, ← le_byte slot 0, ← le_byte slot 1, field 1 0 (omega arith), field 1 1 (omega arith), field 2 2 (omega arith), field 4 4 (omega arith), add-zero) refl)
  where
    here : slot ≡ take 8 (drop (8 * pc) s)
    here =
        let place : pc * 8 ≡ 8 * pc = omega arith in
        e ∙ ap (λ x. get_or x pc []) cut ∙ chunk_at 8 (length s / 8) pc s [] (omega arith) ∙ rw place refl

    field : (k at : ℕ) → at + k ≤ 8 → le k slot at ≡ le k s (8 * pc + at)
    field k at l = rw here (le_part k 8 (8 * pc) s at l)
