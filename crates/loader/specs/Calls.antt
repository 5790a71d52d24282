-- Local calls.
use Prim.Native.Nat.{ℕ, zero, suc, ◌+◌, ◌-◌, ◌*◌, ◌/◌, ◌≤◌, ◌<◌}
use Rattle.program.specs.HashedLegacy.{LegacyResult}
use Rattle.std.proofs.Common.{arith, ◌∙◌}
use Rattle.std.specs.Prelude.{◌≡◌, Bool, ◌&&◌, not, List, length, take, drop, get_or, ltb, Ok, Err, Result, Option, Some, None}
use Rattle.std.proofs.Math.Path.{refl}
use Rattle.std.proofs.Math.Bool.{true, false}
use Rattle.std.proofs.Math.Dec.{eqb}
use borrow.Author.Tests.{eq-eqb, ne_eqb}
use Rattle.ebpf.specs.Choice.{◌if◌else◌}
use Rattle.ebpf.specs.Instructions.{insn_at}
use Rattle.ebpf.specs.declared.Insn.{Insn}
use Rattle.std.specs.Prelude.{Option, Some, None}
use Rattle.program.specs.declared.FunctionName.TheVariants.{OfIndex}
use Rattle.loader.specs.declared.error.ElfError.TheVariants.{RelativeJumpOutOfBounds, SymbolHashCollision}
use Rattle.loader.specs.declared.deeds.Deed.{Deed}
use Rattle.loader.specs.declared.deeds.Deed.TheVariants.{Skip, Register}
use Rattle.loader.specs.declared.validate.Job.{Job}
use Rattle.loader.specs.declared.error.ElfError.{ElfError}
use Rattle.loader.specs.Functions.{row_for}
use Rattle.loader.specs.Trace.{Trace, each}
use Rattle.loader.specs.Deeds.{deed_trace}

-- a target among `count` slots, of the call in slot number i
unfoldable pub inside : ℕ → ℕ → ℕ → Result ℕ ElfError
inside count i to = Ok to if ltb to count else Err (RelativeJumpOutOfBounds i)

-- own index + 1 + the signed immediate: n from 2 ^ 31 on stands for n − 2 ^ 32
unfoldable pub target : ℕ → ℕ → ℕ → Result ℕ ElfError
target count i imm =
    inside count i (i + 1 + imm) if ltb imm 0x8000_0000 else
    Err (RelativeJumpOutOfBounds i) if ltb (i + 1 + imm) 0x1_0000_0000 else
    inside count i (i + 1 + imm - 0x1_0000_0000)

-- a call whose immediate is a key in the image: opcode 0x85, in version 2 source not 0
unfoldable pub calls_key : Bool → Insn → Bool
calls_key version2 insn = eqb insn.opc 0x85 && not (version2 && eqb insn.src 0)

-- a local call: opcode 0x85, immediate not −1, in version 2 source not 0
unfoldable pub is_local_call : Bool → Insn → Bool
is_local_call version2 insn = eqb insn.opc 0x85 && (not (eqb insn.imm 0xffff_ffff) && not (version2 && eqb insn.src 0))

-- what is called, if anything
abbrev pub calls : Result ℕ ElfError → Result (Option ℕ) ElfError
calls (Ok to) = Ok (Some to)
calls (Err r) = Err r

unfoldable pub call_of : ℕ → Bool → ℕ → Insn → Result (Option ℕ) ElfError
call_of count version2 i insn = calls (target count i insn.imm) if is_local_call version2 insn else Ok None

abbrev pub local_call_in : Bool → Option Insn → Bool
local_call_in version2 None = false
local_call_in version2 (Some insn) = is_local_call version2 insn

abbrev pub call_in : ℕ → Bool → ℕ → Option Insn → Result (Option ℕ) ElfError
call_in count version2 i None = Ok None
call_in count version2 i (Some insn) = call_of count version2 i insn

-- what slot number i of a text calls
unfoldable pub call_at : List ℕ → Bool → ℕ → Result (Option ℕ) ElfError
call_at text version2 i = call_in (length text / 8) version2 i (insn_at text i)

-- the text's bytes in the file, and its whole slots
abbrev pub text_of : List ℕ → Job → List ℕ
text_of file j = take j.text.length (drop j.text.start file)

abbrev pub slot_count : Job → ℕ
slot_count j = j.text.length / 8

-- the place of a slot's immediate
abbrev pub immediate : Job → ℕ → ℕ
immediate j i = j.text.start + 8 * i + 4

abbrev pub call_row : ℕ → LegacyResult → Result Deed ElfError
call_row at (Ok row) = Ok (Register row at)
call_row at (Err taken) = Err (SymbolHashCollision taken.key)

abbrev pub call_by : List ℕ → Job → ℕ → Result (Option ℕ) ElfError → Result Deed ElfError
call_by builtins j i (Ok None) = Ok Skip
call_by builtins j i (Err r) = Err r
call_by builtins j i (Ok (Some index)) = call_row (immediate j i) (row_for builtins j OfIndex index)

-- what a load does about slot number i
unfoldable pub call_deed : List ℕ → List ℕ → Job → ℕ → Result Deed ElfError
call_deed file builtins j i = call_by builtins j i (call_at (text_of file j) j.version2 i)

unfoldable pub slot_trace : List ℕ → List ℕ → Job → ℕ → List ℕ → Trace
slot_trace file builtins j i im = deed_trace (call_deed file builtins j i) im

-- THE CALLS' PART OF A LOAD
abbrev pub calls_trace : List ℕ → List ℕ → Job → List ℕ → Trace
calls_trace file builtins j im = each (slot_trace file builtins j) (slot_count j) 0 im

-- ---- slots passed over without a look at more than their opcode

-- the first of n slots of a text, from number i on, whose opcode is a call's; the one behind them where none is
unfoldable pub next_call : List ℕ → ℕ → ℕ → ℕ
next_call text zero i = i
next_call text (suc n) i = i if eqb (get_or text (8 * i) 0) 0x85 else next_call text n (i + 1)

-- what a search among these n slots answers: the number of that one, or that there is none
abbrev pub Among : List ℕ → ℕ → ℕ → Option ℕ → Type 0
Among text n i None = next_call text n i ≡ i + n
Among text n i (Some at) = (at < i + n) × (next_call text n i ≡ at)

-- in the form that the loop's proof needs
module _ (text : List ℕ) (i : ℕ) where
  pub call_here : (n : ℕ) → 0 < n → get_or text (8 * i) 0 ≡ 0x85 → next_call text n i ≡ i
  unfolding next_call ◌if◌else◌
  call_here zero h e = absurd (omega arith)
  call_here (suc n) h e = let b : eqb (get_or text (8 * i) 0) 0x85 ≡ true = eq-eqb _ _ e in rw b

  pub call_later : (n m k : ℕ) → n ≡ suc m → k ≡ i + 1 → (get_or text (8 * i) 0 ≡ 0x85 → ⊥) → next_call text n i ≡ next_call text m k
  unfolding next_call ◌if◌else◌
  call_later n m k h q e = let b : eqb (get_or text (8 * i) 0) 0x85 ≡ false = ne_eqb _ _ e in rw (h, q, b)

  pub call_none : (n : ℕ) → n ≤ 0 → next_call text n i ≡ i
  unfolding next_call
  call_none zero h = refl
  call_none (suc n) h = absurd (omega arith)

-- the search goes on from what it found among the first n
pub next_again : (text : List ℕ) (n m i : ℕ) → next_call text (n + m) i ≡ next_call text (i + n + m - next_call text n i) (next_call text n i)
unfolding next_call ◌if◌else◌
next_again text zero m i = let e : i + 0 + m - i ≡ 0 + m = omega arith in rw e refl
next_again text (suc n) m i = go (eqb (get_or text (8 * i) 0) 0x85) refl (next_again text n m (i + 1))
  where
    go : (b : Bool) → eqb (get_or text (8 * i) 0) 0x85 ≡ b
        → next_call text (n + m) (i + 1) ≡ next_call text (i + 1 + n + m - next_call text n (i + 1)) (next_call text n (i + 1))
        → next_call text (suc n + m) i ≡ next_call text (i + suc n + m - (i if b else next_call text n (i + 1))) (i if b else next_call text n (i + 1))
    go true e rec = let k : i + suc n + m - i ≡ suc n + m = omega arith in rw k refl
    go false e rec =
        let k : i + suc n + m ≡ i + 1 + n + m = omega arith in
        let q : suc n + m ≡ suc (n + m) = omega arith in
        rw (q, e, k) rec

-- it stops among the first n, or goes on behind them
pub next_first : (text : List ℕ) (n m i : ℕ) → next_call text n i < i + n → next_call text (n + m) i ≡ next_call text n i
unfolding next_call ◌if◌else◌
next_first text zero m i h = absurd (omega arith)
next_first text (suc n) m i h = go (eqb (get_or text (8 * i) 0) 0x85) refl h (next_first text n m (i + 1))
  where
    go : (b : Bool) → eqb (get_or text (8 * i) 0) 0x85 ≡ b
        → (i if b else next_call text n (i + 1)) < i + suc n
        → (next_call text n (i + 1) < i + 1 + n → next_call text (n + m) (i + 1) ≡ next_call text n (i + 1))
        → next_call text (suc n + m) i ≡ (i if b else next_call text n (i + 1))
    go true e h rec = let q : suc n + m ≡ suc (n + m) = omega arith in rw (q, e) refl
    go false e h rec = let q : suc n + m ≡ suc (n + m) = omega arith in rw (q, e) (rec (omega arith))

pub next_behind : (text : List ℕ) (n m i : ℕ) → next_call text n i ≡ i + n → next_call text (n + m) i ≡ next_call text m (i + n)
next_behind text n m i e = next_again text n m i ∙ (let k : i + n + m - (i + n) ≡ m = omega arith in rw (e, k) refl)
