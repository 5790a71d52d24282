-- A local call's target is one of the text's slots, and its row has the index's key. Assumes nothing.
use Prim.Native.Nat.{ℕ, ◌+◌, ◌-◌, ◌/◌, ◌^◌, ◌≤◌, ◌<◌}
use native.Mathlib.Omega.{arith}
use mathlib.Core.Path.{◌≡◌, sym, ◌∙◌, ap}
use mathlib.Core.Bool.{Bool, true, false, true≢false}
use mathlib.Core.List.{List}
use lib.ListN.{length, drop, length-take, length-drop}
use lib.Dec.{ltb}
use Rattle.std.specs.Prelude.{Ok}
use Rattle.ebpf.specs.Choice.{◌if◌else◌, row_cases}
use Rattle.ebpf.specs.Instructions.{insn_at}
use Rattle.ebpf.specs.declared.Insn.{Insn}
use Rattle.std.specs.Prelude.{Option, Some, None}
use Rattle.ebpf.proofs.Injective.{key_lt}
use Rattle.program.specs.declared.Row.{Row}
use Rattle.program.specs.declared.FunctionName.TheVariants.{OfIndex}
use Rattle.program.proofs.Cases.{by_test, by_lt, zero_one}
use Rattle.loader.specs.declared.validate.Job.{Job}
use Rattle.std.specs.Prelude.{Some, None, Ok, Err, Result}
use Rattle.loader.specs.declared.error.ElfError.{ElfError}
use Rattle.loader.specs.declared.error.ElfError.TheVariants.{RelativeJumpOutOfBounds}
use Rattle.elf_parser.specs.Errors.{apart}
use Rattle.loader.specs.Functions.{row_for}
use Rattle.loader.specs.Calls.{inside, target, call_of, local_call_in, call_in, call_at, text_of, slot_count, calls}
use Rattle.loader.specs.Demand.{LocalCall, CallsTo, key_of}
use Rattle.loader.proofs.Rowing.{row_is, call_key}

-- ---- a target is a slot

inside_lt : (count i u to : ℕ) → inside count i u ≡ Ok to → to < count
unfolding inside ◌if◌else◌
inside_lt count i u to = by_lt u count (λ (b : Bool). (Ok u if b else Err (RelativeJumpOutOfBounds i)) ≡ Ok to → to < count)
    (λ l e. let s : u ≡ to = cc in omega arith)
    (λ l e. absurd (zero_one (cc)))

inside_not : (count i u : ℕ) (r : ElfError) → inside count i u ≡ Err r → RelativeJumpOutOfBounds i ≡ r
unfolding inside ◌if◌else◌
inside_not count i u r = by_lt u count (λ (b : Bool). (Ok u if b else Err (RelativeJumpOutOfBounds i)) ≡ Err r → RelativeJumpOutOfBounds i ≡ r)
    (λ l e. absurd (zero_one (cc)))
    (λ l e. cc)

-- what holds of a target inside, and of one outside, holds of every target
target_by : (P : Result ℕ ElfError → Type 0) (count i imm : ℕ) → ((u : ℕ) → P (inside count i u)) → P (Err (RelativeJumpOutOfBounds i)) → P (target count i imm)
unfolding target ◌if◌else◌
target_by P count i imm p q =
    by_test (ltb imm 0x8000_0000)
    (λ (b : Bool). P (inside count i (i + 1 + imm) if b else Err (RelativeJumpOutOfBounds i) if ltb (i + 1 + imm) 0x1_0000_0000 else inside count i (i + 1 + imm - 0x1_0000_0000)))
    (λ h. p (i + 1 + imm))
    (λ h. by_test (ltb (i + 1 + imm) 0x1_0000_0000)
    (λ (b : Bool). P (Err (RelativeJumpOutOfBounds i) if b else inside count i (i + 1 + imm - 0x1_0000_0000)))
    (λ g. q)
    (λ g. p (i + 1 + imm - 0x1_0000_0000)))

target_lt : (count i imm to : ℕ) → target count i imm ≡ Ok to → to < count
target_lt count i imm to = target_by (λ x. x ≡ Ok to → to < count) count i imm (λ u. inside_lt count i u to) (λ e. absurd (apart _ _ e))

target_not : (count i imm : ℕ) (r : ElfError) → target count i imm ≡ Err r → RelativeJumpOutOfBounds i ≡ r
target_not count i imm r = target_by (λ x. x ≡ Err r → RelativeJumpOutOfBounds i ≡ r) count i imm (λ u. inside_not count i u r) (λ e. cc)

some_called : (x : Result ℕ ElfError) (to : ℕ) → calls x ≡ Ok (Some to) → x ≡ Ok to
some_called (Ok n) to e = let s : n ≡ to = cc in ap Ok s
some_called (Err r) to e = absurd (apart _ _ e)

not_called : (x : Result ℕ ElfError) → calls x ≡ Ok None → ⊥
not_called (Ok n) e = zero_one (cc)
not_called (Err r) e = apart _ _ e

none_called : (x : Result ℕ ElfError) (r : ElfError) → calls x ≡ Err r → x ≡ Err r
none_called (Ok n) r e = absurd (zero_one (cc))
none_called (Err s) r e = let p : s ≡ r = cc in ap Err p

in_lt : (count : ℕ) (version2 : Bool) (i to : ℕ) (s : Option Insn) → call_in count version2 i s ≡ Ok (Some to) → to < count
unfolding call_of
in_lt count version2 i to None e = absurd (zero_one (cc))
in_lt count version2 i to (Some insn) e = target_lt count i insn.imm to (some_called _ to (row_cases _ _ _ _ _ (λ h q. q) (λ h q. absurd (zero_one (cc))) e))

in_not : (count : ℕ) (version2 : Bool) (i : ℕ) (r : ElfError) (s : Option Insn) → call_in count version2 i s ≡ Err r → RelativeJumpOutOfBounds i ≡ r
unfolding call_of
in_not count version2 i r None e = absurd (zero_one (cc))
in_not count version2 i r (Some insn) e = target_not count i insn.imm r (none_called _ r (row_cases _ _ _ _ _ (λ h q. q) (λ h q. absurd (zero_one (cc))) e))

-- what calls a target is a local call, and a local call calls something
local_in : (count : ℕ) (version2 : Bool) (i to : ℕ) (s : Option Insn) → call_in count version2 i s ≡ Ok (Some to) → local_call_in version2 s ≡ true
unfolding call_of
local_in count version2 i to None e = absurd (zero_one (cc))
local_in count version2 i to (Some insn) e = row_cases _ _ _ _ _ (λ h q. h) (λ h q. absurd (zero_one (cc))) e

some_in : (count : ℕ) (version2 : Bool) (i : ℕ) (s : Option Insn) → local_call_in version2 s ≡ true → call_in count version2 i s ≡ Ok None → ⊥
unfolding call_of ◌if◌else◌
some_in count version2 i None h e = true≢false (sym h)
some_in count version2 i (Some insn) h e = not_called (target count i insn.imm) (rw h at e)

-- a call whose target is outside is refused as one
pub outside_is : (text : List ℕ) (version2 : Bool) (i : ℕ) (r : ElfError) → call_at text version2 i ≡ Err r → RelativeJumpOutOfBounds i ≡ r
unfolding call_at
outside_is text version2 i r e = in_not (length text / 8) version2 i r (insn_at text i) e

pub calls_local : (file : List ℕ) (j : Job) (i to : ℕ) → CallsTo file j i to → LocalCall file j i
unfolding call_at
calls_local file j i to c = (c.0, local_in (length (text_of file j) / 8) j.version2 i to (insn_at (text_of file j) i) c.1)

pub local_calls : (file : List ℕ) (j : Job) (i : ℕ) → LocalCall file j i → call_at (text_of file j) j.version2 i ≡ Ok None → ⊥
unfolding call_at
local_calls file j i c e = some_in (length (text_of file j) / 8) j.version2 i (insn_at (text_of file j) i) c.1 e

pub to_slot : (text : List ℕ) (version2 : Bool) (i to : ℕ) → call_at text version2 i ≡ Ok (Some to) → to < length text / 8
unfolding call_at
to_slot text version2 i to e = in_lt (length text / 8) version2 i to (insn_at text i) e

-- a target is one of the job's slots
pub to_in : (file : List ℕ) (j : Job) (i to : ℕ) → CallsTo file j i to → to < slot_count j
to_in file j i to c = omega (arith, to_slot (text_of file j) j.version2 i to c.1, length-take j.text.length (drop j.text.start file))

-- a file's target takes few bits
pub to_small : (file : List ℕ) (j : Job) (i to : ℕ) → length file ≤ 2 ^ 24 → CallsTo file j i to → to < 2 ^ 24
to_small file j i to short c =
    omega (arith, to_slot (text_of file j) j.version2 i to c.1, length-take j.text.length (drop j.text.start file), length-drop j.text.start file)

-- ---- keys of indices

pub key_word : (version2 : Bool) (index : ℕ) → index < 2 ^ 32 → key_of version2 index < 2 ^ 32
unfolding key_of ◌if◌else◌
key_word true index h = h
key_word false index h = key_lt index

-- the row of a local call's target
pub row_key : (builtins : List ℕ) (j : Job) (index : ℕ) (row : Row) → row_for builtins j OfIndex index ≡ Ok row → row.key ≡ key_of j.version2 index
row_key builtins j index row e = (row_is builtins j OfIndex index row e).0 ∙ call_key j.version2 index
