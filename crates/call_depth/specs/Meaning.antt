-- What the answers say of an accepted load, in the words of the request.
use Rattle.std.specs.Prelude.{ℕ, ◌≤◌, ◌<◌, ◌≡◌, true, List, take, drop, eqb, Some, Result, Ok, Err}
use Rattle.ebpf.specs.Instructions.{insn_at}
use Rattle.ebpf.specs.declared.Insn.{Insn}
use Rattle.program.specs.Table.{Slices, lookup_in}
use Rattle.call_graph.specs.Ways.{Longest, Smallest}
use Rattle.call_graph.specs.Profile.{Profile, CallsFunction, next_above}
use Rattle.loader.specs.declared.error.ElfError.{ElfError}
use Rattle.loader.specs.declared.answer.Accepted.{Accepted}
use Rattle.loader.specs.Demand.{Finds}
use Rattle.call_depth.specs.declared.error.CallDepthError.TheVariants.{RecursiveCall, TooDeep, Refused}
use Rattle.loader.specs.Calls.{calls_key}
use Rattle.call_depth.specs.Called.{slots_in, profile_in}
use Rattle.call_depth.specs.Asked.{CallDepth, limit_of}

-- the text's bytes in an image, and the indices of the used rows of a table
abbrev pub text_of_image : Accepted → List ℕ → List ℕ
text_of_image a im = take a.text.length (drop a.text.start im)

abbrev pub used_indices : Accepted → Slices → List ℕ
used_indices a t = take a.used t.indices

-- the functions of a load and their calls, by its answer, image and table
abbrev pub profile_after : Accepted → List ℕ → Slices → Profile
profile_after a im t = profile_in (text_of_image a im) (take a.used t.keys) (used_indices a t) (eqb a.version 2)

-- slot number s of the image calls the function at j: its opcode is 0x85, its source is not 0 in version 2, and its immediate is a key that finds j
abbrev pub SlotCalls : Accepted → List ℕ → Slices → ℕ → ℕ → Type 0
SlotCalls a im t s j = (insn : Insn) × (insn_at (text_of_image a im) s ≡ Some insn) × (calls_key (eqb a.version 2) insn ≡ true) × Finds (lookup_in t a.used) insn.imm j

-- a function owns the slots from its index up to the next larger index of a row, or the text's end
abbrev pub Owns : Accepted → List ℕ → Slices → ℕ → ℕ → Type 0
Owns a im t i s = (i ≤ s) × (s < next_above i (slots_in (text_of_image a im)) (used_indices a t))

-- the function at i calls the function at j
abbrev pub FunctionCalls : Accepted → List ℕ → Slices → ℕ → ℕ → Type 0
FunctionCalls a im t i j = (s : ℕ) × Owns a im t i s × SlotCalls a im t s j

-- WHAT AN ANSWER MEANS, from the entry e by the relation 'calls' R: there is a chain of d functions and none is longer, within the limit or past it; or i is
-- the smallest index that is reached and reaches itself
abbrev pub Means : (ℕ → ℕ → Type 0) → ℕ → ℕ → CallDepth → Type 0
Means R e limit (Ok d) = Longest R e d × (d ≤ limit)
Means R e limit (Err (TooDeep d)) = Longest R e d × (limit < d)
Means R e limit (Err (RecursiveCall i)) = Smallest R e i
Means R e limit (Err (Refused r)) = ⊥

-- the same of an answer that may be a refusal, of which it says nothing
abbrev pub MeansUnlessRefused : (ℕ → ℕ → Type 0) → ℕ → ℕ → CallDepth → Type 0
MeansUnlessRefused R e limit (Ok d) = Longest R e d × (d ≤ limit)
MeansUnlessRefused R e limit (Err (TooDeep d)) = Longest R e d × (limit < d)
MeansUnlessRefused R e limit (Err (RecursiveCall i)) = Smallest R e i
MeansUnlessRefused R e limit (Err (Refused r)) = Unit {0}

-- by a load's answer, on any image and table: calls find their row by the binary search
abbrev pub MeansAsked : Result Accepted ElfError → List ℕ → Slices → ℕ → CallDepth → Type 0
MeansAsked (Ok a) im t limit x = MeansUnlessRefused (CallsFunction (profile_after a im t)) a.entry (limit_of limit) x
MeansAsked (Err r) im t limit x = Unit {0}
