-- Worked examples, each by computation.
use Rattle.std.specs.Prelude.{ℕ, true, false, List, [], ◌∷◌, ◌++◌, ◌≡◌, refl, Ok, Err}
use Rattle.ebpf.specs.Choice.{◌if◌else◌}
use Rattle.ebpf.specs.Instructions.{slot_at, insn_at}
use Rattle.ebpf.specs.LittleEndian.{le, bytes_of}
use Rattle.program.specs.Search.{narrowed, binary_search}
use Rattle.program.specs.Table.{number_at, row_ascending_in}
use Rattle.call_graph.specs.Answer.{depth_of}
use Rattle.loader.specs.declared.answer.Accepted.{Accepted}
use Rattle.loader.specs.declared.deeds.Deed.TheVariants.{Key}
use Rattle.loader.specs.declared.error.ElfError.TheVariants.{WrongAbi, BufferShort, ValueOutOfBounds}
use Rattle.loader.specs.Bytes.{put}
use Rattle.loader.specs.Deeds.{written}
use Rattle.call_depth.specs.declared.error.CallDepthError.TheVariants.{RecursiveCall, TooDeep, Refused}
use Rattle.loader.specs.Calls.{calls_key}
use Rattle.call_depth.specs.Called.{callee_in}
use Rattle.call_depth.specs.Asked.{CallDepth, limit_of, depth_in, fits_in, depth_by, depth_asked}

-- slots: a call by a key, with source 1 or 0, and an exit
abbrev call : ℕ → List ℕ
call key = 0x85 ∷ 16 ∷ 0 ∷ 0 ∷ bytes_of 4 key

abbrev near : ℕ → List ℕ
near key = 0x85 ∷ 0 ∷ 0 ∷ 0 ∷ bytes_of 4 key

abbrev exit : List ℕ
exit = 0x95 ∷ 0 ∷ 0 ∷ 0 ∷ 0 ∷ 0 ∷ 0 ∷ 0 ∷ []

-- functions at 0, 1 and 2 of a version 2 text, where keys are indices, from the entry 0
abbrev three : List ℕ
three = 0 ∷ 1 ∷ 2 ∷ []

abbrev deep : List ℕ → ℕ → CallDepth
deep text limit = depth_in text three three true 0 limit

-- a lone entry, and one beside others that it does not call
lone : depth_in exit (0 ∷ []) (0 ∷ []) true 0 64 ∷ deep (exit ++ exit ++ exit) 1 ∷ [] ≡ Ok 1 ∷ Ok 1 ∷ []
unfolding depth_in limit_of depth_of callee_in calls_key row_ascending_in number_at binary_search narrowed insn_at slot_at le bytes_of ◌if◌else◌
lone = refl

-- 0 calls 1 and 1 calls 2: the limits 3 and 2, and 0 and 65, which are read as 64
chain : deep (call 1 ++ call 2 ++ exit) 3 ∷ deep (call 1 ++ call 2 ++ exit) 2 ∷ deep (call 1 ++ call 2 ++ exit) 0 ∷ deep (call 1 ++ call 2 ++ exit) 65 ∷ []
    ≡ Ok 3 ∷ Err (TooDeep 3) ∷ Ok 3 ∷ Ok 3 ∷ []
unfolding depth_in limit_of depth_of callee_in calls_key row_ascending_in number_at binary_search narrowed insn_at slot_at le bytes_of ◌if◌else◌
chain = refl

-- 0 calls itself; 0 calls 1, which calls itself; 0 calls 2, 2 calls 1 and 1 calls 2, at a limit that a chain passes too
itself : deep (call 0 ++ exit ++ exit) 64 ∷ deep (call 1 ++ call 1 ++ exit) 64 ∷ deep (call 2 ++ call 2 ++ call 1) 1 ∷ [] ≡ Err (RecursiveCall 0) ∷ Err (RecursiveCall 1) ∷ Err (RecursiveCall 1) ∷ []
unfolding depth_in limit_of depth_of callee_in calls_key row_ascending_in number_at binary_search narrowed insn_at slot_at le bytes_of ◌if◌else◌
itself = refl

-- 1 and 2 call each other, and the entry calls neither
not_reached : deep (exit ++ call 2 ++ call 1) 64 ≡ Ok 1
unfolding depth_in limit_of depth_of callee_in calls_key row_ascending_in number_at binary_search narrowed insn_at slot_at le bytes_of ◌if◌else◌
not_reached = refl

-- a built-in's key, which finds no row; source 0, which is no call in version 2 and is one in version 1
no_call : deep (call 0x1234_5678 ++ exit ++ exit) 64 ∷ deep (near 1 ++ exit ++ exit) 64 ∷ depth_in (near 1 ++ exit ++ exit) three three false 0 64 ∷ [] ≡ Ok 1 ∷ Ok 1 ∷ Ok 2 ∷ []
unfolding depth_in limit_of depth_of callee_in calls_key row_ascending_in number_at binary_search narrowed insn_at slot_at le bytes_of ◌if◌else◌
no_call = refl

-- the entry owns two slots up to the function at 2; with the entry at 1, slot 0 is nobody's
owned : depth_in (exit ++ call 2 ++ exit) (0 ∷ 2 ∷ []) (0 ∷ 2 ∷ []) true 0 64 ∷ depth_in (call 1 ++ exit ++ exit) (1 ∷ 2 ∷ []) (1 ∷ 2 ∷ []) true 1 64 ∷ [] ≡ Ok 2 ∷ Ok 1 ∷ []
unfolding depth_in limit_of depth_of callee_in calls_key row_ascending_in number_at binary_search narrowed insn_at slot_at le bytes_of ◌if◌else◌
owned = refl

-- version 1: the keys 5 and 9 have rows with the index 0, which is one function, and 7 one with the index 1: 0 calls 1; and 1 calls 0 by its other key
two_rows : depth_in (call 7 ++ exit) (5 ∷ 7 ∷ 9 ∷ []) (0 ∷ 1 ∷ 0 ∷ []) false 0 64 ∷ depth_in (call 7 ++ call 9) (5 ∷ 7 ∷ 9 ∷ []) (0 ∷ 1 ∷ 0 ∷ []) false 0 64 ∷ []
    ≡ Ok 2 ∷ Err (RecursiveCall 0) ∷ []
unfolding depth_in limit_of depth_of callee_in calls_key row_ascending_in number_at binary_search narrowed insn_at slot_at le bytes_of ◌if◌else◌
two_rows = refl

-- a call without a target in the file, whose key a relocation writes into the image
abbrev unwritten : List ℕ
unwritten = call 0xffff_ffff ++ exit ++ exit

relocated : deep unwritten 64 ∷ deep (written (Ok (Key 4 2)) unwritten) 64 ∷ [] ≡ Ok 1 ∷ Ok 2 ∷ []
unfolding depth_in limit_of depth_of callee_in calls_key row_ascending_in number_at binary_search narrowed insn_at slot_at le bytes_of put ◌if◌else◌
relocated = refl

-- an index at the text's end owns no slot; an uneven text has one whole slot less
edges : depth_in (call 1) (0 ∷ 1 ∷ []) (0 ∷ 1 ∷ []) true 0 64 ∷ depth_in (exit ++ 0x85 ∷ 16 ∷ 0 ∷ 0 ∷ 1 ∷ 0 ∷ 0 ∷ []) (0 ∷ 1 ∷ []) (0 ∷ 1 ∷ []) true 0 64 ∷ [] ≡ Ok 2 ∷ Ok 1 ∷ []
unfolding depth_in limit_of depth_of callee_in calls_key row_ascending_in number_at binary_search narrowed insn_at slot_at le bytes_of ◌if◌else◌
edges = refl

-- ---- by an answer: version, entry, used rows, and a text of 24 bytes from byte 8 on, in an image of 32 bytes and a table of 4 rows
abbrev answer_in : ℕ → ℕ → ℕ → ℕ → Accepted
answer_in version entry used start = record {
  version = version;
  entry = entry;
  used = used;
  moves = 0;
  ro_copied = false;
  ro_offset = 0;
  ro_start = 0;
  ro_length = 0;
  text_addr = 0x1_0000_0000;
  text = record { start = start; length = 24 };
}

abbrev answer : ℕ → ℕ → ℕ → Accepted
answer = answer_in 2

abbrev ask : ℕ → Accepted → CallDepth
ask work a = depth_asked work 4 (exit ++ call 1 ++ call 2 ++ exit) (0 ∷ 1 ∷ 2 ∷ 0 ∷ []) (0 ∷ 1 ∷ 2 ∷ 0 ∷ []) (Ok a) 64

-- a chain of 3; `work` shorter than the rows lent, though not than those used: 41; an entry without a row, more rows used than lent, a text past the image: 33
asked : ask 4 (answer 0 3 8) ∷ ask 3 (answer 0 3 8) ∷ ask 4 (answer 3 3 8) ∷ ask 4 (answer 0 5 8) ∷ ask 4 (answer 0 3 9) ∷ []
    ≡ Ok 3 ∷ Err (Refused BufferShort) ∷ Err (Refused ValueOutOfBounds) ∷ Err (Refused ValueOutOfBounds) ∷ Err (Refused ValueOutOfBounds) ∷ []
unfolding depth_by fits_in depth_in limit_of depth_of callee_in calls_key row_ascending_in number_at binary_search narrowed insn_at slot_at le bytes_of ◌if◌else◌
asked = refl

-- source 0, by an answer of version 1, 2 and 3: no call in version 2, and one in any other
abbrev ask_near : ℕ → CallDepth
ask_near version = depth_asked 4 4 (exit ++ near 1 ++ exit ++ exit) (0 ∷ 1 ∷ 2 ∷ 0 ∷ []) (0 ∷ 1 ∷ 2 ∷ 0 ∷ []) (Ok (answer_in version 0 3 8)) 64

versions : ask_near 1 ∷ ask_near 2 ∷ ask_near 3 ∷ [] ≡ Ok 2 ∷ Ok 1 ∷ Ok 2 ∷ []
unfolding depth_by fits_in depth_in limit_of depth_of callee_in calls_key row_ascending_in number_at binary_search narrowed insn_at slot_at le bytes_of ◌if◌else◌
versions = refl

-- a refused load's own refusal, whatever `work` is
refused : depth_asked 0 4 [] [] [] (Err WrongAbi) 64 ≡ Err (Refused WrongAbi)
refused = refl
