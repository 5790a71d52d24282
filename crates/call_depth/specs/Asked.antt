-- The question about a load already made: its answer, and its image and table. On every input, an answer too that no load gave.
use Rattle.std.specs.Prelude.{ℕ, ◌+◌, Bool, ◌&&◌, ◌||◌, not, List, length, take, drop, ltb, leb, eqb, Result, Ok, Err}
use Rattle.ebpf.specs.Choice.{◌if◌else◌}
use Rattle.program.specs.Search.{index_of}
use Rattle.call_graph.specs.Profile.{Depth}
use Rattle.call_graph.specs.Answer.{depth_of}
use Rattle.loader.specs.declared.error.ElfError.{ElfError}
use Rattle.loader.specs.declared.answer.Accepted.{Accepted}
use Rattle.loader.specs.declared.error.ElfError.TheVariants.{BufferShort, ValueOutOfBounds}
use Rattle.call_depth.specs.declared.error.CallDepthError.{CallDepthError}
use Rattle.call_depth.specs.declared.error.CallDepthError.TheVariants.{RecursiveCall, TooDeep, Refused}
use Rattle.call_depth.specs.Called.{profile_in}

-- the chain, or why there is none
abbrev pub CallDepth : Type 0
CallDepth = Result ℕ CallDepthError

-- a limit from 1 to 64; any other is read as 64
unfoldable pub limit_of : ℕ → ℕ
limit_of limit = 64 if eqb limit 0 || ltb 64 limit else limit

-- 50, with the smallest index; 51, with the chain; or the chain
abbrev pub limited : ℕ → Depth → CallDepth
limited limit (Err r) = Err (RecursiveCall r.index)
limited limit (Ok d) = Err (TooDeep d) if ltb limit d else Ok d

-- by the text's bytes in the image and the used rows; refused where no row has the entry's index
unfoldable pub depth_in : List ℕ → List ℕ → List ℕ → Bool → ℕ → ℕ → CallDepth
depth_in text keys indices version2 entry limit =
    Err (Refused ValueOutOfBounds) if leb (length indices) (index_of entry indices) else
    limited (limit_of limit) (depth_of (profile_in text keys indices version2) entry)

-- what every accepted load keeps to: the used rows are among those lent, and the text stands in the image and is no longer than a file
unfoldable pub fits_in : ℕ → ℕ → ℕ → ℕ → ℕ → Bool
fits_in rows len used start n = (leb used rows && ltb used 0x4000_0000) && (leb n 0x100_0000 && not (ltb len (start + n)))

-- by an accepted load's answer, with `work` numbers lent and so many rows
unfoldable pub depth_by : ℕ → ℕ → List ℕ → List ℕ → List ℕ → Accepted → ℕ → CallDepth
depth_by work rows image keys indices a limit =
    Err (Refused BufferShort) if ltb work rows else
    Err (Refused ValueOutOfBounds) if not (fits_in rows (length image) a.used a.text.start a.text.length) else
    depth_in (take a.text.length (drop a.text.start image)) (take a.used keys) (take a.used indices) (eqb a.version 2) a.entry limit

-- HOW DEEP THE PROFILE CALLS, by a load's answer
abbrev pub depth_asked : ℕ → ℕ → List ℕ → List ℕ → List ℕ → Result Accepted ElfError → ℕ → CallDepth
depth_asked work rows image keys indices (Err r) limit = Err (Refused r)
depth_asked work rows image keys indices (Ok a) limit = depth_by work rows image keys indices a limit
