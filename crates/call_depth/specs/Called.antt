-- Which function a slot of the image calls: by the text's bytes in the image, and the columns of keys and indices of the used rows.
use Rattle.std.specs.Prelude.{ℕ, ◌/◌, ◌<◌, ◌≡◌, Bool, true, false, List, length, get_or, Option, Some, None, Result, Ok, Err}
use denote.Triple.Both.{Both}
use Rattle.ebpf.specs.Choice.{◌if◌else◌}
use Rattle.ebpf.specs.Instructions.{insn_at}
use Rattle.ebpf.specs.declared.Insn.{Insn}
use Rattle.program.specs.Table.{row_ascending_in}
use Rattle.loader.specs.Calls.{calls_key}
use Rattle.call_graph.specs.Profile.{Profile, next_above, nth_of}
use Rattle.call_graph.specs.Words.{Scan, RowTried}
use Rattle.call_depth.specs.declared.profile.Profile.{Profile as LentProfile}

-- the number of a row, or of all rows where none was found
abbrev pub row_or : ℕ → Option ℕ → ℕ
row_or rows (Some r) = r
row_or rows None = rows

-- the row that a slot calls, if it is a call and its key finds one
abbrev pub callee_by : List ℕ → Bool → Option Insn → Option ℕ
callee_by keys version2 None = None
callee_by keys version2 (Some insn) = row_ascending_in keys (length keys) insn.imm if calls_key version2 insn else None

-- the row that slot number s calls; as many as there are rows where it is no call, or its key finds none
unfoldable pub callee_in : List ℕ → List ℕ → Bool → ℕ → ℕ
callee_in text keys version2 s = row_or (length keys) (callee_by keys version2 (insn_at text s))

-- the row that slot number s calls, of so many: none where it is as many as there are
abbrev pub Calls : (ℕ → ℕ) → ℕ → ℕ → Option ℕ → Type 0
Calls callee rows s None = rows ≡ callee s
Calls callee rows s (Some r) = (r ≡ callee s) × (r < rows)

-- whole slots
abbrev pub slots_in : List ℕ → ℕ
slots_in text = length text / 8

-- THE FUNCTIONS AND THEIR CALLS: a function is an index of a row; it owns the slots from there up to the next larger index of a row, or the text's end
abbrev pub profile_in : List ℕ → List ℕ → List ℕ → Bool → Profile
profile_in text keys indices version2 = record {
  rows = length indices;
  index = nth_of indices;
  end = λ i. next_above i (slots_in text) indices;
  callee = callee_in text keys version2;
}

-- that of the lent slices: in a `requires`, and in an `ensures`
abbrev pub profile_now : LentProfile → Profile
profile_now p = profile_in p.text.now p.keys.now p.indices.now p.version2

abbrev pub profile_of : Both LentProfile LentProfile → Profile
profile_of p = profile_now p.entry

-- what the numbers lent keep to
pub record WorkLent (text indices w : List ℕ) : Type 0 where
  pub long : length w ≡ length indices
  pub slots : slots_in text < 0x4000_0000
  pub rows : length indices < 0x4000_0000

-- a scan's answer: 1 and the largest depth, or a row that a slot calls and that is not settled
abbrev pub Scanned : (ℕ → ℕ) → ℕ → List ℕ → ℕ → ℕ → Result ℕ ℕ → Type 0
Scanned callee rows w from end (Ok d) = Scan callee w from end d × (0 < d)
Scanned callee rows w from end (Err r) = Scan callee w from end 0 × (r < rows)

-- a row tried that was not settled: it is settled now, or waits for a row
abbrev pub Tried : Profile → List ℕ → List ℕ → ℕ → Option ℕ → Type 0
Tried P w w' r None = RowTried P w w' r true
Tried P w w' r (Some called) = RowTried P w w' r false × (called < P.rows)

-- rows that wait: as many numbers as at first, each of which is a row
pub record Waiting (P : Profile) (w : List ℕ) : Type 0 where
  pub long : length w ≡ 1024
  pub below : (k : ℕ) → get_or w k 0 < P.rows
