-- A whole load: its answer, and every lent byte and number afterwards.
use Rattle.std.specs.Prelude.{ℕ, ◌+◌, ◌-◌, ◌/◌, ◌≡◌, Bool, true, false, List, [], ◌++◌, length, replicate, Result, Ok, Err}
use Rattle.std.specs.Borrow.{Bor, MutBor}
use Rattle.ebpf.specs.Choice.{◌if◌else◌}
use Rattle.program.specs.declared.Row.{Row}
use Rattle.program.specs.Table.{Slices, Lent, Shared, capacity, lay}
use Rattle.loader.specs.declared.read_only.Placing.TheVariants.{Borrowed, Owned}
use Rattle.loader.specs.declared.read_only.Placing.{Placing}
use Rattle.loader.specs.declared.error.ElfError.{ElfError}
use Rattle.loader.specs.declared.answer.Accepted.{Accepted}
use Rattle.loader.specs.declared.validate.Config.{Config}
use Rattle.loader.specs.Deeds.{Held, holding}
use Rattle.loader.specs.Trace.{Settled, accepted, refused, settle}
use Rattle.loader.specs.Parts.{job_trace}
use Rattle.loader.specs.Validate.{prepared}
use Rattle.loader.specs.declared.validate.Job.{Job}
use Rattle.loader.specs.Calls.{slot_count}
use Rattle.loader.specs.InnerContracts.{Settles}
use Rattle.loader.specs.InFile.{InFile}
use Rattle.loader.specs.Labels.{label_count}
use Rattle.loader.specs.Relocations.{relocation_count}
use Rattle.elf_parser.specs.declared.layout.Layout.{Layout}
use Rattle.elf_parser.specs.Types.{file_header}
use Rattle.loader.specs.ReadOnly.{copied_from}

-- the registrations that a job may make, at most: of calls and relocations; of labels, with the entry's removal and registration
abbrev pub writing_count : Job → ℕ
writing_count j = slot_count j + relocation_count j

abbrev pub naming_count : List ℕ → Job → ℕ
naming_count file j = label_count file j + 2

abbrev pub all_count : List ℕ → Job → ℕ
all_count file j = writing_count j + naming_count file j

-- the outcome once all is registered: refused where the placing of the read-only sections is
abbrev pub placed_by : Result Placing ElfError → ℕ → ℕ → Result Held ElfError
placed_by (Ok (Borrowed offset start n)) used moves = holding used moves
placed_by (Ok (Owned offset lowest n)) used moves = holding used moves
placed_by (Err r) used moves = Err r

abbrev pub after_placing : Result Held ElfError → Result Placing ElfError → Result Held ElfError
after_placing (Ok held) p = placed_by p held.used held.moves
after_placing (Err r) p = Err r

-- every lent byte and number zero
pub record Cleared (im ro : List ℕ) (t : Slices) (im' ro' : List ℕ) (t' : Slices) : Type 0 where
  pub image : im' ≡ replicate (length im) 0
  pub readonly : ro' ≡ replicate (length ro) 0
  pub table : t' ≡ lay t []

-- the read-only bytes after a load with this image: the sections copied over `ro` where they are copied (the Rust's `Owned`), else `ro`
abbrev pub placed_bytes : List ℕ → Layout → Result Placing ElfError → List ℕ → List ℕ → List ℕ
placed_bytes file l (Ok (Owned offset lowest n)) im ro = copied_from im file l lowest (file_header file).e_shnum 0 ro
placed_bytes file l (Ok (Borrowed offset start n)) im ro = ro
placed_bytes file l (Err r) im ro = ro

-- where a load holds, its read-only bytes are these
abbrev pub HeldBytes : Result Held ElfError → List ℕ → List ℕ → Type 0
HeldBytes (Ok held) ro' ro = ro' ≡ ro
HeldBytes (Err r) ro' ro = Unit {0}

-- ---- the answer

-- of an accepted load, with the place of the read-only bytes
abbrev pub accepted_as : Job → Bool → ℕ → ℕ → ℕ → ℕ → ℕ → Accepted
accepted_as j copied offset start n used moves = record {
  version = 2 if j.version2 else 1;
  entry = (j.e_entry - j.sh_addr) / 8;
  used = used;
  moves = moves;
  ro_copied = copied;
  ro_offset = offset;
  ro_start = start;
  ro_length = n;
  text_addr = j.addr;
  text = j.text;
}

-- copied read-only bytes start at 0 in their buffer
abbrev pub answer_by : Job → Result Placing ElfError → ℕ → ℕ → Result Accepted ElfError
answer_by j (Ok (Borrowed offset start n)) used moves = Ok (accepted_as j false offset start n used moves)
answer_by j (Ok (Owned offset lowest n)) used moves = Ok (accepted_as j true offset 0 n used moves)
answer_by j (Err r) used moves = Err r

abbrev pub answer_for : Result Held ElfError → Job → Result Accepted ElfError
answer_for (Ok held) j = answer_by j j.placing held.used held.moves
answer_for (Err r) j = Err r

-- ---- what comes of a load

-- the answer, the relocated image, the whole read-only buffer and the rows; or a refusal
pub data Loading : Type 0 where
  holds : Accepted → List ℕ → List ℕ → List Row → Loading
  refuses : ElfError → Loading

-- after the last registration, by where the read-only sections go; where that refuses, the trace has stopped. The read-only bytes stay in the image, and
-- the buffer is zero; or they are copied over n zeros at the buffer's front, with zeros behind
abbrev pub held_by : List ℕ → Job → ℕ → Result Placing ElfError → List ℕ → List Row → ℕ → Loading
held_by file j m (Ok (Borrowed offset start n)) im rows moves =
    holds (accepted_as j false offset start n (length rows) moves) im (replicate m 0) rows
held_by file j m (Ok (Owned offset lowest n)) im rows moves =
    holds (accepted_as j true offset 0 n (length rows) moves) im (copied_from im file j.layout lowest (file_header file).e_shnum 0 (replicate n 0) ++ replicate (m - n) 0) rows
held_by file j m (Err r) im rows moves = refuses r

abbrev pub on_trace : List ℕ → Job → ℕ → Settled → Loading
on_trace file j m (accepted im rows moves) = held_by file j m j.placing im rows moves
on_trace file j m (refused r) = refuses r

abbrev pub on_prepared : List ℕ → List ℕ → ℕ → ℕ → Result Job ElfError → Loading
on_prepared file builtins m rows (Ok j) = on_trace file j m (settle rows (job_trace file builtins j file) [] 0)
on_prepared file builtins m rows (Err r) = refuses r

-- WHAT COMES OF A LOAD of a file, with n bytes lent for the image, m for the read-only bytes, and so many rows
unfoldable pub load_of : List ℕ → List ℕ → Config → ℕ → ℕ → ℕ → Loading
load_of file builtins c n m rows = on_prepared file builtins m rows (prepared file builtins c n m)

abbrev pub answer_of : Loading → Result Accepted ElfError
answer_of (holds a im ro rows) = Ok a
answer_of (refuses r) = Err r

-- ---- every lent byte and number afterwards

-- the image in n bytes: the relocated file and zeros
abbrev pub image_of : ℕ → Loading → List ℕ
image_of n (holds a im ro rows) = im ++ replicate (n - length im) 0
image_of n (refuses r) = replicate n 0

abbrev pub read_only_of : ℕ → Loading → List ℕ
read_only_of m (holds a im ro rows) = ro
read_only_of m (refuses r) = replicate m 0

abbrev pub rows_in : Loading → List Row
rows_in (holds a im ro rows) = rows
rows_in (refuses r) = []

-- DEMAND 1: the lent image, read-only buffer and table hold the whole content of an accepted load, or only zeros
pub record WholeOrZeros (x : Loading) (im ro : List ℕ) (t : Slices) (im' ro' : List ℕ) (t' : Slices) : Type 0 where
  pub image : im' ≡ image_of (length im) x
  pub readonly : ro' ≡ read_only_of (length ro) x
  pub table : t' ≡ lay t (rows_in x)

-- WHAT A LOAD LEAVES
pub record Loaded (x : Loading) (im ro : List ℕ) (t : Slices) (im' ro' : List ℕ) (t' : Slices) (a : Result Accepted ElfError) : Type 0 where
  pub answers : a ≡ answer_of x
  pub demand_1 : WholeOrZeros x im ro t im' ro' t'

-- the same, but after a refusal the lent slices may hold anything
abbrev pub Tried : Loading → List ℕ → List ℕ → Slices → List ℕ → List ℕ → Slices → Result Accepted ElfError → Type 0
Tried x im ro t im' ro' t' (Ok a) = Loaded x im ro t im' ro' t' (Ok a)
Tried x im ro t im' ro' t' (Err r) = x ≡ refuses r

-- ---- over what a function is lent: image and read-only buffer, and what the table holds at the call, t, and on return, t'

abbrev pub Clears : Lent → Lent → Slices → Slices → Type 0
Clears image ro t t' = Cleared image.entry.now ro.entry.now t image.exit.now ro.exit.now t'

-- the parts of a job in cleared slices: what they ask, and what they leave, with the answer that follows from their outcome h
abbrev pub FillAsks : Bor (List ℕ) → Job → MutBor (List ℕ) → Slices → Type 0
FillAsks file j image t = InFile file.now j × (length image.now ≡ length file.now) × (t ≡ lay t [])

abbrev pub Fills : Shared → List ℕ → Job → Lent → Lent → Slices → Slices → Result Accepted ElfError → Type 0
Fills file builtins j image ro t t' a =
    (h : Result Held ElfError)
    × (a ≡ answer_for h j)
    × Settles (job_trace file.entry.now builtins j file.entry.now) image.exit.now t t' (all_count file.entry.now j) 0 0 h
    × HeldBytes h ro.exit.now (placed_bytes file.entry.now j.layout j.placing image.exit.now ro.entry.now)

-- what comes of a load of these
abbrev pub load_of_lent : Shared → List ℕ → Config → Lent → Lent → Slices → Loading
load_of_lent file builtins c image ro t = load_of file.entry.now builtins c (length image.entry.now) (length ro.entry.now) (capacity t)

abbrev pub Tries : Shared → List ℕ → Config → Lent → Lent → Slices → Slices → Result Accepted ElfError → Type 0
Tries file builtins c image ro t t' a = Tried (load_of_lent file builtins c image ro t) image.entry.now ro.entry.now t image.exit.now ro.exit.now t' a
