-- WHO WROTE A BYTE, by what the parts of a load write, one after another: the last one that writes it, whatever value it has before and afterwards.
use Rattle.std.specs.Prelude.{ℕ, zero, suc, ◌+◌, List, length, ltb, Result, Ok, Err}
use Rattle.ebpf.specs.Choice.{◌if◌else◌}
use Rattle.loader.specs.declared.error.ElfError.{ElfError}
use Rattle.loader.specs.declared.deeds.Deed.{Deed}
use Rattle.loader.specs.declared.validate.Config.{Config}
use Rattle.loader.specs.declared.validate.Job.{Job}
use Rattle.loader.specs.Deeds.{written, writes}
use Rattle.loader.specs.Calls.{slot_count, call_deed}
use Rattle.loader.specs.Relocations.{relocation_count, relocation_deed}
use Rattle.loader.specs.Load.{Loading, holds, refuses, load_of}
use Rattle.loader.specs.Validate.{prepared}
use Rattle.writers.specs.declared.Writer.{Writer}
use Rattle.writers.specs.declared.Writer.TheVariants.{File, Call, Relocation}
use Rattle.writers.specs.declared.error.WhoWroteError.{WhoWroteError}
use Rattle.writers.specs.declared.error.WhoWroteError.TheVariants.{NoSuchIndex, Refused}

-- ---- n deeds from number i on, each made of its number and the image as those before left it

-- the image afterwards
unfoldable pub image_after : (ℕ → List ℕ → Result Deed ElfError) → ℕ → ℕ → List ℕ → List ℕ
image_after deed zero i im = im
image_after deed (suc n) i im = image_after deed n (i + 1) (written (deed i im) im)

-- who wrote the byte b: the last that writes it, by its number, or w where none does
unfoldable pub writer_after : (ℕ → List ℕ → Result Deed ElfError) → (ℕ → Writer) → ℕ → ℕ → ℕ → List ℕ → Writer → Writer
writer_after deed who b zero i im w = w
writer_after deed who b (suc n) i im w = writer_after deed who b n (i + 1) (written (deed i im) im) (who i if writes (deed i im) b else w)

-- ---- a load: the calls of all slots, then all relocations. Labels, the entry and the placing of the read-only sections write nothing to the image

abbrev pub call_deeds : List ℕ → List ℕ → Job → ℕ → List ℕ → Result Deed ElfError
call_deeds file builtins j i im = call_deed file builtins j i

abbrev pub image_of_calls : List ℕ → List ℕ → Job → List ℕ
image_of_calls file builtins j = image_after (call_deeds file builtins j) (slot_count j) 0 file

unfoldable pub image_of_all : List ℕ → List ℕ → Job → List ℕ
image_of_all file builtins j = image_after (relocation_deed file builtins j) (relocation_count j) 0 (image_of_calls file builtins j)

unfoldable pub writer_of : List ℕ → List ℕ → Job → ℕ → Writer
writer_of file builtins j b =
    writer_after (relocation_deed file builtins j) Relocation b (relocation_count j) 0 (image_of_calls file builtins j)
    (writer_after (call_deeds file builtins j) Call b (slot_count j) 0 file File)

-- ---- the answer, by what comes of the load and what the checks ahead of it left. A load that holds has passed them, so the second line is never met

abbrev pub wrote_by : List ℕ → List ℕ → ℕ → ℕ → Loading → Result Job ElfError → Result Writer WhoWroteError
wrote_by file builtins len b (refuses r) p = Err (Refused r)
wrote_by file builtins len b (holds a im ro rows) (Err r) = Err (Refused r)
wrote_by file builtins len b (holds a im ro rows) (Ok j) = Ok (writer_of file builtins j b) if ltb b len else Err NoSuchIndex

-- of a load with n bytes lent for the image, m for the read-only bytes, and so many rows
unfoldable pub wrote_of : List ℕ → List ℕ → Config → ℕ → ℕ → ℕ → ℕ → Result Writer WhoWroteError
wrote_of file builtins c n m rows b = wrote_by file builtins (length file) b (load_of file builtins c n m rows) (prepared file builtins c n m)
