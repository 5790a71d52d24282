-- The same by the bytes that calls and relocations name, in a file whose text is known.
use Rattle.loader.specs.declared.relocations.UsedHeader.{UsedHeader}
use Rattle.std.specs.Prelude.{ℕ, zero, suc, ◌+◌, ◌-◌, ◌*◌, ◌/◌, ◌%◌, ◌^◌, ◌≡◌, Bool, false, ◌&&◌, List, take, drop, ltb, leb, Option, Some, None}
use Rattle.ebpf.specs.Choice.{◌if◌else◌}
use Rattle.ebpf.specs.Instructions.{insn_at}
use Rattle.elf_parser.specs.declared.layout.Layout.{Layout}
use Rattle.loader.specs.Calls.{local_call_in}
use Rattle.loader.specs.Deeds.{is_in}
use Rattle.loader.specs.Demand.{in_halves, named_in, names_in}
use Rattle.loader.specs.Relocations.{relocation_at, used_header, place_of}
use Rattle.writers.specs.declared.Writer.{Writer}
use Rattle.writers.specs.declared.Writer.TheVariants.{File, Call, Relocation}
use Rattle.writers.specs.declared.naming.Named.{Named}
use Rattle.writers.specs.declared.naming.Named.TheVariants.{Halves, Word, Immediate}
use Rattle.writers.specs.declared.naming.Next.{Next}
use Rattle.writers.specs.declared.text.LoadedText.{LoadedText}

-- ---- calls

-- slot number i is, in the file, a local call
abbrev pub is_call : List ℕ → LoadedText → ℕ → Bool
is_call file t i = local_call_in t.version2 (insn_at (take t.place.length (drop t.place.start file)) i)

abbrev pub immediate_of : LoadedText → ℕ → ℕ
immediate_of t i = t.place.start + 8 * i + 4

-- the slot of the byte b, and whether it is one of the slot's last four bytes
abbrev pub slot_of : LoadedText → ℕ → ℕ
slot_of t b = (b - t.place.start) / 8

abbrev pub in_immediate : LoadedText → ℕ → Bool
in_immediate t b = leb t.place.start b && leb 4 ((b - t.place.start) % 8)

-- the call that has b in its immediate, among the first n slots, else the file
unfoldable pub call_to : List ℕ → LoadedText → ℕ → ℕ → Writer
call_to file t n b = Call (slot_of t b) if (in_immediate t b && ltb (slot_of t b) n) && is_call file t (slot_of t b) else File

-- among all whole slots of the text
abbrev pub call_writer : List ℕ → LoadedText → ℕ → Writer
call_writer file t b = call_to file t (t.place.length / 8) b

-- ---- relocations

-- the relocation number i names the byte b
abbrev pub names_byte : List ℕ → Layout → LoadedText → ℕ → ℕ → Bool
names_byte file l t i b = names_in file l t.version2 t.place.start t.place.length i b

-- the last of the numbers below n of which P holds, by what it stands for, else w
unfoldable pub last_of : (ℕ → Writer) → (ℕ → Bool) → ℕ → Writer → Writer
last_of who P zero w = w
last_of who P (suc n) w = who n if P n else last_of who P n w

-- how many there are, in both tables
abbrev pub count_of : Layout → ℕ
count_of l = l.dynamic_relocations.count + l.dynamic_relas.count

-- THE LAST RELOCATION THAT NAMES b, else the call that has it in its immediate, else the file
unfoldable pub by_names : List ℕ → Layout → LoadedText → ℕ → Writer
by_names file l t b = last_of Relocation (λ i. names_byte file l t i b) (count_of l) (call_writer file t b)

-- ---- the bytes that one relocation names, as the code holds them

abbrev pub is_named : Option Named → ℕ → Bool
is_named (Some (Halves r)) b = in_halves r b
is_named (Some (Word r)) b = is_in r 8 b
is_named (Some (Immediate r)) b = is_in (r + 4) 4 b
is_named None b = false

-- they are the bytes of which P holds
abbrev pub Names : Option Named → (ℕ → Bool) → Type 0
Names x P = (b : ℕ) → is_named x b ≡ P b

-- the relocation number i, behind those that used `header` last
pub record NamesNext (file : List ℕ) (l : Layout) (t : LoadedText) (header : Option UsedHeader) (i : ℕ) (x : Next) : Type 0 where
  pub used : x.header ≡ used_header file l t.version2 header (relocation_at file l i).r_offset
  pub names : Names x.named (named_in t.version2 t.place.start t.place.length (place_of t.version2 x.header (relocation_at file l i).r_offset) ((relocation_at file l i).r_info % 2 ^ 32))
