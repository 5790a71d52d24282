-- The row that a function is registered as, and its name.
use Rattle.std.specs.Prelude.{ℕ, ◌-◌, ◌/◌, ◌≡◌, Bool, ◌&&◌, List, [], leb, ltb, Option, Some, None}
use Rattle.ebpf.specs.Choice.{◌if◌else◌}
use Rattle.ebpf.specs.IndexKeys.{index_key, key_in}
use Rattle.elf_parser.specs.SectionNames.{same_bytes}
use Rattle.std.specs.Borrow.{Bor}
use Rattle.program.specs.declared.HashedLegacy.{HashedLegacy}
use Rattle.program.specs.declared.FunctionName.{FunctionName}
use Rattle.program.specs.declared.FunctionName.TheVariants.{Symbol}
use Rattle.program.specs.HashedLegacy.{LegacyResult, entrypoint, legacy_row}
use Rattle.loader.specs.declared.validate.Job.{Job}
use Rattle.loader.specs.Addresses.{sum_up_to}

-- a lent table that gives every index its key
abbrev pub Keyed : List ℕ → Type 0
Keyed table = (i : ℕ) → key_in table i ≡ index_key i

-- what a job registers its functions by, with these keys of the first indices and these built-ins
abbrev pub hashed_legacy : Bor (List ℕ) → Bor (List ℕ) → Job → HashedLegacy
hashed_legacy table builtins j = record {
  table = table;
  builtins = builtins;
  version2 = j.version2;
  check_collision = j.check_collision;
  labels = j.labels;
}

-- the row; its key is worked out, the table of keys being empty
unfoldable pub row_for : List ℕ → Job → FunctionName → ℕ → LegacyResult
row_for builtins j name index = legacy_row [] builtins j.version2 j.check_collision j.labels name index

-- a name that is a part of the file, its bytes and its place
abbrev pub symbol_function : List ℕ → ℕ → ℕ → FunctionName
symbol_function part start n = Symbol start n (same_bytes part entrypoint)

-- an address is one of the text's
abbrev pub in_text : Job → ℕ → Bool
in_text j a = leb j.sh_addr a && ltb a (sum_up_to j.sh_addr j.sh_size)

-- the index of an address of the text
abbrev pub index_of : Job → ℕ → ℕ
index_of j a = (a - j.sh_addr) / 8

-- the same of an address of the text's alone
abbrev pub index_at : Job → ℕ → Option ℕ
index_at j a = Some (index_of j a) if in_text j a else None
