-- Parts of the file.
use Rattle.std.specs.Prelude.{ℕ, ◌+◌, ◌≤◌, ◌≡◌, List, [], length, take, drop, leb, Result, Ok, Err}
use Rattle.std.proofs.Common.{ap, le-leb}
use Rattle.ebpf.specs.Choice.{◌if◌else◌}
use Rattle.elf_parser.specs.declared.error.ElfParserError.{ElfParserError}
use Rattle.elf_parser.specs.declared.parts.Place.{Place}
use Rattle.elf_parser.specs.Errors.{ok_is}

-- a place that was found
abbrev pub stands : ℕ → ℕ → Result Place ElfParserError
stands start n = Ok (record { start = start; length = n })

-- the n bytes from `start` on, where they lie in the list
unfoldable pub bytes_at : List ℕ → ℕ → ℕ → List ℕ
bytes_at s start n = take n (drop start s) if leb (start + n) (length s) else []

-- the bytes at a place, none where it is refused
abbrev pub part_of : {E : Type 0} → List ℕ → Result Place E → List ℕ
part_of s (Ok p) = bytes_at s p.start p.length
part_of s (Err r) = []

-- ---- laws

-- one place
pub same_place : (start n start' n' : ℕ) → stands start n ≡ stands start' n' → (start ≡ start') × (n ≡ n')
same_place start n start' n' e =
    let p : Place = record { start = start; length = n } in
    let q : Place = record { start = start'; length = n' } in
    let s : p ≡ q = ok_is p q e in
    (ap (λ (x : Place). x.start) s, ap (λ (x : Place). x.length) s)

-- a part that lies in the list
pub part_within : (s : List ℕ) (start n : ℕ) → start + n ≤ length s → bytes_at s start n ≡ take n (drop start s)
unfolding bytes_at ◌if◌else◌
part_within s start n h = rw (le-leb (start + n) (length s) h)
