-- Where the read-only sections go, and the copy of them: `parse_ro_sections`.
use Prim.Native.Nat.{ℕ, zero, suc, ◌+◌, ◌-◌, ◌≤◌, ◌<◌, min, max}
use native.Mathlib.Omega.{arith}
use Rattle.std.specs.Prelude.{◌≡◌, Bool, true, false, ◌&&◌, ◌||◌, not, List, length, drop, ltb, leb, eqb, Result, Ok, Err, Option, Some, None, is_none}
use Rattle.std.specs.Option.{unwrap_or}
use Rattle.std.proofs.Math.Path.{refl}
use Rattle.std.proofs.Math.Seq.{paste}
use Rattle.ebpf.specs.Choice.{◌if◌else◌}
use Rattle.elf_parser.specs.declared.layout.Layout.{Layout}
use Rattle.elf_parser.specs.declared.types.Elf64Shdr.{Elf64Shdr}
use Rattle.elf_parser.specs.Loops.{over}
use Rattle.elf_parser.specs.Records.{file_range_of}
use Rattle.elf_parser.specs.SectionNames.{same_bytes}
use Rattle.loader.specs.declared.read_only.Placing.TheVariants.{Borrowed, Owned}
use Rattle.loader.specs.declared.read_only.Placing.{Placing}
use Rattle.loader.specs.declared.error.ElfError.{ElfError}
use Rattle.loader.specs.declared.error.ElfError.TheVariants.{ValueOutOfBounds}
use Rattle.loader.specs.declared.read_only.Extent.{Extent}
use Rattle.loader.specs.Addresses.{sum_up_to, machine_addr, MM_PROGRAM_START, MM_STACK_START}
use Rattle.loader.specs.Sections.{section_at, name_of, dot_text, dot_rodata, dot_data_rel_ro, dot_eh_frame}
use Rattle.elf_parser.specs.declared.error.ElfParserError.{ElfParserError}
use Rattle.elf_parser.specs.declared.parts.Place.{Place}

-- .text, .rodata, .data.rel.ro, .eh_frame
unfoldable pub read_only : List ℕ → Bool
read_only name = (same_bytes name dot_text || same_bytes name dot_rodata) || (same_bytes name dot_data_rel_ro || same_bytes name dot_eh_frame)

-- ---- one section more. In version 2 the addresses less the file offsets are to be one constant, which the first section gives;
-- in version 1 they are to be 0

-- this section gives the constant
unfoldable pub gives : Bool → ℕ → ℕ → Extent → Bool
gives version2 addr offset x = (version2 && leb offset addr) && (not x.invalid && is_none x.shift)

-- there is a constant, and it is another
abbrev pub other_than : ℕ → Option ℕ → Bool
other_than d (Some shift) = not (eqb shift d)
other_than d None = false

-- an offset is not as it is to be: this section's, or one's before it
unfoldable pub invalid_by : Bool → ℕ → ℕ → Extent → Bool
invalid_by version2 addr offset x =
    true if x.invalid else
    not (eqb addr offset) if not version2 else
    true if ltb addr offset else
    other_than (addr - offset) x.shift

-- where the section ends in the machine; in version 1 its start counts
unfoldable pub end_of : Bool → ℕ → ℕ → ℕ
end_of version2 addr size = sum_up_to (machine_addr version2 addr) size if version2 else machine_addr version2 addr

-- with the section number i, of n bytes in the file
unfoldable pub grown : Bool → ℕ → ℕ → ℕ → ℕ → Extent → Extent
grown version2 i addr offset n x =
    record {
      lowest = min x.lowest addr;
      highest = max x.highest (sum_up_to addr n);
      filled = sum_up_to x.filled n;
      invalid = invalid_by version2 addr offset x;
      shift = Some (addr - offset) if gives version2 addr offset x else x.shift;
      first = i if eqb x.many 0 else x.first;
      last = i;
      many = sum_up_to x.many 1;
    }

unfoldable pub taken : Bool → Bool → ℕ → Elf64Shdr → ℕ → Extent → Result Extent ElfError
taken version2 reject-broken i h n x =
    Err ValueOutOfBounds if reject-broken && invalid_by version2 h.sh_addr h.sh_offset x else
    Err ValueOutOfBounds if ltb MM_STACK_START (end_of version2 h.sh_addr h.sh_size) else
    Ok (grown version2 i h.sh_addr h.sh_offset n x)

-- its bytes in the file, none for SHT_NOBITS, have that place
abbrev pub taken_at : Bool → Bool → ℕ → Elf64Shdr → Extent → Result Place ElfParserError → Result Extent ElfError
taken_at version2 reject-broken i h x (Ok p) = taken version2 reject-broken i h p.length x
taken_at version2 reject-broken i h x (Err r) = Err ValueOutOfBounds

-- the section number i, of that header and name
abbrev pub gather_named : List ℕ → Layout → Bool → Bool → ℕ → Elf64Shdr → List ℕ → Extent → Result Extent ElfError
gather_named s l version2 reject-broken i h name x =
    Ok x if not (read_only name) else
    taken_at version2 reject-broken i h x (file_range_of s l i)

unfoldable pub gather_step : List ℕ → Layout → Bool → Bool → ℕ → Extent → Result Extent ElfError
gather_step s l version2 reject-broken i x = gather_named s l version2 reject-broken i (section_at s l i) (name_of s l (section_at s l i)) x

-- the same after what the sections before it gave: a refusal stays
abbrev pub gather_next : List ℕ → Layout → Bool → Bool → ℕ → Elf64Shdr → List ℕ → Result Extent ElfError → Result Extent ElfError
gather_next s l version2 reject-broken i h name (Ok x) = gather_named s l version2 reject-broken i h name x
gather_next s l version2 reject-broken i h name (Err r) = Err r

-- ---- all sections

abbrev pub nothing : Extent
nothing = record {
  lowest = 0xffff_ffff_ffff_ffff;
  highest = 0;
  filled = 0;
  invalid = false;
  shift = None;
  first = 0;
  last = 0;
  many = 0;
}

abbrev pub gathered : List ℕ → Layout → ℕ → Bool → Bool → Result Extent ElfError
gathered s l count version2 reject-broken = over (gather_step s l version2 reject-broken) 1 count 0 nothing

-- ---- the placing

-- an address as an offset from the program's start
unfoldable pub from_start : ℕ → ℕ
from_start addr = addr - MM_PROGRAM_START if leb MM_PROGRAM_START addr else addr

-- no other section stands between them, and no offset is invalid
unfoldable pub can_borrow : Extent → Bool
can_borrow x = not x.invalid && eqb (sum_up_to x.last 1 - x.first) x.many

-- the constant, 0 where no section gave one
abbrev pub shift_of : Extent → ℕ
shift_of x = unwrap_or x.shift 0

-- they stay in the image, at their addresses less the constant
unfoldable pub borrowed : Bool → Extent → Result Placing ElfError
borrowed version2 x =
    Err ValueOutOfBounds if version2 && ltb x.lowest MM_PROGRAM_START else
    Ok (Borrowed (from_start x.lowest) (x.lowest - shift_of x) ((x.highest - shift_of x) - (x.lowest - shift_of x)))

-- they are copied, from the lowest address on, or from 0 on where this is not optimized
unfoldable pub owned : ℕ → Bool → Extent → Result Placing ElfError
owned len optimize x =
    let lowest : ℕ = x.lowest if optimize else 0 in
    let n : ℕ = x.highest - lowest in
    Err ValueOutOfBounds if ltb len n else
    Ok (Owned (from_start lowest) lowest n)

unfoldable pub placed : ℕ → Bool → Bool → Bool → Extent → Result Placing ElfError
placed len version2 reject-broken optimize x =
    Err ValueOutOfBounds if reject-broken && ltb x.highest (sum_up_to x.lowest x.filled) else
    Err ValueOutOfBounds if version2 && not (can_borrow x) else
    borrowed version2 x if optimize && can_borrow x else
    owned len optimize x

abbrev pub placing_by : ℕ → Bool → Bool → Bool → Result Extent ElfError → Result Placing ElfError
placing_by len version2 reject-broken optimize (Ok x) = placed len version2 reject-broken optimize x
placing_by len version2 reject-broken optimize (Err r) = Err r

unfoldable pub placing : List ℕ → Layout → ℕ → Bool → Bool → Bool → Result Placing ElfError
placing s l count version2 reject-broken optimize =
    placing_by (length s) version2 reject-broken optimize (gathered s l count version2 reject-broken)

-- ---- the copy

-- n bytes of the image from `start` on go to `at`; where they or their place do not lie inside, nothing changes
unfoldable pub copied_to : List ℕ → List ℕ → ℕ → ℕ → ℕ → List ℕ
copied_to ro image at start n =
    ro if ltb (length image) (start + n) else
    ro if ltb (length ro) (at + n) else
    paste ro at (drop start image) n

abbrev pub copied_at : List ℕ → List ℕ → ℕ → Result Place ElfParserError → List ℕ
copied_at ro image at (Ok p) = copied_to ro image at p.start p.length
copied_at ro image at (Err r) = ro

-- the section number i is copied to its address less the lowest: header and name from the file s, bytes from the image
unfoldable pub copy_step : List ℕ → List ℕ → Layout → ℕ → ℕ → List ℕ → List ℕ
copy_step image s l lowest i ro =
    ro if not (read_only (name_of s l (section_at s l i))) else
    copied_at ro image ((section_at s l i).sh_addr - lowest) (file_range_of s l i)

-- n sections from i on, one after another
unfoldable pub copied_from : List ℕ → List ℕ → Layout → ℕ → ℕ → ℕ → List ℕ → List ℕ
copied_from image s l lowest zero i ro = ro
copied_from image s l lowest (suc n) i ro = copied_from image s l lowest n (i + 1) (copy_step image s l lowest i ro)

-- ---- laws

module _ (image s : List ℕ) (l : Layout) (lowest : ℕ) where
  pub copied_next : (n i : ℕ) (ro : List ℕ) → 0 < n → copied_from image s l lowest n i ro ≡ copied_from image s l lowest (n - 1) (i + 1) (copy_step image s l lowest i ro)
  unfolding copied_from
  copied_next zero i ro h = absurd (omega arith)
  copied_next (suc n) i ro h = let k : suc n - 1 ≡ n = omega arith in rw k refl

  pub copied_end : (n i : ℕ) (ro : List ℕ) → n ≤ 0 → copied_from image s l lowest n i ro ≡ ro
  unfolding copied_from
  copied_end zero i ro h = refl
  copied_end (suc n) i ro h = absurd (omega arith)
