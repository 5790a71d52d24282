-- A deed is what one slot, relocation, symbol or the entry asks for: bytes to write, a row to register, or a refusal. Its trace.
use Rattle.std.specs.Prelude.{ℕ, ◌+◌, ◌/◌, ◌%◌, ◌^◌, ◌≤◌, ◌≡◌, refl, Bool, true, false, ◌&&◌, ◌||◌, List, length, leb, ltb, Result, Ok, Err}
use Rattle.std.proofs.Common.{◌∙◌}
use Rattle.loader.specs.declared.error.ElfError.TheVariants.{ValueOutOfBounds}
use Rattle.loader.specs.declared.deeds.Deed.{Deed}
use Rattle.loader.specs.declared.deeds.Deed.TheVariants.{Skip, Halves, Word, Key, Register, RegisterOnly, RegisterOutside}
use Rattle.program.specs.declared.Row.{Row}
use Rattle.loader.specs.declared.error.ElfError.{ElfError}
use Rattle.loader.specs.Bytes.{put, length_put}
use Rattle.loader.specs.Trace.{Trace, done, stop, register}

-- so many rows used and moves
pub record Held : Type 0 where
  pub used : ℕ
  pub moves : ℕ

abbrev pub holding : ℕ → ℕ → Result Held ElfError
holding used moves = Ok (record { used = used; moves = moves })

-- the halves of v at two places
abbrev pub put_halves : List ℕ → ℕ → ℕ → ℕ → List ℕ
put_halves im low high v = put 4 (put 4 im low (v % 2 ^ 32)) high (v / 2 ^ 32)

-- the image afterwards
abbrev pub written : Result Deed ElfError → List ℕ → List ℕ
written (Ok Skip) im = im
written (Err r) im = im
written (Ok (Halves low high v)) im = put_halves im low high v
written (Ok (Word at v)) im = put_halves im at (at + 4) v
written (Ok (Key at k)) im = put 4 im at k
written (Ok (Register row at)) im = put 4 im at row.key
written (Ok (RegisterOnly row)) im = im
written (Ok (RegisterOutside row)) im = im

-- b is one of the n places from `start` on
abbrev pub is_in : ℕ → ℕ → ℕ → Bool
is_in start n b = leb start b && ltb b (start + n)

-- it writes the byte b, whatever value it has there before and afterwards
abbrev pub writes : Result Deed ElfError → ℕ → Bool
writes (Ok Skip) b = false
writes (Err r) b = false
writes (Ok (Halves low high v)) b = is_in low 4 b || is_in high 4 b
writes (Ok (Word at v)) b = is_in at 8 b
writes (Ok (Key at k)) b = is_in at 4 b
writes (Ok (Register row at)) b = is_in at 4 b
writes (Ok (RegisterOnly row)) b = false
writes (Ok (RegisterOutside row)) b = false

-- what a deed asks of the table: nothing, or to register a row, behind which the place of its key is in the file or outside it
pub data Entry : Type 0 where
  Nothing : Entry
  Enter : Row → Bool → Entry

abbrev pub entry_of : Result Deed ElfError → Result Entry ElfError
entry_of (Ok Skip) = Ok Nothing
entry_of (Err r) = Err r
entry_of (Ok (Halves low high v)) = Ok Nothing
entry_of (Ok (Word at v)) = Ok Nothing
entry_of (Ok (Key at k)) = Ok Nothing
entry_of (Ok (Register row at)) = Ok (Enter row false)
entry_of (Ok (RegisterOnly row)) = Ok (Enter row false)
entry_of (Ok (RegisterOutside row)) = Ok (Enter row true)

-- behind a registration: the image, or the refusal of a place outside
abbrev pub behind : Bool → List ℕ → Trace
behind false im = done im
behind true im = stop ValueOutOfBounds

abbrev pub entry_trace : Result Entry ElfError → List ℕ → Trace
entry_trace (Ok Nothing) im = done im
entry_trace (Err r) im = stop r
entry_trace (Ok (Enter row outside)) im = register row (behind outside im)

unfoldable pub deed_trace : Result Deed ElfError → List ℕ → Trace
deed_trace d im = entry_trace (entry_of d) (written d im)

-- the bytes that it writes lie in an image of n bytes
abbrev pub DeedFits : ℕ → Result Deed ElfError → Type 0
DeedFits n (Ok Skip) = Unit {0}
DeedFits n (Err r) = Unit {0}
DeedFits n (Ok (Halves low high v)) = (low + 4 ≤ n) × (high + 4 ≤ n)
DeedFits n (Ok (Word at v)) = at + 8 ≤ n
DeedFits n (Ok (Key at k)) = at + 4 ≤ n
DeedFits n (Ok (Register row at)) = at + 4 ≤ n
DeedFits n (Ok (RegisterOnly row)) = Unit {0}
DeedFits n (Ok (RegisterOutside row)) = Unit {0}

pub length_written : (d : Result Deed ElfError) (im : List ℕ) → length (written d im) ≡ length im
length_written (Ok Skip) im = refl
length_written (Err r) im = refl
length_written (Ok (Halves low high v)) im = length_put 4 _ high (v / 2 ^ 32) ∙ length_put 4 im low (v % 2 ^ 32)
length_written (Ok (Word at v)) im = length_put 4 _ (at + 4) (v / 2 ^ 32) ∙ length_put 4 im at (v % 2 ^ 32)
length_written (Ok (Key at k)) im = length_put 4 im at k
length_written (Ok (Register row at)) im = length_put 4 im at row.key
length_written (Ok (RegisterOnly row)) im = refl
length_written (Ok (RegisterOutside row)) im = refl
