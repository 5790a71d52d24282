-- The read-only bytes of an accepted load, and the text among them: `get_ro_section`, `get_text_bytes`.
use Rattle.std.specs.Prelude.{ℕ, ◌+◌, ◌-◌, ◌≤◌, ◌≡◌, List, length, ltb, Bool, true, false, Result, Ok, Err, refl}
use Rattle.std.specs.Borrow.{Bor}
use Rattle.std.proofs.Common.{arith, ap, ◌∙◌, ltb-false}
use Rattle.ebpf.specs.Choice.{◌if◌else◌, not_first, row_rest}
use Rattle.program.specs.Table.{Shared}
use Rattle.loader.specs.declared.error.ElfError.{ElfError}
use Rattle.loader.specs.declared.error.ElfError.TheVariants.{TextOutsideReadOnly}
use Rattle.loader.specs.declared.answer.Accepted.{Accepted}
use Rattle.elf_parser.specs.declared.parts.Place.{Place}
use Rattle.elf_parser.specs.Parts.{part_of}
use Rattle.elf_parser.specs.Errors.{apart, ◌then◌}
use Rattle.loader.specs.Addresses.{MM_PROGRAM_START}

-- the text's place among its read-only bytes: its address, less the program's start, less their offset from there
abbrev pub text_at : ℕ → ℕ → ℕ
text_at addr offset = (addr - MM_PROGRAM_START) - offset

-- the place of n bytes from `start` on
abbrev pub bytes_at : ℕ → ℕ → Result Place ElfError
bytes_at start n = Ok (record { start = start; length = n })

-- the read-only bytes, n from `start` on, lie in the `lent` ones, and the text, `size` bytes at `addr`, lies in them
unfoldable pub text_place : ℕ → ℕ → ℕ → ℕ → ℕ → ℕ → Result Place ElfError
text_place lent offset start n addr size =
    Err TextOutsideReadOnly if ltb lent (start + n) else
    Err TextOutsideReadOnly if ltb n (text_at addr offset + size) else
    bytes_at (start + text_at addr offset) size

-- the read-only bytes, n from `start` on, lie in the `lent` ones
unfoldable pub ro_place : ℕ → ℕ → ℕ → Result Place ElfError
ro_place lent start n =
    Err TextOutsideReadOnly if ltb lent (start + n) else
    bytes_at start n

-- the lent bytes that hold an accepted load's read-only ones: the buffer where they were copied, else the image
abbrev pub lent_for : {A : Type 0} → Accepted → A → A → A
lent_for a image ro = ro if a.ro_copied else image

abbrev pub bytes_for : Accepted → Shared → Shared → List ℕ
bytes_for a image ro = lent_for a image.entry.now ro.entry.now

-- the places that an accepted load's answer gives, in so many lent bytes
abbrev pub ro_of : Accepted → ℕ → Result Place ElfError
ro_of a lent = ro_place lent a.ro_start a.ro_length

abbrev pub text_place_of : Accepted → ℕ → Result Place ElfError
text_place_of a lent = text_place lent a.ro_offset a.ro_start a.ro_length a.text_addr a.text.length

-- the part that an accepted load's answer gives, of the lent image or of the lent buffer, by its place there
abbrev pub part_for : Accepted → Shared → Shared → (ℕ → Result Place ElfError) → List ℕ
part_for a image ro place = part_of (bytes_for a image ro) (place (length (bytes_for a image ro)))

-- ---- laws

now_of : (b : Bool) (x y : Bor (List ℕ)) → (x if b else y).now ≡ (x.now if b else y.now)
unfolding ◌if◌else◌
now_of true x y = refl
now_of false x y = refl

-- what is lent for an accepted load holds what the image or the buffer does
pub lent_now : (a : Accepted) (image ro lent : Bor (List ℕ)) → lent ≡ lent_for a image ro → lent.now ≡ lent_for a image.now ro.now
lent_now a image ro lent is = ap (λ (x : Bor (List ℕ)). x.now) is ∙ now_of a.ro_copied ro image

-- a place that is given lies in the lent bytes
pub text_within : (lent offset start n addr size : ℕ) (p : Place) → text_place lent offset start n addr size ≡ Ok p → p.start + p.length ≤ lent
unfolding text_place
text_within lent offset start n addr size p e =
    let e1 = row_rest _ _ _ _ (apart _ _) e in
    let e2 = row_rest _ _ _ _ (apart _ _) e1 in
    let at : start + text_at addr offset ≡ p.start = cc in
    let k : size ≡ p.length = cc in
    let h1 = ltb-false lent (start + n) (not_first _ _ _ _ (apart _ _) e) in
    let h2 = ltb-false n (text_at addr offset + size) (not_first _ _ _ _ (apart _ _) e1) in
    omega arith

-- where the read-only bytes have a place, they end in the lent ones
pub ro_fits : (lent start n : ℕ) (p : Place) → ro_place lent start n ≡ Ok p → start + n ≤ lent
unfolding ro_place
ro_fits lent start n p e = omega (arith, ltb-false lent (start + n) (not_first _ _ _ _ (apart _ _) e))

pub ro_within : (lent start n : ℕ) (p : Place) → ro_place lent start n ≡ Ok p → p.start + p.length ≤ lent
unfolding ro_place
ro_within lent start n p e =
    let e1 = row_rest _ _ _ _ (apart _ _) e in
    let at : start ≡ p.start = cc in
    let k : n ≡ p.length = cc in
    omega (arith, ro_fits lent start n p e)

-- the text's place is asked where that of the read-only bytes is given
pub text_behind : (lent offset start n addr size : ℕ) → text_place lent offset start n addr size ≡ (ro_place lent start n then (Err TextOutsideReadOnly if ltb n (text_at addr offset + size) else bytes_at (start + text_at addr offset) size))
unfolding text_place ro_place ◌if◌else◌
text_behind lent offset start n addr size = go (ltb lent (start + n))
  where
    go : (b : Bool) → (Err TextOutsideReadOnly if b else Err TextOutsideReadOnly if ltb n (text_at addr offset + size) else bytes_at (start + text_at addr offset) size) ≡ ((Err TextOutsideReadOnly if b else bytes_at start n) then (Err TextOutsideReadOnly if ltb n (text_at addr offset + size) else bytes_at (start + text_at addr offset) size))
    go true = refl
    go false = refl
