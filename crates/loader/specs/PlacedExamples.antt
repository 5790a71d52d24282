-- Placings and text places worked by hand.
use Rattle.std.specs.Prelude.{◌≡◌, refl, true, false, Err, Ok}
use Rattle.ebpf.specs.Choice.{◌if◌else◌}
use Rattle.loader.specs.declared.read_only.Placing.TheVariants.{Borrowed, Owned}
use Rattle.loader.specs.declared.error.ElfError.TheVariants.{ValueOutOfBounds, TextOutsideReadOnly}
use Rattle.loader.specs.declared.read_only.Extent.{Extent}
use Rattle.loader.specs.Addresses.{machine_addr}
use Rattle.loader.specs.ReadOnly.{gives, invalid_by, end_of, grown, nothing, from_start, can_borrow, borrowed, owned, placed}
use Rattle.loader.specs.GetBytes.{text_place, bytes_at}

-- version 2: 16 bytes at 0x1000 of the file, at the program's start; and 8 more behind them, by the same constant and by another
abbrev one : Extent
one = grown true 1 0x1_0000_0000 0x1000 16 nothing

one_stays : placed 0x2000 true true true one ≡ Ok (Borrowed 0 0x1000 16)
unfolding placed borrowed owned can_borrow from_start grown gives invalid_by ◌if◌else◌
one_stays = refl

two_stay : placed 0x2000 true true true (grown true 2 0x1_0000_0100 0x1100 8 one) ≡ Ok (Borrowed 0 0x1000 0x108)
unfolding placed borrowed owned can_borrow from_start grown gives invalid_by ◌if◌else◌
two_stay = refl

two_constants : placed 0x2000 true false true (grown true 2 0x1_0000_0200 0x1100 8 one) ≡ Err ValueOutOfBounds
unfolding placed borrowed owned can_borrow from_start grown gives invalid_by ◌if◌else◌
two_constants = refl

-- version 1: sections 1 and 3 with another between them are copied, from the lowest address on or from 0 on
abbrev apart : Extent
apart = grown false 3 0x40 0x40 8 (grown false 1 0x20 0x20 8 nothing)

apart_copied : placed 0x2000 false true true apart ≡ Ok (Owned 0x20 0x20 0x28)
unfolding placed borrowed owned can_borrow from_start grown gives invalid_by ◌if◌else◌
apart_copied = refl

apart_whole : placed 0x2000 false true false apart ≡ Ok (Owned 0 0 0x48)
unfolding placed borrowed owned can_borrow from_start grown gives invalid_by ◌if◌else◌
apart_whole = refl

-- a copy longer than the file
too_long : placed 0x20 false true false apart ≡ Err ValueOutOfBounds
unfolding placed borrowed owned can_borrow from_start grown gives invalid_by ◌if◌else◌
too_long = refl

-- version 2's text may end at the stack
at_stack : end_of true 0x1_ffff_fff0 0x10 ≡ 0x2_0000_0000
unfolding end_of machine_addr ◌if◌else◌
at_stack = refl

-- the text at the program's start, in read-only bytes that stand at 64
text_there : text_place 80 0 64 16 0x1_0000_0000 16 ≡ bytes_at 64 16
unfolding text_place ◌if◌else◌
text_there = refl

-- version 1 with the lowest address 0x100000000: the read-only bytes' offset is 0, the text's 0x100000000
text_past : text_place 80 0 64 16 (machine_addr false 0x1_0000_0000) 16 ≡ Err TextOutsideReadOnly
unfolding text_place machine_addr ◌if◌else◌
text_past = refl
