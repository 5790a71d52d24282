-- A relocation of type 1 is its address, and then the deed that writes it. Assumes nothing.
use mathlib.Core.Path.{◌≡◌, refl, sym}
use mathlib.Core.Bool.{Bool, true, false}
use mathlib.Core.List.{List}
use Prim.Native.Nat.{ℕ, ◌+◌}
use lib.ListN.{length}
use Rattle.std.proofs.Math.Dec.{ltb}
use Rattle.std.specs.Prelude.{Option, unwrap_or, Result, Ok, Err}
use Rattle.ebpf.specs.Choice.{◌if◌else◌}
use Rattle.ebpf.specs.LittleEndian.{le}
use Rattle.elf_parser.specs.declared.error.ElfParserError.{ElfParserError}
use Rattle.elf_parser.specs.declared.layout.Layout.{Layout}
use Rattle.elf_parser.specs.declared.types.Elf64Sym.{Elf64Sym}
use Rattle.elf_parser.specs.Errors.{and_then}
use Rattle.elf_parser.specs.Records.{dynamic_symbol_of}
use Rattle.loader.specs.declared.error.ElfError.{ElfError}
use Rattle.loader.specs.declared.error.ElfError.TheVariants.{ValueOutOfBounds}
use Rattle.loader.specs.Addresses.{sum_up_to}
use Rattle.loader.specs.Relocations.{immediate_at, halves_deed, word_deed, address_by, symbol_address, address_deed, symbol_deed, plan6464}

module _ (s im : List ℕ) (l : Layout) (r number : ℕ) (addend : Option ℕ) where
  by_address : (split : Bool) (at : ℕ) → at ≡ (immediate_at r if split else r) → plan6464 s im l split r number addend ≡ and_then (symbol_address s im l at number addend) (address_deed (length im) split at)
  unfolding plan6464 symbol_address ◌if◌else◌
  by_address split at e = rw e (go (ltb (length im) ((immediate_at r if split else r) + 4)) (dynamic_symbol_of s l number))
    where
      go : (b : Bool) (y : Result Elf64Sym ElfParserError)
          → (Err ValueOutOfBounds if b else symbol_deed (length im) split (immediate_at r if split else r) (unwrap_or addend (le 4 im (immediate_at r if split else r))) number y)
          ≡ and_then (Err ValueOutOfBounds if b else address_by (unwrap_or addend (le 4 im (immediate_at r if split else r))) number y) (address_deed (length im) split (immediate_at r if split else r))
      go true y = refl
      go false (Ok y) = refl
      go false (Err e) = refl

  -- refused without an address
  pub halves_refused : (e : ElfError) → symbol_address s im l (immediate_at r) number addend ≡ Err e → Err e ≡ plan6464 s im l true r number addend
  unfolding ◌if◌else◌
  halves_refused e h = sym (rw h at (by_address true (immediate_at r) refl))

  pub word_refused : (e : ElfError) → symbol_address s im l r number addend ≡ Err e → Err e ≡ plan6464 s im l false r number addend
  unfolding ◌if◌else◌
  word_refused e h = sym (rw h at (by_address false r refl))

  pub halves_written : (a : ℕ) → symbol_address s im l (immediate_at r) number addend ≡ Ok a → halves_deed (length im) (immediate_at r) (sum_up_to (immediate_at r) 8) a ≡ plan6464 s im l true r number addend
  unfolding ◌if◌else◌ address_deed
  halves_written a h = sym (rw h at (by_address true (immediate_at r) refl))

  pub word_written : (a : ℕ) → symbol_address s im l r number addend ≡ Ok a → word_deed (length im) r a ≡ plan6464 s im l false r number addend
  unfolding ◌if◌else◌ address_deed
  word_written a h = sym (rw h at (by_address false r refl))
