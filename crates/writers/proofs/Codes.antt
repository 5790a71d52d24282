-- No two writers of a file's bytes share a number, so that the numbers tell them. Assumes nothing.
use Prim.Native.Nat.{ℕ, zero, suc, ◌+◌, ◌/◌, ◌<◌}
use native.Mathlib.Omega.{arith}
use mathlib.Core.Path.{◌≡◌, refl, ap}
use mathlib.Core.Bool.{Bool, true, false, ◌&&◌}
use mathlib.Core.List.{List}
use lib.Dec.{ltb}
use borrow.Author.Tests.{ltb-true}
use Rattle.ebpf.specs.Choice.{◌if◌else◌, and_left, and_right}
use Rattle.writers.specs.declared.Writer.{Writer}
use Rattle.writers.specs.declared.Writer.TheVariants.{File, Call, Relocation}
use Rattle.elf_parser.specs.declared.layout.Layout.{Layout}
use Rattle.writers.specs.declared.text.LoadedText.{LoadedText}
use Rattle.writers.specs.Named.{is_call, slot_of, in_immediate, call_to, last_of, names_byte, count_of, call_writer, by_names}
use Rattle.writers.specs.Asked.{Askable}
use Rattle.writers.specs.Whole.{code_of}

-- a slot's number stays below that of relocation 0
abbrev pub Few : Writer → Type 0
Few File = Unit {0}
Few (Call i) = i + 1 < 0x8000_0000
Few (Relocation k) = Unit {0}

pub codes_apart : (v w : Writer) → Few v → Few w → code_of v ≡ code_of w → v ≡ w
codes_apart File File p q e = refl
codes_apart File (Call i) p q e = absurd (omega arith)
codes_apart File (Relocation k) p q e = absurd (omega arith)
codes_apart (Call i) File p q e = absurd (omega arith)
codes_apart (Call i) (Call k) p q e = let same : i ≡ k = omega arith in ap Call same
codes_apart (Call i) (Relocation k) p q e = absurd (omega arith)
codes_apart (Relocation i) File p q e = absurd (omega arith)
codes_apart (Relocation i) (Call k) p q e = absurd (omega arith)
codes_apart (Relocation i) (Relocation k) p q e = let same : i ≡ k = omega arith in ap Relocation same

module _ (file : List ℕ) (l : Layout) (t : LoadedText) (b : ℕ) (inside : Askable file l t) where
  call_few : Few (call_writer file t b)
  unfolding call_to ◌if◌else◌
  call_few = go ((in_immediate t b && ltb (slot_of t b) (t.place.length / 8)) && is_call file t (slot_of t b)) refl
    where
      go : (x : Bool) → ((in_immediate t b && ltb (slot_of t b) (t.place.length / 8)) && is_call file t (slot_of t b)) ≡ x → Few (Call (slot_of t b) if x else File)
      go true e =
          let below = ltb-true (slot_of t b) (t.place.length / 8) (and_right (in_immediate t b) (ltb (slot_of t b) (t.place.length / 8)) (and_left (in_immediate t b && ltb (slot_of t b) (t.place.length / 8)) (is_call file t (slot_of t b)) e)) in
          omega (arith, below, inside.text, inside.short)
      go false e = tt

  last_few : (n : ℕ) → Few (last_of Relocation (λ i. names_byte file l t i b) n (call_writer file t b))
  unfolding last_of ◌if◌else◌
  last_few zero = call_few
  last_few (suc n) = go (names_byte file l t n b) (last_few n)
    where
      go : (x : Bool) → Few (last_of Relocation (λ i. names_byte file l t i b) n (call_writer file t b)) → Few (Relocation n if x else last_of Relocation (λ i. names_byte file l t i b) n (call_writer file t b))
      go true h = tt
      go false h = h

  pub writers_few : Few (by_names file l t b)
  unfolding by_names
  writers_few = last_few (count_of l)
