-- One relocation behind another: the header used last, and the last relocation that names a byte. Assumes nothing.
use Rattle.std.specs.Prelude.{None}
use Prim.Native.Nat.{ℕ, ◌+◌}
use mathlib.Core.Path.{◌≡◌, refl}
use mathlib.Core.Bool.{Bool, ◌&&◌}
use mathlib.Core.List.{List}
use Rattle.ebpf.specs.Choice.{◌if◌else◌}
use Rattle.elf_parser.specs.declared.layout.Layout.{Layout}
use Rattle.loader.specs.Relocations.{used_before}
use Rattle.writers.specs.declared.Writer.{Writer}
use Rattle.writers.specs.declared.Writer.TheVariants.{Relocation}
use Rattle.writers.specs.declared.text.LoadedText.{LoadedText}
use Rattle.writers.specs.Named.{names_byte, call_writer, last_of, by_names, count_of}
use Rattle.writers.specs.Whole.{code_of}
use Rattle.writers.proofs.Folds.{last_next}
use Rattle.writers.proofs.Marking.{later}

pub none_used : (file : List ℕ) (l : Layout) (version2 : Bool) → None ≡ used_before file l version2 0
unfolding used_before
none_used file l version2 = refl

-- who wrote b, with the first n relocations only
unfoldable pub up_to : List ℕ → Layout → LoadedText → ℕ → ℕ → Writer
up_to file l t n b = last_of Relocation (λ k. names_byte file l t k b) n (call_writer file t b)

module _ (file : List ℕ) (l : Layout) (t : LoadedText) where
  pub up_none : (b : ℕ) → up_to file l t 0 b ≡ call_writer file t b
  unfolding up_to last_of
  up_none b = refl

  -- with one relocation more
  pub up_next : (i b : ℕ) → up_to file l t (i + 1) b ≡ (Relocation i if names_byte file l t i b else up_to file l t i b)
  unfolding up_to
  up_next i b = last_next Relocation (λ k. names_byte file l t k b) i (call_writer file t b)

  -- and with all of them
  pub up_all : (b : ℕ) → by_names file l t b ≡ up_to file l t (count_of l) b
  unfolding by_names up_to
  up_all b = refl

-- its number, where it names the byte, over that of the writer before
pub later_named : (p l : Bool) (i : ℕ) (w : Writer) → (0x8000_0000 + i if p && l else code_of w if l else 0) ≡ (code_of (Relocation i if p else w) if l else 0)
later_named p l i w = later p l (Relocation i) w
