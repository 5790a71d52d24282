-- What the questions may count on where the text is known, and what the numbers tell. Assumes nothing.
use Prim.Native.Nat.{ℕ, zero, suc, ◌+◌, ◌≤◌, ◌^◌}
use mathlib.Core.Path.{◌≡◌, refl, ap, subst, ◌∙◌}
use mathlib.Core.Bool.{Bool}
use mathlib.Core.List.{List}
use lib.ListN.{length, replicate, length-replicate}
use lib.Dec.{ltb}
use borrow.Author.Tests.{ltb-false, le-ltb}
use Rattle.ebpf.specs.Choice.{◌if◌else◌, no_go, not_first, row_rest}
use Rattle.program.proofs.Cases.{by_test}
use Rattle.elf_parser.specs.declared.layout.Layout.{Layout}
use Rattle.elf_parser.specs.Errors.{ok_is, apart}
use Rattle.elf_parser.specs.Parse.{parsed}
use Rattle.loader.specs.declared.error.ElfError.{ElfError}
use Rattle.loader.specs.declared.error.ElfError.TheVariants.{BufferShort}
use Rattle.loader.specs.Relocations.{few_relocations}
use Rattle.writers.specs.declared.error.WhoWroteError.TheVariants.{NoSuchIndex}
use Rattle.writers.specs.declared.text.LoadedText.{LoadedText}
use Rattle.writers.specs.Named.{by_names}
use Rattle.writers.specs.Asked.{text_in, text_by, text_of, asked_in, Askable}
use Rattle.writers.specs.Whole.{code_of, code_by, filled_in, OnlyZeros}
use Rattle.std.specs.Prelude.{Result, Ok, Err}
use Rattle.elf_parser.specs.declared.error.ElfParserError.{ElfParserError}

-- ---- the text of a file

module _ (file : List ℕ) (x : LoadedText) (t : Layout) (short : length file ≤ 2 ^ 24) (inside : x.place.start + x.place.length ≤ length file) where
  askable_in : (l : Layout) → parsed file ≡ Ok l → text_in l x ≡ Ok t → Askable file t x
  unfolding text_in
  askable_in l q e =
      let is : l ≡ t = ok_is _ _ (row_rest _ _ _ _ (apart _ _) e) in
      let few = few_relocations file l q in
      subst (λ (k : Layout). Askable file k x) is (record { short = short; text = inside; relocations = few.0; relas = few.1 })

  askable_by : (p : Result Layout ElfParserError) → parsed file ≡ p → text_by p x ≡ Ok t → Askable file t x
  askable_by (Err r) q e = absurd (apart _ _ e)
  askable_by (Ok l) q e = askable_in l q e

pub askable : (file : List ℕ) (x : LoadedText) (t : Layout) → text_of file x ≡ Ok t → Askable file t x
unfolding text_of
askable file x t e =
    let e2 = row_rest _ _ _ _ (apart _ _) e in
    let e3 = row_rest _ _ _ _ (apart _ _) e2 in
    askable_by file x t (ltb-false _ _ (not_first _ _ _ _ (apart _ _) e)) (ltb-false _ _ (not_first _ _ _ _ (apart _ _) e2)) (parsed file) refl e3

-- ---- the numbers of n that are lent

zeros_only : (n : ℕ) → OnlyZeros (replicate n 0)
zeros_only zero b = refl
zeros_only (suc n) zero = refl
zeros_only (suc n) (suc b) = zeros_only n b

-- numbers once they are cleared
module _ (n : ℕ) (s : List ℕ) (e : s ≡ replicate n 0) where
  pub cleared : OnlyZeros s
  cleared b = rw e (zeros_only n b)

  pub as_long : length s ≡ n
  as_long = ap length e ∙ length-replicate n 0

-- what is filled, and what the numbers tell, of n that are lent, by the text
module _ (file : List ℕ) (x : LoadedText) (n : ℕ) where
  abbrev told : Result Layout ElfError → ℕ → ℕ
  told p b = 0 if ltb n (length file) else code_by (asked_in file x b p)

  module _ (t : Layout) where
    -- a number a byte
    pub whole_filled : length file ≤ n → Ok tt ≡ filled_in (length file) n (Ok t)
    whole_filled h = no_go (ltb n (length file)) (Err BufferShort) (Ok tt) (Ok tt) (le-ltb n (length file) h) refl

    pub whole_tells : length file ≤ n → (b : ℕ) → (code_of (by_names file t x b) if ltb b (length file) else 0) ≡ told (Ok t) b
    unfolding ◌if◌else◌
    whole_tells h b =
        rw (le-ltb n (length file) h)
        (by_test (ltb b (length file)) (λ (z : Bool). (code_of (by_names file t x b) if z else 0) ≡ code_by (Ok (by_names file t x b) if z else Err NoSuchIndex)) (λ l. refl) (λ l. refl))
