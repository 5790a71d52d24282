-- A relocation that is applied writes the bytes that it names and no other: where its deed fits the image, no sum of a place stops at
-- 2 ^ 64 - 1.
-- Assumes nothing.
use Prim.Native.Nat.{ℕ, ◌+◌, ◌/◌, ◌%◌, ◌^◌, ◌≤◌}
use native.Mathlib.Omega.{arith}
use mathlib.Core.Path.{◌≡◌, refl, sym, ◌∙◌}
use mathlib.Core.Bool.{Bool, true, false, ◌||◌, not}
use mathlib.Core.List.{List}
use lib.ListN.{length, take, drop}
use lib.Dec.{ltb, eqb}
use borrow.Author.Tests.{ltb-false}
use Rattle.program.specs.HashedLegacy.{LegacyResult}
use Rattle.std.specs.Prelude.{Ok, Err, Option, Some, None, Result}
use Rattle.ebpf.specs.Choice.{◌if◌else◌}
use Rattle.elf_parser.specs.declared.types.Elf64Sym.{Elf64Sym}
use Rattle.elf_parser.specs.declared.layout.Layout.{Layout}
use Rattle.elf_parser.specs.Names.{dynamic_symbol_name}
use Rattle.elf_parser.specs.Records.{dynamic_symbol_of}
use Rattle.program.specs.declared.FunctionName.{FunctionName}
use Rattle.program.proofs.Cases.{zero_one}
use Rattle.loader.specs.declared.deeds.Deed.{Deed}
use Rattle.loader.specs.declared.deeds.Deed.TheVariants.{Skip, Halves, Word, Key, Register, RegisterOnly, RegisterOutside}
use Rattle.loader.specs.declared.validate.Job.{Job}
use Rattle.loader.specs.declared.error.ElfError.{ElfError}
use Rattle.loader.specs.Addresses.{sum_up_to}
use Rattle.loader.specs.Functions.{row_for, index_of}
use Rattle.loader.specs.Relocations.{immediate_at, halves_deed, word_deed, address_deed, symbol_deed, plan6464, relative_text, plan_relative, register_deed, function_call, builtin_call, call_by_name, named_call, symbol_call, plan6432, plan_at, plan_of, text_holds}
use Rattle.loader.specs.Deeds.{is_in, writes}
use Rattle.loader.specs.Demand.{in_halves, named_by, named_at}
use Rattle.elf_parser.specs.declared.error.ElfParserError.{ElfParserError}
use Rattle.elf_parser.specs.declared.parts.Place.{Place}

-- the load stops at it
abbrev pub stops : Result Deed ElfError → Bool
stops (Ok Skip) = false
stops (Err r) = true
stops (Ok (Halves low high v)) = false
stops (Ok (Word at v)) = false
stops (Ok (Key at k)) = false
stops (Ok (Register row at)) = false
stops (Ok (RegisterOnly row)) = false
stops (Ok (RegisterOutside row)) = true

-- of the byte b: a deed that does not stop the load writes it exactly where it is named
module _ (b : ℕ) where
  abbrev Clear : Bool → Result Deed ElfError → Type 0
  Clear named d = stops d ≡ false → named ≡ writes d b

  never : {A : Type 0} → ◌≡◌ {A = Bool} true false → A
  never e = absurd (zero_one (cc))

  -- a choice, and one that the names make too
  one : (p t : Bool) (x y : Result Deed ElfError) → Clear p x → (t ≡ false → Clear p y) → Clear p (x if t else y)
  unfolding ◌if◌else◌
  one p true x y f g = f
  one p false x y f g = g refl

  both : (p q t : Bool) (x y : Result Deed ElfError) → Clear p x → Clear q y → Clear (p if t else q) (x if t else y)
  unfolding ◌if◌else◌
  both p q true x y f g = f
  both p q false x y f g = g

  -- n is the image's length, r the relocation's place
  module _ (n : ℕ) (short : n ≤ 2 ^ 24) (r : ℕ) where
    at_fits : (at : ℕ) → ltb n (at + 4) ≡ false → at + 4 ≤ n
    at_fits at e = ltb-false n (at + 4) e

    immediate_plain : immediate_at r + 4 ≤ n → immediate_at r ≡ r + 4
    unfolding immediate_at
    immediate_plain h = omega arith

    halves : (low high : ℕ) → low ≡ r + 4 → high ≡ r + 12 → ◌≡◌ {A = Bool} false false → in_halves r b ≡ (is_in low 4 b || is_in high 4 b)
    halves low high e f h = rw (e, f) refl

    -- the upper half, as type 1 and as type 8 add its place up
    up_twelve : sum_up_to (immediate_at r) 8 + 4 ≤ n → sum_up_to (immediate_at r) 8 ≡ r + 12
    unfolding immediate_at
    up_twelve h = omega arith

    twelve_up : immediate_at (sum_up_to r 8) + 4 ≤ n → immediate_at (sum_up_to r 8) ≡ r + 12
    unfolding immediate_at
    twelve_up h = omega arith

    halves_clear : (v : ℕ) → Clear (in_halves r b) (halves_deed n (immediate_at r) (sum_up_to (immediate_at r) 8) v)
    unfolding halves_deed
    halves_clear v =
        one _ _ _ _ never (λ e. one _ _ _ _ never (λ f. halves _ _ (immediate_plain (at_fits _ e)) (up_twelve (at_fits _ f))))

    text_clear : (address : ℕ) → Clear (in_halves r b) (relative_text n (immediate_at r) (immediate_at (sum_up_to r 8)) address)
    unfolding relative_text
    text_clear address =
        one _ _ _ _ never
        (λ e. one _ _ _ _ never
        (λ f. one _ _ _ _ never (λ g. halves _ _ (immediate_plain (at_fits _ e)) (twelve_up (at_fits _ f)))))

    word_clear : (v : ℕ) → Clear (is_in r 8 b) (word_deed n r v)
    unfolding word_deed
    word_clear v = one _ _ _ _ never (λ e h. refl)

    -- four bytes at the immediate
    four : immediate_at r + 4 ≤ n → ◌≡◌ {A = Bool} false false → is_in (r + 4) 4 b ≡ is_in (immediate_at r) 4 b
    four l h = rw (immediate_plain l) refl

    register_clear : (row : LegacyResult) → Clear (is_in (r + 4) 4 b) (register_deed n (immediate_at r) row)
    register_clear (Err taken) = never
    register_clear (Ok row) = one _ _ _ _ never (λ e. four (at_fits _ e))

    function_clear : (builtins : List ℕ) (j : Job) (name : FunctionName) (value : ℕ) → Clear (is_in (r + 4) 4 b) (function_call builtins j n (immediate_at r) name value)
    unfolding function_call
    function_clear builtins j name value = one _ _ _ _ never (λ e. register_clear (row_for builtins j name (index_of j value)))

    builtin_clear : (builtins : List ℕ) (reject : Bool) (start k hash : ℕ) → Clear (is_in (r + 4) 4 b) (builtin_call builtins reject n (immediate_at r) r start k hash)
    unfolding builtin_call
    builtin_clear builtins reject start k hash = one _ _ _ _ never (λ e. one _ _ _ _ never (λ f. four (at_fits _ f)))

    name_clear : (part builtins : List ℕ) (j : Job) (y : Elf64Sym) (start k : ℕ) → Clear (is_in (r + 4) 4 b) (call_by_name part builtins j n r y start k)
    unfolding call_by_name
    name_clear part builtins j y start k = one _ _ _ _ (function_clear builtins j _ _) (λ e. builtin_clear builtins _ start k _)

    place_clear : (s builtins : List ℕ) (j : Job) (y : Elf64Sym) (p : Result Place ElfParserError) → Clear (is_in (r + 4) 4 b) (named_call s builtins j n r y p)
    place_clear s builtins j y (Ok p) = name_clear (take p.length (drop p.start s)) builtins j y p.start p.length
    place_clear s builtins j y (Err e) = never

    call_clear : (s builtins : List ℕ) (j : Job) (number : ℕ) (y : Result Elf64Sym ElfParserError) → Clear (is_in (r + 4) 4 b) (symbol_call s builtins j n r number y)
    call_clear s builtins j number (Ok y) = place_clear s builtins j y (dynamic_symbol_name s j.layout y.st_name)
    call_clear s builtins j number (Err e) = never

    clear6432 : (s builtins : List ℕ) (j : Job) (number : ℕ) → Clear (is_in (r + 4) 4 b) (plan6432 s builtins j n r number)
    unfolding plan6432
    clear6432 s builtins j number = call_clear s builtins j number (dynamic_symbol_of s j.layout number)

    -- type 1: the same test splits the address and the names
    address_clear : (split : Bool) (v : ℕ) → Clear (in_halves r b if split else is_in r 8 b) (address_deed n split (immediate_at r if split else r) v)
    unfolding address_deed ◌if◌else◌
    address_clear true v = halves_clear v
    address_clear false v = word_clear v

    symbol_clear : (split : Bool) (addend number : ℕ) (y : Result Elf64Sym ElfParserError)
        → Clear (in_halves r b if split else is_in r 8 b) (symbol_deed n split (immediate_at r if split else r) addend number y)
    symbol_clear split addend number (Ok y) = address_clear split _
    symbol_clear split addend number (Err e) = never

  module _ (s im : List ℕ) (short : length im ≤ 2 ^ 24) (r : ℕ) where
    clear6464 : (l : Layout) (split : Bool) (number : ℕ) (addend : Option ℕ) → Clear (in_halves r b if split else is_in r 8 b) (plan6464 s im l split r number addend)
    unfolding plan6464
    clear6464 l split number addend = one _ _ _ _ never (λ e. symbol_clear (length im) short r split _ number (dynamic_symbol_of s l number))

    relative_clear : (version2 in_text_lem : Bool) (addend : Option ℕ) → Clear (in_halves r b if in_text_lem else is_in r 8 b) (plan_relative im version2 in_text_lem r addend)
    unfolding plan_relative
    relative_clear version2 in_text_lem addend = both _ _ in_text_lem _ _ (text_clear (length im) short r _) (word_clear (length im) short r _)

    at_clear : (builtins : List ℕ) (j : Job) (info : ℕ) (addend : Option ℕ) → Clear (named_by j.version2 (text_holds j r) (info % 2 ^ 32) r b) (plan_at s im builtins j r info addend)
    unfolding plan_at named_by
    at_clear builtins j info addend =
        one _ _ _ _ never
        (λ e. both _ _ (eqb (info % 2 ^ 32) 1) _ _ (clear6464 j.layout (text_holds j r || not j.version2) (info / 2 ^ 32) addend)
        (both _ _ (eqb (info % 2 ^ 32) 8) _ _ (relative_clear j.version2 (text_holds j r) addend)
        (both _ _ (eqb (info % 2 ^ 32) 10) _ _ (clear6432 (length im) short r s builtins j (info / 2 ^ 32)) never)))

-- THE NAMED BYTES are those that a relocation writes, where it does not stop the load
pub named_exactly : (b : ℕ) (s im builtins : List ℕ) (j : Job) (p : Option ℕ) (info : ℕ) (addend : Option ℕ) → length im ≤ 2 ^ 24
    → stops (plan_of s im builtins j p info addend) ≡ false
    → named_at j p (info % 2 ^ 32) b ≡ writes (plan_of s im builtins j p info addend) b
named_exactly b s im builtins j (Some r) info addend short h = at_clear b s im short r builtins j info addend h
named_exactly b s im builtins j None info addend short h = never b h

stopped : (b : ℕ) (d : Result Deed ElfError) → stops d ≡ true → writes d b ≡ false
stopped b (Err r) e = refl
stopped b (Ok (RegisterOutside row)) e = refl
stopped b (Ok Skip) e = refl
stopped b (Ok (RegisterOnly row)) e = refl
stopped b (Ok (Halves low high v)) e = never b (sym e)
stopped b (Ok (Word at v)) e = never b (sym e)
stopped b (Ok (Key at k)) e = never b (sym e)
stopped b (Ok (Register row at)) e = never b (sym e)

-- so a byte that a relocation does not name is not written by it
pub unnamed_clear : (b : ℕ) (s im builtins : List ℕ) (j : Job) (p : Option ℕ) (info : ℕ) (addend : Option ℕ) → length im ≤ 2 ^ 24
    → named_at j p (info % 2 ^ 32) b ≡ false
    → writes (plan_of s im builtins j p info addend) b ≡ false
unnamed_clear b s im builtins j p info addend short h = go (stops (plan_of s im builtins j p info addend)) refl
  where
    go : (t : Bool) → stops (plan_of s im builtins j p info addend) ≡ t → writes (plan_of s im builtins j p info addend) b ≡ false
    go true e = stopped b (plan_of s im builtins j p info addend) e
    go false e = sym (named_exactly b s im builtins j p info addend short e) ∙ h
