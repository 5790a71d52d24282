-- Refusals: their numbers, and checks one after another.
use Rattle.std.specs.Prelude.{ℕ, ◌≡◌, refl, Bool, true, false, Result, Ok, Err}
use Rattle.std.proofs.Common.{arith}
use Rattle.ebpf.specs.Choice.{◌if◌else◌}
use Rattle.elf_parser.specs.declared.error.ElfParserError.{ElfParserError}
use Rattle.elf_parser.specs.declared.error.ElfParserError.TheVariants.{InvalidFileHeader, InvalidProgramHeader, InvalidSectionHeader, StringTooLong, OutOfBounds, InvalidSize, Overlap, SectionNotInOrder, NoSectionNameStringTable, InvalidDynamicSectionTable, InvalidAlignment, NoStringTable, NoDynamicStringTable, NoSuchIndex, NotASection, StringUnterminated}
use Rattle.elf_parser.specs.declared.error.Report.{Report}
use Rattle.elf_parser.specs.declared.parts.Place.{Place}

-- a refusal that has a number and a value alone, and one that speaks of a name
abbrev pub valued : ℕ → ℕ → Report
valued n v = record { number = n; value = v; start = 0; length = 0 }

abbrev pub named : ℕ → ℕ → Place → Report
named n v p = record { number = n; value = v; start = p.start; length = p.length }

-- the numbers of the scope
abbrev pub report_of : ElfParserError → Report
report_of InvalidFileHeader = valued 1 0
report_of InvalidProgramHeader = valued 2 0
report_of InvalidSectionHeader = valued 3 0
report_of (StringTooLong p) = named 4 0 p
report_of OutOfBounds = valued 5 0
report_of InvalidSize = valued 6 0
report_of Overlap = valued 7 0
report_of SectionNotInOrder = valued 8 0
report_of NoSectionNameStringTable = valued 9 0
report_of InvalidDynamicSectionTable = valued 10 0
report_of InvalidAlignment = valued 11 0
report_of NoStringTable = valued 12 0
report_of NoDynamicStringTable = valued 13 0
report_of NoSuchIndex = valued 45 0
report_of NotASection = valued 46 0
report_of (StringUnterminated p) = named 49 0 p

-- a check: it passes, or names what it refuses
abbrev pub Check : Type 0
Check = Result (Unit {0}) ElfParserError

-- one step, and what follows where it passes: the first refusal counts
abbrev pub and_then : {A B E : Type 0} → Result A E → (A → Result B E) → Result B E
and_then (Ok x) f = f x
and_then (Err r) f = Err r

-- one check after another: the first refusal counts
infixr 3 ◌then◌
abbrev pub ◌then◌ : {A B E : Type 0} → Result A E → Result B E → Result B E
a then b = and_then a (λ x. b)

pub then_stop : (a b : Check) (r : ElfParserError) → a ≡ Err r → Err r ≡ (a then b)
then_stop a b r e = rw e

pub then_go : (a b x : Check) → a ≡ Ok tt → x ≡ b → x ≡ (a then b)
then_go a b x e p = rw e p

-- a refusal is no answer
pub apart : {A E : Type 0} (r : E) (x : A) → ◌≡◌ {A = Result A E} (Err r) (Ok x) → ⊥
apart r x e = let z : ◌≡◌ {A = ℕ} 0 1 = cc in absurd_zero z
  where
    absurd_zero : ◌≡◌ {A = ℕ} 0 1 → ⊥
    absurd_zero z = omega arith

-- a row of checks, and what follows where they all pass, in the manner of `yes` and `no_go`
module _ {A B E : Type 0} (b : Bool) (r : E) (rest : Result A E) (f : A → Result B E) where
  pub row_stops : b ≡ true → Err r ≡ and_then (Err r if b else rest) f
  unfolding ◌if◌else◌
  row_stops e = rw e

  pub row_goes : (x : Result B E) → b ≡ false → x ≡ and_then rest f → x ≡ and_then (Err r if b else rest) f
  unfolding ◌if◌else◌
  row_goes x e p = rw e p

pub pass_first : (a b : Check) → (a then b) ≡ Ok tt → a ≡ Ok tt
pass_first (Ok tt) b e = refl
pass_first (Err r) b e = absurd (apart r tt e)

pub pass_rest : (a b : Check) → (a then b) ≡ Ok tt → b ≡ Ok tt
pass_rest (Ok x) b e = e
pass_rest (Err r) b e = absurd (apart r tt e)

pub ok_is : {A E : Type 0} (x y : A) → ◌≡◌ {A = Result A E} (Ok x) (Ok y) → x ≡ y
ok_is x y e = cc

-- what an answer says of the steps that led to it
pub record Went {A B E : Type 0} (a : Result A E) (f : A → Result B E) (y : B) : Type 0 where
  pub value : A
  pub first : a ≡ Ok value
  pub second : f value ≡ Ok y

pub went : {A B E : Type 0} (a : Result A E) (f : A → Result B E) (y : B) → and_then a f ≡ Ok y → Went a f y
went (Ok x) f y e = record { value = x; first = refl; second = e }
went (Err r) f y e = absurd (apart r y e)
