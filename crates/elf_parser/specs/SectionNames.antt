-- The sections that are found by their names.
use Rattle.std.specs.Prelude.{ℕ, ◌+◌, ◌<◌, ◌≡◌, refl, Bool, true, false, ◌&&◌, length, get_or, eqb, nat_eq, Option, Some, None, Result, Ok, Err}
use Rattle.std.specs.Cmp.Lexicographic.{pointwise}
use Rattle.std.proofs.Math.Numerals.{add-one}
use Rattle.std.proofs.Common.{ap}
use mathlib.Core.List.{List, [], ◌∷◌}
use Rattle.std.proofs.lemmas.Slice.Eq.{HasBytesAt, text_from_reads}
use Rattle.std.proofs.Math.ListN.{drop}
use Rattle.std.proofs.Math.Seq.{drop-cons, drop-length}
use borrow.Author.Tests.{eq-eqb, ne_eqb, eqb-true}
use Rattle.ebpf.specs.Choice.{◌if◌else◌, and_left, and_right}
use Rattle.elf_parser.specs.declared.error.ElfParserError.{ElfParserError}
use Rattle.elf_parser.specs.declared.error.ElfParserError.TheVariants.{InvalidSectionHeader}
use Rattle.elf_parser.specs.declared.types.Elf64Shdr.{Elf64Shdr}
use Rattle.elf_parser.specs.declared.section_names.Role.{Role}
use Rattle.elf_parser.specs.declared.section_names.Role.TheVariants.{SymbolTable, SymbolNames, DynamicSymbolNames}
use Rattle.elf_parser.specs.declared.section_names.Named.{Named}
use Rattle.elf_parser.specs.Errors.{and_then}
use Rattle.elf_parser.specs.Loops.{over}
use Rattle.elf_parser.specs.declared.parts.Place.{Place}
use Rattle.elf_parser.specs.Parts.{bytes_at, part_of}
use Rattle.elf_parser.specs.Strings.{string_in}
use Rattle.elf_parser.specs.Types.{section_header}

-- whether two lists are equal
unfoldable pub same_bytes : List ℕ → List ℕ → Bool
same_bytes [] [] = true
same_bytes [] (y ∷ ys) = false
same_bytes (x ∷ xs) [] = false
same_bytes (x ∷ xs) (y ∷ ys) = eqb x y && same_bytes xs ys

-- .symtab, .strtab, .dynstr
abbrev pub symtab : List ℕ
symtab = 46 ∷ 115 ∷ 121 ∷ 109 ∷ 116 ∷ 97 ∷ 98 ∷ []

abbrev pub strtab : List ℕ
strtab = 46 ∷ 115 ∷ 116 ∷ 114 ∷ 116 ∷ 97 ∷ 98 ∷ []

abbrev pub dynstr : List ℕ
dynstr = 46 ∷ 100 ∷ 121 ∷ 110 ∷ 115 ∷ 116 ∷ 114 ∷ []

unfoldable pub role_of : List ℕ → Option Role
role_of name =
    Some SymbolTable if same_bytes name symtab else
    Some SymbolNames if same_bytes name strtab else
    Some DynamicSymbolNames if same_bytes name dynstr else
    None

-- a header's place, unless there was one of its kind before
abbrev pub placed : Option ℕ → ℕ → Result (Option ℕ) ElfParserError
placed (Some before) at = Err InvalidSectionHeader
placed None at = Ok (Some at)

-- a section of a known name, its header at `at`
abbrev pub role_step : Role → ℕ → Named → Result Named ElfParserError
role_step SymbolTable at n = and_then (placed n.symtab at) (λ p. Ok (record { symtab = p; strtab = n.strtab; dynstr = n.dynstr }))
role_step SymbolNames at n = and_then (placed n.strtab at) (λ p. Ok (record { symtab = n.symtab; strtab = p; dynstr = n.dynstr }))
role_step DynamicSymbolNames at n = and_then (placed n.dynstr at) (λ p. Ok (record { symtab = n.symtab; strtab = n.strtab; dynstr = p }))

abbrev pub named_step : Option Role → ℕ → Named → Result Named ElfParserError
named_step (Some role) at n = role_step role at n
named_step None at n = Ok n

-- the section header at `at`; its name, of fewer than 16 bytes, is in the string table `names`
abbrev pub name_step : List ℕ → Elf64Shdr → Elf64Shdr → ℕ → Named → Result Named ElfParserError
name_step s names h at n = and_then (string_in s names h.sh_name 16) (λ p. named_step (role_of (bytes_at s p.start p.length)) at n)

abbrev pub none_named : Named
none_named = record { symtab = None; strtab = None; dynstr = None }

-- `count` section headers from `from` on
abbrev pub names_of : List ℕ → Elf64Shdr → ℕ → ℕ → Result Named ElfParserError
names_of s names count from = over (λ at n. name_step s names (section_header s at) at n) 64 count from none_named

-- ---- laws of equal lists

-- lists that pass the test are equal
pub same_equal : (a b : List ℕ) → same_bytes a b ≡ true → a ≡ b
unfolding same_bytes
same_equal [] [] e = refl
same_equal [] (y ∷ ys) e = cc
same_equal (x ∷ xs) [] e = cc
same_equal (x ∷ xs) (y ∷ ys) e =
    let h : x ≡ y = eqb-true x y (and_left (eqb x y) (same_bytes xs ys) e) in
    let t : xs ≡ ys = same_equal xs ys (and_right (eqb x y) (same_bytes xs ys) e) in
    rw (h, t)

pub same_short : (a b : List ℕ) → (length a ≡ length b → ⊥) → same_bytes a b ≡ false
same_short a b h = go (same_bytes a b) refl
  where
    go : (t : Bool) → same_bytes a b ≡ t → t ≡ false
    go true e = absurd (h (ap length (same_equal a b e)))
    go false e = refl

-- from number i on
module _ (a b : List ℕ) where
  pub same_end : (i : ℕ) → i ≡ length a → i ≡ length b → same_bytes (drop i a) (drop i b) ≡ true
  unfolding same_bytes
  same_end i p q =
      let u : drop i a ≡ [] = rw p (drop-length a) in
      let v : drop i b ≡ [] = rw q (drop-length b) in
      rw (u, v)

  module _ (i : ℕ) (p : i < length a) (q : i < length b) where
    pub same_next : get_or a i 0 ≡ get_or b i 0 → same_bytes (drop i a) (drop i b) ≡ same_bytes (drop (i + 1) a) (drop (i + 1) b)
    unfolding same_bytes
    same_next e = rw (drop-cons a i 0 p, drop-cons b i 0 q, add-one, eq-eqb _ _ e)

    pub same_stop : (get_or a i 0 ≡ get_or b i 0 → ⊥) → same_bytes (drop i a) (drop i b) ≡ false
    unfolding same_bytes
    same_stop e = rw (drop-cons a i 0 p, drop-cons b i 0 q, ne_eqb _ _ e)

-- the test of the library
pub same_tested : (a b : List ℕ) → pointwise nat_eq a b ≡ same_bytes a b
unfolding same_bytes
same_tested [] [] = refl
same_tested [] (y ∷ ys) = refl
same_tested (x ∷ xs) [] = refl
same_tested (x ∷ xs) (y ∷ ys) = ap (λ t. eqb x y && t) (same_tested xs ys)

-- a name that was found, whatever its place
pub named_at : (s : List ℕ) (r : Result Place ElfParserError) (p : Place) (at : ℕ) (n : Named) → r ≡ Ok p
    → named_step (role_of (part_of s r)) at n ≡ and_then r (λ q. named_step (role_of (bytes_at s q.start q.length)) at n)
named_at s r p at n e = rw e

-- ---- a name by its length and its bytes, as a match on it reads them

abbrev pub Reads : List ℕ → List ℕ → Type 0
Reads name p = (length name ≡ length p) × HasBytesAt name 0 p

another : (name p : List ℕ) → Reads p p → (Reads name p → ⊥) → same_bytes name p ≡ false
another name p own h = by (same_bytes name p) refl
  where
    by : (t : Bool) → same_bytes name p ≡ t → t ≡ false
    by true e = let q : name ≡ p = same_equal name p e in absurd ((rw q at h) own)
    by false e = refl

own_bytes : Reads symtab symtab × Reads strtab strtab × Reads dynstr dynstr
own_bytes = ((refl, (refl, (refl, (refl, (refl, (refl, (refl, (refl, tt)))))))), (refl, (refl, (refl, (refl, (refl, (refl, (refl, (refl, tt)))))))), (refl, (refl, (refl, (refl, (refl, (refl, (refl, (refl, tt)))))))))

module _ (name : List ℕ) where
  pub symtab_read : Reads name symtab → Some SymbolTable ≡ role_of name
  unfolding role_of same_bytes ◌if◌else◌
  symtab_read r = rw (text_from_reads name symtab r.0 r.1)

  pub strtab_read : Reads name strtab → Some SymbolNames ≡ role_of name
  unfolding role_of same_bytes ◌if◌else◌
  strtab_read r = rw (text_from_reads name strtab r.0 r.1)

  pub dynstr_read : Reads name dynstr → Some DynamicSymbolNames ≡ role_of name
  unfolding role_of same_bytes ◌if◌else◌
  dynstr_read r = rw (text_from_reads name dynstr r.0 r.1)

  pub others_read : (Reads name symtab → ⊥) → (Reads name strtab → ⊥) → (Reads name dynstr → ⊥) → None ≡ role_of name
  unfolding role_of ◌if◌else◌
  others_read h k l = rw (another name symtab own_bytes.0 h, another name strtab own_bytes.1 k, another name dynstr own_bytes.2 l)
