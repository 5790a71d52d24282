-- Names of a string table.
use Prim.Native.Nat.{ℕ, zero, suc, ◌+◌, ◌-◌, ◌≤◌, ◌<◌, ◌^◌, min}
use Rattle.std.proofs.Common.{sym, ◌∙◌, arith, add-one, one-add, length-drop, eq-eqb, ne_eqb, leb-false, ltb-true, ltb-false}
use Rattle.std.specs.Prelude.{◌≡◌, ◌==◌, position, slice_range, ◌∷◌, cond, Bool, true, false, not, List, length, get_or, take, drop, ltb, eqb, Some, None, Result, Ok, Err}
use Rattle.std.proofs.Math.Path.{refl}
use Rattle.std.proofs.lemmas.List.{length-take-le}
use Rattle.std.proofs.Math.Seq.{drop-cons}
use Rattle.std.specs.List.{prefix_len}
use Rattle.ebpf.specs.Choice.{◌if◌else◌, not_first, row_rest, row_cases, past_word}
use Rattle.elf_parser.specs.declared.error.ElfParserError.{ElfParserError}
use Rattle.elf_parser.specs.declared.error.ElfParserError.TheVariants.{OutOfBounds, InvalidSectionHeader, StringTooLong, StringUnterminated}
use Rattle.elf_parser.specs.declared.parts.Place.{Place}
use Rattle.elf_parser.specs.declared.types.Elf64Shdr.{Elf64Shdr}
use Rattle.elf_parser.specs.Errors.{Check, and_then, apart}
use Rattle.elf_parser.specs.Parts.{stands}
use Rattle.elf_parser.specs.Types.{SHT_STRTAB}

-- where the bytes end that are searched: at the limit or the table's end
abbrev pub search_end : ℕ → ℕ → ℕ → ℕ → ℕ
search_end sh-offset sh-size offset most = min (sh-offset + sh-size) (sh-offset + offset + most)

unfoldable pub string_check : ℕ → ℕ → ℕ → ℕ → ℕ → ℕ → Check
string_check len sh-type sh-offset sh-size offset most =
    Err InvalidSectionHeader if not (eqb sh-type SHT_STRTAB) else
    Err OutOfBounds if past_word (sh-offset + offset) else
    Err OutOfBounds if past_word (sh-offset + sh-size) else
    Err OutOfBounds if past_word (sh-offset + offset + most) else
    Err OutOfBounds if ltb (search_end sh-offset sh-size offset most) (sh-offset + offset) else
    Err OutOfBounds if ltb len (search_end sh-offset sh-size offset most) else
    Ok tt

-- how many of the n bytes from `at` on stand before the first zero byte; n where none is zero
unfoldable pub before_zero : ℕ → List ℕ → ℕ → ℕ
before_zero zero s at = 0
before_zero (suc n) s at = 0 if eqb (get_or s at 0) 0 else suc (before_zero n s (at + 1))

-- no zero byte: `cut` says whether the section ends before the limit
unfoldable pub no_zero : Bool → Place → ElfParserError
no_zero cut p =
    StringUnterminated p if cut else
    StringTooLong p

-- the n bytes from `start` on up to their first zero byte
unfoldable pub terminated : Bool → ℕ → List ℕ → ℕ → Result Place ElfParserError
terminated cut n s start =
    let k : ℕ = before_zero n s start in
    stands start k if ltb k n else
    Err (no_zero cut (record { start = start; length = k }))

-- the name at an offset of a string table, of fewer than `most` bytes
unfoldable pub string_in : List ℕ → Elf64Shdr → ℕ → ℕ → Result Place ElfParserError
string_in s h offset most =
    and_then (string_check (length s) h.sh_type h.sh_offset h.sh_size offset most)
    (λ x. terminated (ltb (h.sh_offset + h.sh_size) (h.sh_offset + offset + most)) (search_end h.sh_offset h.sh_size offset most - (h.sh_offset + offset)) s (h.sh_offset + offset))

-- ---- laws

module _ (s : List ℕ) (at : ℕ) where
  pub zero_here : (n : ℕ) → 0 < n → get_or s at 0 ≡ 0 → before_zero n s at ≡ 0
  unfolding before_zero ◌if◌else◌
  zero_here zero h e = refl
  zero_here (suc n) h e = simp (eq-eqb _ _ e)

  pub zero_later : (n m : ℕ) → n ≡ suc m → (get_or s at 0 ≡ 0 → ⊥) → before_zero n s at ≡ suc (before_zero m s (at + 1))
  unfolding before_zero ◌if◌else◌
  zero_later n m e h = rw e (simp (ne_eqb _ _ h))

  pub zero_none : (n : ℕ) → n ≤ 0 → before_zero n s at ≡ 0
  unfolding before_zero
  zero_none zero h = refl
  zero_none (suc n) h = absurd (omega arith)

before_most : (n at : ℕ) (s : List ℕ) → before_zero n s at ≤ n
unfolding before_zero ◌if◌else◌
before_most zero at s = omega arith
before_most (suc n) at s = go (eqb (get_or s at 0) 0) (before_most n (at + 1) s)
  where
    go : (b : Bool) → before_zero n s (at + 1) ≤ n → (0 if b else suc (before_zero n s (at + 1))) ≤ suc n
    go true h = omega arith
    go false h = omega (arith, h)

-- the first zero byte, as the library's search finds it
prefix_is : (n at : ℕ) (s : List ℕ) → at + n ≤ length s → prefix_len (λ b. not (b == 0)) (take n (drop at s)) ≡ before_zero n s at
unfolding before_zero ◌if◌else◌
prefix_is zero at s h = refl
prefix_is (suc n) at s h =
    let a : at < length s = omega arith in
    let next : prefix_len (λ b. not (b == 0)) (take n (drop (at + 1) s)) ≡ before_zero n s (at + 1) = prefix_is n (at + 1) s (omega arith) in
    let e : drop at s ≡ get_or s at 0 ∷ drop (at + 1) s = rw add-one (drop-cons s at 0 a) in
    rw e (go (eqb (get_or s at 0) 0) refl next)
  where
    go : (t : Bool) → eqb (get_or s at 0) 0 ≡ t → prefix_len (λ b. not (b == 0)) (take n (drop (at + 1) s)) ≡ before_zero n s (at + 1)
        → prefix_len (λ b. not (b == 0)) (get_or s at 0 ∷ take n (drop (at + 1) s)) ≡ (0 if eqb (get_or s at 0) 0 else suc (before_zero n s (at + 1)))
    go true e next = rw e
    go false e next = rw (e, next, one-add)

first_zero : (n at : ℕ) (s : List ℕ) → at + n ≤ length s
    → position (λ b. b == 0) (take n (drop at s)) ≡ cond (ltb (before_zero n s at) n) (Some (before_zero n s at)) None
first_zero n at s h =
    let k : length (take n (drop at s)) ≡ n = length-take-le n (drop at s) (simp length-drop (omega arith)) in
    rw (prefix_is n at s h, k)

-- the n bytes from `start` on up to their first zero byte, and the refusal `missing` where none is zero
unfoldable pub ended : ElfParserError → ℕ → List ℕ → ℕ → Result Place ElfParserError
ended missing n s start = stands start (before_zero n s start) if ltb (before_zero n s start) n else Err missing

-- what it finds is where the name ends
module _ (missing : ElfParserError) (start end : ℕ) (s : List ℕ) (o : start ≤ end) (w : end ≤ length s) where
  pub zero_found : (k : ℕ) → position (λ b. b == 0) (slice_range s start end) ≡ Some k → Ok (record { start = start; length = k }) ≡ ended missing (end - start) s start
  unfolding ended ◌if◌else◌
  zero_found k e = go (ltb (before_zero (end - start) s start) (end - start)) (sym (first_zero (end - start) start s (omega arith)) ∙ e)
    where
      go : (b : Bool) → cond b (Some (before_zero (end - start) s start)) None ≡ Some k
          → Ok (record { start = start; length = k }) ≡ (stands start (before_zero (end - start) s start) if b else Err missing)
      go true q = let r : before_zero (end - start) s start ≡ k = cc in rw r
      go false q = absurd (let z : ◌≡◌ {A = ℕ} 0 1 = cc in omega arith)

  pub zero_missing : position (λ b. b == 0) (slice_range s start end) ≡ None → Err missing ≡ ended missing (end - start) s start
  unfolding ended ◌if◌else◌
  zero_missing e = go (ltb (before_zero (end - start) s start) (end - start)) (sym (first_zero (end - start) start s (omega arith)) ∙ e)
    where
      go : (b : Bool) → cond b (Some (before_zero (end - start) s start)) None ≡ None
          → Err missing ≡ (stands start (before_zero (end - start) s start) if b else Err missing)
      go true q = absurd (let z : ◌≡◌ {A = ℕ} 0 1 = cc in omega arith)
      go false q = refl

-- with the refusal that a name without an end has
pub ended_terminated : (cut : Bool) (n : ℕ) (s : List ℕ) (start : ℕ) → ended (no_zero cut (record { start = start; length = n })) n s start ≡ terminated cut n s start
unfolding ended terminated ◌if◌else◌
ended_terminated cut n s start = go (ltb (before_zero n s start) n) refl
  where
    go : (b : Bool) → ltb (before_zero n s start) n ≡ b
        → (stands start (before_zero n s start) if b else Err (no_zero cut (record { start = start; length = n }))) ≡ (stands start (before_zero n s start) if b else Err (no_zero cut (record { start = start; length = before_zero n s start })))
    go true p = refl
    go false p = let k : before_zero n s start ≡ n = omega (arith, before_most n start s, ltb-false _ _ p) in rw k

-- what is known of the range that is searched, where the checks pass
pub record Readable (len sh-offset sh-size offset most : ℕ) : Type 0 where
  pub start_fits : sh-offset + offset < 2 ^ 64
  pub size_fits : sh-offset + sh-size < 2 ^ 64
  pub most_fits : sh-offset + offset + most < 2 ^ 64
  pub ordered : sh-offset + offset ≤ search_end sh-offset sh-size offset most
  pub within : search_end sh-offset sh-size offset most ≤ len

pub readable : (len sh-type sh-offset sh-size offset most : ℕ) → string_check len sh-type sh-offset sh-size offset most ≡ Ok tt → Readable len sh-offset sh-size offset most
unfolding string_check
readable len sh-type sh-offset sh-size offset most e =
    let e1 = row_rest _ _ _ _ (apart _ _) e in
    let e2 = row_rest _ _ _ _ (apart _ _) e1 in
    let e3 = row_rest _ _ _ _ (apart _ _) e2 in
    let e4 = row_rest _ _ _ _ (apart _ _) e3 in
    record {
      start_fits = leb-false _ _ (not_first _ _ _ _ (apart _ _) e1);
      size_fits = leb-false _ _ (not_first _ _ _ _ (apart _ _) e2);
      most_fits = leb-false _ _ (not_first _ _ _ _ (apart _ _) e3);
      ordered = ltb-false _ _ (not_first _ _ _ _ (apart _ _) e4);
      within = ltb-false _ _ (not_first _ _ _ _ (apart _ _) (row_rest _ _ _ _ (apart _ _) e4));
    }

-- a name that was found lies in the file, with its zero byte, and has fewer bytes than were searched
pub terminated_within : (cut : Bool) (n : ℕ) (s : List ℕ) (from : ℕ) (p : Place) → terminated cut n s from ≡ Ok p → (p.start + p.length < from + n) × (p.length < n)
unfolding terminated
terminated_within cut n s from p e =
    row_cases _ _ _ _ _
    (λ b q. let r : record { start = from; length = before_zero n s from } ≡ p = cc in
    rw (← r) (let l = ltb-true (before_zero n s from) n b in (omega (arith, l), l)))
    (λ b q. absurd (apart _ _ q))
    e

pub string_within : (s : List ℕ) (h : Elf64Shdr) (offset most : ℕ) (p : Place) → string_in s h offset most ≡ Ok p → (p.start + p.length < length s) × (p.length < most)
unfolding string_in
string_within s h offset most p e = go (string_check (length s) h.sh_type h.sh_offset h.sh_size offset most) refl e
  where
    go : (d : Check)
        → string_check (length s) h.sh_type h.sh_offset h.sh_size offset most ≡ d
        → and_then d (λ x. terminated (ltb (h.sh_offset + h.sh_size) (h.sh_offset + offset + most)) (search_end h.sh_offset h.sh_size offset most - (h.sh_offset + offset)) s (h.sh_offset + offset)) ≡ Ok p
        → (p.start + p.length < length s) × (p.length < most)
    go (Ok tt) q r =
        let t = terminated_within _ _ _ _ _ r in
        let u = readable _ _ _ _ _ _ q in
        (omega (arith, t.0, u), omega (arith, t.1))
    go (Err x) q r = absurd (apart _ _ r)
