-- What the gathering of the read-only sections leaves: the text among them, and where they stay in the image, each stands at one
-- constant above its offset in the file, so that they lie in it.
-- Assumes nothing.
use Prim.Native.Nat.{ℕ, zero, suc, ◌+◌, ◌-◌, ◌≤◌, ◌<◌}
use native.Mathlib.Omega.{arith}
use native.Mathlib.Nat.{eq-or-lt_of_le}
use mathlib.Core.Path.{◌≡◌, refl, sym, ap, subst, ◌∙◌}
use mathlib.Core.Logic.{⊎_elim}
use mathlib.Core.Bool.{Bool, true, false, ◌&&◌, not, true≢false}
use mathlib.Core.List.{List}
use lib.ListN.{length}
use lib.Dec.{eqb}
use borrow.Author.Tests.{ltb-false, eqb-true, le-leb, not-false, not-true}
use Rattle.std.specs.Prelude.{Result, Ok, Err, Option, Some, None, is_some}
use Rattle.std.specs.Option.{unwrap_or}
use Rattle.ebpf.specs.Choice.{◌if◌else◌, not_first, row_rest, and_left, and_right, yes, and_false, row_cases}
use Rattle.elf_parser.specs.declared.layout.Layout.{Layout}
use Rattle.elf_parser.specs.declared.types.Elf64Shdr.{Elf64Shdr}
use Rattle.elf_parser.specs.Errors.{and_then, apart, went}
use Rattle.elf_parser.specs.Loops.{over}
use Rattle.elf_parser.specs.Records.{file_range, section_header_of, file_range_of, range_lies}
use Rattle.program.proofs.Cases.{by_test}
use Rattle.loader.specs.declared.read_only.Placing.TheVariants.{Borrowed, Owned}
use Rattle.loader.specs.declared.error.ElfError.{ElfError}
use Rattle.loader.specs.declared.read_only.Extent.{Extent}
use Rattle.loader.specs.Addresses.{MM_PROGRAM_START, MM_STACK_START}
use Rattle.loader.specs.Sections.{header_or, section_at, name_of}
use Rattle.loader.specs.ReadOnly.{read_only, gives, invalid_by, end_of, grown, taken, taken_at, gather_step, nothing, gathered, from_start, can_borrow, shift_of, borrowed, owned, placed, placing_by, placing}
use Rattle.loader.specs.Placed.{Inside, not_borrowed, end_ahead}
use Rattle.loader.proofs.Readied.{Lies}
use Rattle.elf_parser.specs.declared.error.ElfParserError.{ElfParserError}
use Rattle.elf_parser.specs.declared.parts.Place.{Place}

-- ---- rows and tests

-- ---- a section that breaks nothing stands at the constant above its file offset

module _ (addr offset : ℕ) (x : Extent) where
  plain_offset : invalid_by false addr offset x ≡ false → (x.invalid ≡ false) × (addr ≡ offset)
  unfolding invalid_by
  plain_offset e =
      let e1 = row_rest _ _ _ _ true≢false e in
      let e2 : not (eqb addr offset) ≡ false = yes _ _ _ refl ∙ e1 in
      (not_first _ _ _ _ true≢false e, eqb-true addr offset (not-false _ e2))

  shifted_offset : invalid_by true addr offset x ≡ false → (x.invalid ≡ false) × (offset ≤ addr) × ((shift : ℕ) → x.shift ≡ Some shift → shift ≡ addr - offset)
  unfolding invalid_by
  shifted_offset e =
      let e1 = row_rest _ _ _ _ true≢false e in
      let e2 = row_cases _ _ _ _ _ (λ b q. absurd (true≢false (sym b))) (λ b q. q) e1 in
      let e3 = row_rest _ _ _ _ true≢false e2 in (
        not_first _ _ _ _ true≢false e,
        ltb-false addr offset (not_first _ _ _ _ true≢false e2),
        λ shift on. eqb-true shift (addr - offset) (not-false _ (rw on at e3)),
      )

  gives_first : x.invalid ≡ false → offset ≤ addr → x.shift ≡ None → gives true addr offset x ≡ true
  unfolding gives
  gives_first v le off = rw (le-leb offset addr le, v, off) refl

-- ---- the sections gathered so far

abbrev MAX : ℕ
MAX = 0xffff_ffff_ffff_ffff

-- where no offset is invalid, they lie in the file, the constant less than their addresses; in version 1 it is 0, and in version 2
-- the first one gives it
pub record Shifts (version2 : Bool) (len : ℕ) (x : Extent) : Type 0 where
  pub kept : x.invalid ≡ false → (shift_of x ≤ x.lowest) × (x.highest ≤ shift_of x + len)
  pub plain : version2 ≡ false → shift_of x ≡ 0
  pub blank : version2 ≡ true → x.invalid ≡ false → x.shift ≡ None → (x.lowest ≡ MAX) × (x.highest ≡ 0)

module _ (i addr offset n len : ℕ) (x : Extent) (lies : offset + n ≤ len) where
  grown_plain : Shifts false len x → Shifts false len (grown false i addr offset n x)
  unfolding grown gives ◌if◌else◌
  grown_plain s = record {
    kept = λ e.
        let p = plain_offset addr offset x e in
        let k = s.kept p.0 in
        let z = s.plain refl in
        (omega (arith, p.1, k.0, k.1, z), omega (arith, p.1, k.0, k.1, z, lies));
    plain = λ e. s.plain refl;
    blank = λ e. absurd (true≢false (sym e));
  }

  -- the constant afterwards is this section's
  shift_is : invalid_by true addr offset x ≡ false → unwrap_or (Some (addr - offset) if gives true addr offset x else x.shift) 0 ≡ addr - offset
  unfolding ◌if◌else◌
  shift_is e =
      let p = shifted_offset addr offset x e in
      by_test (gives true addr offset x) (λ b. unwrap_or (Some (addr - offset) if b else x.shift) 0 ≡ addr - offset) (λ g. refl) (λ g. go p g x.shift refl)
    where
      go : (x.invalid ≡ false) × (offset ≤ addr) × ((shift : ℕ) → x.shift ≡ Some shift → shift ≡ addr - offset)
          → gives true addr offset x ≡ false
          → (o : Option ℕ) → x.shift ≡ o → unwrap_or o 0 ≡ addr - offset
      go p g (Some shift) is = p.2 shift is
      go p g None is = absurd (true≢false (sym (gives_first addr offset x p.0 p.1 is) ∙ g))

  grown_shifted : addr ≤ MM_STACK_START → Shifts true len x → Shifts true len (grown true i addr offset n x)
  unfolding grown ◌if◌else◌
  grown_shifted ahead s = record {
    kept = λ e. within e x.shift refl;
    plain = λ e. absurd (true≢false e);
    blank = λ v e off.
        let p = shifted_offset addr offset x e in
        unshifted p (gives true addr offset x) refl off;
  }
    where
      within : invalid_by true addr offset x ≡ false → (o : Option ℕ) → x.shift ≡ o
          → (shift_of (grown true i addr offset n x) ≤ (grown true i addr offset n x).lowest) × ((grown true i addr offset n x).highest ≤ shift_of (grown true i addr offset n x) + len)
      within e (Some shift) on =
          let p = shifted_offset addr offset x e in
          let q = shift_is e in
          let k = s.kept p.0 in
          let c : shift_of x ≡ addr - offset = ap (λ (o : Option ℕ). unwrap_or o 0) on ∙ p.2 shift on in
          (omega (arith, q, c, k.0, p.1), omega (arith, q, c, k.1, p.1, lies))
      within e None off =
          let p = shifted_offset addr offset x e in
          let q = shift_is e in
          let z = s.blank refl p.0 off in
          (omega (arith, q, z.0, ahead, p.1), omega (arith, q, z.1, p.1, lies))

      unshifted : (x.invalid ≡ false) × (offset ≤ addr) × ((shift : ℕ) → x.shift ≡ Some shift → shift ≡ addr - offset)
          → (b : Bool) → gives true addr offset x ≡ b → (Some (addr - offset) if b else x.shift) ≡ None
          → ((grown true i addr offset n x).lowest ≡ MAX) × ((grown true i addr offset n x).highest ≡ 0)
      unshifted p true g off = absurd (true≢false (ap is_some off))
      unshifted p false g off = absurd (true≢false (sym (gives_first addr offset x p.0 p.1 off) ∙ g))

grown_keeps : (version2 : Bool) (i addr offset n len : ℕ) (x : Extent) → offset + n ≤ len → addr ≤ MM_STACK_START → Shifts version2 len x → Shifts version2 len (grown version2 i addr offset n x)
grown_keeps true i addr offset n len x lies ahead s = grown_shifted i addr offset n len x lies ahead s
grown_keeps false i addr offset n len x lies ahead s = grown_plain i addr offset n len x lies s

-- ---- where a section stands that was taken

-- its bytes end in the file where its whole range does
by_lies : (len : ℕ) (h : Result Elf64Shdr ElfParserError) (p : Place) → (header_or h).sh_offset + (header_or h).sh_size ≤ len → and_then h (file_range len) ≡ Ok p → (header_or h).sh_offset + p.length ≤ len
by_lies len (Ok h) p lies e = range_lies len h p lies e
by_lies len (Err r) p lies e = absurd (apart _ _ e)

module _ (version2 : Bool) (i : ℕ) (h : Elf64Shdr) (n : ℕ) (x : Extent) where
  -- the section taken has its bytes between the lowest and the highest address
  grown_inside : h.sh_addr ≤ MM_STACK_START → Inside h n (grown version2 i h.sh_addr h.sh_offset n x)
  unfolding grown
  grown_inside ahead = record { above = omega arith; below = omega arith; ahead = ahead }

  -- those before it stay between them
  grown_still : (g : Elf64Shdr) (k : ℕ) → Inside g k x → Inside g k (grown version2 i h.sh_addr h.sh_offset n x)
  unfolding grown
  grown_still g k p =
      let a = p.above in
      let b = p.below in
      record { above = omega (arith, a); below = omega (arith, b); ahead = p.ahead }

  taken_grows : (reject-broken : Bool) (z : Extent) → taken version2 reject-broken i h n x ≡ Ok z → (h.sh_addr ≤ MM_STACK_START) × (grown version2 i h.sh_addr h.sh_offset n x ≡ z)
  unfolding taken
  taken_grows reject-broken z e =
      let e1 = row_rest _ _ _ _ (apart _ _) e in
      let e2 : Ok (grown version2 i h.sh_addr h.sh_offset n x) ≡ Ok z = row_rest _ _ _ _ (apart _ _) e1 in
      let f = ltb-false MM_STACK_START (end_of version2 h.sh_addr h.sh_size) (not_first _ _ _ _ (apart _ _) e1) in
      (end_ahead version2 h.sh_addr h.sh_size _ refl f, cc)

-- ---- all sections, with one of them: the text's

-- the first i sections are passed
pub record Spans (s : List ℕ) (l : Layout) (version2 : Bool) (t k i : ℕ) (x : Extent) : Type 0 where
  pub shifts : Shifts version2 (length s) x
  pub text : t < i → Inside (section_at s l t) k x

module _ (s : List ℕ) (l : Layout) (version2 reject-broken : Bool) (count t k : ℕ) (lie : (i : ℕ) → i < count → Lies s l i) (named : read_only (name_of s l (section_at s l t)) ≡ true) (q : Place) (stands : file_range_of s l t ≡ Ok q) (long : q.length ≡ k) where
  place_spans : (i : ℕ) (x z : Extent) → i < count
      → (p : Result Place ElfParserError)
      → file_range_of s l i ≡ p
      → taken_at version2 reject-broken i (section_at s l i) x p ≡ Ok z
      → Spans s l version2 t k i x
      → Spans s l version2 t k (i + 1) z
  unfolding section_at
  place_spans i x z below (Ok p) at e g =
      let b : ℕ = p.length in
      let h = section_at s l i in
      let lies : h.sh_offset + b ≤ length s = by_lies (length s) (section_header_of s l i) p (lie i below) at in
      let w = taken_grows version2 i h b x reject-broken z e in
      subst (Spans s l version2 t k (i + 1)) w.1
      (record {
        shifts = grown_keeps version2 i h.sh_addr h.sh_offset b (length s) x lies w.0 g.shifts;
        text = λ lt. ⊎_elim
            (λ same. own same p at w.0)
            (λ less. grown_still version2 i h b x (section_at s l t) k (g.text (omega (arith, less))))
            (eq-or-lt_of_le (at_most lt));
      })
    where
      at_most : t < i + 1 → t ≤ i
      at_most lt = omega (arith, lt)

      own : t ≡ i → (p : Place) → file_range_of s l i ≡ Ok p → (section_at s l i).sh_addr ≤ MM_STACK_START → Inside (section_at s l t) k (grown version2 i (section_at s l i).sh_addr (section_at s l i).sh_offset p.length x)
      own same p at ahead =
          let e : Ok q ≡ Ok p = sym stands ∙ ap (file_range_of s l) same ∙ at in
          let w : q ≡ p = cc in
          let r : k ≡ p.length = sym long ∙ ap (λ (z : Place). z.length) w in
          rw (same, r) (grown_inside version2 i (section_at s l i) p.length x ahead)
  place_spans i x z below (Err r) at e g = absurd (apart _ _ e)

  step_spans : (i : ℕ) (x z : Extent) → i < count → gather_step s l version2 reject-broken i x ≡ Ok z → Spans s l version2 t k i x → Spans s l version2 t k (i + 1) z
  unfolding gather_step
  step_spans i x z below e g = row_cases _ _ _ _ _ (λ b q. passed b q) (λ b q. place_spans i x z below (file_range_of s l i) refl q g) e
    where
      at_most : t < i + 1 → t ≤ i
      at_most lt = omega (arith, lt)

      passed : not (read_only (name_of s l (section_at s l i))) ≡ true → ◌≡◌ {A = Result Extent ElfError} (Ok x) (Ok z) → Spans s l version2 t k (i + 1) z
      passed b q =
          let p : x ≡ z = cc in
          subst (Spans s l version2 t k (i + 1)) p
          (record {
            shifts = g.shifts;
            text = λ lt. ⊎_elim
                (λ same. absurd (true≢false (sym (subst (λ (u : ℕ). read_only (name_of s l (section_at s l u)) ≡ true) same named) ∙ not-true _ b)))
                (λ less. g.text (omega (arith, less)))
                (eq-or-lt_of_le (at_most lt));
          })

  all_span : (n i : ℕ) (x y : Extent) → i + n ≡ count → over (gather_step s l version2 reject-broken) 1 n i x ≡ Ok y → Spans s l version2 t k i x → Spans s l version2 t k count y
  unfolding over
  all_span zero i x y all e g =
      let p : x ≡ y = cc in
      let q : i ≡ count = omega (arith, all) in
      subst (λ (u : ℕ). Spans s l version2 t k u y) q (subst (Spans s l version2 t k i) p g)
  all_span (suc n) i x y all e g =
      let v = went (gather_step s l version2 reject-broken i x) (over (gather_step s l version2 reject-broken) 1 n (i + 1)) y e in
      all_span n (i + 1) v.value y (omega (arith, all)) v.second (step_spans i x v.value (omega (arith, all)) v.first g)

  pub spans : (y : Extent) → gathered s l count version2 reject-broken ≡ Ok y → Spans s l version2 t k count y
  spans y e = all_span count 0 nothing y (omega arith) e (record {
    shifts = record { kept = λ v. (omega arith, omega arith); plain = λ v. refl; blank = λ v w o. (refl, refl) };
    text = λ lt. absurd (omega (arith, lt));
  })

-- ---- what a placing says

not_owned : (len : ℕ) (optimize : Bool) (x : Extent) (a b n : ℕ) → owned len optimize x ≡ Ok (Borrowed a b n) → ⊥
unfolding owned
not_owned len optimize x a b n e = row_cases _ _ _ _ _ (λ t q. apart _ _ q) (λ t q. let z : ◌≡◌ {A = ℕ} 0 1 = cc in omega arith) e

-- the offset of copied sections is their lowest address's
owned_offset : (len : ℕ) (optimize : Bool) (x : Extent) (offset lowest n : ℕ) → owned len optimize x ≡ Ok (Owned offset lowest n) → offset ≡ from_start lowest
unfolding owned
owned_offset len optimize x offset lowest n e =
    let lo : ℕ = x.lowest if optimize else 0 in
    let e1 : Ok (Owned (from_start lo) lo (x.highest - lo)) ≡ Ok (Owned offset lowest n) = row_rest _ _ _ _ (apart _ _) e in
    let p : lo ≡ lowest = cc in
    let q : from_start lo ≡ offset = cc in
    sym q ∙ ap from_start p

-- copied sections go from the lowest address on, or from 0 on where this is not optimized
owned_lowest : (len : ℕ) (optimize : Bool) (x : Extent) (offset lowest n : ℕ) → owned len optimize x ≡ Ok (Owned offset lowest n) → lowest ≡ (x.lowest if optimize else 0)
unfolding owned
owned_lowest len optimize x offset lowest n e =
    let lo : ℕ = x.lowest if optimize else 0 in
    let e1 : Ok (Owned (from_start lo) lo (x.highest - lo)) ≡ Ok (Owned offset lowest n) = row_rest _ _ _ _ (apart _ _) e in
    let p : lo ≡ lowest = cc in
    sym p

-- in version 2, which is always optimized, they are never copied
never_copied : (version2 optimize borrows : Bool) → (version2 && not borrows) ≡ false → (optimize && borrows) ≡ false → (version2 ≡ true → optimize ≡ true) → version2 ≡ false
never_copied false optimize borrows a b h = refl
never_copied true optimize true a b h = absurd (true≢false (sym (rw (h refl) refl) ∙ b))
never_copied true optimize false a b h = absurd (true≢false a)

module _ (len : ℕ) (version2 reject-broken optimize : Bool) (x : Extent) (offset at n : ℕ) where
  placed_owned : placed len version2 reject-broken optimize x ≡ Ok (Owned offset at n) → (version2 ≡ true → optimize ≡ true) → (version2 ≡ false) × (offset ≡ from_start at)
  unfolding placed
  placed_owned e on =
      let e1 = row_rest _ _ _ _ (apart _ _) e in
      let e2 = row_rest _ _ _ _ (apart _ _) e1 in
      let a = not_first _ _ _ _ (apart _ _) e1 in
      let b = not_first _ _ _ _ (not_borrowed version2 x offset at n) e2 in
      let e3 = row_rest _ _ _ _ (not_borrowed version2 x offset at n) e2 in
      (never_copied version2 optimize (can_borrow x) a b on, owned_offset len optimize x offset at n e3)

-- they stay in the image
pub record Stays (version2 : Bool) (x : Extent) (offset start n : ℕ) : Type 0 where
  pub valid : x.invalid ≡ false
  pub above : version2 ≡ true → MM_PROGRAM_START ≤ x.lowest
  pub offset_is : offset ≡ from_start x.lowest
  pub start_is : start ≡ x.lowest - shift_of x
  pub length_is : n ≡ (x.highest - shift_of x) - (x.lowest - shift_of x)

can_valid : (x : Extent) → can_borrow x ≡ true → x.invalid ≡ false
unfolding can_borrow
can_valid x e = not-true _ (and_left _ _ e)

borrowed_stays : (version2 : Bool) (x : Extent) (offset start n : ℕ) → x.invalid ≡ false → borrowed version2 x ≡ Ok (Borrowed offset start n) → Stays version2 x offset start n
unfolding borrowed
borrowed_stays version2 x offset start n v e =
    let e1 : Ok (Borrowed (from_start x.lowest) (x.lowest - shift_of x) ((x.highest - shift_of x) - (x.lowest - shift_of x))) ≡ Ok (Borrowed offset start n) = row_rest _ _ _ _ (apart _ _) e in
    let f = not_first _ _ _ _ (apart _ _) e in
    record {
      valid = v;
      above = λ on. ltb-false _ _ (and_false version2 _ f on);
      offset_is = cc;
      start_is = cc;
      length_is = cc;
    }

placed_stays : (len : ℕ) (version2 reject-broken optimize : Bool) (x : Extent) (offset start n : ℕ) → placed len version2 reject-broken optimize x ≡ Ok (Borrowed offset start n) → Stays version2 x offset start n
unfolding placed
placed_stays len version2 reject-broken optimize x offset start n e =
    let e1 = row_rest _ _ _ _ (apart _ _) e in
    let e2 = row_rest _ _ _ _ (apart _ _) e1 in
    row_cases _ _ _ _ _ (λ b q. borrowed_stays version2 x offset start n (can_valid x (and_right optimize _ b)) q) (λ b q. absurd (not_owned len optimize x offset start n q)) e2

module _ (s : List ℕ) (l : Layout) (count : ℕ) (version2 reject-broken optimize : Bool) (offset at n : ℕ) where
  -- where they are copied, the file is of version 1
  pub copied_offset : (version2 ≡ true → optimize ≡ true) → placing s l count version2 reject-broken optimize ≡ Ok (Owned offset at n) → (version2 ≡ false) × (offset ≡ from_start at)
  unfolding placing
  copied_offset on e = go (gathered s l count version2 reject-broken) e
    where
      go : (g : Result Extent ElfError) → placing_by (length s) version2 reject-broken optimize g ≡ Ok (Owned offset at n) → (version2 ≡ false) × (offset ≡ from_start at)
      go (Ok x) q = placed_owned (length s) version2 reject-broken optimize x offset at n q on
      go (Err r) q = absurd (apart _ _ q)

  -- where they stay in the image, they are all those that were gathered
  pub stays : placing s l count version2 reject-broken optimize ≡ Ok (Borrowed offset at n)
      → (x : Extent) × (gathered s l count version2 reject-broken ≡ Ok x) × Stays version2 x offset at n
  unfolding placing
  stays e = go (gathered s l count version2 reject-broken) refl e
    where
      go : (t : Result Extent ElfError)
          → gathered s l count version2 reject-broken ≡ t
          → placing_by (length s) version2 reject-broken optimize t ≡ Ok (Borrowed offset at n)
          → (x : Extent) × (gathered s l count version2 reject-broken ≡ Ok x) × Stays version2 x offset at n
      go (Ok x) h q = (x, h, placed_stays (length s) version2 reject-broken optimize x offset at n q)
      go (Err r) h q = absurd (apart _ _ q)

  -- where they are copied, it is from their lowest address on, or from 0 on where this is not optimized
  pub copied_lowest : placing s l count version2 reject-broken optimize ≡ Ok (Owned offset at n) → (x : Extent) × (gathered s l count version2 reject-broken ≡ Ok x) × (at ≡ (x.lowest if optimize else 0))
  unfolding placing placed
  copied_lowest e = go (gathered s l count version2 reject-broken) refl e
    where
      go : (g : Result Extent ElfError) → gathered s l count version2 reject-broken ≡ g → placing_by (length s) version2 reject-broken optimize g ≡ Ok (Owned offset at n)
          → (x : Extent) × (gathered s l count version2 reject-broken ≡ Ok x) × (at ≡ (x.lowest if optimize else 0))
      go (Ok x) h q =
          let e1 = row_rest _ _ _ _ (apart _ _) q in
          let e2 = row_rest _ _ _ _ (apart _ _) e1 in
          (x, h, owned_lowest (length s) optimize x offset at n (row_rest _ _ _ _ (not_borrowed version2 x offset at n) e2))
      go (Err r) h q = absurd (apart _ _ q)
