-- What a placing says of the sections: laws for the load.
use Prim.Native.Nat.{ℕ, zero, suc, ◌+◌, ◌-◌, ◌≤◌, ◌<◌, ◌^◌}
use native.Mathlib.Omega.{arith}
use Rattle.std.proofs.Common.{eq-or-lt_of_le, sym, ◌∙◌, true≢false}
use Rattle.std.specs.Prelude.{◌≡◌, Bool, ◌&&◌, drop, leb, Result, Ok, Err}
use Rattle.std.proofs.Math.Path.{refl, ap, subst}
use Rattle.std.proofs.Math.Logic.{⊎_elim}
use Rattle.std.proofs.Math.Bool.{true, false, not}
use mathlib.Core.List.{List}
use Rattle.std.proofs.Math.ListN.{length, length-drop}
use Rattle.std.proofs.Math.Seq.{paste, length-paste}
use Rattle.std.proofs.Math.Dec.{ltb}
use borrow.Author.Tests.{ltb-false, le-ltb}
use Rattle.ebpf.specs.Choice.{◌if◌else◌, no_go, not_first, row_rest, row_cases}
use Rattle.elf_parser.specs.declared.layout.Layout.{Layout}
use Rattle.elf_parser.specs.declared.types.Elf64Shdr.{Elf64Shdr}
use Rattle.elf_parser.specs.Loops.{over}
use Rattle.elf_parser.specs.Errors.{went, apart}
use Rattle.elf_parser.specs.Records.{file_range_of, range_within}
use Rattle.loader.specs.declared.read_only.Placing.TheVariants.{Owned}
use Rattle.loader.specs.declared.error.ElfError.{ElfError}
use Rattle.loader.specs.declared.read_only.Extent.{Extent}
use Rattle.loader.specs.Addresses.{sum_up_to, machine_addr, MM_PROGRAM_START, MM_STACK_START}
use Rattle.loader.specs.Sections.{section_at, name_of}
use Rattle.loader.specs.ReadOnly.{read_only, end_of, grown, taken, taken_at, gather_step, nothing, gathered, from_start, borrowed, owned, placed, placing_by, placing, copied_to, copied_at, copy_step}
use Rattle.elf_parser.specs.declared.error.ElfParserError.{ElfParserError}
use Rattle.elf_parser.specs.declared.parts.Place.{Place}

-- ---- the copy keeps the length

module _ (ro image : List ℕ) (at : ℕ) where
  to_length : (start n : ℕ) (z : List ℕ) → copied_to ro image at start n ≡ z → length z ≡ length ro
  unfolding copied_to
  to_length start n z e =
      row_cases _ _ _ _ _ (λ b q. ap length (sym q)) (λ b q. row_cases _ _ _ _ _ (λ b2 q2. ap length (sym q2)) (λ b2 q2. last b b2 q2) q) e
    where
      last : ltb (length image) (start + n) ≡ false → ltb (length ro) (at + n) ≡ false → paste ro at (drop start image) n ≡ z → length z ≡ length ro
      last b b2 q =
          let h : n ≤ length (drop start image) = simp length-drop (omega (arith, ltb-false (length image) (start + n) b)) in
          ap length (sym q) ∙ length-paste ro at (drop start image) n (ltb-false (length ro) (at + n) b2) h

  at_length : (p : Result Place ElfParserError) → length (copied_at ro image at p) ≡ length ro
  at_length (Ok p) = to_length p.start p.length (copied_to ro image at p.start p.length) refl
  at_length (Err r) = refl

module _ (image s : List ℕ) (l : Layout) (lowest : ℕ) where
  pub step_length : (i : ℕ) (ro : List ℕ) → length (copy_step image s l lowest i ro) ≡ length ro
  unfolding copy_step
  step_length i ro = go (copy_step image s l lowest i ro) refl
    where
      go : (z : List ℕ) → copy_step image s l lowest i ro ≡ z → length z ≡ length ro
      go z e = row_cases _ _ _ _ _ (λ b q. ap length (sym q)) (λ b q. ap length (sym q) ∙ at_length ro image ((section_at s l i).sh_addr - lowest) (file_range_of s l i)) e

-- ---- what `Owned` says

pub not_borrowed : (version2 : Bool) (x : Extent) (a b n : ℕ) → borrowed version2 x ≡ Ok (Owned a b n) → ⊥
unfolding borrowed
not_borrowed version2 x a b n e = row_cases _ _ _ _ _ (λ t q. apart _ _ q) (λ t q. let z : ◌≡◌ {A = ℕ} 0 1 = cc in omega arith) e

-- the bytes copied run from an address that no section lies below to the highest, and are not more than the file's
pub record Runs (len lowest n : ℕ) (x : Extent) : Type 0 where
  pub low : lowest ≤ x.lowest
  pub long : n ≡ x.highest - lowest
  pub fits : n ≤ len

or_zero : (b : Bool) (a : ℕ) → (a if b else 0) ≤ a
unfolding ◌if◌else◌
or_zero true a = omega arith
or_zero false a = omega arith

owned_runs : (len : ℕ) (optimize : Bool) (x : Extent) (offset lowest n : ℕ) → owned len optimize x ≡ Ok (Owned offset lowest n) → Runs len lowest n x
unfolding owned
owned_runs len optimize x offset lowest n e =
    let lo : ℕ = x.lowest if optimize else 0 in
    let e1 : Ok (Owned (from_start lo) lo (x.highest - lo)) ≡ Ok (Owned offset lowest n) = row_rest _ _ _ _ (apart _ _) e in
    let p : lo ≡ lowest = cc in
    let q : x.highest - lo ≡ n = cc in
    let f = ltb-false len (x.highest - lo) (not_first _ _ _ _ (apart _ _) e) in
    record { low = rw (← p) (or_zero optimize x.lowest); long = sym q ∙ ap (λ (k : ℕ). x.highest - k) p; fits = rw (← q) f }

placed_runs : (len : ℕ) (version2 reject-broken optimize : Bool) (x : Extent) (offset lowest n : ℕ) → placed len version2 reject-broken optimize x ≡ Ok (Owned offset lowest n)
    → Runs len lowest n x
unfolding placed
placed_runs len version2 reject-broken optimize x offset lowest n e =
    let e1 = row_rest _ _ _ _ (apart _ _) e in
    let e2 = row_rest _ _ _ _ (apart _ _) e1 in
    owned_runs len optimize x offset lowest n (row_rest _ _ _ _ (not_borrowed version2 x offset lowest n) e2)

-- ---- what each section has that was passed

pub record Inside (h : Elf64Shdr) (k : ℕ) (x : Extent) : Type 0 where
  pub above : x.lowest ≤ h.sh_addr
  pub below : sum_up_to h.sh_addr k ≤ x.highest
  pub ahead : h.sh_addr ≤ MM_STACK_START

pub record Wider (x z : Extent) : Type 0 where
  pub lower : z.lowest ≤ x.lowest
  pub higher : x.highest ≤ z.highest

still : (h : Elf64Shdr) (k : ℕ) (x z : Extent) → Wider x z → Inside h k x → Inside h k z
still h k x z w i = record { above = omega arith; below = omega arith; ahead = i.ahead }

addr_of : (b : Bool) (addr m : ℕ) → (addr if b else sum_up_to addr MM_PROGRAM_START) ≡ m → m ≤ MM_STACK_START → addr ≤ MM_STACK_START
unfolding ◌if◌else◌
addr_of true addr m e h = omega arith
addr_of false addr m e h = omega arith

pub machine_ahead : (version2 : Bool) (addr m : ℕ) → machine_addr version2 addr ≡ m → m ≤ MM_STACK_START → addr ≤ MM_STACK_START
unfolding machine_addr
machine_ahead version2 addr m e h = addr_of (version2 && leb MM_PROGRAM_START addr) addr m e h

pub end_ahead : (version2 : Bool) (addr size m : ℕ) → end_of version2 addr size ≡ m → m ≤ MM_STACK_START → addr ≤ MM_STACK_START
unfolding end_of
end_ahead version2 addr size m e h =
    let ahead = machine_ahead version2 addr (machine_addr version2 addr) refl in
    row_cases _ _ _ _ _ (λ b q. ahead (omega arith)) (λ b q. ahead (omega arith)) e

taken_inside : (version2 reject-broken : Bool) (i : ℕ) (h : Elf64Shdr) (k : ℕ) (x z : Extent) → taken version2 reject-broken i h k x ≡ Ok z → Wider x z × Inside h k z
unfolding taken grown
taken_inside version2 reject-broken i h k x z e =
    let e1 = row_rest _ _ _ _ (apart _ _) e in
    let e2 : Ok (grown version2 i h.sh_addr h.sh_offset k x) ≡ Ok z = row_rest _ _ _ _ (apart _ _) e1 in
    let p : grown version2 i h.sh_addr h.sh_offset k x ≡ z = cc in
    let f = ltb-false MM_STACK_START (end_of version2 h.sh_addr h.sh_size) (not_first _ _ _ _ (apart _ _) e1) in
    rw (← p) (record { lower = omega arith; higher = omega arith }, record { above = omega arith; below = omega arith; ahead = end_ahead version2 h.sh_addr h.sh_size _ refl f })

at_inside : (version2 reject-broken : Bool) (i : ℕ) (h : Elf64Shdr) (x z : Extent) (p : Result Place ElfParserError) → taken_at version2 reject-broken i h x p ≡ Ok z
    → Wider x z × ((q : Place) → p ≡ Ok q → Inside h q.length z)
at_inside version2 reject-broken i h x z (Ok p) e =
    let t = taken_inside version2 reject-broken i h p.length x z e in
    (t.0, λ q r. let w : p ≡ q = cc in rw (← w) t.1)
at_inside version2 reject-broken i h x z (Err r) e = absurd (apart _ _ e)

module _ (s : List ℕ) (l : Layout) (version2 reject-broken : Bool) where
  abbrev Has : ℕ → Extent → Type 0
  Has i x = read_only (name_of s l (section_at s l i)) ≡ true → (p : Place) → file_range_of s l i ≡ Ok p → Inside (section_at s l i) p.length x

  step_inside : (i : ℕ) (x z : Extent) → gather_step s l version2 reject-broken i x ≡ Ok z → Wider x z × Has i z
  unfolding gather_step
  step_inside i x z e =
      row_cases _ _ _ _ _ (λ b q. passed b q) (λ b q. let t = at_inside version2 reject-broken i (section_at s l i) x z (file_range_of s l i) q in (t.0, λ ro. t.1)) e
    where
      passed : not (read_only (name_of s l (section_at s l i))) ≡ true → ◌≡◌ {A = Result Extent ElfError} (Ok x) (Ok z) → Wider x z × Has i z
      passed b q =
          let p : x ≡ z = cc in
          (rw (← p) (record { lower = omega arith; higher = omega arith }), λ ro. absurd (true≢false (sym b ∙ ap not ro)))

  abbrev Passed : ℕ → ℕ → Extent → Extent → Type 0
  Passed n i x y = Wider x y × ((j : ℕ) → i ≤ j → j < i + n → Has j y)

  all_inside : (n i : ℕ) (x y : Extent) → over (gather_step s l version2 reject-broken) 1 n i x ≡ Ok y → Passed n i x y
  unfolding over
  all_inside zero i x y e =
      let p : x ≡ y = cc in
      (rw (← p) (record { lower = omega arith; higher = omega arith }), λ j lo hi. absurd (omega arith))
  all_inside (suc n) i x y e =
      let t = went (gather_step s l version2 reject-broken i x) (over (gather_step s l version2 reject-broken) 1 n (i + 1)) y e in
      let z = t.value in
      let a = step_inside i x z t.first in
      let r = all_inside n (i + 1) z y t.second in
      let w = a.0 in
      let v = r.0 in
      (record { lower = omega arith; higher = omega arith }, λ j lo hi. ⊎_elim (λ p. subst (λ (k : ℕ). Has k y) p (λ ro q at. still (section_at s l i) q.length z y v (a.1 ro q at))) (λ p. r.1 j (omega arith) (omega arith)) (eq-or-lt_of_le lo))

-- ---- where the sections are copied, each has its bytes and its room, so that the copy passes over none

pub record Room (s : List ℕ) (h : Elf64Shdr) (lowest n start k : ℕ) : Type 0 where
  pub in_file : start + k ≤ length s
  pub not_below : lowest ≤ h.sh_addr
  pub room : (h.sh_addr - lowest) + k ≤ n

module _ (s : List ℕ) (l : Layout) (count : ℕ) (version2 reject-broken optimize : Bool) (offset lowest n : ℕ) where
  pub owned_fits : placing s l count version2 reject-broken optimize ≡ Ok (Owned offset lowest n) → n ≤ length s
  unfolding placing
  owned_fits e = go (gathered s l count version2 reject-broken) refl e
    where
      go : (g : Result Extent ElfError) → gathered s l count version2 reject-broken ≡ g → placing_by (length s) version2 reject-broken optimize g ≡ Ok (Owned offset lowest n) → n ≤ length s
      go (Ok x) h q = (placed_runs (length s) version2 reject-broken optimize x offset lowest n q).fits
      go (Err r) h q = absurd (apart _ _ q)

  pub owned_room : length s ≤ 2 ^ 24
      → placing s l count version2 reject-broken optimize ≡ Ok (Owned offset lowest n)
      → (i : ℕ)
      → i < count
      → read_only (name_of s l (section_at s l i)) ≡ true
      → (p : Place)
      → file_range_of s l i ≡ Ok p
      → Room s (section_at s l i) lowest n p.start p.length
  unfolding placing
  owned_room short e i below ro p at = go (gathered s l count version2 reject-broken) refl e
    where
      go : (t : Result Extent ElfError)
          → gathered s l count version2 reject-broken ≡ t
          → placing_by (length s) version2 reject-broken optimize t ≡ Ok (Owned offset lowest n)
          → Room s (section_at s l i) lowest n p.start p.length
      go (Ok x) h q =
          let r = placed_runs (length s) version2 reject-broken optimize x offset lowest n q in
          let m = (all_inside s l version2 reject-broken count 0 nothing x h).1 i (omega arith) (omega arith) ro p at in
          let f = range_within s l i p at in
          record { in_file = f; not_below = omega arith; room = omega arith }
      go (Err r) h q = absurd (apart _ _ q)

-- so a turn of the copy is a paste
pub copy_is_paste : (image s : List ℕ) (l : Layout) (lowest n i : ℕ) (p : Place) (ro : List ℕ)
    → read_only (name_of s l (section_at s l i)) ≡ true
    → file_range_of s l i ≡ Ok p
    → Room s (section_at s l i) lowest n p.start p.length
    → length s ≤ length image
    → n ≤ length ro
    → paste ro ((section_at s l i).sh_addr - lowest) (drop p.start image) p.length ≡ copy_step image s l lowest i ro
unfolding copy_step copied_to
copy_is_paste image s l lowest n i p ro yes-ro at r him hro =
    let h = section_at s l i in
    let f : ltb (length image) (p.start + p.length) ≡ false = le-ltb (length image) (p.start + p.length) (omega arith) in
    let g : ltb (length ro) ((h.sh_addr - lowest) + p.length) ≡ false = le-ltb (length ro) ((h.sh_addr - lowest) + p.length) (omega arith) in
    no_go _ _ _ _ (ap not yes-ro) (rw at (no_go _ _ _ _ f (no_go _ _ _ _ g refl)))
