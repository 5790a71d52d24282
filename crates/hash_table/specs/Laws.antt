-- What an answer of `find_symbol` says.
use Prim.Native.Nat.{ℕ, zero, suc, ◌+◌, ◌<◌}
use native.Mathlib.Omega.{arith}
use Rattle.std.specs.Prelude.{Bool, true, false, List, ◌↔◌, leb, eqb, Option, Some, None, Result, Ok, Err}
use Rattle.std.specs.declared.ops.ControlFlow.TheVariants.{Break}
use Rattle.std.proofs.Math.Path.{◌≡◌, refl, sym}
use Rattle.std.proofs.Common.{◌∙◌, leb-false, eqb-true, ne_eqb}
use Rattle.std.proofs.lemmas.Bool.{eqb-false}
use Rattle.ebpf.specs.Choice.{◌if◌else◌}
use Rattle.elf_parser.specs.declared.layout.Layout.{Layout}
use Rattle.elf_parser.specs.declared.parts.Place.{Place}
use Rattle.elf_parser.specs.declared.error.ElfParserError.{ElfParserError}
use Rattle.elf_parser.specs.Parts.{bytes_at}
use Rattle.elf_parser.specs.SectionNames.{same_bytes, same_equal}
use Rattle.hash_table.specs.declared.HashTable.{HashTable}
use Rattle.hash_table.specs.declared.BadHashTable.{BadHashTable}
use Rattle.hash_table.specs.Hash.{elf_hash}
use Rattle.hash_table.specs.Find.{bad_table, hash_table_of, bucket_at, chain_at, name_at, carries_at, carries, link_by, link_at, walked, on_link, find_symbol}

-- the symbol number i, which is not symbol 0, carries the name
pub record Carries (s : List ℕ) (l : Layout) (t : HashTable) (name : List ℕ) (i : ℕ) : Type 0 where
  pub not_first : 0 < i
  pub below : i < t.nchain
  pub carries : carries s l name i ≡ Ok true

-- k links along a chain, which ends at index 0
unfoldable pub along : List ℕ → HashTable → ℕ → ℕ → ℕ
along s t zero index = index
along s t (suc k) index = along s t k (0 if eqb index 0 else chain_at s t index)

-- the symbol number i stands on the chain from index on, and no symbol before it there carries the name
pub record First (s : List ℕ) (l : Layout) (t : HashTable) (name : List ℕ) (index i : ℕ) : Type 0 where
  pub links : ℕ
  pub stands : along s t links index ≡ i
  pub before : (j : ℕ) → j < links → carries s l name (along s t j index) ≡ Ok false

-- every symbol other than symbol 0 whose name can be read stands in its own bucket's chain
abbrev pub Chained : List ℕ → Layout → HashTable → Type 0
Chained s l t =
    (i : ℕ) (p : Place) → 0 < i → i < t.nchain → name_at s l i ≡ Ok p
    → (k : ℕ) × (along s t k (bucket_at s t (elf_hash (bytes_at s p.start p.length))) ≡ i)

-- ---- the walk

module _ (s : List ℕ) (l : Layout) (name : List ℕ) (t : HashTable) where
  -- what one link says, by its index and the symbol there
  module _ (n index : ℕ) (A : Result (Option ℕ) BadHashTable → Type 0)
      (at-end : index ≡ 0 → A (Ok None))
      (outside : A (Err bad_table))
      (found : 0 < index → index < t.nchain → carries s l name index ≡ Ok true → A (Ok (Some index)))
      (next : 0 < index → index < t.nchain → carries s l name index ≡ Ok false → A (walked s l name t n (chain_at s t index))) where
    pub by_link : A (walked s l name t (suc n) index)
    unfolding walked link_at on_link ◌if◌else◌
    by_link = first (eqb index 0) refl
      where
        inside : (c : Result Bool BadHashTable) → 0 < index → index < t.nchain → carries s l name index ≡ c → A (on_link (walked s l name t n) (link_by c index (chain_at s t index)))
        inside (Ok true) p q e = found p q e
        inside (Ok false) p q e = next p q e
        inside (Err r) p q e = outside

        second : (b : Bool) → leb t.nchain index ≡ b → 0 < index → A (on_link (walked s l name t n) (Err bad_table if b else link_by (carries s l name index) index (chain_at s t index)))
        second true e p = outside
        second false e p = inside (carries s l name index) p (leb-false _ _ e) refl

        first : (b : Bool) → eqb index 0 ≡ b → A (on_link (walked s l name t n) (Ok (Break None) if b else (Err bad_table if leb t.nchain index else link_by (carries s l name index) index (chain_at s t index))))
        first true e = at-end (eqb-true _ _ e)
        first false e = second (leb t.nchain index) refl (let d = eqb-false index 0 e in above index d)
          where
            above : (i : ℕ) → (i ≡ 0 → ⊥) → 0 < i
            above zero d = absurd (d refl)
            above (suc i) d = omega arith

  -- an answer is a symbol that carries the name
  pub walk_carries : (n index i : ℕ) → walked s l name t n index ≡ Ok (Some i) → Carries s l t name i
  unfolding walked
  walk_carries zero index i = λ e. let z : ◌≡◌ {A = ℕ} 0 1 = cc in absurd (omega arith)
  walk_carries (suc n) index i =
      by_link n index (λ f. f ≡ Ok (Some i) → Carries s l t name i)
      (λ z e. let z : ◌≡◌ {A = ℕ} 0 1 = cc in absurd (omega arith))
      (λ e. let z : ◌≡◌ {A = ℕ} 0 1 = cc in absurd (omega arith))
      (λ p q c e. let h : index ≡ i = cc in rw (← h) (record { not_first = p; below = q; carries = c }))
      (λ p q c e. walk_carries n (chain_at s t index) i e)

  not_zero : (j : ℕ) → 0 < j → eqb j 0 ≡ false
  not_zero j q = ne_eqb j 0 (λ e. omega (arith, q, e))

  -- an answer stands on the chain, and no symbol before it carries the name
  pub walk_first : (n index i : ℕ) → walked s l name t n index ≡ Ok (Some i) → First s l t name index i
  unfolding walked along ◌if◌else◌
  walk_first zero index i = λ e. let z : ◌≡◌ {A = ℕ} 0 1 = cc in absurd (omega arith)
  walk_first (suc n) index i =
      by_link n index (λ f. f ≡ Ok (Some i) → First s l t name index i)
      (λ z e. let z : ◌≡◌ {A = ℕ} 0 1 = cc in absurd (omega arith))
      (λ e. let z : ◌≡◌ {A = ℕ} 0 1 = cc in absurd (omega arith))
      (λ p q c e. record { links = 0; stands = let h : index ≡ i = cc in h; before = λ j d. absurd (omega (arith, d)) })
      (λ p q c e. let r = walk_first n (chain_at s t index) i e in
      record { links = suc r.links; stands = rw (not_zero index p) r.stands; before = earlier r.links p c r.before })
    where
      earlier : (k : ℕ) → 0 < index → carries s l name index ≡ Ok false → ((j : ℕ) → j < k → carries s l name (along s t j (chain_at s t index)) ≡ Ok false) → (j : ℕ) → j < suc k → carries s l name (along s t j index) ≡ Ok false
      earlier k p c rest zero d = c
      earlier k p c rest (suc j) d = rw (not_zero index p) (rest j (omega (arith, d)))

  along_end : (k : ℕ) → along s t k 0 ≡ 0
  unfolding along ◌if◌else◌
  along_end zero = refl
  along_end (suc k) = along_end k

  -- where the walk finds none, no symbol along the chain carries the name
  pub walk_none : (n index k i : ℕ) → walked s l name t n index ≡ Ok None → along s t k index ≡ i → Carries s l t name i → ⊥
  unfolding walked along ◌if◌else◌
  walk_none zero index k i = λ e a h. let z : ◌≡◌ {A = ℕ} 0 1 = cc in omega arith
  walk_none (suc n) index k i =
      by_link n index (λ f. f ≡ Ok None → along s t k index ≡ i → Carries s l t name i → ⊥)
      (λ z e a h. let q : i ≡ 0 = sym a ∙ rw z (along_end k) in omega (arith, h.not_first, q))
      (λ e. let z : ◌≡◌ {A = ℕ} 0 1 = cc in absurd (omega arith))
      (λ p q c e. let z : ◌≡◌ {A = ℕ} 0 1 = cc in absurd (omega arith))
      (λ p q c e a h. step k p c (λ j b. walk_none n (chain_at s t index) j i e b h) a h)
    where
      step : (k : ℕ) → 0 < index → carries s l name index ≡ Ok false → ((j : ℕ) → along s t j (chain_at s t index) ≡ i → ⊥) → along s t k index ≡ i → Carries s l t name i → ⊥
      step zero p c rest a h = let d : Ok true ≡ Ok false = sym h.carries ∙ rw (← a) c in let z : ◌≡◌ {A = ℕ} 0 1 = cc in omega arith
      step (suc k) p c rest a h = rest k (rw (not_zero index p) at a)

-- ---- the answers

-- a name that is carried can be read, and is the name
pub record Reads (s : List ℕ) (l : Layout) (name : List ℕ) (i : ℕ) : Type 0 where
  pub place : Place
  pub stands : name_at s l i ≡ Ok place
  pub same : bytes_at s place.start place.length ≡ name

pub carried_reads : (s : List ℕ) (l : Layout) (name : List ℕ) (i : ℕ) → carries s l name i ≡ Ok true → Reads s l name i
carried_reads s l name i = go (name_at s l i) refl
  where
    go : (p : Result Place ElfParserError) → name_at s l i ≡ p → carries_at s p name ≡ Ok true → Reads s l name i
    go (Ok p) e h = record { place = p; stands = e; same = same_equal (bytes_at s p.start p.length) name (let q : same_bytes (bytes_at s p.start p.length) name ≡ true = cc in q) }
    go (Err r) e h = let z : ◌≡◌ {A = ℕ} 0 1 = cc in absurd (omega arith)

-- an answer is a symbol that carries the name
pub found_carries : (s : List ℕ) (l : Layout) (name : List ℕ) (t : HashTable) (i : ℕ) → hash_table_of s l ≡ Ok t → find_symbol s l name ≡ Ok (Some i) → Carries s l t name i
found_carries s l name t i e h = walk_carries s l name t (t.nchain + 1) (bucket_at s t (elf_hash name)) i (rw e at h)

-- and the first on the name's chain that does
pub found_first : (s : List ℕ) (l : Layout) (name : List ℕ) (t : HashTable) (i : ℕ) → hash_table_of s l ≡ Ok t → find_symbol s l name ≡ Ok (Some i) → First s l t name (bucket_at s t (elf_hash name)) i
found_first s l name t i e h = walk_first s l name t (t.nchain + 1) (bucket_at s t (elf_hash name)) i (rw e at h)

-- where every symbol other than symbol 0 stands in its own bucket's chain and the walk is not refused, none is given exactly if no such symbol has the name
pub none_exactly : (s : List ℕ) (l : Layout) (name : List ℕ) (t : HashTable)
    → hash_table_of s l ≡ Ok t → Chained s l t → (find_symbol s l name ≡ Err bad_table → ⊥)
    → (find_symbol s l name ≡ Ok None) ↔ ((i : ℕ) → Carries s l t name i → ⊥)
none_exactly s l name t e chained usable = (none, only)
  where
    none : find_symbol s l name ≡ Ok None → (i : ℕ) → Carries s l t name i → ⊥
    none h i c =
        let r = carried_reads s l name i c.carries in
        let k = chained i r.place c.not_first c.below r.stands in
        walk_none s l name t (t.nchain + 1) (bucket_at s t (elf_hash name)) k.0 i (rw e at h) (rw r.same at k.1) c

    by : (f : Result (Option ℕ) BadHashTable) → find_symbol s l name ≡ f → ((i : ℕ) → Carries s l t name i → ⊥) → find_symbol s l name ≡ Ok None
    by (Ok (Some i)) h free = absurd (free i (found_carries s l name t i e h))
    by (Ok None) h free = h
    by (Err r) h free = absurd (usable h)

    only : ((i : ℕ) → Carries s l t name i → ⊥) → find_symbol s l name ≡ Ok None
    only free = by (find_symbol s l name) refl free
