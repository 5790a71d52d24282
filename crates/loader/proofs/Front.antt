-- The copied read-only bytes fill the front of their buffer and touch nothing behind it. Assumes nothing.
use Rattle.std.specs.Prelude.{Ok}
use Rattle.loader.specs.declared.read_only.Placing.TheVariants.{Owned}
use Prim.Native.Nat.{ℕ, zero, suc, ◌+◌, ◌-◌, ◌≤◌, ◌<◌, ◌^◌}
use native.Mathlib.Omega.{arith}
use mathlib.Core.Path.{◌≡◌, refl, sym, ap, ◌∙◌}
use mathlib.Core.Bool.{Bool, true, false}
use mathlib.Core.List.{List, ◌++◌, append_assoc}
use lib.ListN.{length, take, drop, replicate, length-append, length-replicate, replicate-append-replicate}
use lib.Seq.{paste, take-append-le, drop-append-le}
use Rattle.ebpf.specs.Choice.{◌if◌else◌}
use Rattle.elf_parser.specs.declared.layout.Layout.{Layout}
use Rattle.elf_parser.specs.Records.{file_range_of}
use Rattle.loader.specs.Sections.{section_at, name_of}
use Rattle.loader.specs.ReadOnly.{read_only, placing, copy_step, copied_from}
use Rattle.loader.specs.Placed.{step_length, owned_fits, owned_room, copy_is_paste}
use Rattle.std.specs.Prelude.{Result, Err}
use Rattle.elf_parser.specs.declared.error.ElfParserError.{ElfParserError}
use Rattle.elf_parser.specs.declared.parts.Place.{Place}

paste_front : (ro rest s : List ℕ) (at k : ℕ) → at + k ≤ length ro → paste (ro ++ rest) at s k ≡ paste ro at s k ++ rest
paste_front ro rest s at k h =
    ap (λ (l : List ℕ). l ++ take k s ++ drop (at + k) (ro ++ rest)) (take-append-le at ro rest (omega (arith, h)))
    ∙ ap (λ (l : List ℕ). take at ro ++ take k s ++ l) (drop-append-le (at + k) ro rest h)
    ∙ sym (append_assoc (take at ro ++ take k s) (drop (at + k) ro) rest)

module _ (image s : List ℕ) (l : Layout) (count : ℕ) (version2 reject-broken optimize : Bool) (offset lowest n : ℕ)
    (short : length s ≤ 2 ^ 24) (long : length s ≤ length image) (owned : placing s l count version2 reject-broken optimize ≡ Ok (Owned offset lowest n)) where
  -- one section
  front_step : (i : ℕ) → i < count → (ro rest : List ℕ) → length ro ≡ n → copy_step image s l lowest i (ro ++ rest) ≡ copy_step image s l lowest i ro ++ rest
  unfolding copy_step ◌if◌else◌
  front_step i below ro rest len = go (read_only (name_of s l (section_at s l i))) refl (file_range_of s l i) refl
    where
      go : (b : Bool) → read_only (name_of s l (section_at s l i)) ≡ b → (p : Result Place ElfParserError) → file_range_of s l i ≡ p → copy_step image s l lowest i (ro ++ rest) ≡ copy_step image s l lowest i ro ++ rest
      go false e p q = rw e refl
      go true e (Err r) q = rw (e, q) refl
      go true e (Ok p) q =
          let room = owned_room s l count version2 reject-broken optimize offset lowest n short owned i below e p q in
          let fits : n ≤ length (ro ++ rest) = rw (length-append ro rest) (omega (arith, len)) in
          let inside : ((section_at s l i).sh_addr - lowest) + p.length ≤ length ro = omega (arith, room.room, len) in
          sym (copy_is_paste image s l lowest n i p (ro ++ rest) e q room long fits)
          ∙ paste_front ro rest (drop p.start image) ((section_at s l i).sh_addr - lowest) p.length inside
          ∙ ap (λ (z : List ℕ). z ++ rest) (copy_is_paste image s l lowest n i p ro e q room long (omega (arith, len)))

  -- m sections from i on
  front_from : (m i : ℕ) → i + m ≤ count → (ro rest : List ℕ) → length ro ≡ n → copied_from image s l lowest m i (ro ++ rest) ≡ copied_from image s l lowest m i ro ++ rest
  unfolding copied_from
  front_from zero i h ro rest len = refl
  front_from (suc m) i h ro rest len =
      ap (copied_from image s l lowest m (i + 1)) (front_step i (omega (arith, h)) ro rest len)
      ∙ front_from m (i + 1) (omega (arith, h)) (copy_step image s l lowest i ro) rest (step_length image s l lowest i ro ∙ len)

  -- zeros behind stay zeros
  pub copied_front : (m : ℕ) → length s ≤ m → copied_from image s l lowest count 0 (replicate m 0) ≡ copied_from image s l lowest count 0 (replicate n 0) ++ replicate (m - n) 0
  copied_front m h =
      let fits = owned_fits s l count version2 reject-broken optimize offset lowest n owned in
      let sum : n + (m - n) ≡ m = omega (arith, fits, h) in
      let split : replicate {A = ℕ} m 0 ≡ replicate n 0 ++ replicate (m - n) 0 = ap (λ (k : ℕ). replicate k 0) (sym sum) ∙ sym (replicate-append-replicate n (m - n) 0) in
      ap (copied_from image s l lowest count 0) split ∙ front_from count 0 (omega arith) (replicate n 0) (replicate (m - n) 0) (length-replicate n 0)
