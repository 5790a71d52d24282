-- The gathering of the read-only sections, as a loop meets it that goes on where one refused. Assumes nothing.
use Rattle.std.specs.Prelude.{Result, Ok, Err}
use Rattle.loader.specs.declared.read_only.Extent.{Extent}
use Rattle.loader.specs.declared.error.ElfError.{ElfError}
use mathlib.Core.Path.{◌≡◌, refl, ap, ◌∙◌}
use mathlib.Core.Bool.{Bool}
use mathlib.Core.List.{List}
use Prim.Native.Nat.{ℕ, zero, suc, ◌+◌, ◌-◌, ◌≤◌, ◌<◌}
use native.Mathlib.Omega.{arith}
use Rattle.elf_parser.specs.declared.layout.Layout.{Layout}
use Rattle.elf_parser.specs.Errors.{and_then}
use Rattle.elf_parser.specs.Loops.{over}
use Rattle.loader.specs.Sections.{section_at, name_of}
use Rattle.loader.specs.ReadOnly.{gather_step, gather_next, nothing, gathered}

module _ {E A : Type 0} (step : ℕ → A → Result A E) (w : ℕ) where
  into_next : (n at : ℕ) (t : Result A E) → 0 < n → and_then t (over step w n at) ≡ and_then (and_then t (step at)) (over step w (n - 1) (at + w))
  unfolding over
  into_next n at (Err r) h = refl
  into_next zero at (Ok x) h = absurd (omega arith)
  into_next (suc n) at (Ok x) h = let k : suc n - 1 ≡ n = omega arith in rw k refl

  into_end : (n at : ℕ) (t : Result A E) → n ≤ 0 → and_then t (over step w n at) ≡ t
  unfolding over
  into_end n at (Err r) h = refl
  into_end zero at (Ok x) h = refl
  into_end (suc n) at (Ok x) h = absurd (omega arith)

module _ (s : List ℕ) (l : Layout) (version2 reject-broken : Bool) where
  -- what n sections from i on give, after g
  unfoldable pub gather_from : ℕ → ℕ → Result Extent ElfError → Result Extent ElfError
  gather_from n i g = and_then g (over (gather_step s l version2 reject-broken) 1 n i)

  pub gather_all : (count : ℕ) → gathered s l count version2 reject-broken ≡ gather_from count 0 (Ok nothing)
  unfolding gather_from
  gather_all count = refl

  next_turn : (i : ℕ) (g : Result Extent ElfError) → and_then g (gather_step s l version2 reject-broken i) ≡ gather_next s l version2 reject-broken i (section_at s l i) (name_of s l (section_at s l i)) g
  unfolding gather_step
  next_turn i (Ok x) = refl
  next_turn i (Err r) = refl

  pub gather_next_lem : (n i : ℕ) (g : Result Extent ElfError) → 0 < n → gather_from n i g ≡ gather_from (n - 1) (i + 1) (gather_next s l version2 reject-broken i (section_at s l i) (name_of s l (section_at s l i)) g)
  unfolding gather_from
  gather_next_lem n i g h = into_next (gather_step s l version2 reject-broken) 1 n i g h ∙ ap (λ z. and_then z (over (gather_step s l version2 reject-broken) 1 (n - 1) (i + 1))) (next_turn i g)

  pub gather_end : (n i : ℕ) (g : Result Extent ElfError) → n ≤ 0 → gather_from n i g ≡ g
  unfolding gather_from
  gather_end n i g h = into_end (gather_step s l version2 reject-broken) 1 n i g h
