-- At most one slot of a text has a byte in its immediate. Assumes nothing.
use Prim.Native.Nat.{ℕ, zero, suc, ◌+◌, ◌-◌, ◌%◌, ◌≤◌, ◌<◌}
use native.Mathlib.Omega.{arith}
use native.Mathlib.Numerals.{add-one}
use native.Mathlib.Decide.{ℕ_discrete}
use mathlib.Core.Path.{◌≡◌, refl, sym}
use mathlib.Core.Bool.{Bool, true, false, ◌&&◌}
use mathlib.Core.Logic.{◌⊎◌, inl, inr}
use mathlib.Core.List.{List}
use lib.Dec.{ltb, leb}
use Rattle.std.proofs.Math.Bool.{and-false}
use borrow.Author.Tests.{le-leb, lt-leb, lt-ltb, le-ltb}
use Rattle.ebpf.specs.Choice.{◌if◌else◌}
use Rattle.program.proofs.Cases.{by_le, by_lt}
use Rattle.loader.specs.Deeds.{is_in}
use Rattle.loader.proofs.Kept.{not_in, in_places}
use Rattle.writers.specs.declared.Writer.TheVariants.{File, Call}
use Rattle.writers.specs.declared.text.LoadedText.{LoadedText}
use Rattle.writers.specs.Named.{is_call, immediate_of, slot_of, in_immediate, call_to, last_of}

module _ (file : List ℕ) (t : LoadedText) (b : ℕ) where
  -- what is said of slot number i: it has b in its immediate; or b is in none's; or in another one's
  pub data Where (i : ℕ) : Type 0 where
    here : is_in (immediate_of t i) 4 b ≡ true → in_immediate t b ≡ true → slot_of t b ≡ i → immediate_of t i ≤ b → b < immediate_of t i + 4 → Where i
    nowhere : is_in (immediate_of t i) 4 b ≡ false → in_immediate t b ≡ false → Where i
    elsewhere : is_in (immediate_of t i) 4 b ≡ false → in_immediate t b ≡ true → (slot_of t b ≡ i → ⊥) → Where i

  pub where_is : (i : ℕ) → Where i
  where_is i = go (ℕ_discrete (slot_of t b) i)
    where
      out : (b < t.place.start) ⊎ (b < immediate_of t i) ⊎ (immediate_of t i + 4 ≤ b) → is_in (immediate_of t i) 4 b ≡ false
      out (inl h) = not_in (immediate_of t i) 4 b (inl (omega arith))
      out (inr (inl h)) = not_in (immediate_of t i) 4 b (inl h)
      out (inr (inr h)) = not_in (immediate_of t i) 4 b (inr h)

      go : Dec (slot_of t b ≡ i) → Where i
      go (yes q) =
          by_le t.place.start b (λ (x : Bool). Where i)
          (λ l. by_le 4 ((b - t.place.start) % 8) (λ (x : Bool). Where i)
          (λ m. here (in_places (immediate_of t i) 4 b (omega arith) (omega arith)) (rw (le-leb t.place.start b l, le-leb 4 ((b - t.place.start) % 8) m) refl) q (omega arith) (omega arith))
          (λ m. nowhere (out (inr (inl (omega arith)))) (rw (lt-leb 4 ((b - t.place.start) % 8) m) (and-false (leb t.place.start b)))))
          (λ l. nowhere (out (inl l)) (rw (lt-leb t.place.start b l) refl))
      go (no q) =
          by_le t.place.start b (λ (x : Bool). Where i)
          (λ l. by_le 4 ((b - t.place.start) % 8) (λ (x : Bool). Where i)
          (λ m. elsewhere (apart l m) (rw (le-leb t.place.start b l, le-leb 4 ((b - t.place.start) % 8) m) refl) q)
          (λ m. nowhere (low l m) (rw (lt-leb 4 ((b - t.place.start) % 8) m) (and-false (leb t.place.start b)))))
          (λ l. nowhere (out (inl l)) (rw (lt-leb t.place.start b l) refl))
        where
          apart : t.place.start ≤ b → 4 ≤ (b - t.place.start) % 8 → is_in (immediate_of t i) 4 b ≡ false
          apart l m = by_lt (slot_of t b) i (λ (x : Bool). is_in (immediate_of t i) 4 b ≡ false) (λ h. out (inr (inl (omega arith)))) (λ h. out (inr (inr (omega arith))))

          low : t.place.start ≤ b → (b - t.place.start) % 8 < 4 → is_in (immediate_of t i) 4 b ≡ false
          low l m = by_lt (slot_of t b) i (λ (x : Bool). is_in (immediate_of t i) 4 b ≡ false) (λ h. out (inr (inl (omega arith)))) (λ h. out (inr (inr (omega arith))))

  -- one slot more
  pub call_next : (i : ℕ) → call_to file t (i + 1) b ≡ (Call i if is_in (immediate_of t i) 4 b && is_call file t i else call_to file t i b)
  unfolding call_to ◌if◌else◌
  call_next i = go (where_is i)
    where
      go : Where i → call_to file t (i + 1) b ≡ (Call i if is_in (immediate_of t i) 4 b && is_call file t i else call_to file t i b)
      go (here x y q l h) = rw (x, y, q, lt-ltb i (i + 1) (omega arith), le-ltb i i (omega arith)) refl
      go (nowhere x y) = rw (x, y) refl
      go (elsewhere x y q) = rw (x, y) (by_lt (slot_of t b) i (λ (z : Bool). (Call (slot_of t b) if ltb (slot_of t b) (i + 1) && is_call file t (slot_of t b) else File) ≡ (Call (slot_of t b) if z && is_call file t (slot_of t b) else File)) (λ h. rw (lt-ltb (slot_of t b) (i + 1) (omega arith)) refl) (λ h. rw (le-ltb (slot_of t b) (i + 1) (omega arith)) refl))

  pub no_slot : call_to file t 0 b ≡ File
  unfolding call_to ◌if◌else◌
  no_slot = rw (le-ltb (slot_of t b) 0 (omega arith), and-false (in_immediate t b)) refl

  -- so the last slot that has it is the only one
  pub last_slot : (n : ℕ) → last_of Call (λ i. is_in (immediate_of t i) 4 b && is_call file t i) n File ≡ call_to file t n b
  unfolding last_of
  last_slot zero = sym no_slot
  last_slot (suc n) = rw (last_slot n, ← call_next n, add-one n) refl
