-- An image whose bytes from a place on are still the file's: more of them copied, and writing before that place. Assumes nothing.
use mathlib.Core.Path.{◌≡◌, refl, sym, ap, ◌∙◌, subst, fun_ext}
use mathlib.Core.Bool.{true, false}
use mathlib.Core.List.{List, [], ◌++◌, append_assoc, append-nil}
use Prim.Native.Nat.{ℕ, zero, suc, ◌+◌, ◌-◌, ◌/◌, ◌%◌, ◌≤◌, ◌^◌}
use native.Mathlib.Omega.{arith}
use lib.ListN.{length, take, drop, set, length-set, length-drop, length-take, take-append-drop}
use lib.Seq.{paste, take-paste, drop-drop, length-take-le, set-append_left, take-set-lt, take_all, drop-length, length_front}
use Rattle.program.specs.declared.RegisterError.TheVariants.{Collision, Full}
use Rattle.program.specs.declared.Registered.TheVariants.{Inserted, Repeat}
use Rattle.std.specs.Prelude.{Ok, Err}
use Rattle.program.specs.declared.Row.{Row}
use Rattle.program.specs.Rows.{registered, remove, unregister, RegisterResult}
use Rattle.program.specs.Rows as table
use Rattle.program.specs.Runs.{moves_gone}
use Rattle.program.specs.Table.{Slices, capacity, rows_of}
use Rattle.loader.specs.declared.deeds.Deed.{Deed}
use Rattle.loader.specs.declared.deeds.Deed.TheVariants.{Skip, Halves, Word, Key, Register, RegisterOnly, RegisterOutside}
use Rattle.loader.specs.declared.validate.Job.{Job}
use Rattle.loader.specs.Deeds.{Held}
use Rattle.loader.specs.declared.error.ElfError.{ElfError}
use Rattle.std.specs.Prelude.{Result, Ok, Err}
use Rattle.loader.specs.Bytes.{put, length_put}
use Rattle.loader.specs.Trace.{Trace, done, stop, register, forget, Settled, accepted, refused, on_registered, settle}
use Rattle.loader.specs.Deeds.{Entry, Nothing, Enter, written, entry_of, entry_trace, deed_trace, DeedFits}
use Rattle.loader.specs.Calls.{immediate, call_deed, slot_trace}
use Rattle.loader.specs.CallLoop.{ahead}
use Rattle.loader.specs.InnerContracts.{outcome, Settles}
use Rattle.loader.proofs.Slots.{call_fits_in}

-- k bytes more
pub ahead_more : (im file : List ℕ) (p k : ℕ) → length im ≡ length file → p + k ≤ length file → ahead (p + k) (paste im p (drop p file) k) file ≡ ahead p im file
ahead_more im file p k e h =
    ap (λ (x : List ℕ). x ++ drop (p + k) file) (take-paste im p (drop p file) k (omega (arith, e)) (simp length-drop (omega arith)))
    ∙ append_assoc (take p im) (take k (drop p file)) (drop (p + k) file)
    ∙ ap (λ (x : List ℕ). take p im ++ x) (ap (λ (x : List ℕ). take k (drop p file) ++ x) (sym (drop-drop k p file)) ∙ take-append-drop k (drop p file))

-- all that is left
pub ahead_all : (im file : List ℕ) (p : ℕ) → length im ≡ length file → p ≤ length file → paste im p (drop p file) (length file - p) ≡ ahead p im file
ahead_all im file p e h =
    let all : take (length file - p) (drop p file) ≡ drop p file = take_all (length file - p) (drop p file) (simp length-drop (omega arith)) in
    let none : drop (p + (length file - p)) im ≡ [] = let k : p + (length file - p) ≡ length im = omega (arith, e) in rw k (drop-length im) in
    rw (all, none, append-nil) refl

length_ahead : (im file : List ℕ) (q : ℕ) → length im ≡ length file → length (ahead q im file) ≡ length file
length_ahead im file q e = length_front file (take q im) q (simp length-take (rw e refl))

pub ahead_length : (im file : List ℕ) (q : ℕ) → length im ≡ length file → length (ahead q im file) ≡ length im
ahead_length im file q e = length_ahead im file q e ∙ sym e

-- bytes before the place are written there
ahead_put : (k : ℕ) (im file : List ℕ) (at v q : ℕ) → at + k ≤ q → q ≤ length im → put k (ahead q im file) at v ≡ ahead q (put k im at v) file
unfolding put
ahead_put zero im file at v q h l = refl
ahead_put (suc k) im file at v q h l =
    ap (λ (x : List ℕ). put k x (at + 1) (v / 256))
    (set-append_left (take q im) (drop q file) at (v % 256) (simp (length-take-le q im l) (omega arith)) ∙ ap (λ (x : List ℕ). x ++ drop q file) (sym (take-set-lt q im at (v % 256) (omega arith))))
    ∙ ahead_put k (set im at (v % 256)) file (at + 1) (v / 256) q (omega arith) (simp length-set l)

-- ---- a trace of which every image is changed in one way

abbrev map_trace : (List ℕ → List ℕ) → Trace → Trace
map_trace f (done im) = done (f im)
map_trace f (stop r) = stop r
map_trace f (register row t) = register row (map_trace f t)
map_trace f (forget key t) = forget key (map_trace f t)

abbrev map_settled : (List ℕ → List ℕ) → Settled → Settled
map_settled f (accepted im rows m) = accepted (f im) rows m
map_settled f (refused r) = refused r

on_registered_map : (f : List ℕ → List ℕ) (a : RegisterResult) (rows key m : ℕ) (k : ℕ → Settled) → on_registered a rows key m (λ (n : ℕ). map_settled f (k n)) ≡ map_settled f (on_registered a rows key m k)
on_registered_map f (Ok (Inserted n)) rows key m k = refl
on_registered_map f (Ok Repeat) rows key m k = refl
on_registered_map f (Err Collision) rows key m k = refl
on_registered_map f (Err Full) rows key m k = refl

settle_map : (f : List ℕ → List ℕ) (cap : ℕ) (T : Trace) (rs : List Row) (m : ℕ) → settle cap (map_trace f T) rs m ≡ map_settled f (settle cap T rs m)
unfolding settle
settle_map f cap (done im) rs m = refl
settle_map f cap (stop r) rs m = refl
settle_map f cap (register row T) rs m =
    rw (← on_registered_map f (table.register cap row rs) cap row.key m (λ (n : ℕ). settle cap T (registered cap row rs) n))
    (ap (on_registered (table.register cap row rs) cap row.key m) (fun_ext (λ n. settle_map f cap T (registered cap row rs) n)))
settle_map f cap (forget key T) rs m = settle_map f cap T (remove key rs) (m + moves_gone (unregister key rs))

outcome_map : (f : List ℕ → List ℕ) (a : Result Held ElfError) (im : List ℕ) (u : Slices) → outcome a (f im) u ≡ map_settled f (outcome a im u)
outcome_map f (Ok held) im u = refl
outcome_map f (Err r) im u = refl

settles_map : (f : List ℕ → List ℕ) (T : Trace) (im : List ℕ) (t u : Slices) (n used moves : ℕ) (a : Result Held ElfError) → Settles T im t u n used moves a → Settles (map_trace f T) (f im) t u n used moves a
settles_map f T im t u n used moves a did = record {
  answers = outcome_map f a im u ∙ ap (map_settled f) did.answers ∙ sym (settle_map f (capacity t) T (rows_of t used) moves);
  sound = did.sound;
  near = did.near;
}

-- ---- a deed that writes before the place

module _ (file : List ℕ) (q : ℕ) where
  written_ahead : (d : Result Deed ElfError) (im : List ℕ) → DeedFits q d → q ≤ length im → written d (ahead q im file) ≡ ahead q (written d im) file
  written_ahead (Ok Skip) im h l = refl
  written_ahead (Err r) im h l = refl
  written_ahead (Ok (Halves low high v)) im h l =
      ap (λ (x : List ℕ). put 4 x high (v / 2 ^ 32)) (ahead_put 4 im file low (v % 2 ^ 32) q h.0 l)
      ∙ ahead_put 4 (put 4 im low (v % 2 ^ 32)) file high (v / 2 ^ 32) q h.1 (simp length_put l)
  written_ahead (Ok (Word at v)) im h l =
      ap (λ (x : List ℕ). put 4 x (at + 4) (v / 2 ^ 32)) (ahead_put 4 im file at (v % 2 ^ 32) q (omega (arith, h)) l)
      ∙ ahead_put 4 (put 4 im at (v % 2 ^ 32)) file (at + 4) (v / 2 ^ 32) q (omega (arith, h)) (simp length_put l)
  written_ahead (Ok (Key at k)) im h l = ahead_put 4 im file at k q h l
  written_ahead (Ok (Register row at)) im h l = ahead_put 4 im file at row.key q h l
  written_ahead (Ok (RegisterOnly row)) im h l = refl
  written_ahead (Ok (RegisterOutside row)) im h l = refl

  entry_map : (f : List ℕ → List ℕ) (e : Result Entry ElfError) (im : List ℕ) → entry_trace e (f im) ≡ map_trace f (entry_trace e im)
  entry_map f (Ok Nothing) im = refl
  entry_map f (Err r) im = refl
  entry_map f (Ok (Enter row false)) im = refl
  entry_map f (Ok (Enter row true)) im = refl

  deed_ahead : (d : Result Deed ElfError) (im im' : List ℕ) (t u : Slices) (used moves : ℕ) (a : Result Held ElfError) → DeedFits q d → q ≤ length im
      → Settles (deed_trace d im) im' t u 1 used moves a → Settles (deed_trace d (ahead q im file)) (ahead q im' file) t u 1 used moves a
  unfolding deed_trace
  deed_ahead d im im' t u used moves a h l did =
      subst (λ (T : Trace). Settles T (ahead q im' file) t u 1 used moves a)
      (sym (entry_map (λ (x : List ℕ). ahead q x file) (entry_of d) (written d im)) ∙ ap (entry_trace (entry_of d)) (sym (written_ahead d im h l)))
      (settles_map (λ (x : List ℕ). ahead q x file) (entry_trace (entry_of d) (written d im)) im' t u 1 used moves a did)

  -- a slot before the place
  pub slot_ahead : (builtins : List ℕ) (j : Job) (i : ℕ) (im im' : List ℕ) (t u : Slices) (used moves : ℕ) (a : Result Held ElfError)
      → immediate j i + 4 ≤ q → q ≤ length im
      → Settles (slot_trace file builtins j i im) im' t u 1 used moves a → Settles (slot_trace file builtins j i (ahead q im file)) (ahead q im' file) t u 1 used moves a
  unfolding slot_trace
  slot_ahead builtins j i im im' t u used moves a h l did = deed_ahead (call_deed file builtins j i) im im' t u used moves a (call_fits_in file builtins j i q h) l did
