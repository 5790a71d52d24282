-- Parts of a load one after another, and a loop of parts of one kind: for every part.
-- Assumes nothing.
use mathlib.Core.Path.{◌≡◌, refl, sym, ap, subst, ◌∙◌}
use mathlib.Core.List.{List}
use Prim.Native.Nat.{ℕ, suc, ◌+◌, ◌-◌, ◌*◌, ◌≤◌, ◌<◌, ◌^◌}
use native.Mathlib.Omega.{arith}
use lib.ListN.{length}
use Rattle.program.specs.Table.{Slices, columns_of, capacity, rows_of, Ready}
use Rattle.program.specs.Table.{SameLens}
use Rattle.program.proofs.Tables.{same_refl, same_trans, capacity_same}
use Rattle.loader.specs.declared.error.ElfError.{ElfError}
use Rattle.loader.specs.Deeds.{Held}
use Rattle.std.specs.Prelude.{Result, Ok, Err}
use Rattle.std.specs.Result.{IsErrAnd}
use Rattle.std.proofs.lemmas.Result.{err_from_is_err_and}
use Rattle.loader.specs.Deeds.{holding}
use Rattle.loader.specs.Trace.{Trace, and_then, each, refused, settle, settle_and_then}
use Rattle.loader.specs.CallLoop.{Leads}
use Rattle.loader.specs.declared.deeds.Outputs.{Outputs}
use Rattle.loader.specs.InnerContracts.{Near, Begins, BeginsIn, Keeps, Settles, SettlesTo, held_of}

-- a part that was held, and then another
then_on : (T : Trace) (K : List ℕ → Trace) (im : List ℕ) (t u : Slices) (n used moves used' moves' : ℕ) → SameLens t u
    → Settles T im t u n used moves (holding used' moves')
    → settle (capacity t) (and_then T K) (rows_of t used) moves ≡ settle (capacity u) (K im) (rows_of u used') moves'
then_on T K im t u n used moves used' moves' lens did = settle_and_then (capacity t) T K (rows_of t used) moves ∙ rw (← did.answers, capacity_same t u lens) refl

-- a part that was refused
then_not : (T : Trace) (K : List ℕ → Trace) (im : List ℕ) (t u : Slices) (n used moves : ℕ) (r : ElfError)
    → Settles T im t u n used moves (Err r)
    → settle (capacity t) (and_then T K) (rows_of t used) moves ≡ refused r
then_not T K im t u n used moves r did = settle_and_then (capacity t) T K (rows_of t used) moves ∙ rw (← did.answers) refl

-- two parts
pub settles_stop : (T : Trace) (K : List ℕ → Trace) (im im' : List ℕ) (t u v : Slices) (n m used moves : ℕ) (r : ElfError)
    → Settles T im t u n used moves (Err r) → Settles (and_then T K) im' t v m used moves (Err r)
settles_stop T K im im' t u v n m used moves r did = record { answers = sym (then_not T K im t u n used moves r did); sound = tt; near = tt }

pub begins_fewer : (n m : ℕ) (t : Slices) (used moves : ℕ) → BeginsIn (n + m) t used moves → BeginsIn n t used moves
begins_fewer n m t used moves b = record { ready = b.ready; room = record { few = omega (arith, b.room.few); moved = omega (arith, b.room.moved) } }

near_add : (n m used moves used' moves' : ℕ) (a : Result Held ElfError) → used' ≤ used + n → moves' ≤ moves + n * 2 ^ 26 → Near m used' moves' a → Near (n + m) used moves a
near_add n m used moves used' moves' (Ok held) p q h = (omega (arith, h.0), omega (arith, h.1))
near_add n m used moves used' moves' (Err r) p q h = tt

module _ (T : Trace) (K : List ℕ → Trace) (im im' : List ℕ) (t u v : Slices) (n m used moves used' moves' : ℕ) (lens : SameLens t u) (did : Settles T im t u n used moves (holding used' moves')) where
  -- room is left for the second part
  pub begins_then : BeginsIn (n + m) t used moves → BeginsIn m u used' moves'
  begins_then b = record {
    ready = did.sound;
    room = record { few = omega (arith, b.room.few, did.near.0); moved = omega (arith, b.room.moved, did.near.1) };
  }

  pub settles_then : (a : Result Held ElfError) → Settles (K im) im' u v m used' moves' a → Settles (and_then T K) im' t v (n + m) used moves a
  settles_then a next = record {
    answers = next.answers ∙ sym (then_on T K im t u n used moves used' moves' lens did);
    sound = next.sound;
    near = near_add n m used moves used' moves' a did.near.0 did.near.1 next.near;
  }

-- ---- a loop over the parts from number o up to k, of n: those from i on, with the rows and moves held now, settle to what those from o
-- on settle to with what was held then
pub record GoingIn (step : ℕ → List ℕ → Trace) (n o k : ℕ) (im₀ im : List ℕ) (t₀ t : Slices) (used₀ moves₀ used moves i : ℕ) : Type 0 where
  pub same : SameLens t₀ t
  pub image_as : length im ≡ length im₀
  pub ready : Ready t used
  pub begun : o ≤ i
  pub passed : i ≤ k
  pub few : used ≤ used₀ + (i - o)
  pub moved : moves ≤ moves₀ + (i - o) * 2 ^ 26
  pub onward : settle (capacity t) (each step (n - i) i im) (rows_of t used) moves ≡ settle (capacity t₀) (each step (n - o) o im₀) (rows_of t₀ used₀) moves₀

module _ (step : ℕ → List ℕ → Trace) (n o k : ℕ) (within : k ≤ n) where
  pub in_start : (im : List ℕ) (t : Slices) (used moves : ℕ) → o ≤ k → BeginsIn (k - o) t used moves → GoingIn step n o k im im t t used moves used moves o
  in_start im t used moves l b = record {
    same = same_refl t;
    image_as = refl;
    ready = b.ready;
    begun = omega arith;
    passed = l;
    few = omega arith;
    moved = omega arith;
    onward = refl;
  }

  module _ (im₀ im : List ℕ) (t₀ t : Slices) (used₀ moves₀ used moves i : ℕ) (begins : BeginsIn (k - o) t₀ used₀ moves₀) (going : GoingIn step n o k im₀ im t₀ t used₀ moves₀ used moves i) where
    pub in_done : k ≤ i → Leads step n o k im₀ im t₀ t used₀ moves₀ (holding used moves)
    in_done l =
        let j : i ≡ k = omega (arith, going.passed) in
        record { answers = rw j at (sym going.onward); sound = going.ready; near = (omega (arith, going.few), omega (arith, going.moved)) }

    -- a part begins
    pub in_begins : i < k → BeginsIn 1 t used moves
    in_begins l = record {
      ready = going.ready;
      room = record { few = omega (arith, begins.room.few, going.few, going.begun); moved = omega (arith, begins.room.moved, going.moved, going.begun) };
    }

    module _ (more : i < k) (im' : List ℕ) (u : Slices) where
      unrolled : settle (capacity t) (and_then (step i im) (λ (im' : List ℕ). each step (n - (i + 1)) (i + 1) im')) (rows_of t used) moves ≡ settle (capacity t₀) (each step (n - o) o im₀) (rows_of t₀ used₀) moves₀
      unfolding each
      unrolled = let e : n - i ≡ suc (n - (i + 1)) = omega arith in rw e at going.onward

      pub in_stop : (r : ElfError) (im'' : List ℕ) → Settles (step i im) im' t u 1 used moves (Err r) → Leads step n o k im₀ im'' t₀ u used₀ moves₀ (Err r)
      in_stop r im'' did = record { answers = sym unrolled ∙ then_not (step i im) _ im' t u 1 used moves r did; sound = tt; near = tt }

      pub in_on : (used' moves' : ℕ) → SameLens t u → length im' ≡ length im → Settles (step i im) im' t u 1 used moves (holding used' moves') → GoingIn step n o k im₀ im' t₀ u used₀ moves₀ used' moves' (i + 1)
      in_on used' moves' lens len did = record {
        same = same_trans t₀ t u going.same lens;
        image_as = len ∙ going.image_as;
        ready = did.sound;
        begun = omega (arith, going.begun);
        passed = omega arith;
        few = omega (arith, going.few, did.near.0, going.begun);
        moved = omega (arith, going.moved, did.near.1, going.begun);
        onward = sym (then_on (step i im) _ im' t u 1 used moves used' moves' lens did) ∙ unrolled;
      }

    -- parts that ask for nothing are passed over, up to number j
    pub in_ahead : (j : ℕ) → i ≤ j → j ≤ k → each step (n - i) i im ≡ each step (n - j) j im → GoingIn step n o k im₀ im t₀ t used₀ moves₀ used moves j
    in_ahead j l h e = record {
      same = going.same;
      image_as = going.image_as;
      ready = going.ready;
      begun = omega (arith, going.begun);
      passed = h;
      few = omega (arith, going.few);
      moved = omega (arith, going.moved);
      onward = ap (λ (T : Trace). settle (capacity t) T (rows_of t used) moves) (sym e) ∙ going.onward;
    }

    -- a run of parts, up to number j
    module _ (j : ℕ) (l : i ≤ j) (h : j ≤ k) (im' : List ℕ) (u : Slices) where
      pub in_begins_run : BeginsIn (j - i) t used moves
      in_begins_run = record {
        ready = going.ready;
        room = record { few = omega (arith, begins.room.few, going.few, going.begun); moved = omega (arith, begins.room.moved, going.moved, going.begun) };
      }

      pub in_run : (used' moves' : ℕ) → SameLens t u → length im' ≡ length im → Leads step n i j im im' t u used moves (holding used' moves') → GoingIn step n o k im₀ im' t₀ u used₀ moves₀ used' moves' j
      in_run used' moves' lens len did = record {
        same = same_trans t₀ t u going.same lens;
        image_as = len ∙ going.image_as;
        ready = did.sound;
        begun = omega (arith, going.begun);
        passed = h;
        few = omega (arith, going.few, did.near.0, going.begun);
        moved = omega (arith, going.moved, did.near.1, going.begun);
        onward = sym did.answers ∙ going.onward;
      }

      pub in_run_stop : (r : ElfError) (im'' : List ℕ) → Leads step n i j im im' t u used moves (Err r) → Leads step n o k im₀ im'' t₀ u used₀ moves₀ (Err r)
      in_run_stop r im'' did = record { answers = sym going.onward ∙ did.answers; sound = tt; near = tt }

-- ---- all n parts

-- what all lead to is what they settle to
pub all_lead : (step : ℕ → List ℕ → Trace) (n : ℕ) (im₀ im : List ℕ) (t₀ t : Slices) (used moves : ℕ) (a : Result Held ElfError)
    → Leads step n 0 n im₀ im t₀ t used moves a → Settles (each step n 0 im₀) im t₀ t n used moves a
unfolding each settle
all_lead step n im₀ im t₀ t used moves (Ok held) did =
    let z : n - 0 ≡ n = omega arith in
    let e : n - n ≡ 0 = omega arith in
    record { answers = sym (rw (z, e) at did.answers); sound = did.sound; near = rw z at did.near }
all_lead step n im₀ im t₀ t used moves (Err r) did =
    let z : n - 0 ≡ n = omega arith in
    record { answers = sym (rw z at did.answers); sound = tt; near = tt }

pub all_begin : (n : ℕ) (t : Slices) (used moves : ℕ) → BeginsIn n t used moves → BeginsIn (n - 0) t used moves
all_begin n t used moves b = let z : n - 0 ≡ n = omega arith in rw z b

abbrev pub Going : (ℕ → List ℕ → Trace) → ℕ → List ℕ → List ℕ → Slices → Slices → ℕ → ℕ → ℕ → ℕ → ℕ → Type 0
Going step n im₀ im t₀ t used₀ moves₀ used moves i = GoingIn step n 0 n im₀ im t₀ t used₀ moves₀ used moves i

module _ (step : ℕ → List ℕ → Trace) (n : ℕ) where
  pub going_start : (im : List ℕ) (t : Slices) (used moves : ℕ) → BeginsIn n t used moves → Going step n im im t t used moves used moves 0
  going_start im t used moves b = in_start step n 0 n (omega arith) im t used moves (omega arith) (all_begin n t used moves b)

  module _ (im₀ im : List ℕ) (t₀ t : Slices) (used₀ moves₀ used moves i : ℕ) (begins : BeginsIn n t₀ used₀ moves₀) (going : Going step n im₀ im t₀ t used₀ moves₀ used moves i) where
    all : BeginsIn (n - 0) t₀ used₀ moves₀
    all = all_begin n t₀ used₀ moves₀ begins

    pub going_done : n ≤ i → Settles (each step n 0 im₀) im t₀ t n used₀ moves₀ (holding used moves)
    going_done l = all_lead step n im₀ im t₀ t used₀ moves₀ (holding used moves) (in_done step n 0 n (omega arith) im₀ im t₀ t used₀ moves₀ used moves i all going l)

    pub going_begins : i < n → BeginsIn 1 t used moves
    going_begins = in_begins step n 0 n (omega arith) im₀ im t₀ t used₀ moves₀ used moves i all going

    module _ (more : i < n) (im' : List ℕ) (u : Slices) where
      pub going_stop : (r : ElfError) → Settles (step i im) im' t u 1 used moves (Err r) → Settles (each step n 0 im₀) im' t₀ u n used₀ moves₀ (Err r)
      going_stop r did = all_lead step n im₀ im' t₀ u used₀ moves₀ (Err r) (in_stop step n 0 n (omega arith) im₀ im t₀ t used₀ moves₀ used moves i all going more im' u r im' did)

      pub going_on : (used' moves' : ℕ) → SameLens t u → length im' ≡ length im → Settles (step i im) im' t u 1 used moves (holding used' moves') → Going step n im₀ im' t₀ u used₀ moves₀ used' moves' (i + 1)
      going_on = in_on step n 0 n (omega arith) im₀ im t₀ t used₀ moves₀ used moves i all going more im' u

-- ---- over a load's outputs

-- parts 0 to i of n are done
abbrev pub GoingOver : (ℕ → List ℕ → Trace) → ℕ → Outputs → Outputs → ℕ → Type 0
GoingOver step n o₀ o i = Going step n o₀.image.now o.image.now (columns_of o₀.registry.now) (columns_of o.registry.now) o₀.registry.now.used o₀.moves o.registry.now.used o.moves i

-- what a part leaves, with its answer as it is known
pub answered : (T : Trace) (n : ℕ) (o o' : Outputs) (a b : Result (Unit {0}) ElfError) → SettlesTo T n o o' a → a ≡ b → SettlesTo T n o o' b
answered T n o o' a b did is = subst (λ (x : Result (Unit {0}) ElfError). SettlesTo T n o o' x) is did

-- a refusal that `?` hands on
pub handed_on : (T : Trace) (n : ℕ) (o o' : Outputs) (b : Result (Unit {0}) ElfError) (r : ElfError) → IsErrAnd b (λ x. x ≡ r) → SettlesTo T n o o' (Err r) → SettlesTo T n o o' b
handed_on T n o o' b r to did = let p = err_from_is_err_and b to in rw (p.1, p.2) did

module _ (step : ℕ → List ℕ → Trace) (n : ℕ) (o₀ o : Outputs) (i : ℕ) (begins : Begins n o₀) (going : GoingOver step n o₀ o i) where
  pub over_done : n ≤ i → SettlesTo (each step n 0 o₀.image.now) n o₀ o (Ok tt)
  over_done = going_done step n o₀.image.now o.image.now (columns_of o₀.registry.now) (columns_of o.registry.now) o₀.registry.now.used o₀.moves o.registry.now.used o.moves i begins going

  pub over_begins : i < n → Begins 1 o
  over_begins = going_begins step n o₀.image.now o.image.now (columns_of o₀.registry.now) (columns_of o.registry.now) o₀.registry.now.used o₀.moves o.registry.now.used o.moves i begins going

  module _ (more : i < n) (o' : Outputs) where
    pub over_stop : (a b : Result (Unit {0}) ElfError) (r : ElfError) → a ≡ Err r → SettlesTo (step i o.image.now) 1 o o' a → IsErrAnd b (λ x. x ≡ r) → SettlesTo (each step n 0 o₀.image.now) n o₀ o' b
    over_stop a b r is did to =
        handed_on (each step n 0 o₀.image.now) n o₀ o' b r to
        (going_stop step n o₀.image.now o.image.now (columns_of o₀.registry.now) (columns_of o.registry.now) o₀.registry.now.used o₀.moves o.registry.now.used o.moves i begins going more o'.image.now (columns_of o'.registry.now) r (answered (step i o.image.now) 1 o o' a (Err r) did is))

    pub over_on : Keeps o o' → (a : Result (Unit {0}) ElfError) → a ≡ Ok tt → SettlesTo (step i o.image.now) 1 o o' a → GoingOver step n o₀ o' (i + 1)
    over_on keeps a is did = going_on step n o₀.image.now o.image.now (columns_of o₀.registry.now) (columns_of o.registry.now) o₀.registry.now.used o₀.moves o.registry.now.used o.moves i begins going more o'.image.now (columns_of o'.registry.now) o'.registry.now.used o'.moves keeps.table_as keeps.image_as (answered (step i o.image.now) 1 o o' a (Ok tt) did is)

-- slices kept, and kept again
pub keeps_all : (o : Outputs) → Keeps o o
keeps_all o = record { image_is = refl; image_as = refl; registry_is = refl; table_is = (refl, refl, refl, refl, refl); table_as = same_refl (columns_of o.registry.now) }

pub keeps_on : (o o₁ o' : Outputs) → Keeps o o₁ → Keeps o₁ o' → Keeps o o'
keeps_on o o₁ o' p q = record {
  image_is = q.image_is ∙ p.image_is;
  image_as = q.image_as ∙ p.image_as;
  registry_is = q.registry_is ∙ p.registry_is;
  table_is = (q.table_is.0 ∙ p.table_is.0, q.table_is.1 ∙ p.table_is.1, q.table_is.2 ∙ p.table_is.2, q.table_is.3 ∙ p.table_is.3, q.table_is.4 ∙ p.table_is.4);
  table_as = same_trans (columns_of o.registry.now) (columns_of o₁.registry.now) (columns_of o'.registry.now) p.table_as q.table_as;
}

-- two parts over a load's outputs
module _ (T : Trace) (K : List ℕ → Trace) (o o₁ : Outputs) (n m : ℕ) where
  pub part_stop : (a b : Result (Unit {0}) ElfError) (r : ElfError) → a ≡ Err r → SettlesTo T n o o₁ a → IsErrAnd b (λ x. x ≡ r) → SettlesTo (and_then T K) (n + m) o o₁ b
  part_stop a b r is did to =
      handed_on (and_then T K) (n + m) o o₁ b r to
      (settles_stop T K o₁.image.now o₁.image.now (columns_of o.registry.now) (columns_of o₁.registry.now) (columns_of o₁.registry.now) n (n + m) o.registry.now.used o.moves r (answered T n o o₁ a (Err r) did is))

  module _ (keeps : Keeps o o₁) (a : Result (Unit {0}) ElfError) (is : a ≡ Ok tt) (did : SettlesTo T n o o₁ a) where
    pub part_then : (o' : Outputs) (b : Result (Unit {0}) ElfError) → SettlesTo (K o₁.image.now) m o₁ o' b → SettlesTo (and_then T K) (n + m) o o' b
    part_then o' b next = settles_then T K o₁.image.now o'.image.now (columns_of o.registry.now) (columns_of o₁.registry.now) (columns_of o'.registry.now) n m o.registry.now.used o.moves o₁.registry.now.used o₁.moves keeps.table_as (answered T n o o₁ a (Ok tt) did is) (held_of b o') next
