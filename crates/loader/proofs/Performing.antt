-- What carrying a deed out leaves, by what the deed asks of the table. Assumes nothing.
use mathlib.Core.Path.{◌≡◌, refl, sym, subst}
use mathlib.Core.Bool.{Bool, true, false}
use mathlib.Core.Logic.{◌⊎◌, inl, inr}
use mathlib.Core.List.{List}
use Prim.Native.Nat.{ℕ}
use native.Mathlib.Omega.{arith}
use Rattle.program.specs.declared.RegisterError.TheVariants.{Collision, Full}
use Rattle.program.specs.declared.Registered.TheVariants.{Inserted, Repeat}
use Rattle.std.specs.Prelude.{Ok, Err}
use Rattle.program.specs.declared.Row.{Row}
use Rattle.program.specs.Rows.{registered, RegisterResult}
use Rattle.program.specs.Rows as table
use Rattle.program.specs.Table.{Slices, capacity, rows_of, Ready}
use Rattle.program.proofs.Cases.{zero_one}
use Rattle.loader.specs.declared.error.ElfError.{ElfError}
use Rattle.loader.specs.declared.error.ElfError.TheVariants.{ValueOutOfBounds}
use Rattle.loader.specs.declared.deeds.Deed.{Deed}
use Rattle.loader.specs.declared.deeds.Deed.TheVariants.{Skip, Halves, Word, Key, Register, RegisterOnly}
use Rattle.loader.specs.Deeds.{Held}
use Rattle.std.specs.Prelude.{Result, Ok, Err}
use Rattle.loader.specs.declared.validate.Job.{Job}
use Rattle.loader.specs.Entry.{entry_deed, forget_trace}
use Rattle.loader.specs.Entry as part
use Rattle.loader.specs.Trace.{done, stop, register, accepted, refused, on_registered, settle, and_then}
use Rattle.loader.specs.Deeds.{Nothing, Enter, written, entry_of, deed_trace, holding}
use Rattle.loader.specs.InnerContracts.{Settles}
use Rattle.loader.proofs.Entering.{EntersIn}

-- a registration that is held, and then refused
held_stop : (x : RegisterResult) (rows key m : ℕ) (im : List ℕ) (rs rs' : List Row) (m' : ℕ) (r : ElfError)
    → accepted im rs' m' ≡ on_registered x rows key m (λ (n : ℕ). accepted im rs n)
    → refused r ≡ on_registered x rows key m (λ (n : ℕ). refused r)
held_stop (Ok (Inserted n)) rows key m im rs rs' m' r e = refl
held_stop (Ok Repeat) rows key m im rs rs' m' r e = refl
held_stop (Err Collision) rows key m im rs rs' m' r e = absurd (zero_one (cc))
held_stop (Err Full) rows key m im rs rs' m' r e = absurd (zero_one (cc))

-- one that is refused is refused whatever follows
refused_stop : (x : RegisterResult) (rows key m : ℕ) (im : List ℕ) (rs : List Row) (q r : ElfError)
    → refused q ≡ on_registered x rows key m (λ (n : ℕ). accepted im rs n)
    → refused q ≡ on_registered x rows key m (λ (n : ℕ). refused r)
refused_stop (Ok (Inserted n)) rows key m im rs q r e = absurd (zero_one (cc))
refused_stop (Ok Repeat) rows key m im rs q r e = absurd (zero_one (cc))
refused_stop (Err Collision) rows key m im rs q r e = e
refused_stop (Err Full) rows key m im rs q r e = e

-- the refusal behind a registration's answer
abbrev pub refused_behind : Result Held ElfError → Result Held ElfError
refused_behind (Ok held) = Err ValueOutOfBounds
refused_behind (Err r) = Err r

outside_row : (row : Row) (im : List ℕ) (t u : Slices) (used moves : ℕ) (a : Result Held ElfError)
    → Settles (register row (done im)) im t u 1 used moves a
    → Settles (register row (stop ValueOutOfBounds)) im t u 1 used moves (refused_behind a)
unfolding settle
outside_row row im t u used moves (Ok held) did =
    record {
      answers =
          held_stop (table.register (capacity t) row (rows_of t used)) (capacity t) row.key moves im (registered (capacity t) row (rows_of t used)) (rows_of u held.used) held.moves ValueOutOfBounds
          did.answers;
      sound = tt;
      near = tt;
    }
outside_row row im t u used moves (Err r) did =
    record {
      answers =
          refused_stop (table.register (capacity t) row (rows_of t used)) (capacity t) row.key moves im (registered (capacity t) row (rows_of t used)) r ValueOutOfBounds did.answers;
      sound = tt;
      near = tt;
    }

-- a refusal, whatever the table
pub refuses : (r : ElfError) (im im' : List ℕ) (t u : Slices) (n used moves : ℕ) → Settles (deed_trace (Err r) im) im' t u n used moves (Err r)
unfolding settle deed_trace
refuses r im im' t u n used moves = record { answers = refl; sound = tt; near = tt }

-- the entry's refusal counts whether or not a row was removed before
pub entry_refused : (builtins : List ℕ) (j : Job) (im : List ℕ) (t : Slices) (used moves : ℕ) (r : ElfError) → entry_deed builtins j ≡ Err r → Settles (part.entry_trace builtins j im) im t t 2 used moves (Err r)
unfolding settle and_then deed_trace
entry_refused builtins j im t used moves r e = record {
  answers = subst (λ (d : Result Deed ElfError). refused r ≡ settle (capacity t) (and_then (forget_trace j.version2 im) (λ (im' : List ℕ). deed_trace d im')) (rows_of t used) moves) (sym e) (go j.version2);
  sound = tt;
  near = tt;
}
  where
    go : (v : Bool) → refused r ≡ settle (capacity t) (and_then (forget_trace v im) (λ (im' : List ℕ). deed_trace (Err r) im')) (rows_of t used) moves
    go true = refl
    go false = refl

module _ (d : Result Deed ElfError) (im im' : List ℕ) (t : Slices) (used moves : ℕ) (w : im' ≡ written d im) where
  -- it asks nothing of the table
  pub performs_nothing : entry_of d ≡ Ok Nothing → Ready t used → Settles (deed_trace d im) im' t t 1 used moves (holding used moves)
  unfolding settle deed_trace
  performs_nothing e ready = rw (e, w) (record { answers = refl; sound = ready; near = (omega arith, omega arith) })

  -- it registers a row
  module _ (row : Row) (u : Slices) (last : List ℕ) (stays : last ≡ im') where
    pub performs_row : (a : Result Held ElfError) → entry_of d ≡ Ok (Enter row false) → EntersIn row t u used moves a → Settles (deed_trace d im) last t u 1 used moves a
    unfolding deed_trace
    performs_row a e did = rw (e, stays, ← w) (did im')

    -- the place of its key is outside: it is refused behind whatever the registration answers
    pub performs_outside : (a : Result Held ElfError) → entry_of d ≡ Ok (Enter row true) → EntersIn row t u used moves a → Settles (deed_trace d im) last t u 1 used moves (refused_behind a)
    unfolding deed_trace
    performs_outside a e did = rw (e, stays) (outside_row row im' t u used moves a (did im'))

-- what the arms over a deed know of it
pub asks_nothing : (d : Deed) → (d ≡ Skip) ⊎ (((low : ℕ) × (high : ℕ) × (v : ℕ) × (d ≡ Halves low high v)) ⊎ (((at : ℕ) × (v : ℕ) × (d ≡ Word at v)) ⊎ ((at : ℕ) × (k : ℕ) × (d ≡ Key at k)))) → entry_of (Ok d) ≡ Ok Nothing
asks_nothing d (inl e) = rw e refl
asks_nothing d (inr (inl (low, high, v, e))) = rw e refl
asks_nothing d (inr (inr (inl (at, v, e)))) = rw e refl
asks_nothing d (inr (inr (inr (at, k, e)))) = rw e refl

pub asks_row : (d : Deed) (row : Row) → ((at : ℕ) × (d ≡ Register row at)) ⊎ (d ≡ RegisterOnly row) → entry_of (Ok d) ≡ Ok (Enter row false)
asks_row d row (inl (at, e)) = rw e refl
asks_row d row (inr e) = rw e refl
