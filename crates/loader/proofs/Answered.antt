-- An accepted load: its trace settled, and its answer is that of the placing; so the bound of its moves. Assumes nothing.
use Prim.Native.Nat.{ℕ, ◌+◌, ◌-◌, ◌*◌, ◌/◌, ◌≤◌}
use native.Mathlib.Omega.{arith}
use mathlib.Core.Path.{◌≡◌, refl, sym, ap, ◌∙◌}
use mathlib.Core.List.{List, []}
use lib.ListN.{length}
use Rattle.std.specs.Prelude.{Ok, Result, Err}
use Rattle.program.specs.declared.Row.{Row}
use Rattle.program.proofs.Cases.{zero_one}
use Rattle.loader.specs.declared.read_only.Placing.TheVariants.{Borrowed, Owned}
use Rattle.loader.specs.declared.read_only.Placing.{Placing}
use Rattle.loader.specs.declared.error.ElfError.{ElfError}
use Rattle.loader.specs.declared.answer.Accepted.{Accepted}
use Rattle.loader.specs.declared.validate.Config.{Config}
use Rattle.loader.specs.declared.validate.Job.{Job}
use Rattle.loader.specs.Load.{answer_by, held_by, on_trace, on_prepared, load_of, answer_of}
use Rattle.loader.specs.Parts.{job_trace}
use Rattle.loader.specs.Trace.{Settled, accepted, refused, settle}
use Rattle.loader.specs.Validate.{prepared}
use Rattle.loader.proofs.Keyed.{moves_few}

module _ (file builtins : List ℕ) (c : Config) (n m cap : ℕ) (j : Job) (a : Accepted) where
  pub record Answered : Type 0 where
    pub image : List ℕ
    pub rows : List Row
    pub moves : ℕ
    pub settles : settle cap (job_trace file builtins j file) [] 0 ≡ accepted image rows moves
    pub answers : answer_by j j.placing (length rows) moves ≡ Ok a

  by_held : (p : Result Placing ElfError) (im : List ℕ) (rows : List Row) (moves : ℕ) → answer_of (held_by file j m p im rows moves) ≡ answer_by j p (length rows) moves
  by_held (Ok (Borrowed offset start k)) im rows moves = refl
  by_held (Ok (Owned offset lowest k)) im rows moves = refl
  by_held (Err r) im rows moves = refl

  by_settled : (s : Settled) → settle cap (job_trace file builtins j file) [] 0 ≡ s → answer_of (on_trace file j m s) ≡ Ok a → Answered
  by_settled (accepted im rows moves) s e = record { image = im; rows = rows; moves = moves; settles = s; answers = sym (by_held j.placing im rows moves) ∙ e }
  by_settled (refused r) s e = absurd (zero_one (cc))

  pub by_load : prepared file builtins c n m ≡ Ok j → answer_of (load_of file builtins c n m cap) ≡ Ok a → Answered
  unfolding load_of
  by_load ready e = by_settled (settle cap (job_trace file builtins j file) [] 0) refl (ap (λ (p : Result Job ElfError). answer_of (on_prepared file builtins m cap p)) (sym ready) ∙ e)

  moves_by : (p : Result Placing ElfError) (used moves : ℕ) → answer_by j p used moves ≡ Ok a → moves ≡ a.moves
  moves_by (Ok (Borrowed offset start k)) used moves e = cc
  moves_by (Ok (Owned offset lowest k)) used moves e = cc
  moves_by (Err r) used moves e = absurd (zero_one (cc))

  -- THE BOUND of the moves that a load answers: n × (n − 1) / 2 + 2 × (n − 1) in a table of n rows
  pub moves_given : prepared file builtins c n m ≡ Ok j → answer_of (load_of file builtins c n m cap) ≡ Ok a → a.moves ≤ cap * (cap - 1) / 2 + 2 * (cap - 1)
  moves_given ready e =
      let w = by_load ready e in
      omega (arith, moves_by j.placing (length w.rows) w.moves w.answers, moves_few file builtins j cap w.image w.rows w.moves w.settles)
