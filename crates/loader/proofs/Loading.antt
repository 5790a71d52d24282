-- A load around its parts: the end of the last part, an empty table with room for all registrations, the image's front and the
-- zeros behind it, and the answer. Assumes nothing.
use mathlib.Core.Path.{◌≡◌, refl, sym, ap, ◌∙◌, subst}
use mathlib.Core.List.{List, [], ◌++◌, append-nil}
use Prim.Native.Nat.{ℕ, ◌+◌, ◌-◌, ◌≤◌, ◌^◌, zero-le}
use native.Mathlib.Omega.{arith}
use lib.ListN.{length, take, drop, replicate, length-replicate}
use lib.Seq.{drop_at, drop-length, length-take-le}
use borrow.Rule.Slice.PartMut.{mid_of, post_of, put_mid, same_len_mid, mid_len, Post-is}
use Rattle.program.specs.Table.{Slices, columns_of, capacity, lay, rows_of}
use Rattle.program.proofs.Laying.{length_rows}
use Rattle.std.specs.Prelude.{Result, Ok, Err}
use Rattle.std.specs.Result.{IsErrAnd}
use Rattle.std.proofs.lemmas.Result.{err_from_is_err_and}
use Rattle.program.specs.Table.{SameLens}
use Rattle.program.proofs.Tables.{capacity_same, lay_same, same_lay, ready_none}
use Rattle.loader.specs.declared.read_only.Placing.TheVariants.{Borrowed, Owned}
use Rattle.loader.specs.declared.read_only.Placing.{Placing}
use Rattle.loader.specs.declared.answer.Accepted.{Accepted}
use Rattle.loader.specs.declared.validate.Config.{Config}
use Rattle.loader.specs.declared.validate.Job.{Job}
use Rattle.loader.specs.declared.error.ElfError.{ElfError}
use Rattle.loader.specs.Deeds.{Held}
use Rattle.loader.specs.Deeds.{holding}
use Rattle.loader.specs.Trace.{Trace, and_then, settle, settle_and_then}
use Rattle.loader.specs.Labels.{few_symbols}
use Rattle.loader.specs.Parts.{writing_trace, naming_trace, placed_trace, job_trace}
use Rattle.elf_parser.specs.Types.{file_header}
use Rattle.loader.specs.Validate.{is_version2, prepared}
use Rattle.loader.specs.Load.{all_count, placed_by, after_placing, Cleared, placed_bytes, HeldBytes, answer_by, answer_for, Loading, refuses, held_by, on_trace, on_prepared, load_of, Loaded, Tried}
use Rattle.loader.specs.InnerContracts.{outcome, BeginsIn, Keeps, Settles, SettlesTo, held_of}
use Rattle.loader.specs.InFile.{InFile}
use Rattle.loader.specs.declared.deeds.Outputs.{Outputs}
use Rattle.loader.proofs.Going.{settles_stop, settles_then, answered, handed_on}
use Rattle.loader.proofs.Readied.{readied, placed_as}
use Rattle.loader.proofs.Front.{copied_front}

-- ---- the placing's refusal

module _ (T : Trace) (im : List ℕ) (t u : Slices) (n used moves : ℕ) where
  held_placed : (p : Result Placing ElfError) (used' moves' : ℕ) → Settles T im t u n used moves (holding used' moves') → Settles (and_then T (placed_trace p)) im t u n used moves (placed_by p used' moves')
  unfolding settle
  held_placed (Ok (Borrowed offset start k)) used' moves' did = record {
    answers = sym (settle_and_then (capacity t) T (placed_trace (Ok (Borrowed offset start k))) (rows_of t used) moves ∙ rw (← did.answers) refl);
    sound = did.sound;
    near = did.near;
  }
  held_placed (Ok (Owned offset lowest k)) used' moves' did = record {
    answers = sym (settle_and_then (capacity t) T (placed_trace (Ok (Owned offset lowest k))) (rows_of t used) moves ∙ rw (← did.answers) refl);
    sound = did.sound;
    near = did.near;
  }
  held_placed (Err r) used' moves' did = record {
    answers = sym (settle_and_then (capacity t) T (placed_trace (Err r)) (rows_of t used) moves ∙ rw (← did.answers) refl);
    sound = tt;
    near = tt;
  }

  settles_placed : (p : Result Placing ElfError) (a : Result Held ElfError) → Settles T im t u n used moves a → Settles (and_then T (placed_trace p)) im t u n used moves (after_placing a p)
  settles_placed p (Ok held) did = held_placed p held.used held.moves did
  settles_placed p (Err r) did = settles_stop T (placed_trace p) im im t u u n n used moves r did

-- ---- all parts

module _ (file builtins : List ℕ) (j : Job) (im im₁ : List ℕ) (t u : Slices) (n m used moves : ℕ) where
  parts_stop : (r : ElfError) → Settles (writing_trace file builtins j im) im₁ t u n used moves (Err r) → Settles (job_trace file builtins j im) im₁ t u (n + m) used moves (Err r)
  unfolding job_trace
  parts_stop r did = settles_stop (writing_trace file builtins j im) (λ (im₁ : List ℕ). and_then (naming_trace file builtins j im₁) (placed_trace j.placing)) im₁ im₁ t u u n (n + m) used moves r did

  parts_all : (im₂ : List ℕ) (v : Slices) (used' moves' : ℕ) (a b : Result Held ElfError)
      → SameLens t u
      → Settles (writing_trace file builtins j im) im₁ t u n used moves (holding used' moves')
      → Settles (naming_trace file builtins j im₁) im₂ u v m used' moves' a
      → b ≡ after_placing a j.placing
      → Settles (job_trace file builtins j im) im₂ t v (n + m) used moves b
  unfolding job_trace
  parts_all im₂ v used' moves' a b lens first second e =
      rw e
      (settles_then (writing_trace file builtins j im) (λ (im₁ : List ℕ). and_then (naming_trace file builtins j im₁) (placed_trace j.placing)) im₁ im₂ t u v n m used moves used' moves' lens first (after_placing a j.placing)
      (settles_placed (naming_trace file builtins j im₁) im₂ u v m used' moves' j.placing a second))

-- where the placing does not refuse
placed_held : (p : Result Placing ElfError) (x : Placing) (used moves : ℕ) → p ≡ Ok x → holding used moves ≡ placed_by p used moves
placed_held p (Borrowed offset start n) used moves e = rw e refl
placed_held p (Owned offset lowest n) used moves e = rw e refl

placed_not : (p : Result Placing ElfError) (r : ElfError) (used moves : ℕ) → p ≡ Err r → Err r ≡ placed_by p used moves
placed_not p r used moves e = rw e refl

-- over a load's outputs
module _ (file builtins : List ℕ) (j : Job) (im : List ℕ) (o o₁ : Outputs) (n m : ℕ) where
  pub job_stop : (a b : Result (Unit {0}) ElfError) (r : ElfError) → a ≡ Err r → SettlesTo (writing_trace file builtins j im) n o o₁ a → IsErrAnd b (λ x. x ≡ r) → SettlesTo (job_trace file builtins j im) (n + m) o o₁ b
  job_stop a b r is did to =
      handed_on (job_trace file builtins j im) (n + m) o o₁ b r to (parts_stop file builtins j im o₁.image.now (columns_of o.registry.now) (columns_of o₁.registry.now) n m o.registry.now.used o.moves r (answered (writing_trace file builtins j im) n o o₁ a (Err r) did is))

  -- behind a first pair of parts that was held
  module _ (keeps : Keeps o o₁) (a₁ : Result (Unit {0}) ElfError) (is₁ : a₁ ≡ Ok tt) (first : SettlesTo (writing_trace file builtins j im) n o o₁ a₁)
      (o₂ : Outputs) (a₂ : Result (Unit {0}) ElfError) (second : SettlesTo (naming_trace file builtins j o₁.image.now) m o₁ o₂ a₂) where
    job_all : (a b : Result (Unit {0}) ElfError) → a₂ ≡ a → held_of b o₂ ≡ after_placing (held_of a o₂) j.placing → SettlesTo (job_trace file builtins j im) (n + m) o o₂ b
    job_all a b is₂ e =
        parts_all file builtins j im o₁.image.now (columns_of o.registry.now) (columns_of o₁.registry.now) n m o.registry.now.used o.moves o₂.image.now (columns_of o₂.registry.now) o₁.registry.now.used o₁.moves (held_of a o₂) (held_of b o₂) keeps.table_as
        (answered (writing_trace file builtins j im) n o o₁ a₁ (Ok tt) first is₁)
        (answered (naming_trace file builtins j o₁.image.now) m o₁ o₂ a₂ a second is₂)
        e

    -- the second pair of parts is refused; or the placing is; or neither
    pub job_refused : (b : Result (Unit {0}) ElfError) (r : ElfError) → a₂ ≡ Err r → IsErrAnd b (λ x. x ≡ r) → SettlesTo (job_trace file builtins j im) (n + m) o o₂ b
    job_refused b r is₂ to = handed_on (job_trace file builtins j im) (n + m) o o₂ b r to (job_all (Err r) (Err r) is₂ refl)

    pub job_unplaced : (b : Result (Unit {0}) ElfError) (r : ElfError) → a₂ ≡ Ok tt → j.placing ≡ Err r → IsErrAnd b (λ x. x ≡ r) → SettlesTo (job_trace file builtins j im) (n + m) o o₂ b
    job_unplaced b r is₂ e to = handed_on (job_trace file builtins j im) (n + m) o o₂ b r to (job_all (Ok tt) (Err r) is₂ (placed_not j.placing r o₂.registry.now.used o₂.moves e))

    pub job_placed : (p : Placing) → a₂ ≡ Ok tt → j.placing ≡ Ok p → SettlesTo (job_trace file builtins j im) (n + m) o o₂ (Ok tt)
    job_placed p is₂ e = job_all (Ok tt) (Ok tt) is₂ (placed_held j.placing p o₂.registry.now.used o₂.moves e)

-- ---- in an empty table

all_few : (file : List ℕ) (j : Job) → InFile file j → all_count file j ≤ 2 ^ 24
all_few file j f =
    let k = few_symbols file j in
    omega (arith, k, f.text, f.short, f.relocations, f.relas)

pub begins_all : (file : List ℕ) (j : Job) (t : Slices) (used : ℕ) → InFile file j → t ≡ lay t [] → used ≡ 0 → BeginsIn (all_count file j) t used 0
begins_all file j t used f z e =
    let few = all_few file j f in
    record {
      ready = rw e (ready_none t z);
      room = record { few = omega (arith, few, e); moved = omega (arith, few) };
    }

-- ---- the image with everything behind its first n bytes cleared

module _ (n : ℕ) (im z : List ℕ) (fits : n ≤ length im) (clear : z ≡ replicate (length (mid_of n (length im - n) im)) 0) where
  abbrev behind : List ℕ
  behind = put_mid n (length im - n) im z

  behind_length : length behind ≡ length im
  behind_length = same_len_mid n (length im - n) im z (ap length clear ∙ length-replicate (length (mid_of n (length im - n) im)) 0)

  pub behind_fits : n ≤ length behind
  behind_fits = omega (arith, fits, behind_length)

  pub behind_front : length (take n behind) ≡ n
  behind_front = length-take-le n behind behind_fits

  pub behind_rest : drop n behind ≡ replicate (length im - n) 0
  behind_rest =
      let none : post_of n (length im - n) im ≡ [] = Post-is n (length im) im fits ∙ drop-length im in
      let many : length (mid_of n (length im - n) im) ≡ length im - n = mid_len n (length im) im (omega arith) in
      drop_at (take n im) (z ++ post_of n (length im - n) im) n (length-take-le n im fits)
      ∙ ap (λ (l : List ℕ). z ++ l) none
      ∙ append-nil z
      ∙ clear
      ∙ ap (λ (k : ℕ). replicate k 0) many

-- ---- the attempt

-- what the checks showed
module _ (file builtins : List ℕ) (c : Config) (n m : ℕ) (j : Job) (p : Result Job ElfError) (is : p ≡ prepared file builtins c n m) (ready : p ≡ Ok j) where
  pub file_fits : length file ≤ n
  file_fits = (readied file builtins c n m j (sym is ∙ ready)).1

  pub file_ready : InFile file j
  file_ready = (readied file builtins c n m j (sym is ∙ ready)).0

-- cleared columns are as long as they were, and an empty table
pub cleared_lens : (t t₁ : Slices) → t₁ ≡ lay t [] → SameLens t t₁
cleared_lens t t₁ laid = rw laid (same_lay t [] zero-le)

pub empty : (t t₁ : Slices) → t₁ ≡ lay t [] → t₁ ≡ lay t₁ []
empty t t₁ laid = laid ∙ sym (lay_same t t₁ [] (cleared_lens t t₁ laid))

rows_none : (t : Slices) → rows_of t 0 ≡ []
unfolding rows_of
rows_none t = refl

module _ (file builtins : List ℕ) (c : Config) (im ro : List ℕ) (t : Slices) where
  abbrev whole : Loading
  whole = load_of file builtins c (length im) (length ro) (capacity t)

  module _ (p : Result Job ElfError) (is : p ≡ prepared file builtins c (length im) (length ro)) where
    prepared_as : (q : Result Job ElfError) → p ≡ q → whole ≡ on_prepared file builtins (length ro) (capacity t) q
    unfolding load_of
    prepared_as q e = ap (on_prepared file builtins (length ro) (capacity t)) (sym is ∙ e)

    pub load_stops : (r : ElfError) (im' ro' : List ℕ) (t' : Slices) (b : Result Accepted ElfError) → p ≡ Err r → IsErrAnd b (λ x. x ≡ r) → Tried whole im ro t im' ro' t' b
    load_stops r im' ro' t' b e to = let k = err_from_is_err_and b to in rw (k.1, k.2) (prepared_as (Err r) e)

    module _ (j : Job) (ready : p ≡ Ok j) where
      ro_fits : length file ≤ length ro
      ro_fits = (readied file builtins c (length im) (length ro) j (sym is ∙ ready)).2

      -- the slices cleared but for the image's front: ro₁ and t₁, and zeros behind the front; then filled: q the front, ro₂ and t₂
      module _ (ro₁ : List ℕ) (t₁ : Slices) (ro-zeros : ro₁ ≡ replicate (length ro) 0) (lens : SameLens t t₁) (rest : List ℕ) (zeros : rest ≡ replicate (length im - length file) 0) (q ro₂ : List ℕ) (t₂ : Slices) (len : length q ≡ length file) (lens₂ : SameLens t₁ t₂) where
        settled : (n : ℕ) (a : Result Held ElfError) → Settles (job_trace file builtins j file) q t₁ t₂ n 0 0 a → whole ≡ on_trace file j (length ro) (outcome a q t₂)
        settled n a did =
            let e : outcome a q t₂ ≡ settle (capacity t) (job_trace file builtins j file) [] 0 = did.answers ∙ rw (rows_none t₁, capacity_same t t₁ lens) refl in
            prepared_as (Ok j) ready ∙ ap (on_trace file j (length ro)) (sym e)

        held : (used moves : ℕ) (pl : Result Placing ElfError)
            → t₂ ≡ lay t₂ (rows_of t₂ used)
            → whole ≡ held_by file j (length ro) pl q (rows_of t₂ used) moves
            → ro₂ ≡ placed_bytes file j.layout pl q ro₁
            → pl ≡ j.placing
            → Tried whole im ro t (q ++ rest) ro₂ t₂ (answer_by j pl used moves)
        held used moves (Err r) l w b at_place = w
        held used moves (Ok (Borrowed offset start n)) l w b at_place = record {
          answers = rw (w, length_rows t₂ used) refl;
          demand_1 = record {
            image = rw w (ap (λ (z : List ℕ). q ++ z) (zeros ∙ rw len refl));
            readonly = rw w (b ∙ ro-zeros);
            table = rw w (l ∙ lay_same t₁ t₂ (rows_of t₂ used) lens₂ ∙ lay_same t t₁ (rows_of t₂ used) lens);
          };
        }
        held used moves (Ok (Owned offset lowest n)) l w b at_place = record {
          answers = rw (w, length_rows t₂ used) refl;
          demand_1 = record {
            image = rw w (ap (λ (z : List ℕ). q ++ z) (zeros ∙ rw len refl));
            readonly = rw w (b ∙ rw ro-zeros (copied_front q file j.layout (file_header file).e_shnum (is_version2 (file_header file)) c.reject_broken_elfs c.optimize_rodata offset lowest n (file_ready file builtins c (length im) (length ro) j p is ready).short (omega (arith, len)) (sym (at_place ∙ placed_as file builtins c (length im) (length ro) j (sym is ∙ ready))) (length ro) ro_fits));
            table = rw w (l ∙ lay_same t₁ t₂ (rows_of t₂ used) lens₂ ∙ lay_same t t₁ (rows_of t₂ used) lens);
          };
        }

        tried_as : (n : ℕ) (a : Result Held ElfError) → Settles (job_trace file builtins j file) q t₁ t₂ n 0 0 a → HeldBytes a ro₂ (placed_bytes file j.layout j.placing q ro₁) → Tried whole im ro t (q ++ rest) ro₂ t₂ (answer_for a j)
        tried_as n (Err r) did b = settled n (Err r) did
        tried_as n (Ok kept) did b = held kept.used kept.moves j.placing did.sound.laid (settled n (holding kept.used kept.moves) did) b refl

        tried : (n : ℕ) (b : Result Accepted ElfError) → (a : Result Held ElfError) × (b ≡ answer_for a j) × Settles (job_trace file builtins j file) q t₁ t₂ n 0 0 a × HeldBytes a ro₂ (placed_bytes file j.layout j.placing q ro₁) → Tried whole im ro t (q ++ rest) ro₂ t₂ b
        tried n b did = subst (Tried whole im ro t (q ++ rest) ro₂ t₂) (sym did.1) (tried_as n did.0 did.2 did.3)

      -- everything cleared but for the image's front, z being what is behind it then, and the front and the rest filled
      pub attempted : (z ro₁ : List ℕ) (t₁ : Slices)
          → Cleared (mid_of (length file) (length im - length file) im) ro t z ro₁ t₁
          → (q ro₂ : List ℕ) (t₂ : Slices)
          → length q ≡ length (take (length file) (put_mid (length file) (length im - length file) im z))
          → SameLens t₁ t₂
          → (n : ℕ) (b : Result Accepted ElfError)
          → (a : Result Held ElfError) × (b ≡ answer_for a j) × Settles (job_trace file builtins j file) q t₁ t₂ n 0 0 a × HeldBytes a ro₂ (placed_bytes file j.layout j.placing q ro₁)
          → Tried whole im ro t (q ++ drop (length file) (put_mid (length file) (length im - length file) im z)) ro₂ t₂ b
      attempted z ro₁ t₁ clears q ro₂ t₂ len lens₂ n b did =
          let fits : length file ≤ length im = file_fits file builtins c (length im) (length ro) j p is ready in
          tried ro₁ t₁ clears.readonly (cleared_lens t t₁ clears.table) _ (behind_rest (length file) im z fits clears.image) q ro₂ t₂ (len ∙ behind_front (length file) im z fits clears.image) lens₂ n b did

-- ---- the end: an attempt that is refused, and cleared

module _ (x : Loading) (im ro : List ℕ) (t : Slices) (im₁ ro₁ : List ℕ) (t₁ : Slices) (im₂ ro₂ : List ℕ) (t₂ : Slices) where
  pub load_refused : (r : ElfError) → x ≡ refuses r
      → length im₁ ≡ length im
      → length ro₁ ≡ length ro
      → SameLens t t₁
      → Cleared im₁ ro₁ t₁ im₂ ro₂ t₂
      → Loaded x im ro t im₂ ro₂ t₂ (Err r)
  load_refused r w li lr lens clear =
      record {
        answers = rw w refl;
        demand_1 = record {
          image = rw (w, ← li) clear.image;
          readonly = rw (w, ← lr) clear.readonly;
          table = rw w (clear.table ∙ lay_same t t₁ [] lens);
        };
      }
