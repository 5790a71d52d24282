-- What the answers about an accepted load mean: calls by the lookup, chains, and what comes back.
-- Assumes nothing.
use Prim.Native.Nat.{ℕ, ◌≤◌, ◌<◌, min}
use mathlib.Core.Path.{◌≡◌, refl, sym, ap, ◌∙◌}
use mathlib.Core.Bool.{Bool, true, false}
use mathlib.Core.List.{List}
use native.Mathlib.Omega.{arith}
use mathlib.Core.Logic.{◌↔◌}
use lib.ListN.{length, get_or, take}
use lib.Seq.{length-take-le, get_or-take, take-take}
use lib.Dec.{ltb, eqb}
use borrow.Author.Tests.{le-ltb, lt-leb}
use Rattle.std.specs.Prelude.{Option, Some, None, Result, Ok, Err}
use Rattle.ebpf.specs.Choice.{◌if◌else◌}
use Rattle.ebpf.specs.Instructions.{insn_at}
use Rattle.ebpf.specs.declared.Insn.{Insn}
use Rattle.program.specs.Search.{binary_search}
use Rattle.program.specs.Table.{Slices, capacity, lookup_in, number_at, row_ascending_in, row_of_found, row_at, Ready as IsTable}
use Rattle.program.proofs.Cases.{by_le, by_lt, by_test, zero_one}
use Rattle.program.proofs.Laying.{within_room}
use Rattle.program.proofs.Tables.{lookups_agree, row_agrees}
use Rattle.call_graph.specs.Answer.{depth_of}
use Rattle.call_graph.specs.Profile.{Profile, Depth, CallsFunction, Answers}
use Rattle.call_graph.specs.Ways.{Reaches, Calling}
use Rattle.call_graph.proofs.Ways.{longest_as, smallest_as, no_return}
use Rattle.loader.specs.declared.error.ElfError.{ElfError}
use Rattle.loader.specs.declared.answer.Accepted.{Accepted}
use Rattle.loader.specs.declared.error.ElfError.TheVariants.{BufferShort}
use Rattle.loader.specs.declared.validate.Config.{Config}
use Rattle.loader.specs.Demand.{Finds}
use Rattle.call_depth.specs.declared.error.CallDepthError.TheVariants.{RecursiveCall, TooDeep, Refused}
use Rattle.loader.specs.Calls.{calls_key}
use Rattle.call_depth.specs.Called.{row_or, callee_by, callee_in}
use Rattle.call_depth.specs.Asked.{CallDepth, limit_of, limited, depth_in, depth_by, depth_asked}
use Rattle.call_depth.specs.Loads.{MeansOf}
use Rattle.call_depth.specs.Meaning.{text_of_image, profile_after, SlotCalls, FunctionCalls, Means, MeansUnlessRefused, MeansAsked}
use Rattle.call_depth.proofs.After.{found_row, Made, fits_after, entry_after}

-- ---- the used rows alone find the same

front_number : (keys : List ℕ) (n at k : ℕ) → number_at (take n keys) n at k ≡ number_at keys n at k
unfolding number_at ◌if◌else◌
front_number keys n at k = by_le n at (λ b. (None if b else Some at if eqb (get_or (take n keys) at 0) k else None) ≡ (None if b else Some at if eqb (get_or keys at 0) k else None))
    (λ _. refl)
    (λ l. rw (get_or-take n keys at 0 l) refl)

row_front : (keys : List ℕ) (used k : ℕ) → used ≤ length keys → row_ascending_in (take used keys) (length (take used keys)) k ≡ row_ascending_in keys used k
unfolding row_ascending_in
row_front keys used k l =
    let len : length (take used keys) ≡ used = length-take-le used keys l in
    let all : min used (length keys) ≡ used = omega arith in
    let twice : min used used ≡ used = omega arith in
    rw (len, twice, all, take-take used used keys (omega arith)) (front_number keys used (binary_search k (take used keys)) k)

-- ---- calls by the lookup

module _ (a : Accepted) (im : List ℕ) (t : Slices) (table : IsTable t a.used) where
  abbrev P : Profile
  P = profile_after a im t

  in_keys : a.used ≤ length t.keys
  in_keys = (within_room a.used t table.room).in_keys

  in_indices : a.used ≤ length t.indices
  in_indices = (within_room a.used t table.room).in_indices

  many : length (take a.used t.keys) ≡ P.rows
  many = length-take-le a.used t.keys in_keys ∙ sym (length-take-le a.used t.indices in_indices)

  -- a row that is found
  by_row : (key j : ℕ) (f : Option ℕ) → row_ascending_in t.keys a.used key ≡ f → row_or (length (take a.used t.keys)) f < P.rows → P.index (row_or (length (take a.used t.keys)) f) ≡ j
      → Finds (lookup_in t a.used) key j
  by_row key j None e l x = absurd (omega (arith, many))
  by_row key j (Some r) e l x =
      let used : length (take a.used t.indices) ≡ a.used = length-take-le a.used t.indices in_indices in
      (row_at t r, sym (lookups_agree t a.used table key) ∙ row_agrees t a.used table key ∙ ap (row_of_found t) e, sym (get_or-take a.used t.indices r 0 (omega (arith, used, l))) ∙ x)

  by_key : (insn : Insn) (j : ℕ) (b : Bool) → calls_key (eqb a.version 2) insn ≡ b
      → row_or (length (take a.used t.keys)) (callee_by (take a.used t.keys) (eqb a.version 2) (Some insn)) < P.rows
      → P.index (row_or (length (take a.used t.keys)) (callee_by (take a.used t.keys) (eqb a.version 2) (Some insn))) ≡ j
      → (calls_key (eqb a.version 2) insn ≡ true) × Finds (lookup_in t a.used) insn.imm j
  unfolding ◌if◌else◌
  by_key insn j true e l x =
      let w = row_front t.keys a.used insn.imm in_keys in
      (e, by_row insn.imm j (row_ascending_in t.keys a.used insn.imm) refl (rw (e, w) at l) (rw (e, w) at x))
  by_key insn j false e l x = absurd (let h : length (take a.used t.keys) < P.rows = rw e at l in omega (arith, many))

  by_slot : (s j : ℕ) (x : Option Insn) → insn_at (text_of_image a im) s ≡ x
      → row_or (length (take a.used t.keys)) (callee_by (take a.used t.keys) (eqb a.version 2) x) < P.rows
      → P.index (row_or (length (take a.used t.keys)) (callee_by (take a.used t.keys) (eqb a.version 2) x)) ≡ j
      → SlotCalls a im t s j
  by_slot s j None e l x = absurd (omega (arith, many))
  by_slot s j (Some insn) e l x = let k = by_key insn j (calls_key (eqb a.version 2) insn) refl l x in (insn, e, k.0, k.1)

  -- THE PROFILE'S CALLS are those that a lookup finds
  pub calls_to : (i j : ℕ) → CallsFunction P i j → FunctionCalls a im t i j
  unfolding callee_in
  calls_to i j c = (c.0, (c.1, c.2), by_slot c.0 j (insn_at (text_of_image a im) c.0) refl c.3 c.4)

  pub calls_from : (i j : ℕ) → FunctionCalls a im t i j → CallsFunction P i j
  unfolding callee_in ◌if◌else◌
  calls_from i j c =
      let x = c.2 in
      let insn = x.0 in
      let w = found_row t a.used table insn.imm x.3.0 x.3.1 in
      let is : P.callee c.0 ≡ w.0 = rw (x.1, x.2, row_front t.keys a.used insn.imm in_keys, w.1) refl in
      let used : length (take a.used t.indices) ≡ a.used = length-take-le a.used t.indices in_indices in
      (c.0, c.1.0, c.1.1, rw is (omega (arith, used, w.2)), rw is (get_or-take a.used t.indices w.0 0 w.2 ∙ w.3 ∙ x.3.2))

-- ---- what is answered

means_as : (R S : ℕ → ℕ → Type 0) → ((i j : ℕ) → R i j → S i j) → ((i j : ℕ) → S i j → R i j) → (e limit : ℕ) (x : CallDepth) → Means R e limit x → Means S e limit x
means_as R S f g e limit (Ok d) m = (longest_as R S f g e d m.0, m.1)
means_as R S f g e limit (Err (TooDeep d)) m = (longest_as R S f g e d m.0, m.1)
means_as R S f g e limit (Err (RecursiveCall i)) m = smallest_as R S f g e i m
means_as R S f g e limit (Err (Refused r)) m = m

pub limited_means : (Q : Profile) (e limit : ℕ) (d : Depth) → Answers Q e d → MeansUnlessRefused (CallsFunction Q) e limit (limited limit d)
unfolding ◌if◌else◌
limited_means Q e limit (Err r) m = m
limited_means Q e limit (Ok d) m = by_lt limit d (λ b. MeansUnlessRefused (CallsFunction Q) e limit (Err (TooDeep d) if b else Ok d)) (λ h. (m, h)) (λ h. (m, h))

-- a depth within a limit or past it is no refusal
limited_told : (R : ℕ → ℕ → Type 0) (e limit : ℕ) (d : Depth) → MeansUnlessRefused R e limit (limited limit d) → Means R e limit (limited limit d)
unfolding ◌if◌else◌
limited_told R e limit (Err r) m = m
limited_told R e limit (Ok d) m = by_test (ltb limit d) (λ b. MeansUnlessRefused R e limit (Err (TooDeep d) if b else Ok d) → Means R e limit (Err (TooDeep d) if b else Ok d)) (λ _ k. k) (λ _ k. k) m

module _ (file builtins : List ℕ) (c : Config) (n m : ℕ) (t₀ : Slices) (im : List ℕ) (t : Slices) where
  module _ (a : Accepted) (l : Made file builtins c n m t₀ im t (Ok a)) where
    -- THE QUESTION ABOUT AN ACCEPTED LOAD is refused for a short `work` only
    pub answered : (work limit : ℕ)
        → depth_by work (capacity t₀) im t.keys t.indices a limit ≡ (Err (Refused BufferShort) if ltb work (capacity t₀) else limited (limit_of limit) (depth_of (profile_after a im t) a.entry))
    unfolding depth_by depth_in ◌if◌else◌
    answered work limit = rw (fits_after file builtins c n m t₀ im t a l, lt-leb _ _ (entry_after file builtins c n m t₀ im t a l)) refl

    means_accepted : (work limit : ℕ) → capacity t₀ ≤ work → (x : CallDepth) → x ≡ depth_by work (capacity t₀) im t.keys t.indices a limit → MeansAsked (Ok a) im t limit x
        → Means (FunctionCalls a im t) a.entry (limit_of limit) x
    unfolding ◌if◌else◌
    means_accepted work limit h x e k =
        let P = profile_after a im t in
        let is : x ≡ limited (limit_of limit) (depth_of P a.entry) = e ∙ rw (answered work limit, le-ltb work (capacity t₀) h) refl in
        rw is
        (means_as (CallsFunction P) (FunctionCalls a im t) (calls_to a im t l.ascending) (calls_from a im t l.ascending) a.entry (limit_of limit) (limited (limit_of limit) (depth_of P a.entry))
        (limited_told (CallsFunction P) a.entry (limit_of limit) (depth_of P a.entry) (rw is at k)))

  -- WHAT IT MEANS of a load, in the words of the request
  pub depth_means : (r : Result Accepted ElfError) → Made file builtins c n m t₀ im t r → (work limit : ℕ)
      → (x : CallDepth)
      → x ≡ depth_asked work (capacity t₀) im t.keys t.indices r limit
      → MeansAsked r im t limit x
      → MeansOf r im t (capacity t₀) work limit x
  depth_means (Ok a) l work limit x e k = λ h. means_accepted a l work limit h x e k
  depth_means (Err r) l work limit x e k = tt

-- 50 EXACTLY WHERE A FUNCTION THAT IS REACHED REACHES ITSELF
pub recursive_iff : (R : ℕ → ℕ → Type 0) (e limit : ℕ) (x : CallDepth) → Means R e limit x → ((i : ℕ) × (x ≡ Err (RecursiveCall i))) ↔ ((j : ℕ) × Reaches R e j × Calling R j j)
recursive_iff R e limit (Err (RecursiveCall i)) m = (λ _. (i, m.reached, m.again), λ _. (i, refl))
recursive_iff R e limit (Ok d) m = (λ h. absurd (zero_one (cc)), λ h. absurd (no_return R e d h.0 m.0 h.1 h.2))
recursive_iff R e limit (Err (TooDeep d)) m = (λ h. absurd (zero_one (cc)), λ h. absurd (no_return R e d h.0 m.0 h.1 h.2))
recursive_iff R e limit (Err (Refused r)) m = absurd m
