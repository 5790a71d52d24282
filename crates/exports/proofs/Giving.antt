-- A load's answer, given under the settings that its bits stand for. Assumes nothing.
use Prim.Native.Nat.{ℕ}
use mathlib.Core.Path.{◌≡◌, refl, ap, ◌∙◌, subst}
use mathlib.Core.List.{List}
use lib.ListN.{length}
use Rattle.std.specs.Prelude.{Result}
use Rattle.program.specs.Table.{Slices, slices, Lent, Shared, table_before, table_after, capacity}
use Rattle.loader.specs.declared.error.ElfError.{ElfError}
use Rattle.loader.specs.declared.answer.Accepted.{Accepted}
use Rattle.loader.specs.declared.validate.Config.{Config}
use Rattle.loader.specs.Load.{Loading, load_of, load_of_lent, answer_of, Loaded}
use Rattle.loader.specs.Demand.{Demand3}
use Rattle.loader.specs.Loads.{OnUsed, Loads}
use Rattle.exports.specs.declared.answers.Answer.{Answer}
use Rattle.exports.specs.Answers.{Given, Gives, GivesLoad, load_answer}
use Rattle.loader.specs.Settings.{config_of}

module _ (file builtins im ro : List ℕ) (t : Slices) where
  abbrev whole : Config → Loading
  whole c = load_of file builtins c (length im) (length ro) (capacity t)

  module _ (c d : Config) (e : c ≡ d) (im' ro' : List ℕ) (t' : Slices) (a : Result Accepted ElfError) (did : Loaded (whole c) im ro t im' ro' t' a) where
    pub loaded_by : Loaded (whole d) im ro t im' ro' t' (answer_of (whole d))
    loaded_by = subst (λ (k : Config). Loaded (whole k) im ro t im' ro' t' (answer_of (whole k))) e (record { answers = refl; demand_1 = did.demand_1 })

    pub keyed_by : Demand3 file builtins c (length im) (length ro) t im' t' a → Demand3 file builtins d (length im) (length ro) t im' t' (answer_of (whole d))
    keyed_by k = subst (λ (z : Config). Demand3 file builtins z (length im) (length ro) t im' t' (answer_of (whole z))) e (subst (λ (b : Result Accepted ElfError). Demand3 file builtins c (length im) (length ro) t im' t' b) did.answers k)

    pub used_by : (P : ℕ → Type 0) → OnUsed a P → OnUsed (answer_of (whole d)) P
    used_by P h = subst (λ (k : Config). OnUsed (answer_of (whole k)) P) e (subst (λ (b : Result Accepted ElfError). OnUsed b P) did.answers h)

    pub given_by : (b : Answer) (before after : List ℕ) (r : ℕ) → b ≡ load_answer a → Given b before after r → Given (load_answer (answer_of (whole d))) before after r
    given_by b before after r is g = subst (λ (y : Answer). Given y before after r) (is ∙ ap load_answer did.answers ∙ ap (λ (k : Config). load_answer (answer_of (whole k))) e) g

-- columns as they stand one by one
pub one_by_one : (r : Slices) (k i d s l : List ℕ) → r.keys ≡ k → r.indices ≡ i → r.kinds ≡ d → r.starts ≡ s → r.lengths ≡ l → r ≡ slices k i d s l
one_by_one r k i d s l ek ei ed es el = λ x. record { keys = ek x; indices = ei x; kinds = ed x; starts = es x; lengths = el x }

-- what a load promises, under the settings that are the same and with the columns that it left
module _ (file builtins : Shared) (image ro : Lent) (t u : Slices) (c d : Config) (e : c ≡ d) (a : Result Accepted ElfError) (did : Loads file builtins.entry.now c image ro t u a) where
  abbrev loaded : Loaded (load_of_lent file builtins.entry.now c image ro t) image.entry.now ro.entry.now t image.exit.now ro.exit.now u a
  loaded = did.loaded

  pub loads_given : Loads file builtins.entry.now d image ro t u (answer_of (load_of_lent file builtins.entry.now d image ro t))
  loads_given = record {
    loaded = loaded_by file.entry.now builtins.entry.now image.entry.now ro.entry.now t c d e image.exit.now ro.exit.now u a loaded;
    keyed = keyed_by file.entry.now builtins.entry.now image.entry.now ro.entry.now t c d e image.exit.now ro.exit.now u a loaded did.keyed;
    ascending = used_by file.entry.now builtins.entry.now image.entry.now ro.entry.now t c d e image.exit.now ro.exit.now u a loaded _ did.ascending;
  }

-- a load's answer given, with the columns that it left
pub given : (file builtins : Shared) (settings : ℕ) (image ro keys indices kinds starts lengths answer : Lent) (r : ℕ) (c : Config) → c ≡ config_of settings
    → (t : Slices) (a : Result Accepted ElfError) → Loads file builtins.entry.now c image ro (table_before keys indices kinds starts lengths) t a
    → t ≡ table_after keys indices kinds starts lengths
    → (b : Answer)
    → b ≡ load_answer a
    → Gives b answer r
    → GivesLoad file builtins settings image ro keys indices kinds starts lengths answer r
given file builtins settings image ro keys indices kinds starts lengths answer r c e t a did left b is g =
    let before = table_before keys indices kinds starts lengths in
    let after = table_after keys indices kinds starts lengths in
    let d = config_of settings in
    let here : Loads file builtins.entry.now c image ro before after a = subst (λ (u : Slices). Loads file builtins.entry.now c image ro before u a) left did in
    record {
      loads = loads_given file builtins image ro before after c d e a here;
      gives = given_by file.entry.now builtins.entry.now image.entry.now ro.entry.now before c d e image.exit.now ro.exit.now after a here.loaded b answer.entry.now answer.exit.now r is g;
    }
