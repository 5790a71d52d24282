-- After a load the lookups answer the same, and demand 3 holds by either. Assumes nothing.
use Prim.Native.Nat.{ℕ}
use mathlib.Core.List.{List}
use mathlib.Core.Path.{◌≡◌, sym, ap, subst, fun_ext, ◌∙◌}
use Rattle.program.specs.declared.Row.{Row}
use Rattle.std.specs.Prelude.{Option, Result, Ok, Err}
use Rattle.program.specs.Table.{Slices, Lent, Shared, lookup_in, lookup_ascending_in, row_ascending_in, row_of_found, index_ascending_in, index_of_found, Ready as IsTable}
use Rattle.program.proofs.Tables.{lookups_agree, row_agrees, index_agrees}
use Rattle.loader.specs.declared.error.ElfError.{ElfError}
use Rattle.loader.specs.declared.answer.Accepted.{Accepted}
use Rattle.loader.specs.declared.validate.Config.{Config}
use Rattle.loader.specs.declared.validate.Job.{Job}
use Rattle.loader.specs.Demand.{Calls, Keys, Entry, Others, OnAccepted, Demand3By, Demand3}
use Rattle.loader.specs.Loads.{Loads, OnUsed}
use Rattle.loader.specs.Validate.{prepared}

-- THE LOOKUPS AGREE, for every key, on the table and the used rows that an accepted load leaves
pub agree_after : (file : Shared) (builtins : List ℕ) (c : Config) (image ro : Lent) (t t' : Slices) (x : Accepted)
    → Loads file builtins c image ro t t' (Ok x)
    → (key : ℕ)
    → lookup_ascending_in t' x.used key ≡ lookup_in t' x.used key
agree_after file builtins c image ro t t' x l key = lookups_agree t' x.used l.ascending key

-- and the number of the row alone, by the column of keys, is that of the same row
pub row_after : (file : Shared) (builtins : List ℕ) (c : Config) (image ro : Lent) (t t' : Slices) (x : Accepted)
    → Loads file builtins c image ro t t' (Ok x)
    → (key : ℕ)
    → lookup_in t' x.used key ≡ row_of_found t' (row_ascending_in t'.keys x.used key)
row_after file builtins c image ro t t' x l key =
    sym (agree_after file builtins c image ro t t' x l key)
    ∙ row_agrees t' x.used l.ascending key

-- and the index alone, by the columns of keys and indices, is that of the row
pub index_after : (file : Shared) (builtins : List ℕ) (c : Config) (image ro : Lent) (t t' : Slices) (x : Accepted)
    → Loads file builtins c image ro t t' (Ok x)
    → (key : ℕ)
    → index_ascending_in t'.keys t'.indices x.used key ≡ index_of_found (lookup_in t' x.used key)
index_after file builtins c image ro t t' x l key =
    index_agrees t' x.used l.ascending key
    ∙ ap index_of_found (agree_after file builtins c image ro t t' x l key)

-- so a statement by one lookup is a statement by the other
by_search : (t' : Slices) (P : Job → (ℕ → Option Row) → Type 0) (a : Result Accepted ElfError) (p : Result Job ElfError) → OnUsed a (IsTable t')
    → OnAccepted a p (λ j used. P j (lookup_in t' used))
    → OnAccepted a p (λ j used. P j (lookup_ascending_in t' used))
by_search t' P (Ok x) (Ok j) r h = subst (P j) (fun_ext (λ key. sym (lookups_agree t' x.used r key))) h
by_search t' P (Ok x) (Err e) r h = h
by_search t' P (Err e) p r h = tt

-- DEMAND 3 BY THE BINARY SEARCH
pub demanded_by_search : (file builtins : List ℕ) (c : Config) (n m : ℕ) (t : Slices) (im' : List ℕ) (t' : Slices) (a : Result Accepted ElfError)
    → OnUsed a (IsTable t')
    → Demand3 file builtins c n m t im' t' a
    → Demand3By lookup_ascending_in file builtins c n m t im' t' a
demanded_by_search file builtins c n m t im' t' a r d = record {
  calls = by_search t' (λ j look. Calls file j im' look) a (prepared file builtins c n m) r d.calls;
  keys = by_search t' (λ j look. Keys file builtins j look) a (prepared file builtins c n m) r d.keys;
  entry = by_search t' (λ j look. Entry j look) a (prepared file builtins c n m) r d.entry;
  others = by_search t' (λ j look. Others file builtins j look) a (prepared file builtins c n m) r d.others;
  bytes = d.bytes;
  injective = d.injective;
  collision = d.collision;
  full = d.full;
}
