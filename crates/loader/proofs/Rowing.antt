-- A function's row does not depend on the lent table of keys, where that table is right. Assumes nothing.
use mathlib.Core.Path.{◌≡◌, refl, sym, ap, ◌∙◌}
use mathlib.Core.Bool.{Bool, true, false}
use mathlib.Core.List.{List, []}
use Prim.Native.Nat.{ℕ}
use Rattle.std.specs.Prelude.{Ok, Err}
use Rattle.ebpf.specs.Choice.{◌if◌else◌}
use Rattle.ebpf.specs.IndexKeys.{key_in, first_keys}
use Rattle.ebpf.proofs.Table.{key_in_lem, key_in_none}
use Rattle.program.specs.declared.FunctionName.{FunctionName}
use Rattle.program.specs.declared.FunctionName.TheVariants.{OfIndex}
use Rattle.program.specs.declared.Row.{Row}
use Rattle.program.proofs.Cases.{zero_one}
use Rattle.loader.specs.declared.validate.Job.{Job}
use Rattle.program.specs.HashedLegacy.{legacy_key, legacy_row, is_taken, kept_name, row_of, collision}
use Rattle.loader.specs.Functions.{Keyed, row_for}
use Rattle.loader.specs.Demand.{key_of}

pub none_keyed : Keyed []
none_keyed i = key_in_none i

pub same_key : (t : List ℕ) (version2 : Bool) (name : FunctionName) (index : ℕ) → Keyed t → legacy_key t version2 name index ≡ legacy_key [] version2 name index
unfolding legacy_key
same_key t version2 name index h = let e : key_in t index ≡ key_in [] index = h index ∙ sym (none_keyed index) in rw e refl

pub same_row : (t builtins : List ℕ) (version2 check labels : Bool) (name : FunctionName) (index : ℕ)
    → Keyed t
    → legacy_row t builtins version2 check labels name index ≡ legacy_row [] builtins version2 check labels name index
unfolding legacy_row
same_row t builtins version2 check labels name index h = rw (same_key t version2 name index h) refl

-- the table of the first keys is right
pub first_keyed : (t : List ℕ) (n : ℕ) → t ≡ first_keys n → Keyed t
first_keyed t n e i = key_in_lem t n i e

pub row_is : (builtins : List ℕ) (j : Job) (name : FunctionName) (index : ℕ) (row : Row) → row_for builtins j name index ≡ Ok row → (row.key ≡ legacy_key [] j.version2 name index) × (row.index ≡ index)
unfolding row_for legacy_row ◌if◌else◌
row_is builtins j name index row e = go (is_taken builtins j.version2 j.check_collision (legacy_key [] j.version2 name index)) e
  where
    go : (b : Bool) → (Err (collision (legacy_key [] j.version2 name index)) if b else Ok (row_of (legacy_key [] j.version2 name index) index (kept_name j.labels name))) ≡ Ok row
        → (row.key ≡ legacy_key [] j.version2 name index) × (row.index ≡ index)
    go true e = absurd (zero_one (cc))
    go false e =
        let s : row ≡ row_of (legacy_key [] j.version2 name index) index (kept_name j.labels name) = cc in
        (ap (λ (r : Row). r.key) s, ap (λ (r : Row). r.index) s)

-- a call's key is its target's
pub call_key : (version2 : Bool) (index : ℕ) → legacy_key [] version2 OfIndex index ≡ key_of version2 index
unfolding legacy_key key_of ◌if◌else◌
call_key version2 index = rw (key_in_none index) refl
