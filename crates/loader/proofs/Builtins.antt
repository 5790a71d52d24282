-- The built-ins of a load ascend, so that the binary search for a key is membership. Assumes nothing.
use Prim.Native.Nat.{ℕ, ◌+◌, ◌<◌}
use native.Mathlib.Omega.{arith}
use mathlib.Core.Bool.{Bool, true, false, ◌&&◌, not, true≢false}
use mathlib.Core.List.{List, [], ◌∷◌}
use mathlib.Core.Path.{◌≡◌, refl, sym as flip}
use lib.Dec.{ltb}
use borrow.Author.Tests.{leb-false}
use Rattle.std.specs.Prelude.{Ok, Err}
use Rattle.ebpf.specs.Choice.{◌if◌else◌, not_first, row_rest}
use Rattle.program.specs.Search.{is_among, member, Rising}
use Rattle.program.specs.HashedLegacy.{is_taken}
use Rattle.program.proofs.Searches.{among_member, over_below}
use Rattle.loader.specs.declared.error.ElfError.TheVariants.{UnresolvedSymbol, ValueOutOfBounds}
use Rattle.loader.specs.declared.deeds.Deed.TheVariants.{Key}
use Rattle.loader.specs.declared.validate.Config.{Config}
use Rattle.loader.specs.declared.validate.Job.{Job}
use Rattle.loader.specs.Relocations.{builtin_call}
use Rattle.loader.specs.Validate.{ascends, prepared}
use Rattle.loader.proofs.Readied.{readied}

-- what 42 lets through rises
pub ascends_rising : (xs : List ℕ) → ascends xs ≡ true → Rising xs
unfolding ascends
ascends_rising [] e = tt
ascends_rising (x ∷ []) e = (tt, tt)
ascends_rising (x ∷ y ∷ s) e =
    let up = ascends_rising (y ∷ s) (row_rest _ _ _ _ (λ q. true≢false (flip q)) e) in
    let below : x < y = leb-false y x (not_first _ _ _ _ (λ q. true≢false (flip q)) e) in
    ((below, over_below x y s (omega arith) up.0), up)

-- of a file that passed the checks
module _ (file builtins : List ℕ) (c : Config) (n m : ℕ) (j : Job) (ready : prepared file builtins c n m ≡ Ok j) where
  pub builtins_rise : Rising builtins
  builtins_rise = ascends_rising builtins (readied file builtins c n m j ready).3

  -- A KEY IS A BUILT-IN'S EXACTLY IF IT IS IN THE LIST
  pub builtin_member : (key : ℕ) → is_among key builtins ≡ member key builtins
  builtin_member key = among_member key builtins builtins_rise

  -- so 24 and 22 are about membership
  pub taken_member : (version2 check : Bool) (key : ℕ) → is_taken builtins version2 check key ≡ (false if version2 else member key builtins if check else false)
  unfolding is_taken
  taken_member version2 check key = rw (builtin_member key) refl

  pub unresolved_member : (reject-broken : Bool) (len at r start k hash : ℕ)
      → builtin_call builtins reject-broken len at r start k hash
      ≡ (Err (UnresolvedSymbol (record { start = start; length = k }) r) if reject-broken && not (member hash builtins) else
      Err ValueOutOfBounds if ltb len (at + 4) else
      Ok (Key at hash))
  unfolding builtin_call
  unresolved_member reject-broken len at r start k hash = rw (builtin_member hash) refl
