-- An address of the text has a small index. Assumes nothing.
use Prim.Native.Nat.{ℕ, ◌-◌, ◌≤◌, ◌<◌}
use native.Mathlib.Omega.{arith}
use mathlib.Core.Path.{◌≡◌, refl}
use mathlib.Core.Bool.{Bool, true, false, ◌&&◌, not, true≢false}
use lib.Dec.{leb, ltb}
use borrow.Author.Tests.{leb-true, ltb-true}
use Rattle.loader.specs.Addresses.{sum_up_to}

-- an address of the text
pub in_text_lem : (sh-addr sh-size a : ℕ) (b : Bool)
    → not b ≡ false
    → b ≡ (leb sh-addr a && ltb a (sum_up_to sh-addr sh-size))
    → (sh-addr ≤ a) × (a - sh-addr < sh-size)
in_text_lem sh-addr sh-size a true h e = go (leb sh-addr a) (ltb a (sum_up_to sh-addr sh-size)) refl refl e
  where
    go : (p q : Bool) → leb sh-addr a ≡ p → ltb a (sum_up_to sh-addr sh-size) ≡ q → true ≡ (p && q) → (sh-addr ≤ a) × (a - sh-addr < sh-size)
    go true true x y z =
        let u : sh-addr ≤ a = leb-true sh-addr a x in
        let w : a < sum_up_to sh-addr sh-size = ltb-true a (sum_up_to sh-addr sh-size) y in
        (u, omega arith)
    go true false x y z = absurd (true≢false z)
    go false q x y z = absurd (true≢false z)
in_text_lem sh-addr sh-size a false h e = absurd (true≢false h)
