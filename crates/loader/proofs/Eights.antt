-- The search for the next call, eight slots at a time. Assumes nothing.
use mathlib.Core.Path.{◌≡◌}
use mathlib.Core.List.{List}
use Prim.Native.Nat.{ℕ, ◌+◌, ◌-◌, ◌≤◌, ◌<◌}
use native.Mathlib.Omega.{arith}
use Rattle.loader.specs.Calls.{next_call, next_first, next_behind}
use Rattle.loader.proofs.Slots.{next_bounds}

-- what the search finds from number `at` on, up to `to`, by what it finds among eight slots
module _ (text : List ℕ) (to at : ℕ) (fit : at + 8 ≤ to) where
  split : 8 + (to - (at + 8)) ≡ to - at
  split = omega (arith, fit)

  pub eight_here : next_call text 8 at < at + 8 → next_call text (to - at) at ≡ next_call text 8 at
  eight_here l = rw (← split) (next_first text 8 (to - (at + 8)) at l)

  pub eight_none : (next : ℕ) → at + 8 ≤ next_call text 8 at → next ≡ at + 8 → next_call text (to - at) at ≡ next_call text (to - next) next
  eight_none next l q = rw (q, ← split) (next_behind text 8 (to - (at + 8)) at (omega (arith, l, (next_bounds text 8 at).1)))
