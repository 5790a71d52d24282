-- `loader::calls::call_among` meets its contract. The loop's invariant: the search from here finds what the whole search finds.
-- Assumes nothing.
use mathlib.Core.Path.{◌≡◌}
use Prim.Native.Nat.{◌+◌, ◌-◌}
use Rattle.loader.specs.Calls.{next_call}
use Rattle.loader.proofs.calls.call_among.Given as goal

abbrev pub invariant-loop-i : goal.invariant-loop-i
invariant-loop-i l =
    next_call l.text (l.slots - l.i) (l.from + l.i) ≡ next_call l.text l.slots l.from
