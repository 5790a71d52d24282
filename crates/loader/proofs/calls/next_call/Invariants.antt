-- `loader::calls::next_call` meets its contract. The loop's invariant: the search from here finds what the whole search finds.
-- Assumes nothing.
use mathlib.Core.Path.{◌≡◌}
use Prim.Native.Nat.{◌+◌, ◌-◌, ◌*◌}
use Rattle.loader.specs.Calls.{next_call}
use Rattle.loader.proofs.calls.next_call.Given as goal

abbrev pub invariant-loop-eight : goal.invariant-loop-eight
invariant-loop-eight l =
    next_call l.text (l.to - (l.from + 8 * l.eight)) (l.from + 8 * l.eight) ≡ next_call l.text (l.to - l.from) l.from
