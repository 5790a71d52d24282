-- The best so far is at most the end of all, and what is left gives from there what the whole gives.
use Rattle.std.proofs.Common.{◌≡◌, ◌≤◌, drop}
use Rattle.call_graph.specs.Profile.{next_above}
use Rattle.call_depth.proofs.settling.end_of.Given as goal

abbrev pub invariant-loop-index : goal.invariant-loop-index
invariant-loop-index l = (l.best ≤ l.fn.count) × (next_above l.i l.fn.count l.indices ≡ next_above l.i l.best (drop l.index-index l.indices))
