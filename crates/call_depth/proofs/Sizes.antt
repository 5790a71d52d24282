-- The profile of lent slices.
-- Assumes nothing.
use Prim.Native.Nat.{ℕ}
use mathlib.Core.Bool.{Bool}
use mathlib.Core.List.{List}
use Rattle.call_graph.specs.Words.{Sized}
use Rattle.call_graph.proofs.Ends.{next_within}
use Rattle.call_depth.specs.Called.{profile_in, slots_in, WorkLent}

pub sized_of : (text keys indices w : List ℕ) (version2 : Bool) → WorkLent text indices w → Sized (profile_in text keys indices version2) (slots_in text)
sized_of text keys indices w version2 z = record { few = z.slots; rows_few = z.rows; within = λ i. next_within i (slots_in text) indices }
