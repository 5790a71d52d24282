-- Rows that wait for another, remembered. Assumes nothing.
use Prim.Native.Nat.{ℕ, ◌<◌}
use mathlib.Core.Path.{◌≡◌, ◌∙◌}
use mathlib.Core.List.{List, []}
use native.Mathlib.Omega.{arith}
use lib.ListN.{get_or, set, replicate, length-set, length-replicate}
use Rattle.call_graph.specs.Profile.{Profile}
use Rattle.call_graph.proofs.Settling.{at_set}
use Rattle.loader.proofs.Imaged.{zeros_behind}
use Rattle.call_depth.specs.Called.{Waiting}

pub waiting_none : (P : Profile) (e : ℕ) → e < P.rows → Waiting P (replicate 1024 0)
waiting_none P e h = record {
  long = length-replicate {A = ℕ} 1024 0;
  below = λ k. let z : get_or (replicate 1024 0) k 0 ≡ 0 = zeros_behind 1024 [] k in omega arith;
}

pub waiting_more : (P : Profile) (w : List ℕ) (at r : ℕ) → Waiting P w → at < 1024 → r < P.rows → Waiting P (set w at r)
waiting_more P w at r g l h = record {
  long = length-set w at r ∙ g.long;
  below = λ k. at_set (λ n. n < P.rows) w at r k (omega (arith, g.long)) (λ e. h) (λ e. g.below k);
}
