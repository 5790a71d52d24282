-- `program::search::pass_eights` meets its contract: by the first eight with the key.
-- Assumes nothing.
use Rattle.std.proofs.Common.{rules, tests}
use mathlib.Core.Path.{◌≡◌}
use lib.Dec.{eqb}
use Rattle.std.specs.Prelude.{position}
use Rattle.std.specs.List.{list_any}
use Rattle.std.proofs.lemmas.Iterator.{YieldsList-from_slice}
use Rattle.std.proofs.lemmas.Iterator.Search.{position_from_yields_List}
use Rattle.program.proofs.Searches.{eights_found}
use Rattle.program.proofs.search.pass_eights.Goals as goal

pub returns : goal.returns
returns c =
    let e : c.position-passed.result ≡ position (λ x. list_any (λ y. eqb y c.args.key) x) c.as_chunks.result.0.now = position_from_yields_List (λ x. list_any (λ y. eqb y c.args.key) x) _ _ _ c.position-passed.ensures.ran (YieldsList-from_slice c.as_chunks.result.0.now cc) (λ x b q k. search (rules, tests)) in
    eights_found c.args.key _ c.args.keys.now c.as_chunks.result.0.now c.as_chunks.ensures.front (rw e at c.unwrap_or.ensures)
