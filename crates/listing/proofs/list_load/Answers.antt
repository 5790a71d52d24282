-- `listing::list_load` meets its contract: what the load leaves gives the load's lines.
-- Assumes nothing.
use borrow.Author.Rules.{rules}
use mathlib.Core.Path.{◌∙◌}
use Rattle.listing.proofs.Listed.{listed_within, listed_stored}
use Rattle.listing.proofs.list_load.Goals as goal

pub put_load-requires : goal.put_load-requires
put_load-requires c =
    let w = listed_within _ _ _ _ _ c.load-answer.ensures.loads.loaded _ _ c.as_table.ensures.columns (c.as_table.ensures.used ∙ c.load-answer.ensures.used) c.load-answer.ensures.lens in
    (c.requires, w.0, w.1)

pub returns : goal.returns
returns c =
    (search rules, listed_stored _ _ _ _ _ c.load-answer.ensures.loads.loaded _ _ c.as_table.ensures.columns (c.as_table.ensures.used ∙ c.load-answer.ensures.used) _ _ _ _ c.put_load.ensures.1)
