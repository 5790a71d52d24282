-- `loader::validate::is_ascending` meets its contract: each number is below the next.
-- Assumes nothing.
use Rattle.std.proofs.Common.{rules, ltb}
use Rattle.std.proofs.lemmas.Fn.{always_returns_same}
use Rattle.loader.proofs.Ascents.{sorted_below}
use Rattle.loader.proofs.validate.is_ascending.Goals as goal

pub returns : goal.returns
returns c = sorted_below _ _ (c.is_sorted_by.ensures.cases ltb (always_returns_same _ _ _ (λ a r f' k. search rules)))
