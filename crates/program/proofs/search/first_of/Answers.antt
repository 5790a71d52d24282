-- `program::search::first_of` meets its contract: by the first index behind the numbers that are passed over.
-- Assumes nothing.
use mathlib.Core.Path.{refl, sym, ◌∙◌}
use Rattle.program.proofs.Searches.{first_behind}
use Rattle.program.proofs.search.first_of.Goals as goal

pub returns-in_err-at : goal.returns-in_err-at
returns-in_err-at c =
    c.from_residual.ensures ∙ sym (first_behind c.args.key _ c.args.keys.now _ c.pass_eights-from.ensures c.position_of.ensures ∙ rw c.in_err-at.was refl)

pub returns : goal.returns
returns c = sym (first_behind c.args.key _ c.args.keys.now _ c.pass_eights-from.ensures c.position_of.ensures ∙ rw c.in_ok-at.was refl)
