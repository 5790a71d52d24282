-- `exports::wrote::accepted_wrote` meets its contract: the words of a writer.
-- Assumes nothing.
use Rattle.exports.proofs.wrote.accepted_wrote.Goals as goal

pub returns-in-Ok : goal.returns-in-Ok
returns-in-Ok c = rw c.in-Ok.is (rw (c.with_value.ensures, c.from-kind.ensures) at c.loaded_with.ensures)
