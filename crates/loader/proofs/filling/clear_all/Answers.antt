-- `loader::filling::clear_all` meets its contract: five slices of zeros are an empty table.
-- Assumes nothing.
use Rattle.std.proofs.Common.{rules}
use Rattle.program.proofs.Tables.{zeros_lay}
use Rattle.loader.proofs.filling.clear_all.Goals as goal

pub returns-clause-clears : goal.returns-clause-clears
returns-clause-clears c =
    record {
      image = search rules;
      readonly = search rules;
      table = zeros_lay _ _ c.clear_words.ensures c.clear_words-2.ensures c.clear_words-3.ensures c.clear_words-4.ensures c.clear_words-5.ensures;
    }
