-- `listing::list_file` meets its contract: too long, or a load, over zeros.
-- Assumes nothing.
use borrow.Author.Rules.{rules}
use native.Mathlib.Omega.{arith}
use Rattle.listing.proofs.Listed.{lines_long, lines_load, lines_listed}
use Rattle.listing.proofs.list_file.Goals as goal

pub returns-then-file-gt-LONGEST : goal.returns-then-file-gt-LONGEST
returns-then-file-gt-LONGEST c =
    lines_listed 9 _ _ _ _ _ _ _ (lines_long _ c.if-file-gt-LONGEST.true) (omega arith) c.clear.ensures.out (rw c.clear.ensures.at at c.put_bytes.ensures.1) (search rules)

pub returns : goal.returns
returns c =
    lines_listed 16221 _ _ _ _ _ _ _ (lines_load _ c.if-file-gt-LONGEST.false) (omega arith) c.clear.ensures.out (rw c.clear.ensures.at at c.list_load.ensures.1) (search rules)
