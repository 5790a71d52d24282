-- `listing::list_input` meets its contract: what is read up to the limit has the lines of the whole file.
-- Assumes nothing.
use Rattle.std.proofs.Common.{rules}
use Rattle.listing.proofs.Inputs.{given}
use Rattle.listing.proofs.list_input.Goals as goal

pub returns : goal.returns
returns g c =
    given c.write_all.result _ _ _ _ _ _ _ _ _ (search rules) c.in_ok-n.ensures.within c.in_ok-n.ensures.read c.in_ok-n.ensures.end (search rules) c.list_file-length.ensures c.write_all.ensures.bytes
