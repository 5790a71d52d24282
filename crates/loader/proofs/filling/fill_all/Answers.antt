-- `loader::filling::fill_all` meets its contract: the image and the table, then the read-only bytes, and the answer.
-- Assumes nothing.
use Rattle.std.proofs.Common.{rules}
use Rattle.loader.proofs.Loading.{begins_all}
use Rattle.loader.proofs.filling.fill_all.Goals as goal

pub keyed_parts-requires : goal.keyed_parts-requires
keyed_parts-requires c = search (rules, begins_all)
