-- `listing::storing::Lines::put_bytes` meets its contract. The loop's invariant: the bytes from i on are left to store, at the next place.
-- Assumes nothing.
use lib.ListN.{drop}
use Rattle.listing.specs.Lines.{SameSlice}
use Rattle.listing.proofs.Stores.{Storing}
use Rattle.listing.proofs.storing.Lines.put_bytes.Given as goal

abbrev pub invariant-loop-byte : goal.invariant-loop-byte
invariant-loop-byte l = SameSlice l.initial.self l.self × Storing l.bytes (drop l.byte-index l.bytes) l.initial.self.out.now l.self.out.now l.initial.self.at l.self.at
