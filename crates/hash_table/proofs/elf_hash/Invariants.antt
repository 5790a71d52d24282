-- The loop's invariant: the bytes that are left give the hash of all.
use Rattle.std.specs.Prelude.{◌≡◌, drop}
use Rattle.hash_table.specs.Hash.{hash_from}
use Rattle.hash_table.proofs.elf_hash.Given as goal

abbrev pub invariant-loop-byte : goal.invariant-loop-byte
invariant-loop-byte l = hash_from 0 l.name ≡ hash_from l.h (drop l.byte-index l.name)
