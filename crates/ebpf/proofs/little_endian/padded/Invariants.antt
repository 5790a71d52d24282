-- The bytes so far.
use Rattle.std.specs.Prelude.{◌≡◌, length, take}
use Rattle.ebpf.specs.LittleEndian.{bytes_at}
use Rattle.ebpf.proofs.little_endian.padded.Given as goal

abbrev pub invariant-loop-i : goal.invariant-loop-i
invariant-loop-i g l = (length l.bytes ≡ g.row.N) × (take l.i l.bytes ≡ bytes_at l.i l.s 0)
