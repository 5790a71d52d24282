-- What is left, met from the state `h`, gives what the whole gives from 0.
use Rattle.std.specs.Prelude.{◌≡◌, ◌*◌, drop}
use Rattle.ebpf.specs.Murmur3.{body}
use Rattle.ebpf.proofs.hash_symbol_name.Given as goal

abbrev pub invariant-loop-block : goal.invariant-loop-block
invariant-loop-block l = body l.h (drop (l.block-index * 4) l.name) ≡ body 0 l.name
