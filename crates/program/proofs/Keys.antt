-- The key of the entry's name: a law for other crates. Assumes nothing.
use mathlib.Core.Path.{◌≡◌, refl}
use Rattle.ebpf.specs.Murmur3.{murmur3, body}
use Rattle.program.specs.HashedLegacy.{entrypoint}

pub entrypoint_key : murmur3 entrypoint ≡ 0x71e3cf81
unfolding murmur3 body
entrypoint_key = refl
