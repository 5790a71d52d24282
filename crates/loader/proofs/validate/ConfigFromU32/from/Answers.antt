-- `Config::from` of a number meets its contract: each setting by its bit. Assumes nothing.
use mathlib.Core.Path.{refl}
use Rattle.loader.proofs.Bits.{bit_set}
use Rattle.loader.proofs.validate.ConfigFromU32.from.Goals as goal

pub returns : goal.returns
returns c =
    let n = c.args.settings in
    rw (bit_set n 0, bit_set n 1, bit_set n 2, bit_set n 3, bit_set n 4, bit_set n 5) refl
