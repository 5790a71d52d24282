-- `exports::names::fill_bytes` meets its contract: a turn writes one byte more. Assumes nothing.
use Rattle.std.proofs.Common.{arith, ap, ◌∙◌, ◌≡◌, length, length-set}
use Rattle.std.specs.Option.{unwrap_or}
use Rattle.exports.proofs.Writing.{so_far_next, so_far_end}
use Rattle.exports.proofs.names.fill_bytes.Goals as goal

pub loop-i-preserved : goal.loop-i-preserved
loop-i-preserved c =
    let byte = c.unwrap_or.ensures ∙ ap (λ o. unwrap_or o 0) c.copied.ensures ∙ c.get.ensures.lookup.4 (omega arith) 0 in
    (length-set _ _ _ ∙ c.loop-i.invariant.0, rw (c.loop-i.invariant.1, byte) (so_far_next _ _ _ (omega arith)))

pub returns : goal.returns
returns c =
    let last : c.loop-i.i ≡ length c.args.to.now = omega (arith, c.loop-i.invariant.0) in
    rw (c.loop-i.invariant.1, last) (so_far_end _ c.args.to.now)
