-- `ebpf::little_endian::padded` meets its contract. Assumes nothing.
use Rattle.std.proofs.Common.{arith, ap, ◌∙◌, length-set}
use Rattle.std.proofs.lemmas.List.{length-replicate}
use Rattle.std.specs.Option.{unwrap_or}
use Rattle.ebpf.proofs.Reading.{none_yet, one_more}
use Rattle.ebpf.proofs.little_endian.padded.Goals as goal

pub loop-i-init : goal.loop-i-init
loop-i-init g c = (length-replicate _ _, none_yet _ _)

pub loop-i-preserved : goal.loop-i-preserved
loop-i-preserved g c =
    let long = c.loop-i.invariant.0 in
    let byte = c.unwrap_or.ensures ∙ ap (λ o. unwrap_or o 0) c.copied.ensures ∙ c.get.ensures.lookup.4 (omega arith) 0 in
    (length-set _ _ _ ∙ long, one_more _ _ _ _ (omega arith) c.loop-i.invariant.1 byte)
