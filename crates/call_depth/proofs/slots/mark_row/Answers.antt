use Rattle.call_graph.proofs.Marking.{row_marked}
use Rattle.call_depth.proofs.slots.mark_row.Goals as goal

pub returns : goal.returns
returns c = row_marked c.args.work.now c.args.r c.requires c.if-word-lt-FLAG.false c.if-word-ge-BOTH.false
