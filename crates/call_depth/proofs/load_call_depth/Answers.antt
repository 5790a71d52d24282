-- `call_depth::load_call_depth` meets its contract: what the load leaves, and the answer of the question by it.
-- Assumes nothing.
use mathlib.Core.Path.{◌≡◌, subst}
use lib.ListN.{length}
use Rattle.program.specs.Table.{Slices, columns_of, capacity}
use Rattle.program.proofs.Tables.{capacity_same}
use Rattle.call_depth.specs.Asked.{depth_asked}
use Rattle.call_depth.specs.Meaning.{MeansAsked}
use Rattle.call_depth.proofs.After.{Made}
use Rattle.call_depth.proofs.Meaning.{depth_means}
use Rattle.call_depth.proofs.load_call_depth.Goals as goal

pub returns-clause-measures : goal.returns-clause-measures
returns-clause-measures c =
    let lent = columns_of c.args.registry.now in
    let left = columns_of c.load-answer.new.registry in
    let loads = c.load-answer.ensures.loads in
    let done : Made c.args.file.now c.args.loader.functions.now c.args.loader.config (length c.args.image.now) (length c.args.ro_section.now) lent c.load-answer.new.image left c.load-answer.result = record { answers = loads.loaded.answers; image = loads.loaded.demand_1.image; keyed = loads.keyed; ascending = loads.ascending } in
    let by : Slices → Type 0 = λ (t : Slices). c.call_depth.result ≡ depth_asked (length c.args.work.now) (capacity t) c.load-answer.new.image t.keys t.indices c.load-answer.result c.args.limit in
    let measures : c.call_depth.result ≡ depth_asked (length c.args.work.now) (capacity lent) c.load-answer.new.image left.keys left.indices c.load-answer.result c.args.limit = rw (← capacity_same lent left c.load-answer.ensures.lens) (subst by c.as_table.ensures.columns c.call_depth.ensures.is) in
    let meant : MeansAsked c.load-answer.result c.load-answer.new.image left c.args.limit c.call_depth.result = rw (← c.as_table.ensures.columns) c.call_depth.ensures.means in
    record {
      loads = record { loaded = loads.loaded; keyed = loads.keyed; ascending = loads.ascending };
      measures = measures;
      means = depth_means c.args.file.now c.args.loader.functions.now c.args.loader.config (length c.args.image.now) (length c.args.ro_section.now) lent c.load-answer.new.image left c.load-answer.result done (length c.args.work.now) c.args.limit c.call_depth.result measures meant;
    }
