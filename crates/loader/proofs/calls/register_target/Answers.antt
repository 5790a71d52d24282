-- `loader::calls::register_target` meets its contract: the key is a built-in's, or the row goes to the table.
-- Assumes nothing.
use mathlib.Core.Path.{◌≡◌, sym, ◌∙◌}
use Rattle.std.proofs.lemmas.Result.{err_from_is_err_and}
use Rattle.program.specs.declared.FunctionName.TheVariants.{OfIndex}
use Rattle.program.specs.HashedLegacy.{row_under}
use Rattle.program.specs.Table.{columns_of}
use Rattle.loader.specs.InnerContracts.{held_of}
use Rattle.loader.proofs.Targeting.{target_alike, still_target, targets_taken, targets_free}
use Rattle.loader.proofs.calls.register_target.Goals.{After-row_under}
use Rattle.loader.proofs.calls.register_target.Goals as goal

-- the row, as the definition says it
under : (p : After-row_under) → row_under p.args.inputs.now.builtins.now p.args.inputs.now.job.version2 p.args.inputs.now.job.check_collision p.args.inputs.now.job.labels p.args.key OfIndex p.args.index ≡ p.row_under.result
under p = sym (rw p.hashed_legacy-legacy.ensures at p.row_under.ensures)

pub enter_alike-requires : goal.enter_alike-requires
enter_alike-requires c =
    (c.requires.1, target_alike c.args.inputs.now.builtins.now c.args.inputs.now.job c.args.key c.args.index _ (under (goal.at.enter_alike-requires c).After-row_under ∙ c.in_ok-row.was) (columns_of c.args.out.now.registry.now) c.args.out.now.registry.now.used c.requires.2)

pub returns-clause-targets : goal.returns-clause-targets
returns-clause-targets c =
    targets_free c.args.inputs.now.builtins.now c.args.inputs.now.job c.args.key c.args.index c.requires.0 _ (columns_of c.args.out.now.registry.now) (columns_of c.enter_alike.new.self.registry.now) c.args.out.now.registry.now.used c.args.out.now.moves (held_of c.enter_alike.result c.enter_alike.new.self) (under (goal.at.returns-clause-targets c).After-row_under ∙ c.in_ok-row.was) c.enter_alike.ensures.enters

pub returns-clause-alike : goal.returns-clause-alike
returns-clause-alike c =
    still_target c.args.inputs.now.builtins.now c.args.inputs.now.job c.args.key c.args.index _ (under (goal.at.returns-clause-alike c).After-row_under ∙ c.in_ok-row.was) (columns_of c.enter_alike.new.self.registry.now) (held_of c.enter_alike.result c.enter_alike.new.self) c.enter_alike.ensures.alike

pub returns-in_err-row-clause-targets : goal.returns-in_err-row-clause-targets
returns-in_err-row-clause-targets c =
    let p = err_from_is_err_and c.from_residual.result c.from_residual.ensures.1 in
    rw (p.1, p.2) (targets_taken c.args.inputs.now.builtins.now c.args.inputs.now.job c.args.key c.args.index c.requires.0 _ (columns_of c.args.out.now.registry.now) c.args.out.now.registry.now.used c.args.out.now.moves (under (goal.at.returns-in_err-row-clause-targets c).After-row_under ∙ c.in_err-row.was))
