-- `loader::entry::forget_entrypoint` meets its contract: what the removal means for a table.
-- Assumes nothing.
use mathlib.Core.Path.{refl}
use Rattle.loader.proofs.Forgetting.{gone_fit, forgets_row, lens_row}
use Rattle.loader.proofs.entry.forget_entrypoint.Goals as goal

pub overflow_add-out : goal.overflow_add-out
overflow_add-out c = gone_fit c.args.out.now c.unregister_function-gone.new.self c.unregister_function-gone.result c.requires c.unregister_function-gone.ensures.unregisters _ c.unwrap_or.ensures

pub returns-clause-keeps : goal.returns-clause-keeps
returns-clause-keeps c =
    record { image_is = refl; image_as = refl; registry_is = refl; table_is = c.unregister_function-gone.ensures.same; table_as = lens_row c.args.out.now c.unregister_function-gone.new.self c.unregister_function-gone.result c.requires c.unregister_function-gone.ensures.unregisters }

pub returns-clause-forgets : goal.returns-clause-forgets
returns-clause-forgets c = forgets_row c.args.out.now c.unregister_function-gone.new.self c.unregister_function-gone.result c.requires c.unregister_function-gone.ensures.unregisters c.unregister_function-gone.ensures.used _ c.unwrap_or.ensures
