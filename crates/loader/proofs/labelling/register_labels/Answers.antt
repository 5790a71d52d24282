-- `loader::labelling::register_labels` meets its contract. The loop's invariant: the symbols that are left, with the rows and moves
-- held now, settle to what all settle to.
-- Assumes nothing.
use mathlib.Core.Path.{refl, sym, ◌∙◌}
use Rattle.loader.proofs.Turns.{label_settles, label_refused, deed_fits}
use Rattle.loader.proofs.Going.{keeps_on, over_begins, over_stop, over_on, over_done}
use Rattle.loader.proofs.labelling.register_labels.Goals as goal

pub returns-in_err-deed-clause-settles : goal.returns-in_err-deed-clause-settles
returns-in_err-deed-clause-settles c =
    over_stop _ _ c.args.out.now c.loop-i.out _ c.requires.1 c.loop-i.invariant.1 (rw c.label_symbols-symbols.ensures at c.loop-i-test.true) c.loop-i.out _ _ _ refl
    (label_refused _ _ _ _ _ c.label_symbols-symbols.ensures c.loop-i.out _ (sym c.in_err-deed.was ∙ c.label_deed.ensures))
    c.from_residual.ensures.1

pub perform-requires : goal.perform-requires
perform-requires c = (
  deed_fits _ _ _ _ _ _ (sym c.in_ok-deed.was ∙ c.label_deed.ensures),
  over_begins _ _ c.args.out.now c.loop-i.out _ c.requires.1 c.loop-i.invariant.1 (rw c.label_symbols-symbols.ensures at c.loop-i-test.true),
)

pub returns-in_err-perform-clause-settles : goal.returns-in_err-perform-clause-settles
returns-in_err-perform-clause-settles c =
    over_stop _ _ c.args.out.now c.loop-i.out _ c.requires.1 c.loop-i.invariant.1 (rw c.label_symbols-symbols.ensures at c.loop-i-test.true) c.perform.new.self _ _ _ c.in_err-perform.was
    (label_settles _ _ _ _ _ c.label_symbols-symbols.ensures c.loop-i.out c.perform.new.self _ (sym c.in_ok-deed.was ∙ c.label_deed.ensures) c.perform.ensures.settles)
    c.from_residual-in_err-perform.ensures.1

pub loop-i-preserved : goal.loop-i-preserved
loop-i-preserved c = (
  keeps_on _ _ _ c.loop-i.invariant.0 c.perform.ensures.keeps,
  over_on _ _ c.args.out.now c.loop-i.out _ c.requires.1 c.loop-i.invariant.1 (rw c.label_symbols-symbols.ensures at c.loop-i-test.true) c.perform.new.self c.perform.ensures.keeps _ c.in_ok-perform.was
      (label_settles _ _ _ _ _ c.label_symbols-symbols.ensures c.loop-i.out c.perform.new.self _ (sym c.in_ok-deed.was ∙ c.label_deed.ensures) c.perform.ensures.settles),
)

pub returns-clause-settles : goal.returns-clause-settles
returns-clause-settles c = over_done _ _ c.args.out.now c.loop-i.out _ c.requires.1 c.loop-i.invariant.1 (rw c.label_symbols-symbols.ensures at c.loop-i-test.false)
