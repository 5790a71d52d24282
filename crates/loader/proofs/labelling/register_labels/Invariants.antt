-- `loader::labelling::register_labels` meets its contract. The loop's invariant: the symbols that are left, with the rows and moves
-- held now, settle to what all settle to.
-- Assumes nothing.
use Rattle.loader.specs.Labels.{label_symbols, label_trace}
use Rattle.loader.specs.InnerContracts.{Keeps}
use Rattle.loader.proofs.Going.{GoingOver}
use Rattle.loader.proofs.labelling.register_labels.Given as goal

abbrev pub invariant-loop-i : goal.invariant-loop-i
invariant-loop-i l =
    Keeps l.initial.out l.out
    × GoingOver (label_trace l.inputs.file.now l.inputs.builtins.now l.inputs.job) (label_symbols l.inputs.file.now l.inputs.job).count l.initial.out l.out l.i
