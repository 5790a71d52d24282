-- `loader::relocating::apply_relocations` meets its contract. The loop's invariant: the relocations that are left, with the rows and
-- moves held now, settle to what all settle to; and the header is the one used last.
-- Assumes nothing.
use mathlib.Core.Path.{refl, sym, ◌∙◌}
use Rattle.loader.proofs.Turns.{header_next, relocation_settles, relocation_refused, relocation_fits}
use Rattle.loader.proofs.Going.{keeps_on, over_begins, over_stop, over_on, over_done}
use Rattle.loader.proofs.relocating.apply_relocations.Goals as goal

pub returns-in_err-deed-clause-settles : goal.returns-in_err-deed-clause-settles
returns-in_err-deed-clause-settles c =
    over_stop _ _ c.args.out.now c.loop-i.out _ c.requires.1 c.loop-i.invariant.1 c.loop-i-test.true c.loop-i.out _ _ _ refl
    (relocation_refused c.args.inputs.now _ _ _ _ c.loop-i.invariant.2 _ c.elf-elf.ensures c.relocation_at-r.ensures c.used_header-header.ensures c.loop-i.out _ c.image.ensures _ (sym c.in_err-deed.was ∙ c.plan_relocation.ensures))
    c.from_residual.ensures.1

pub perform-requires : goal.perform-requires
perform-requires c = (relocation_fits _ _ _ _ _ _ _ c.image.ensures (sym c.in_ok-deed.was ∙ c.plan_relocation.ensures), over_begins _ _ c.args.out.now c.loop-i.out _ c.requires.1 c.loop-i.invariant.1 c.loop-i-test.true)

pub returns-in_err-perform-clause-settles : goal.returns-in_err-perform-clause-settles
returns-in_err-perform-clause-settles c =
    over_stop _ _ c.args.out.now c.loop-i.out _ c.requires.1 c.loop-i.invariant.1 c.loop-i-test.true c.perform.new.self _ _ _ c.in_err-perform.was
    (relocation_settles c.args.inputs.now _ _ _ _ c.loop-i.invariant.2 _ c.elf-elf.ensures c.relocation_at-r.ensures c.used_header-header.ensures c.loop-i.out c.perform.new.self _ _ c.image.ensures (sym c.in_ok-deed.was ∙ c.plan_relocation.ensures) c.perform.ensures.settles)
    c.from_residual-in_err-perform.ensures.1

pub loop-i-preserved : goal.loop-i-preserved
loop-i-preserved c = (
  keeps_on _ _ _ c.loop-i.invariant.0 c.perform.ensures.keeps,
  over_on _ _ c.args.out.now c.loop-i.out _ c.requires.1 c.loop-i.invariant.1 c.loop-i-test.true c.perform.new.self c.perform.ensures.keeps _ c.in_ok-perform.was
      (relocation_settles c.args.inputs.now _ _ _ _ c.loop-i.invariant.2 _ c.elf-elf.ensures c.relocation_at-r.ensures c.used_header-header.ensures c.loop-i.out c.perform.new.self _ _ c.image.ensures (sym c.in_ok-deed.was ∙ c.plan_relocation.ensures) c.perform.ensures.settles),
  header_next c.args.inputs.now _ _ _ _ c.loop-i.invariant.2 _ c.elf-elf.ensures c.relocation_at-r.ensures c.used_header-header.ensures,
)

pub returns-clause-settles : goal.returns-clause-settles
returns-clause-settles c = over_done _ _ c.args.out.now c.loop-i.out _ c.requires.1 c.loop-i.invariant.1 c.loop-i-test.false
