-- `writers::fill_by` meets its contract: by the text, if there is one, and how many numbers are lent.
-- Assumes nothing.
use mathlib.Core.Path.{◌≡◌, sym, ◌∙◌}
use lib.ListN.{length}
use Rattle.elf_parser.specs.declared.layout.Layout.{Layout}
use Rattle.std.specs.Prelude.{Ok}
use Rattle.writers.specs.Asked.{text_of}
use Rattle.writers.proofs.Marking.{joined_long, joined_at}
use Rattle.writers.proofs.Telling.{whole_filled, whole_tells}
use Rattle.writers.proofs.fill_by.Goals as goal

pub returns : goal.returns
returns c =
    let l : Layout = c.in_ok-layout.layout in
    let e : text_of c.args.file.now c.args.loaded ≡ Ok l = sym c.layout_of.ensures ∙ c.in_ok-layout.was in
    record {
      answers = rw e (whole_filled c.args.file.now c.args.loaded (length c.args.numbers.now) l c.if-numbers-file.false);
      length_as = joined_long _ _ _ _ c.if-numbers-file.false c.requires c.mark_all.ensures;
      tells = λ b. rw e (joined_at _ _ _ _ c.if-numbers-file.false c.requires c.mark_all.ensures b ∙ whole_tells c.args.file.now c.args.loaded (length c.args.numbers.now) l c.if-numbers-file.false b);
    }
