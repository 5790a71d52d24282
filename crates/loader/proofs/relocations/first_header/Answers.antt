-- `loader::relocations::first_header` meets its contract: the first header found is the first of those that are there.
-- Assumes nothing.
use Prim.Native.Nat.{ℕ, zero, suc, ◌+◌}
use mathlib.Core.Path.{◌≡◌, refl, sym, ◌∙◌}
use Rattle.std.proofs.Common.{rules, tests, arith}
use Rattle.std.specs.Prelude.{List, Option, Some, None}
use Rattle.std.specs.List.{find, filter_map, cons_option, range_with_len}
use Rattle.std.proofs.lemmas.Iterator.{YieldsList-from_range}
use Rattle.std.proofs.lemmas.Iterator.Consumers.{YieldsList-from_filter_map}
use Rattle.std.proofs.lemmas.Iterator.Search.{find_from_yields_List}
use Rattle.std.proofs.lemmas.Iterator.Adapters.{option_map_id}
use Rattle.elf_parser.specs.declared.layout.Layout.{Layout}
use Rattle.loader.specs.declared.relocations.UsedHeader.{UsedHeader}
use Rattle.loader.specs.Relocations.{header_at, contains, first_from, first_here, first_later, first_none}
use Rattle.loader.proofs.relocations.first_header.Goals as goal

-- the first of the headers that are there is the first that the search comes to
module _ (s : List ℕ) (l : Layout) (a : ℕ) where
  found_by : (o : Option UsedHeader) (n i : ℕ) (hs : List UsedHeader) → header_at s l i ≡ o → find (λ h. contains (Some h) a) hs ≡ first_from s l a n (i + 1)
      → find (λ h. contains (Some h) a) (cons_option o hs) ≡ first_from s l a (suc n) i
  found_by None n i hs e k = k ∙ sym (first_later s l a i (suc n) n refl (rw e refl))
  found_by (Some h) n i hs e k = grind (arith, first_here, first_later, tests)

  found : (n i : ℕ) → find (λ h. contains (Some h) a) (filter_map (header_at s l) (range_with_len i n)) ≡ first_from s l a n i
  found zero i = sym (first_none s l a i zero (omega arith))
  found (suc n) i = found_by (header_at s l i) n i (filter_map (header_at s l) (range_with_len (i + 1) n)) refl (found n (i + 1))

pub returns : goal.returns
returns c =
    let s = c.args.elf.now.file.now in
    let l = c.args.elf.now.layout in
    sym (option_map_id c.find.result)
    ∙ find_from_yields_List (λ h. contains (Some h) c.args.a) _ _ _ c.find.ensures.ran (YieldsList-from_filter_map _ (header_at s l) (YieldsList-from_range 0 c.args.count c.args.count c.filter_map.ensures.source (omega arith)) c.filter_map.ensures.closure (λ x r q k. search rules)) (λ x b q k. search (rules, tests))
    ∙ found s l c.args.a c.args.count 0
