use Prim.Native.Nat.{ℕ, ◌<◌, ◌-◌}
use mathlib.Core.Path.{subst, sym, ap, ◌∙◌}
use mathlib.Core.List.{List}
use native.Mathlib.Omega.{arith}
use borrow.Author.Rules.{rules}
use lib.ListN.{length, set}
use Rattle.call_graph.specs.Words.{settled_in}
use Rattle.call_graph.proofs.Least.{best_below, best_left, best_answer, best_gone, best_less}
use Rattle.call_depth.proofs.profile.Profile.smallest.Goals.{After-lowest-r}
use Rattle.call_depth.proofs.profile.Profile.smallest.Goals as goal

below : (p : After-lowest-r) → p.lowest-r.result < length p.args.self.indices.now
below p = best_below _ _ _ _ p.loop-entry.invariant _ p.lowest-r.ensures

pub marks_itself-seen-requires : goal.marks_itself-seen-requires
marks_itself-seen-requires c =
    (c.loop-entry.invariant.left.ready, below (goal.at.marks_itself-seen-requires c).After-lowest-r, best_left _ _ _ _ c.loop-entry.invariant _ c.lowest-r.ensures)

pub offset_bounds-self-r : goal.offset_bounds-self-r
offset_bounds-self-r c = let b = below (goal.at.offset_bounds-self-r c).After-lowest-r in search rules

pub bounds-self-r : goal.bounds-self-r
bounds-self-r c = below (goal.at.bounds-self-r c).After-lowest-r

pub returns-then-seen-ge-BOTH : goal.returns-then-seen-ge-BOTH
returns-then-seen-ge-BOTH c = best_answer _ _ _ _ c.loop-entry.invariant _ c.lowest-r.ensures (c.marks_itself-seen.ensures.itself c.if-seen-ge-BOTH.true)

pub offset_bounds-work-r : goal.offset_bounds-work-r
offset_bounds-work-r c =
    let b = below (goal.at.offset_bounds-work-r c).After-lowest-r in
    let e = ap length c.marks_itself-seen.ensures.same ∙ c.loop-entry.invariant.left.ready.shaped.long in
    search rules

pub bounds-work-r : goal.bounds-work-r
bounds-work-r c = omega (arith, below (goal.at.bounds-work-r c).After-lowest-r, ap length c.marks_itself-seen.ensures.same, c.loop-entry.invariant.left.ready.shaped.long)

pub loop-entry-smaller : goal.loop-entry-smaller
loop-entry-smaller c =
    subst (λ (u : List ℕ). length c.args.self.indices.now - settled_in (set u c.lowest-r.result 0) < length c.args.self.indices.now - settled_in c.loop-entry.work) (sym c.marks_itself-seen.ensures.same)
    (best_less _ _ _ _ c.loop-entry.invariant _ c.lowest-r.ensures)

pub loop-entry-preserved : goal.loop-entry-preserved
loop-entry-preserved c =
    let v = c.marks_itself-seen.ensures.other c.if-seen-ge-BOTH.false in
    rw c.marks_itself-seen.ensures.same (best_gone _ _ _ _ c.loop-entry.invariant _ c.lowest-r.ensures v.0 v.1 v.2)
