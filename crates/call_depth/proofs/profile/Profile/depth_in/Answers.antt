-- `call_depth::Profile::depth_in` meets its contract: by the first row with the entry's index.
-- Assumes nothing.
use Rattle.std.proofs.Common.{rules, tests}
use mathlib.Core.Path.{◌≡◌, refl, sym, ◌∙◌}
use lib.Dec.{eqb}
use borrow.Author.Tests.{le-leb, lt-leb}
use Rattle.std.specs.Prelude.{position}
use Rattle.std.proofs.lemmas.Iterator.{YieldsList-from_slice}
use Rattle.std.proofs.lemmas.Iterator.Search.{position_from_yields_List}
use Rattle.ebpf.specs.Choice.{◌if◌else◌}
use Rattle.call_depth.specs.Asked.{depth_in, limit_of}
use Rattle.call_depth.specs.Called.{profile_now}
use Rattle.call_depth.proofs.Meaning.{limited_means}
use Rattle.call_depth.proofs.Entries.{first_none, first_some}
use Rattle.call_depth.proofs.profile.Profile.depth_in.Goals.{After-position}
use Rattle.call_depth.proofs.profile.Profile.depth_in.Goals as goal

-- the first row with the index
found : (r : After-position) → r.position.result ≡ position (λ x. eqb x r.args.entry) r.args.self.indices.now
found r = position_from_yields_List (λ x. eqb x r.args.entry) _ _ _ r.position.ensures.ran (YieldsList-from_slice r.args.self.indices.now cc) (λ x b q k. search (rules, tests))

pub returns-in_default-clause-is : goal.returns-in_default-clause-is
unfolding depth_in ◌if◌else◌
returns-in_default-clause-is c =
    rw (le-leb _ _ (first_none c.args.entry c.args.self.indices.now (sym (found (goal.at.returns-in_default-clause-is c).After-position) ∙ c.in_default.is))) refl

pub returns-clause-is : goal.returns-clause-is
unfolding depth_in ◌if◌else◌
returns-clause-is c =
    let f = first_some c.args.entry c.args.self.indices.now c.in-Some.row (sym (found (goal.at.returns-clause-is c).After-position) ∙ c.in-Some.is) in
    rw (lt-leb _ _ f.2, ← c.limit_of.ensures, ← f.1, ← c.depth_from.ensures.is) c.limited.ensures

pub returns-clause-means : goal.returns-clause-means
returns-clause-means c =
    let P = profile_now c.args.self in
    let f = first_some c.args.entry c.args.self.indices.now c.in-Some.row (sym (found (goal.at.returns-clause-means c).After-position) ∙ c.in-Some.is) in
    rw (c.limited.ensures, c.limit_of.ensures) (limited_means P c.args.entry (limit_of c.args.limit) c.depth_from.result (rw f.1 at c.depth_from.ensures.means))
