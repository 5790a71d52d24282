-- `loader::calls::call_step` meets its contract: by what the slot calls, and whether its target is remembered.
-- Assumes nothing.
use mathlib.Core.Path.{◌≡◌, sym, subst, ◌∙◌, ap}
use mathlib.Core.List.{List}
use Prim.Native.Nat.{ℕ, ◌^◌, ◌<◌}
use borrow.Author.Tests.{eqb-true}
use Rattle.program.specs.Table.{columns_of, rows_of}
use Rattle.std.specs.Prelude.{Option, Some, None, Result, Ok}
use Rattle.std.proofs.lemmas.Result.{err_from_is_err_and}
use Rattle.loader.specs.declared.error.ElfError.{ElfError}
use Rattle.loader.specs.Calls.{call_at, text_of, slot_trace}
use Rattle.loader.specs.CallLoop.{target_key}
use Rattle.loader.specs.InnerContracts.{Settles, held_of}
use Rattle.loader.proofs.Rowing.{same_key}
use Rattle.loader.proofs.Targets.{to_small}
use Rattle.loader.proofs.Targeting.{settles_none, settles_outside, settles_target, targets_known, known_hit, held_after}
use Rattle.loader.proofs.calls.call_step.Goals.{After-call_at}
use Rattle.loader.proofs.calls.call_step.Goals as goal

-- what the slot calls, as the definition says it
called : (r : After-call_at) (x : Result (Option ℕ) ElfError) → r.call_at.result ≡ x → call_at (text_of r.args.inputs.now.file.now r.args.inputs.now.job) r.args.inputs.now.job.version2 r.args.i ≡ x
called r x e = sym (rw r.text.ensures at r.call_at.ensures) ∙ e

small : (r : After-call_at) (to : ℕ) → r.call_at.result ≡ Ok (Some to) → to < 2 ^ 24
small r to e = to_small r.args.inputs.now.file.now r.args.inputs.now.job r.args.i to r.args.inputs.now.in_file.short (r.requires.1, called r (Ok (Some to)) e)

pub is_seen-requires : goal.is_seen-requires
is_seen-requires c = small (goal.at.is_seen-requires c).After-call_at _ (c.in_ok-index.was ∙ ap Ok c.in-Some.is)

pub see-requires : goal.see-requires
see-requires c = small (goal.at.see-requires c).After-call_at _ (c.in_ok-index.was ∙ ap Ok c.in-Some.is)

pub returns-then-is_seen-clause-settles : goal.returns-then-is_seen-clause-settles
returns-then-is_seen-clause-settles c =
    let i = c.args.inputs.now in
    let o = c.args.out.now in
    let r = (goal.at.returns-then-is_seen-clause-settles c).After-call_at in
    let keyed : c.legacy_key-key.result ≡ target_key i.job c.in-Some.index = (rw c.hashed_legacy.ensures at c.legacy_key-key.ensures) ∙ same_key _ _ _ _ c.args.inputs.now.keyed in
    let hit = known_hit i.builtins.now i.job (rows_of (columns_of o.registry.now) o.registry.now.used) c.args.seen.now c.in-Some.index c.requires.2.known (eqb-true _ _ (rw c.is_seen.ensures at c.if-is_seen.true)) in
    settles_target i.file.now i.builtins.now i.job c.args.i o.image.now c.legacy_key-key.result c.in-Some.index (called r _ (c.in_ok-index.was ∙ ap Ok c.in-Some.is)) keyed c.store_u32.new.image (columns_of o.registry.now) (columns_of o.registry.now) o.registry.now.used o.moves _ c.store_u32.ensures
    (targets_known i.builtins.now i.job c.in-Some.index (columns_of o.registry.now) o.registry.now.used o.moves c.requires.0.1.ready hit)

pub register_target-requires : goal.register_target-requires
register_target-requires c =
    let keyed : c.legacy_key-key.result ≡ target_key c.args.inputs.now.job c.in-Some.index = (rw c.hashed_legacy.ensures at c.legacy_key-key.ensures) ∙ same_key _ _ _ _ c.args.inputs.now.keyed in
    (keyed, c.requires.0.1, c.requires.2.alike)

pub returns-in_default-clause-settles : goal.returns-in_default-clause-settles
returns-in_default-clause-settles c =
    let i = c.args.inputs.now in
    let o = c.args.out.now in
    settles_none i.file.now i.builtins.now i.job c.args.i o.image.now (columns_of o.registry.now) o.registry.now.used o.moves (called (goal.at.returns-in_default-clause-settles c).After-call_at (Ok None) (c.in_ok-index.was ∙ ap Ok c.in_default.is)) c.requires.0.1.ready

pub returns-in_err-index-clause-settles : goal.returns-in_err-index-clause-settles
returns-in_err-index-clause-settles c =
    let i = c.args.inputs.now in
    let o = c.args.out.now in
    let p = err_from_is_err_and c.from_residual.result c.from_residual.ensures.1 in
    rw (p.1, p.2) (settles_outside i.file.now i.builtins.now i.job c.args.i o.image.now (columns_of o.registry.now) o.registry.now.used o.moves _ (called (goal.at.returns-in_err-index-clause-settles c).After-call_at _ c.in_err-index.was))

pub returns-clause-settles : goal.returns-clause-settles
returns-clause-settles c =
    let i = c.args.inputs.now in
    let o = c.args.out.now in
    let o' = c.register_target.new.out in
    let r = (goal.at.returns-clause-settles c).After-call_at in
    let keyed : c.legacy_key-key.result ≡ target_key i.job c.in-Some.index = (rw c.hashed_legacy.ensures at c.legacy_key-key.ensures) ∙ same_key _ _ _ _ c.args.inputs.now.keyed in
    subst (λ (im : List ℕ). Settles (slot_trace i.file.now i.builtins.now i.job c.args.i o.image.now) im (columns_of o.registry.now) (columns_of o'.registry.now) 1 o.registry.now.used o.moves (held_of c.register_target.result o')) (sym c.register_target.ensures.image)
    (settles_target i.file.now i.builtins.now i.job c.args.i o.image.now c.legacy_key-key.result c.in-Some.index (called r _ (c.in_ok-index.was ∙ ap Ok c.in-Some.is)) keyed c.store_u32.new.image (columns_of o.registry.now) (columns_of o'.registry.now) o.registry.now.used o.moves _ c.store_u32.ensures c.register_target.ensures.targets)

pub returns-clause-held : goal.returns-clause-held
returns-clause-held c =
    let i = c.args.inputs.now in
    let o = c.args.out.now in
    let o' = c.register_target.new.out in
    rw c.see.ensures (held_after i.builtins.now i.job c.in-Some.index c.args.seen.now (columns_of o.registry.now) (columns_of o'.registry.now) o.registry.now.used o.moves c.requires.2 c.told-seen (held_of c.register_target.result o') c.register_target.ensures.targets c.register_target.ensures.alike)
