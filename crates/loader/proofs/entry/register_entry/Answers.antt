-- `loader::entry::register_entry` meets its contract: the removal in version 1, then the deed.
-- Assumes nothing.
use mathlib.Core.Path.{◌≡◌, refl, sym, subst, ◌∙◌}
use mathlib.Core.Bool.{Bool}
use mathlib.Core.List.{List}
use Prim.Native.Nat.{ℕ}
use Rattle.std.specs.Prelude.{Result, Ok}
use Rattle.std.proofs.lemmas.Result.{err_from_is_err_and}
use Rattle.program.specs.Table.{SameLens, columns_of}
use Rattle.program.proofs.Tables.{same_refl}
use Rattle.loader.specs.declared.deeds.Deed.{Deed}
use Rattle.loader.specs.declared.error.ElfError.{ElfError}
use Rattle.loader.specs.Deeds.{DeedFits, deed_trace}
use Rattle.loader.specs.Entry.{entry_deed, forget_trace, entry_fits}
use Rattle.loader.specs.declared.deeds.Outputs.{Outputs}
use Rattle.loader.specs.InnerContracts.{Settles, SettlesAs, held_of}
use Rattle.loader.proofs.Performing.{entry_refused}
use Rattle.loader.proofs.Forgetting.{forgets_nothing}
use Rattle.loader.proofs.Going.{begins_fewer, begins_then, settles_then}
use Rattle.loader.proofs.entry.register_entry.Goals.{Joined-not-inputs, then-not-inputs, else-not-inputs}
use Rattle.loader.proofs.entry.register_entry.Goals as goal

pub returns-in_err-deed-clause-settles : goal.returns-in_err-deed-clause-settles
returns-in_err-deed-clause-settles c =
    let p = err_from_is_err_and c.from_residual.result c.from_residual.ensures.1 in
    rw (p.1, p.2) (entry_refused c.args.inputs.now.builtins.now c.args.inputs.now.job c.args.out.now.image.now (columns_of c.args.out.now.registry.now) c.args.out.now.registry.now.used c.args.out.now.moves _ (sym c.entry_deed.ensures ∙ c.in_err-deed.was))

-- the image as it was, and the table without that row in version 1
abbrev Left : Bool → Outputs → Outputs → Type 0
Left version2 o o' = SameLens (columns_of o.registry.now) (columns_of o'.registry.now) × (o'.image.now ≡ o.image.now) × ((im : List ℕ) → SettlesAs (forget_trace version2 im) im 1 o o' (Ok tt))

left : (r : Joined-not-inputs) → Left r.args.inputs.now.job.version2 r.args.out.now r.if-not-inputs.out
left r =
    let o = r.args.out.now in
    elim r.if-not-inputs.branch [
      | then-not-inputs w ↦ rw (w.out-is, w.if-not-inputs.true) (w.forget_entrypoint.ensures.keeps.table_as, w.forget_entrypoint.ensures.image, w.forget_entrypoint.ensures.forgets)
      | else-not-inputs w ↦ rw (w.out-is, w.if-not-inputs.false) (same_refl (columns_of o.registry.now), refl, λ im. forgets_nothing (columns_of o.registry.now) o.registry.now.used o.moves im (begins_fewer 1 1 (columns_of o.registry.now) o.registry.now.used o.moves r.requires))
    ]

pub perform-requires : goal.perform-requires
perform-requires c =
    let i = c.args.inputs.now in
    let o = c.args.out.now in
    let o₁ = c.if-not-inputs.out in
    let h = left (goal.at.perform-requires c).Joined-not-inputs in (
      subst (DeedFits _) (sym c.entry_deed.ensures ∙ c.in_ok-deed.was) (entry_fits _ i.builtins.now i.job),
      begins_then (forget_trace i.job.version2 o.image.now) (λ (im : List ℕ). deed_trace (entry_deed i.builtins.now i.job) im) o.image.now o.image.now (columns_of o.registry.now) (columns_of o₁.registry.now) (columns_of o₁.registry.now) 1 1 o.registry.now.used o.moves o₁.registry.now.used o₁.moves h.0 (h.2 o.image.now) c.requires,
    )

pub returns-clause-settles : goal.returns-clause-settles
returns-clause-settles c =
    let i = c.args.inputs.now in
    let o = c.args.out.now in
    let o₁ = c.if-not-inputs.out in
    let o₂ = c.perform.new.self in
    let h = left (goal.at.returns-clause-settles c).Joined-not-inputs in
    settles_then (forget_trace i.job.version2 o.image.now) (λ (im : List ℕ). deed_trace (entry_deed i.builtins.now i.job) im) o.image.now o₂.image.now (columns_of o.registry.now) (columns_of o₁.registry.now) (columns_of o₂.registry.now) 1 1 o.registry.now.used o.moves o₁.registry.now.used o₁.moves h.0 (h.2 o.image.now) (held_of c.perform.result o₂)
    (subst (λ (d : Result Deed ElfError). Settles (deed_trace d o.image.now) o₂.image.now (columns_of o₁.registry.now) (columns_of o₂.registry.now) 1 o₁.registry.now.used o₁.moves (held_of c.perform.result o₂)) (sym c.in_ok-deed.was ∙ c.entry_deed.ensures)
    (subst (λ (im : List ℕ). Settles (deed_trace (Ok c.in_ok-deed.deed) im) o₂.image.now (columns_of o₁.registry.now) (columns_of o₂.registry.now) 1 o₁.registry.now.used o₁.moves (held_of c.perform.result o₂)) h.1 c.perform.ensures.settles))
