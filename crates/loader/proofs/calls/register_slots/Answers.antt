-- `loader::calls::register_slots` meets its contract. The loop's invariant: the slots that are left, with the rows and moves held now,
-- settle to what all from `from` on settle to; and what the loop keeps beside the table.
-- Assumes nothing.
use mathlib.Core.Path.{◌≡◌, sym, subst, ◌∙◌}
use Prim.Native.Nat.{ℕ, ◌+◌, ◌-◌, ◌*◌, ◌<◌, ◌≤◌}
use native.Mathlib.Omega.{arith}
use lib.ListN.{length}
use Rattle.program.specs.Table.{columns_of}
use Rattle.std.specs.Prelude.{Result, Ok}
use Rattle.std.proofs.lemmas.Result.{err_from_is_err_and}
use Rattle.loader.specs.declared.error.ElfError.{ElfError}
use Rattle.loader.specs.Calls.{slot_count, slot_trace, next_call, Among}
use Rattle.loader.specs.CallLoop.{ahead, StillHeld}
use Rattle.loader.specs.InnerContracts.{SettlesAs, held_of}
use Rattle.loader.proofs.Ahead.{ahead_length, slot_ahead}
use Rattle.loader.proofs.Slots.{next_bounds, calls_ahead, text_in}
use Rattle.loader.proofs.Going.{GoingIn, keeps_on, in_begins, in_stop, in_on, in_done}
use Rattle.loader.proofs.calls.register_slots.Goals.{After-next_call, In-Some, After-call_step}
use Rattle.loader.proofs.calls.register_slots.Goals as goal

-- the slots from the next call on are left, wherever it is
going : (r : After-next_call) (k : ℕ) → next_call r.text-text.result.now (r.args.to - r.loop-i.next) r.loop-i.next ≡ k
    → GoingIn (slot_trace r.args.inputs.now.file.now r.args.inputs.now.builtins.now r.args.inputs.now.job) (slot_count r.args.inputs.now.job) r.args.from r.args.to (ahead (r.args.inputs.now.job.text.start + 8 * r.args.to) r.args.out.now.image.now r.args.inputs.now.file.now) (ahead (r.args.inputs.now.job.text.start + 8 * r.args.to) r.loop-i.out.image.now r.args.inputs.now.file.now) (columns_of r.args.out.now.registry.now) (columns_of r.loop-i.out.registry.now) r.args.out.now.registry.now.used r.args.out.now.moves r.loop-i.out.registry.now.used r.loop-i.out.moves k
going r k e =
    let i = r.args.inputs.now in
    calls_ahead i.file.now i.builtins.now i.job i.in_file r.args.from r.args.to r.requires.2 _ _ _ _ _ _ _ _ r.loop-i.next k r.requires.0.1 r.loop-i.invariant.1 (rw r.text-text.ensures at e)

-- it is one of them
less : (r : In-Some) → r.in-Some.i < r.args.to
less r = omega (arith, r.in-Some.ensures.0, r.loop-i.invariant.1.passed)

pub call_step-requires : goal.call_step-requires
call_step-requires c =
    let i = c.args.inputs.now in
    let l = less (goal.at.call_step-requires c).In-Some in
    let here = going (goal.at.call_step-requires c).After-next_call c.in-Some.i c.in-Some.ensures.1 in
    let o₀ = c.args.out.now in
    let o = c.loop-i.out in
    let q : ℕ = i.job.text.start + 8 * c.args.to in (
      (
        c.loop-i.invariant.0.image_as ∙ c.requires.0.0,
        in_begins (slot_trace i.file.now i.builtins.now i.job) (slot_count i.job) c.args.from c.args.to c.requires.2 (ahead q o₀.image.now i.file.now) (ahead q o.image.now i.file.now) (columns_of o₀.registry.now) (columns_of o.registry.now) o₀.registry.now.used o₀.moves o.registry.now.used o.moves c.in-Some.i c.requires.0.1 here l,
      ),
      omega (arith, l, c.requires.2),
      c.loop-i.invariant.2,
    )

-- the slot's trace from the image whose bytes from the run's end on are the file's, whatever its answer
stepped : (r : After-call_step) (a : Result (Unit {0}) ElfError) → r.in-Some.i < r.args.to → r.call_step.result ≡ a
    → SettlesAs (slot_trace r.args.inputs.now.file.now r.args.inputs.now.builtins.now r.args.inputs.now.job r.in-Some.i (ahead (r.args.inputs.now.job.text.start + 8 * r.args.to) r.loop-i.out.image.now r.args.inputs.now.file.now))
    (ahead (r.args.inputs.now.job.text.start + 8 * r.args.to) r.call_step.new.out.image.now r.args.inputs.now.file.now) 1 r.loop-i.out r.call_step.new.out a
stepped r a l e =
    let i = r.args.inputs.now in
    let o = r.loop-i.out in
    let o' = r.call_step.new.out in
    let q : ℕ = i.job.text.start + 8 * r.args.to in
    let inside : q ≤ length i.file.now = text_in i.job.text.start i.job.text.length r.args.to _ r.args.inputs.now.in_file.text r.requires.2 in
    subst (λ (b : Result (Unit {0}) ElfError). SettlesAs (slot_trace i.file.now i.builtins.now i.job r.in-Some.i (ahead q o.image.now i.file.now)) (ahead q o'.image.now i.file.now) 1 o o' b) e
    (slot_ahead i.file.now q i.builtins.now i.job r.in-Some.i o.image.now o'.image.now (columns_of o.registry.now) (columns_of o'.registry.now) o.registry.now.used o.moves (held_of r.call_step.result o') (omega (arith, l)) (omega (arith, inside, r.loop-i.invariant.0.image_as, r.requires.0.0)) r.call_step.ensures.settles)

pub returns-in_err-call_step-clause-leads : goal.returns-in_err-call_step-clause-leads
returns-in_err-call_step-clause-leads c =
    let i = c.args.inputs.now in
    let l = less (goal.at.returns-in_err-call_step-clause-leads c).In-Some in
    let here = going (goal.at.returns-in_err-call_step-clause-leads c).After-next_call c.in-Some.i c.in-Some.ensures.1 in
    let o₀ = c.args.out.now in
    let o = c.loop-i.out in
    let o' = c.call_step.new.out in
    let q : ℕ = i.job.text.start + 8 * c.args.to in
    let p = err_from_is_err_and c.from_residual.result c.from_residual.ensures.1 in
    rw (p.1, p.2) (in_stop (slot_trace i.file.now i.builtins.now i.job) (slot_count i.job) c.args.from c.args.to c.requires.2 (ahead q o₀.image.now i.file.now) (ahead q o.image.now i.file.now) (columns_of o₀.registry.now) (columns_of o.registry.now) o₀.registry.now.used o₀.moves o.registry.now.used o.moves c.in-Some.i c.requires.0.1 here l (ahead q o'.image.now i.file.now) (columns_of o'.registry.now) _ _
    (stepped (goal.at.returns-in_err-call_step-clause-leads c).After-call_step _ l c.in_err-call_step.was))

pub loop-i-smaller : goal.loop-i-smaller
loop-i-smaller c =
    omega (arith, less (goal.at.loop-i-smaller c).In-Some, (next_bounds c.text-text.result.now (c.args.to - c.loop-i.next) c.loop-i.next).0, c.in-Some.ensures.1)

pub loop-i-preserved : goal.loop-i-preserved
loop-i-preserved c =
    let i = c.args.inputs.now in
    let l = less (goal.at.loop-i-preserved c).In-Some in
    let here = going (goal.at.loop-i-preserved c).After-next_call c.in-Some.i c.in-Some.ensures.1 in
    let o₀ = c.args.out.now in
    let o = c.loop-i.out in
    let o' = c.call_step.new.out in
    let q : ℕ = i.job.text.start + 8 * c.args.to in
    let was : length o.image.now ≡ length i.file.now = c.loop-i.invariant.0.image_as ∙ c.requires.0.0 in
    let same : length (ahead q o'.image.now i.file.now) ≡ length (ahead q o.image.now i.file.now) = ahead_length o'.image.now i.file.now q (c.call_step.ensures.keeps.image_as ∙ was) ∙ c.call_step.ensures.keeps.image_as ∙ sym (ahead_length o.image.now i.file.now q was) in
    let on = in_on (slot_trace i.file.now i.builtins.now i.job) (slot_count i.job) c.args.from c.args.to c.requires.2 (ahead q o₀.image.now i.file.now) (ahead q o.image.now i.file.now) (columns_of o₀.registry.now) (columns_of o.registry.now) o₀.registry.now.used o₀.moves o.registry.now.used o.moves c.in-Some.i c.requires.0.1 here l (ahead q o'.image.now i.file.now) (columns_of o'.registry.now) o'.registry.now.used o'.moves c.call_step.ensures.keeps.table_as same
    (stepped (goal.at.loop-i-preserved c).After-call_step (Ok tt) l c.in_ok-call_step.was) in (
      keeps_on o₀ o o' c.loop-i.invariant.0 c.call_step.ensures.keeps,
      on,
      subst (StillHeld i c.call_step.new.seen o') c.in_ok-call_step.was c.call_step.ensures.held,
    )

pub returns-clause-leads : goal.returns-clause-leads
returns-clause-leads c =
    let i = c.args.inputs.now in
    let o₀ = c.args.out.now in
    let o = c.loop-i.out in
    let behind : next_call c.text-text.result.now (c.args.to - c.loop-i.next) c.loop-i.next ≡ c.loop-i.next + (c.args.to - c.loop-i.next) = subst (Among c.text-text.result.now (c.args.to - c.loop-i.next) c.loop-i.next) c.in_default.is c.next_call.ensures in
    let here = going (goal.at.returns-clause-leads c).After-next_call c.args.to (omega (arith, behind, c.loop-i.invariant.1.passed)) in
    let q : ℕ = i.job.text.start + 8 * c.args.to in
    in_done (slot_trace i.file.now i.builtins.now i.job) (slot_count i.job) c.args.from c.args.to c.requires.2 (ahead q o₀.image.now i.file.now) (ahead q o.image.now i.file.now) (columns_of o₀.registry.now) (columns_of o.registry.now) o₀.registry.now.used o₀.moves o.registry.now.used o.moves c.args.to c.requires.0.1 here (omega arith)
