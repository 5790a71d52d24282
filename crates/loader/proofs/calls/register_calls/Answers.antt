-- `loader::calls::register_calls` meets its contract. The loop's invariant: the slots from the run's first on are still to be copied; with
-- the rows and moves held now they settle to what all settle to.
-- Assumes nothing.
use mathlib.Core.Path.{◌≡◌, sym, subst, ◌∙◌}
use mathlib.Core.List.{List}
use Prim.Native.Nat.{ℕ, ◌+◌, ◌-◌, ◌*◌, ◌/◌, ◌%◌, ◌<◌, ◌≤◌, min}
use native.Mathlib.Omega.{arith}
use lib.ListN.{length, drop}
use lib.Seq.{paste}
use Rattle.program.specs.Table.{columns_of}
use Rattle.std.specs.Prelude.{Result, Ok}
use Rattle.std.proofs.lemmas.Result.{err_from_is_err_and}
use Rattle.loader.specs.declared.error.ElfError.{ElfError}
use Rattle.loader.specs.Deeds.{holding}
use Rattle.loader.specs.Calls.{slot_count, slot_trace, calls_trace}
use Rattle.loader.specs.CallLoop.{ahead, StillHeld, Leads}
use Rattle.loader.specs.InnerContracts.{Keeps, Settles, held_of}
use Rattle.loader.proofs.Ahead.{ahead_more, ahead_all, ahead_length}
use Rattle.loader.proofs.Targeting.{none_held}
use Rattle.loader.proofs.Going.{keeps_all, keeps_on, Going, going_start, going_done, all_begin, all_lead, in_run, in_run_stop}
use Rattle.loader.proofs.Slots.{text_in}
use Rattle.loader.proofs.calls.register_calls.Goals.{After-min-to, After-register_slots}
use Rattle.loader.proofs.calls.register_calls.Goals as goal

-- a run of slots copied
copied : (file im im' : List ℕ) (start i to : ℕ) → i ≤ to → length im ≡ length file → start + 8 * to ≤ length file → im' ≡ paste im (start + 8 * i) (drop (start + 8 * i) file) (8 * (to - i))
    → ahead (start + 8 * to) im' file ≡ ahead (start + 8 * i) im file
copied file im im' start i to l len h e =
    let q : start + 8 * to ≡ start + 8 * i + 8 * (to - i) = omega arith in
    rw (e, q) (ahead_more im file (start + 8 * i) (8 * (to - i)) len (omega (arith, q)))

-- where a run starts and ends
starts : (run count n : ℕ) → n ≡ count / 512 + min 1 (count % 512) → run < n → min (512 * run) count ≡ 512 * run
starts run count n e l = omega (arith, l, e)

ends : (run count n to : ℕ) → n ≡ count / 512 + min 1 (count % 512) → run < n → to ≡ min count (512 * run + 512) → (512 * run < to) × (to ≤ count) × (min (512 * (run + 1)) count ≡ to)
ends run count n to e l q = (omega (arith, l, e, q), omega (arith, q), omega (arith, l, e, q))

all_run : (run count n : ℕ) → n ≡ count / 512 + min 1 (count % 512) → n ≤ run → min (512 * run) count ≡ count
all_run run count n e l = omega (arith, l, e)

ran : (r : After-min-to) → (512 * r.loop-run.run < r.min-to.result) × (r.min-to.result ≤ slot_count r.args.inputs.now.job) × (min (512 * (r.loop-run.run + 1)) (slot_count r.args.inputs.now.job) ≡ r.min-to.result)
ran r = ends _ _ _ _ r.div_ceil-run-end.ensures r.loop-run-test.true r.min-to.ensures

-- the invariant at the run's first slot
going : (r : After-min-to) → Going (slot_trace r.args.inputs.now.file.now r.args.inputs.now.builtins.now r.args.inputs.now.job) (slot_count r.args.inputs.now.job) r.args.inputs.now.file.now (ahead (r.args.inputs.now.job.text.start + 8 * (512 * r.loop-run.run)) r.loop-run.out.image.now r.args.inputs.now.file.now) (columns_of r.args.out.now.registry.now) (columns_of r.loop-run.out.registry.now) r.args.out.now.registry.now.used r.args.out.now.moves r.loop-run.out.registry.now.used r.loop-run.out.moves (512 * r.loop-run.run)
going r = rw (starts _ _ _ r.div_ceil-run-end.ensures r.loop-run-test.true) at r.loop-run.invariant.1

pub loop-run-init : goal.loop-run-init
loop-run-init c =
    let i = c.args.inputs.now in
    let o = c.args.out.now in
    let e : i.job.text.start + 0 ≡ 0 + i.job.text.start = omega arith in
    let front : ahead (i.job.text.start + 0) c.copy_bytes.new.to i.file.now ≡ i.file.now = rw (e, c.copy_bytes.ensures) (ahead_more o.image.now i.file.now 0 i.job.text.start c.requires.0 (omega (arith, c.args.inputs.now.in_file.text))) in
    let z : min 0 (slot_count i.job) ≡ 0 = omega arith in (
      keeps_all _,
      rw (z, front) (going_start (slot_trace i.file.now i.builtins.now i.job) (slot_count i.job) i.file.now (columns_of o.registry.now) o.registry.now.used o.moves c.requires.1.0),
      rw c.requires.1.1 (none_held i.builtins.now i.job (columns_of o.registry.now) 1024),
    )

-- the slots up to the run's end, once their bytes are copied, whatever their answer
ran_all : (r : After-register_slots) (a : Result (Unit {0}) ElfError) → r.register_slots.result ≡ a
    → Leads (slot_trace r.args.inputs.now.file.now r.args.inputs.now.builtins.now r.args.inputs.now.job) (slot_count r.args.inputs.now.job) (512 * r.loop-run.run) r.min-to.result
    (ahead (r.args.inputs.now.job.text.start + 8 * (512 * r.loop-run.run)) r.loop-run.out.image.now r.args.inputs.now.file.now)
    (ahead (r.args.inputs.now.job.text.start + 8 * r.min-to.result) r.register_slots.new.out.image.now r.args.inputs.now.file.now)
    (columns_of r.loop-run.out.registry.now) (columns_of r.register_slots.new.out.registry.now) r.loop-run.out.registry.now.used r.loop-run.out.moves (held_of a r.register_slots.new.out)
ran_all r a e =
    let i = r.args.inputs.now in
    let o = r.loop-run.out in
    let o' = r.register_slots.new.out in
    let bounds = ends _ _ _ _ r.div_ceil-run-end.ensures r.loop-run-test.true r.min-to.ensures in
    let was : length o.image.now ≡ length i.file.now = r.loop-run.invariant.0.image_as ∙ r.copy_bytes.auto.to ∙ r.requires.0 in
    let same = copied i.file.now o.image.now r.copy_bytes-in-loop-run.new.to i.job.text.start (512 * r.loop-run.run) r.min-to.result (omega (arith, bounds.0)) was (text_in i.job.text.start i.job.text.length r.min-to.result _ r.args.inputs.now.in_file.text bounds.1) r.copy_bytes-in-loop-run.ensures in
    subst (λ (b : Result (Unit {0}) ElfError). Leads (slot_trace i.file.now i.builtins.now i.job) (slot_count i.job) (512 * r.loop-run.run) r.min-to.result (ahead (i.job.text.start + 8 * (512 * r.loop-run.run)) o.image.now i.file.now) (ahead (i.job.text.start + 8 * r.min-to.result) o'.image.now i.file.now) (columns_of o.registry.now) (columns_of o'.registry.now) o.registry.now.used o.moves (held_of b o')) e
    (subst (λ (im : List ℕ). Leads (slot_trace i.file.now i.builtins.now i.job) (slot_count i.job) (512 * r.loop-run.run) r.min-to.result im (ahead (i.job.text.start + 8 * r.min-to.result) o'.image.now i.file.now) (columns_of o.registry.now) (columns_of o'.registry.now) o.registry.now.used o.moves (held_of r.register_slots.result o')) same r.register_slots.ensures.leads)

pub returns-in_err-register_slots-clause-settles : goal.returns-in_err-register_slots-clause-settles
returns-in_err-register_slots-clause-settles c =
    let i = c.args.inputs.now in
    let o₀ = c.args.out.now in
    let o = c.loop-run.out in
    let o' = c.register_slots.new.out in
    let bounds = ran (goal.at.returns-in_err-register_slots-clause-settles c).After-min-to in
    let here = going (goal.at.returns-in_err-register_slots-clause-settles c).After-min-to in
    let p = err_from_is_err_and c.from_residual.result c.from_residual.ensures.1 in
    rw (p.1, p.2) (all_lead (slot_trace i.file.now i.builtins.now i.job) (slot_count i.job) i.file.now _ (columns_of o₀.registry.now) (columns_of o'.registry.now) o₀.registry.now.used o₀.moves _
    (in_run_stop (slot_trace i.file.now i.builtins.now i.job) (slot_count i.job) 0 (slot_count i.job) (omega arith) i.file.now (ahead (i.job.text.start + 8 * (512 * c.loop-run.run)) o.image.now i.file.now) (columns_of o₀.registry.now) (columns_of o.registry.now) o₀.registry.now.used o₀.moves o.registry.now.used o.moves (512 * c.loop-run.run) (all_begin (slot_count i.job) (columns_of o₀.registry.now) o₀.registry.now.used o₀.moves c.requires.1.0) here c.min-to.result (omega (arith, bounds.0)) bounds.1 _ (columns_of o'.registry.now) _ _
    (ran_all (goal.at.returns-in_err-register_slots-clause-settles c).After-register_slots _ c.in_err-register_slots.was)))

pub loop-run-preserved : goal.loop-run-preserved
loop-run-preserved c =
    let i = c.args.inputs.now in
    let o₀ = c.args.out.now in
    let o = c.loop-run.out in
    let o' = c.register_slots.new.out in
    let bounds = ran (goal.at.loop-run-preserved c).After-min-to in
    let here = going (goal.at.loop-run-preserved c).After-min-to in
    let kept : Keeps o o' = record {
      image_is = c.register_slots.ensures.keeps.image_is;
      image_as = c.register_slots.ensures.keeps.image_as ∙ c.copy_bytes-in-loop-run.auto.to;
      registry_is = c.register_slots.ensures.keeps.registry_is;
      table_is = c.register_slots.ensures.keeps.table_is;
      table_as = c.register_slots.ensures.keeps.table_as;
    } in
    let was : length o.image.now ≡ length i.file.now = c.loop-run.invariant.0.image_as ∙ c.copy_bytes.auto.to ∙ c.requires.0 in
    let len : length o'.image.now ≡ length i.file.now = c.register_slots.ensures.keeps.image_as ∙ c.copy_bytes-in-loop-run.auto.to ∙ was in
    let same : length (ahead (i.job.text.start + 8 * c.min-to.result) o'.image.now i.file.now) ≡ length (ahead (i.job.text.start + 8 * (512 * c.loop-run.run)) o.image.now i.file.now) = ahead_length o'.image.now i.file.now (i.job.text.start + 8 * c.min-to.result) len ∙ len ∙ sym (ahead_length o.image.now i.file.now (i.job.text.start + 8 * (512 * c.loop-run.run)) was ∙ was) in (
      keeps_on _ o o' c.loop-run.invariant.0 kept,
      rw bounds.2 (in_run (slot_trace i.file.now i.builtins.now i.job) (slot_count i.job) 0 (slot_count i.job) (omega arith) i.file.now (ahead (i.job.text.start + 8 * (512 * c.loop-run.run)) o.image.now i.file.now) (columns_of o₀.registry.now) (columns_of o.registry.now) o₀.registry.now.used o₀.moves o.registry.now.used o.moves (512 * c.loop-run.run) (all_begin (slot_count i.job) (columns_of o₀.registry.now) o₀.registry.now.used o₀.moves c.requires.1.0) here c.min-to.result (omega (arith, bounds.0)) bounds.1 (ahead (i.job.text.start + 8 * c.min-to.result) o'.image.now i.file.now) (columns_of o'.registry.now) o'.registry.now.used o'.moves c.register_slots.ensures.keeps.table_as same
          (ran_all (goal.at.loop-run-preserved c).After-register_slots (Ok tt) c.in_ok-register_slots.was)),
      subst (StillHeld i c.register_slots.new.seen o') c.in_ok-register_slots.was c.register_slots.ensures.held,
    )

pub returns-clause-settles : goal.returns-clause-settles
returns-clause-settles c =
    let i = c.args.inputs.now in
    let o₀ = c.args.out.now in
    let o = c.loop-run.out in
    let n = slot_count i.job in
    let here = rw (all_run _ _ _ c.div_ceil-run-end.ensures c.loop-run-test.false) at c.loop-run.invariant.1 in
    let was : length o.image.now ≡ length i.file.now = c.loop-run.invariant.0.image_as ∙ c.copy_bytes.auto.to ∙ c.requires.0 in
    let im : c.copy_bytes-2.new.to ≡ ahead (i.job.text.start + 8 * n) o.image.now i.file.now = c.copy_bytes-2.ensures ∙ ahead_all o.image.now i.file.now (i.job.text.start + 8 * n) was (text_in i.job.text.start i.job.text.length n _ i.in_file.text (omega arith)) in
    subst (λ (x : List ℕ). Settles (calls_trace i.file.now i.builtins.now i.job i.file.now) x (columns_of o₀.registry.now) (columns_of o.registry.now) n o₀.registry.now.used o₀.moves (holding o.registry.now.used o.moves)) (sym im)
    (going_done (slot_trace i.file.now i.builtins.now i.job) n i.file.now (ahead (i.job.text.start + 8 * n) o.image.now i.file.now) (columns_of o₀.registry.now) (columns_of o.registry.now) o₀.registry.now.used o₀.moves o.registry.now.used o.moves n c.requires.1.0 here (omega arith))
