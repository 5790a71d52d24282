-- A turn of the relocations' loop and of the labels' loop: its deed is the definitions', and carrying it out is settling the turn.
-- Assumes nothing.
use mathlib.Core.Path.{◌≡◌, refl, sym, ap, subst, ◌∙◌}
use mathlib.Core.Bool.{Bool}
use mathlib.Core.List.{List}
use Prim.Native.Nat.{ℕ, ◌+◌}
use lib.ListN.{length}
use Rattle.std.specs.Prelude.{Option, None, Result, Err}
use Rattle.elf_parser.specs.declared.records.Entries.{Entries}
use Rattle.elf_parser.specs.declared.layout.Layout.{Layout}
use Rattle.program.specs.Table.{columns_of}
use Rattle.loader.specs.declared.relocations.UsedHeader.{UsedHeader}
use Rattle.loader.specs.declared.deeds.Deed.{Deed}
use Rattle.loader.specs.declared.relocations.Relocation.{Relocation}
use Rattle.loader.specs.declared.validate.Job.{Job}
use Rattle.loader.specs.declared.error.ElfError.{ElfError}
use Rattle.loader.specs.Deeds.{DeedFits, deed_trace}
use Rattle.loader.specs.Relocations.{relocation_at, used_header, used_before, place_of, plan_of, relocation_deed, relocation_trace, used_next, plan_fits}
use Rattle.loader.specs.Labels.{label_symbols, label_deed, label_trace, label_fits}
use Rattle.loader.specs.InnerContracts.{SettlesTo}
use Rattle.loader.specs.declared.inputs.Inputs.{Inputs}
use Rattle.elf_parser.specs.declared.elf64.Elf64.{Elf64}
use Rattle.loader.specs.declared.deeds.Outputs.{Outputs}
use Rattle.loader.proofs.Performing.{refuses}

-- ---- relocations

-- before the first no header was used
pub none_before : (file : List ℕ) (l : Layout) (version2 : Bool) → None ≡ used_before file l version2 0
unfolding used_before
none_before file l version2 = refl

module _ (v : Inputs) (k : ℕ) (header next : Option UsedHeader) (r : Relocation) (before : header ≡ used_before v.file.now v.job.layout v.job.version2 k)
    (elf : Elf64) (view : elf ≡ record { file = v.file; layout = v.job.layout })
    (is : r ≡ relocation_at elf.file.now elf.layout k)
    (goes : next ≡ used_header elf.file.now elf.layout v.job.version2 header r.r_offset) where
  -- the header used last, after this one
  pub header_next : next ≡ used_before v.file.now v.job.layout v.job.version2 (k + 1)
  header_next = rw (goes, before, is, view) (sym (used_next v.file.now v.job.layout v.job.version2 k))

  module _ (o o' : Outputs) (a : Result (Unit {0}) ElfError) (im : List ℕ) (there : im ≡ o.image.now) where
    pub relocation_settles : {d : Result Deed ElfError} → d ≡ plan_of v.file.now im v.builtins.now v.job (place_of v.job.version2 next r.r_offset) r.r_info r.addend
        → SettlesTo (deed_trace d o.image.now) 1 o o' a
        → SettlesTo (relocation_trace v.file.now v.builtins.now v.job k o.image.now) 1 o o' a
    unfolding relocation_trace
    relocation_settles {d} e did =
        let same : d ≡ relocation_deed v.file.now v.builtins.now v.job k o.image.now = e ∙ rw (there, header_next, is, view) refl in
        subst (λ (d : Result Deed ElfError). SettlesTo (deed_trace d o.image.now) 1 o o' a) same did

  pub relocation_refused : (o : Outputs) (im : List ℕ) (there : im ≡ o.image.now) (e : ElfError) → Err e ≡ plan_of v.file.now im v.builtins.now v.job (place_of v.job.version2 next r.r_offset) r.r_info r.addend
      → SettlesTo (relocation_trace v.file.now v.builtins.now v.job k o.image.now) 1 o o (Err e)
  relocation_refused o im there e is = relocation_settles o o (Err e) im there is (refuses e o.image.now o.image.now (columns_of o.registry.now) (columns_of o.registry.now) 1 o.registry.now.used o.moves)

pub relocation_fits : (file im im' builtins : List ℕ) (j : Job) (next : Option UsedHeader) (r : Relocation) {d : Result Deed ElfError}
    → im ≡ im'
    → d ≡ plan_of file im builtins j (place_of j.version2 next r.r_offset) r.r_info r.addend
    → DeedFits (length im') d
relocation_fits file im im' builtins j next r {d} there e = subst (λ (l : List ℕ). DeedFits (length l) d) there (subst (DeedFits (length im)) (sym e) (plan_fits file im builtins j (place_of j.version2 next r.r_offset) r.r_info r.addend))

-- ---- labels

module _ (file builtins : List ℕ) (j : Job) (symbols : Entries) (i : ℕ) (s : symbols ≡ label_symbols file j) where
  pub label_settles : (o o' : Outputs) (a : Result (Unit {0}) ElfError) {d : Result Deed ElfError}
      → d ≡ label_deed file builtins j symbols i
      → SettlesTo (deed_trace d o.image.now) 1 o o' a
      → SettlesTo (label_trace file builtins j i o.image.now) 1 o o' a
  unfolding label_trace
  label_settles o o' a e did =
      subst (λ (d : Result Deed ElfError). SettlesTo (deed_trace d o.image.now) 1 o o' a) (e ∙ ap (λ (x : Entries). label_deed file builtins j x i) s) did

  pub label_refused : (o : Outputs) (r : ElfError) → Err r ≡ label_deed file builtins j symbols i → SettlesTo (label_trace file builtins j i o.image.now) 1 o o (Err r)
  label_refused o r e = label_settles o o (Err r) e (refuses r o.image.now o.image.now (columns_of o.registry.now) (columns_of o.registry.now) 1 o.registry.now.used o.moves)

pub deed_fits : (n : ℕ) (file builtins : List ℕ) (j : Job) (symbols : Entries) (i : ℕ) {d : Result Deed ElfError} → d ≡ label_deed file builtins j symbols i → DeedFits n d
deed_fits n file builtins j symbols i e = subst (DeedFits n) (sym e) (label_fits n file builtins j symbols i)
