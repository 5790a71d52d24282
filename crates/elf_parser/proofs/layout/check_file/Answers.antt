-- The program headers refuse where the checks before them pass.
use Rattle.std.proofs.Common.{arith, sym, ◌∙◌}
use Rattle.std.proofs.lemmas.Result.{err_from_is_err_and}
use Rattle.std.specs.Prelude.{length, Ok}
use Rattle.elf_parser.specs.declared.types.Elf64Ehdr.{Elf64Ehdr}
use Rattle.elf_parser.specs.Errors.{went}
use Rattle.elf_parser.specs.FileHeader.{tables_check}
use Rattle.elf_parser.specs.Parse.{ranges_of, file_check}
use Rattle.elf_parser.proofs.layout.check_file.Goals as goal

pub returns-in_err-check_program_headers : goal.returns-in_err-check_program_headers
unfolding file_check
returns-in_err-check_program_headers c =
    let p = err_from_is_err_and c.from_residual-in_err-check_program_headers.result c.from_residual-in_err-check_program_headers.ensures.1 in
    let h : Elf64Ehdr = c.file_header-h.result in
    let t = went (tables_check (length c.args.file.now) h.e_phoff h.e_phnum h.e_shoff h.e_shnum) (λ x. Ok (ranges_of h)) c.in_ok-ranges.ranges (sym c.check_tables.ensures ∙ c.in_ok-ranges.was) in
    rw (p.1, p.2, ← c.check_header.ensures, c.in_ok-check_header.was, ← c.file_header-h.ensures, t.first, ← c.record_at.ensures, ← c.check_first.ensures, c.in_ok-check_first.was)
    (grind arith)
