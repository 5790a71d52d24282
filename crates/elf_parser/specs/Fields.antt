-- Records as they are read in the part of the file that holds them.
use Rattle.std.specs.Prelude.{ℕ, ◌+◌, ◌≤◌, ◌≡◌, List, take, drop}
use Rattle.std.proofs.Common.{arith, zero-add, add-zero}
use Rattle.ebpf.specs.LittleEndian.{le, le_part}
use Rattle.elf_parser.specs.Types.{program_header, section_header, sym, rel, rela, dynamic}

field : (w : ℕ) (s : List ℕ) (at k off : ℕ) → off + k ≤ w → le k (take w (drop at s)) off ≡ le k s (at + off)
field w s at k off h = le_part k w at s off (omega arith)

pub program_header_part : (s : List ℕ) (at : ℕ) → program_header (take 56 (drop at s)) 0 ≡ program_header s at
unfolding program_header
program_header_part s at =
    let f = field 56 s at in
    rw (zero-add, f 4 0 (omega arith), f 8 8 (omega arith), f 8 16 (omega arith), f 8 32 (omega arith), f 8 40 (omega arith), add-zero)

pub section_header_part : (s : List ℕ) (at : ℕ) → section_header (take 64 (drop at s)) 0 ≡ section_header s at
unfolding section_header
section_header_part s at =
    let f = field 64 s at in
    rw (zero-add, f 4 0 (omega arith), f 4 4 (omega arith), f 8 8 (omega arith), f 8 16 (omega arith), f 8 24 (omega arith), f 8 32 (omega arith), add-zero)

pub sym_part : (s : List ℕ) (at : ℕ) → sym (take 24 (drop at s)) 0 ≡ sym s at
unfolding sym
sym_part s at =
    let f = field 24 s at in
    rw (zero-add, f 4 0 (omega arith), f 1 4 (omega arith), f 8 8 (omega arith), add-zero)

pub rel_part : (s : List ℕ) (at : ℕ) → rel (take 16 (drop at s)) 0 ≡ rel s at
unfolding rel
rel_part s at =
    let f = field 16 s at in
    rw (zero-add, f 8 0 (omega arith), f 8 8 (omega arith), add-zero)

pub rela_part : (s : List ℕ) (at : ℕ) → rela (take 24 (drop at s)) 0 ≡ rela s at
unfolding rela
rela_part s at =
    let f = field 24 s at in
    rw (zero-add, f 8 0 (omega arith), f 8 8 (omega arith), f 8 16 (omega arith), add-zero)

pub dynamic_part : (s : List ℕ) (at : ℕ) → dynamic (take 16 (drop at s)) 0 ≡ dynamic s at
unfolding dynamic
dynamic_part s at =
    let f = field 16 s at in
    rw (zero-add, f 8 0 (omega arith), f 8 8 (omega arith), add-zero)
