-- Finding a symbol in small files: each holds by computation.
use Rattle.std.specs.Prelude.{ℕ, List, [], ◌∷◌, ◌++◌, ◌≡◌, refl, replicate, Option, Some, None, Ok, Err}
use Rattle.ebpf.specs.Choice.{◌if◌else◌}
use Rattle.ebpf.specs.LittleEndian.{le, bytes_of}
use Rattle.elf_parser.specs.declared.layout.Layout.{Layout}
use Rattle.elf_parser.specs.Dynamic.{file_offset, first_with}
use Rattle.elf_parser.specs.Names.{name_by}
use Rattle.elf_parser.specs.Parts.{bytes_at}
use Rattle.elf_parser.specs.ProgramHeaders.{contains_step, header_for_vaddr}
use Rattle.elf_parser.specs.Records.{entry_at}
use Rattle.elf_parser.specs.SectionNames.{same_bytes}
use Rattle.elf_parser.specs.Strings.{string_in, string_check, terminated, before_zero}
use Rattle.elf_parser.specs.Types.{section_header, sym}
use Rattle.hash_table.specs.Hash.{hash_from}
use Rattle.hash_table.specs.Find.{bad_table, table_at, hash_table_of, link_at, on_link, walked, find_symbol}

-- a hash table of one bucket at 0, three symbols at 24, two section headers at 96, of which the first is the names' and the second has the table's address, and the
-- names "ab" and "cd" at 224; the symbols 1 and 2 have the names at `one` and `two`
abbrev file : ℕ → ℕ → ℕ → ℕ → ℕ → ℕ → ℕ → List ℕ
file buckets chains first after-1 after-2 one two =
    (bytes_of 4 buckets ++ bytes_of 4 chains ++ bytes_of 4 first ++ bytes_of 4 0 ++ bytes_of 4 after-1 ++ bytes_of 4 after-2)
    ++ (replicate 24 0 ++ bytes_of 4 one ++ replicate 20 0 ++ bytes_of 4 two ++ replicate 20 0)
    ++ (bytes_of 4 0 ++ bytes_of 4 3 ++ replicate 16 0 ++ bytes_of 8 224 ++ bytes_of 8 7 ++ replicate 24 0)
    ++ (replicate 16 0 ++ bytes_of 8 0x1000 ++ replicate 40 0)
    ++ (0 ∷ 97 ∷ 98 ∷ 0 ∷ 99 ∷ 100 ∷ 0 ∷ [])

abbrev layout : Option ℕ → ℕ → Layout
layout address symbols =
    record {
      program_headers = record { offset = 0; count = 0 };
      section_headers = record { offset = 96; count = 2 };
      shstrtab = None;
      symtab = None;
      strtab = None;
      dynstr = Some 96;
      dynamic_relocations = record { offset = 0; count = 0 };
      dynamic_relas = record { offset = 0; count = 0 };
      dynamic_symbols = record { offset = 24; count = symbols };
      hash_table = address;
    }

abbrev ab : List ℕ
ab = 97 ∷ 98 ∷ []

abbrev cd : List ℕ
cd = 99 ∷ 100 ∷ []

-- by the table, with symbols 1 and 2 on one chain
abbrev whole : List ℕ
whole = file 1 3 1 2 0 1 4

-- both names; one that is longer, one that is shorter, and none: symbol 0 has no name, and is not the answer
found : find_symbol whole (layout (Some 0x1000) 3) ab ∷ find_symbol whole (layout (Some 0x1000) 3) cd ∷ find_symbol whole (layout (Some 0x1000) 3) (97 ∷ 98 ∷ 0 ∷ []) ∷ find_symbol whole (layout (Some 0x1000) 3) (97 ∷ []) ∷ find_symbol whole (layout (Some 0x1000) 3) [] ∷ []
    ≡ Ok (Some 1) ∷ Ok (Some 2) ∷ Ok None ∷ Ok None ∷ Ok None ∷ []
unfolding table_at hash_table_of link_at on_link walked hash_from file_offset first_with header_for_vaddr name_by bytes_at contains_step entry_at same_bytes string_in string_check terminated before_zero section_header sym le bytes_of ◌if◌else◌
found = refl

-- 48: no address, one that is nowhere, no buckets, another count, an index that is no symbol's, a circle, and a table past the file's end
bad :
    find_symbol whole (layout None 3) ab
    ∷ find_symbol whole (layout (Some 0x2000) 3) ab
    ∷ find_symbol (file 0 3 1 2 0 1 4) (layout (Some 0x1000) 3) ab
    ∷ find_symbol whole (layout (Some 0x1000) 2) ab
    ∷ find_symbol (file 1 3 3 2 0 1 4) (layout (Some 0x1000) 3) ab
    ∷ find_symbol (file 1 3 1 2 1 1 4) (layout (Some 0x1000) 3) (97 ∷ [])
    ∷ find_symbol (file 54 3 1 2 0 1 4) (layout (Some 0x1000) 3) ab
    ∷ []
    ≡ Err bad_table ∷ Err bad_table ∷ Err bad_table ∷ Err bad_table ∷ Err bad_table ∷ Err bad_table ∷ Err bad_table ∷ []
unfolding table_at hash_table_of link_at on_link walked hash_from file_offset first_with header_for_vaddr name_by bytes_at contains_step entry_at same_bytes string_in string_check terminated before_zero section_header sym le bytes_of ◌if◌else◌
bad = refl

-- a circle, and a name that cannot be read, count only where they are met: behind the answer they do not
behind : find_symbol (file 1 3 1 2 1 1 4) (layout (Some 0x1000) 3) cd ∷ find_symbol (file 1 3 1 2 0 1 9) (layout (Some 0x1000) 3) ab ∷ find_symbol (file 1 3 1 2 0 9 4) (layout (Some 0x1000) 3) cd ∷ []
    ≡ Ok (Some 2) ∷ Ok (Some 1) ∷ Err bad_table ∷ []
unfolding table_at hash_table_of link_at on_link walked hash_from file_offset first_with header_for_vaddr name_by bytes_at contains_step entry_at same_bytes string_in string_check terminated before_zero section_header sym le bytes_of ◌if◌else◌
behind = refl

-- no symbols and no chain: the bucket's 0 ends the walk
empty : find_symbol (file 1 0 0 0 0 0 0) (layout (Some 0x1000) 0) ab ≡ Ok None
unfolding table_at hash_table_of link_at on_link walked hash_from file_offset first_with header_for_vaddr section_header le bytes_of ◌if◌else◌
empty = refl
