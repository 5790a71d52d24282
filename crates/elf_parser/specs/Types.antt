-- The records of an ELF-64 file, with the gABI's field names, places and sizes.
use Rattle.std.specs.Prelude.{ℕ, ◌+◌, List}
use Rattle.ebpf.specs.LittleEndian.{le}
use Rattle.elf_parser.specs.declared.types.Elf64Ehdr.{Elf64Ehdr}
use Rattle.elf_parser.specs.declared.types.Elf64Phdr.{Elf64Phdr}
use Rattle.elf_parser.specs.declared.types.Elf64Shdr.{Elf64Shdr}
use Rattle.elf_parser.specs.declared.types.Elf64Sym.{Elf64Sym}
use Rattle.elf_parser.specs.declared.types.Elf64Rel.{Elf64Rel}
use Rattle.elf_parser.specs.declared.types.Elf64Rela.{Elf64Rela}
use Rattle.elf_parser.specs.declared.types.Elf64Dyn.{Elf64Dyn}

-- Elf64_Ehdr, 64 bytes at the front of the file
abbrev pub ei_mag : List ℕ → ℕ
ei_mag s = le 4 s 0

abbrev pub ei_class : List ℕ → ℕ
ei_class s = le 1 s 4

abbrev pub ei_data : List ℕ → ℕ
ei_data s = le 1 s 5

abbrev pub ei_version : List ℕ → ℕ
ei_version s = le 1 s 6

abbrev pub ei_osabi : List ℕ → ℕ
ei_osabi s = le 1 s 7

abbrev pub e_type : List ℕ → ℕ
e_type s = le 2 s 16

abbrev pub e_machine : List ℕ → ℕ
e_machine s = le 2 s 18

abbrev pub e_version : List ℕ → ℕ
e_version s = le 4 s 20

abbrev pub e_entry : List ℕ → ℕ
e_entry s = le 8 s 24

abbrev pub e_phoff : List ℕ → ℕ
e_phoff s = le 8 s 32

abbrev pub e_shoff : List ℕ → ℕ
e_shoff s = le 8 s 40

abbrev pub e_flags : List ℕ → ℕ
e_flags s = le 4 s 48

abbrev pub e_ehsize : List ℕ → ℕ
e_ehsize s = le 2 s 52

abbrev pub e_phentsize : List ℕ → ℕ
e_phentsize s = le 2 s 54

abbrev pub e_phnum : List ℕ → ℕ
e_phnum s = le 2 s 56

abbrev pub e_shentsize : List ℕ → ℕ
e_shentsize s = le 2 s 58

abbrev pub e_shnum : List ℕ → ℕ
e_shnum s = le 2 s 60

abbrev pub e_shstrndx : List ℕ → ℕ
e_shstrndx s = le 2 s 62

unfoldable pub file_header : List ℕ → Elf64Ehdr
file_header s =
    record {
      ei_osabi = ei_osabi s;
      e_type = e_type s;
      e_machine = e_machine s;
      e_entry = e_entry s;
      e_phoff = e_phoff s;
      e_shoff = e_shoff s;
      e_flags = e_flags s;
      e_phnum = e_phnum s;
      e_shnum = e_shnum s;
      e_shstrndx = e_shstrndx s;
    }

-- Elf64_Phdr, 56 bytes
unfoldable pub program_header : List ℕ → ℕ → Elf64Phdr
program_header s at =
    record {
      p_type = le 4 s at;
      p_offset = le 8 s (at + 8);
      p_vaddr = le 8 s (at + 16);
      p_filesz = le 8 s (at + 32);
      p_memsz = le 8 s (at + 40);
    }

-- Elf64_Shdr, 64 bytes
unfoldable pub section_header : List ℕ → ℕ → Elf64Shdr
section_header s at =
    record {
      sh_name = le 4 s at;
      sh_type = le 4 s (at + 4);
      sh_flags = le 8 s (at + 8);
      sh_addr = le 8 s (at + 16);
      sh_offset = le 8 s (at + 24);
      sh_size = le 8 s (at + 32);
    }

-- Elf64_Sym, 24 bytes
unfoldable pub sym : List ℕ → ℕ → Elf64Sym
sym s at = record { st_name = le 4 s at; st_info = le 1 s (at + 4); st_value = le 8 s (at + 8) }

-- Elf64_Rel, 16 bytes
unfoldable pub rel : List ℕ → ℕ → Elf64Rel
rel s at = record { r_offset = le 8 s at; r_info = le 8 s (at + 8) }

-- Elf64_Rela, 24 bytes; the addend's bits as an unsigned number
unfoldable pub rela : List ℕ → ℕ → Elf64Rela
rela s at = record { r_offset = le 8 s at; r_info = le 8 s (at + 8); r_addend = le 8 s (at + 16) }

-- Elf64_Dyn, 16 bytes
unfoldable pub dynamic : List ℕ → ℕ → Elf64Dyn
dynamic s at = record { d_tag = le 8 s at; d_val = le 8 s (at + 8) }

-- the gABI's numbers
abbrev pub PT_LOAD : ℕ
PT_LOAD = 1

abbrev pub PT_DYNAMIC : ℕ
PT_DYNAMIC = 2

abbrev pub SHT_NULL : ℕ
SHT_NULL = 0

abbrev pub SHT_SYMTAB : ℕ
SHT_SYMTAB = 2

abbrev pub SHT_STRTAB : ℕ
SHT_STRTAB = 3

abbrev pub SHT_DYNAMIC : ℕ
SHT_DYNAMIC = 6

abbrev pub SHT_NOBITS : ℕ
SHT_NOBITS = 8

abbrev pub SHT_DYNSYM : ℕ
SHT_DYNSYM = 11

abbrev pub DT_NULL : ℕ
DT_NULL = 0

abbrev pub DT_HASH : ℕ
DT_HASH = 4

abbrev pub DT_SYMTAB : ℕ
DT_SYMTAB = 6

abbrev pub DT_RELA : ℕ
DT_RELA = 7

abbrev pub DT_RELASZ : ℕ
DT_RELASZ = 8

abbrev pub DT_RELAENT : ℕ
DT_RELAENT = 9

abbrev pub DT_REL : ℕ
DT_REL = 17

abbrev pub DT_RELSZ : ℕ
DT_RELSZ = 18

abbrev pub DT_RELENT : ℕ
DT_RELENT = 19
