-- Small whole files, for worked examples and for laws that show what a promise says of a file.
use Rattle.std.specs.Prelude.{ℕ, ◌+◌, ◌*◌, ◌^◌, Bool, true, false, List, [], ◌∷◌, ◌++◌}
use Rattle.ebpf.specs.LittleEndian.{bytes_of}
use Rattle.loader.specs.declared.validate.Config.{Config}

-- the settings, in the scope's order: labels, reject broken, collision check, optimize, version 1, version 2
abbrev pub settings : Bool → Bool → Bool → Bool → Bool → Bool → Config
settings labels reject check optimize v1 v2 =
    record {
      enable_symbol_and_section_labels = labels;
      reject_broken_elfs = reject;
      external_internal_function_hash_collision = check;
      optimize_rodata = optimize;
      enable_sbpf_v1 = v1;
      enable_sbpf_v2 = v2;
    }

-- all on; and the collision check off
abbrev pub all_on : Config
all_on = settings true true true true true true

abbrev pub unchecked : Config
unchecked = settings true true false true true true

-- parts one after another
abbrev joined : List (List ℕ) → List ℕ
joined [] = []
joined (x ∷ xs) = x ++ joined xs

-- a file header: e_flags, e_entry, e_shoff, e_shnum and e_shstrndx; there are no program headers
abbrev file_header : ℕ → ℕ → ℕ → ℕ → ℕ → List ℕ
file_header flags entry shoff shnum shstrndx =
    joined (
    (0x7f ∷ 0x45 ∷ 0x4c ∷ 0x46 ∷ 2 ∷ 1 ∷ 1 ∷ 0 ∷ [])
    ∷ bytes_of 8 0
    ∷ bytes_of 2 3
    ∷ bytes_of 2 263
    ∷ bytes_of 4 1
    ∷ bytes_of 8 entry
    ∷ bytes_of 8 0
    ∷ bytes_of 8 shoff
    ∷ bytes_of 4 flags
    ∷ bytes_of 2 64
    ∷ bytes_of 2 56
    ∷ bytes_of 2 0
    ∷ bytes_of 2 64
    ∷ bytes_of 2 shnum
    ∷ bytes_of 2 shstrndx
    ∷ []
    )

-- a section header: sh_name, sh_type, sh_flags, sh_addr, sh_offset and sh_size
abbrev section : ℕ → ℕ → ℕ → ℕ → ℕ → ℕ → List ℕ
section name type flags addr offset size =
    joined (bytes_of 4 name ∷ bytes_of 4 type ∷ bytes_of 8 flags ∷ bytes_of 8 addr ∷ bytes_of 8 offset ∷ bytes_of 8 size ∷ bytes_of 8 0 ∷ bytes_of 8 1 ∷ bytes_of 8 0 ∷ [])

-- a local call with this immediate, and an empty slot
abbrev call : ℕ → List ℕ
call imm = bytes_of 8 (0x1085 + imm * 2 ^ 32)

abbrev empty : List ℕ
empty = bytes_of 8 0

-- a zero, .text, a zero, .shstrtab and zeros: 24 bytes
abbrev names : List ℕ
names = 0 ∷ 46 ∷ 116 ∷ 101 ∷ 120 ∷ 116 ∷ 0 ∷ 46 ∷ 115 ∷ 104 ∷ 115 ∷ 116 ∷ 114 ∷ 116 ∷ 97 ∷ 98 ∷ 0 ∷ bytes_of 7 0

-- ONE CALL: 304 bytes. Three slots at byte 64, of which the first calls the last; .shstrtab at 88; the headers of the null section, .text and
-- .shstrtab at 112, 176 and 240. The text has this address, and is entered at its first slot
abbrev pub one_call : ℕ → ℕ → List ℕ
one_call flags addr = joined (file_header flags addr 112 3 2 ∷ call 1 ∷ empty ∷ empty ∷ names ∷ section 0 0 0 0 0 0 ∷ section 1 1 6 addr 64 24 ∷ section 7 3 0 0 88 17 ∷ [])

-- in version 2, and in version 1, where the text's address is its place in the file
abbrev pub version_2 : List ℕ
version_2 = one_call 0x20 0x1_0000_0000

abbrev pub version_1 : List ℕ
version_1 = one_call 0 64

-- a zero, .text, a zero, .rodata, a zero, .shstrtab and zeros: 32 bytes
abbrev rodata_names : List ℕ
rodata_names =
    0 ∷ 46 ∷ 116 ∷ 101 ∷ 120 ∷ 116 ∷ 0 ∷ 46 ∷ 114 ∷ 111 ∷ 100 ∷ 97 ∷ 116 ∷ 97 ∷ 0
    ∷ 46 ∷ 115 ∷ 104 ∷ 115 ∷ 116 ∷ 114 ∷ 116 ∷ 97 ∷ 98 ∷ 0 ∷ bytes_of 7 0

-- A .RODATA: 368 bytes, version 1. An empty slot at byte 64, which is the text and its entry; .rodata, eight bytes at 72, its header of this type; .shstrtab at 80;
-- four section headers from 112 on
abbrev pub with_rodata : ℕ → List ℕ
with_rodata type =
    joined (
    file_header 0 64 112 4 3
    ∷ empty
    ∷ bytes_of 8 7
    ∷ rodata_names
    ∷ section 0 0 0 0 0 0
    ∷ section 1 1 6 64 64 8
    ∷ section 7 type 2 72 72 8
    ∷ section 15 3 0 0 80 25
    ∷ []
    )

-- a zero, .text, a zero, .strtab, a zero, .symtab, a zero, .shstrtab and zeros: 40 bytes
abbrev label_names : List ℕ
label_names =
    0 ∷ 46 ∷ 116 ∷ 101 ∷ 120 ∷ 116 ∷ 0 ∷ 46 ∷ 115 ∷ 116 ∷ 114 ∷ 116 ∷ 97 ∷ 98 ∷ 0 ∷ 46 ∷ 115 ∷ 121 ∷ 109 ∷ 116 ∷ 97 ∷ 98 ∷ 0
    ∷ 46 ∷ 115 ∷ 104 ∷ 115 ∷ 116 ∷ 114 ∷ 116 ∷ 97 ∷ 98 ∷ 0 ∷ bytes_of 7 0

-- a zero, entrypoint and zeros: 16 bytes
abbrev strings : List ℕ
strings = 0 ∷ 101 ∷ 110 ∷ 116 ∷ 114 ∷ 121 ∷ 112 ∷ 111 ∷ 105 ∷ 110 ∷ 116 ∷ 0 ∷ bytes_of 4 0

-- a function symbol named entrypoint
abbrev entrypoint_at : ℕ → List ℕ
entrypoint_at value = joined (bytes_of 4 1 ∷ bytes_of 4 2 ∷ bytes_of 8 value ∷ bytes_of 8 0 ∷ [])

-- TWO LABELS: 528 bytes, version 1. Two empty slots at byte 64; .strtab at 80; .symtab at 96, with the symbol 0 and two symbols named entrypoint, at
-- the two slots; .shstrtab at 168; five section headers from 208 on. The text is entered at its first slot
abbrev pub two_labels : List ℕ
two_labels =
    joined (
    file_header 0 64 208 5 4
    ∷ empty
    ∷ empty
    ∷ strings
    ∷ bytes_of 24 0
    ∷ entrypoint_at 64
    ∷ entrypoint_at 72
    ∷ label_names
    ∷ section 0 0 0 0 0 0
    ∷ section 1 1 6 64 64 16
    ∷ section 7 3 0 0 80 12
    ∷ section 15 2 0 0 96 72
    ∷ section 23 3 0 0 168 33
    ∷ []
    )
