-- Examples of the words and bits of the C interface: each holds by computation.
use Rattle.std.specs.Prelude.{Bool, true, false, List, [], ◌∷◌, ◌≡◌, refl, Some, None}
use Rattle.program.specs.declared.Row.{Row}
use Rattle.loader.specs.declared.validate.Config.{Config}
use Rattle.exports.specs.Answers.{written, words_of, row_answer}
use Rattle.loader.specs.Settings.{bit_of, config_of}

-- in the scope's order: labels, reject broken, collision check, optimize, version 1, version 2
abbrev on_off : Config → List Bool
on_off c =
    c.enable_symbol_and_section_labels
    ∷ c.reject_broken_elfs
    ∷ c.external_internal_function_hash_collision
    ∷ c.optimize_rodata
    ∷ c.enable_sbpf_v1
    ∷ c.enable_sbpf_v2
    ∷ []

-- each bit is one setting; a higher bit is none
bits :
    on_off (config_of 1)
    ∷ on_off (config_of 2)
    ∷ on_off (config_of 4)
    ∷ on_off (config_of 8)
    ∷ on_off (config_of 16)
    ∷ on_off (config_of 32)
    ∷ on_off (config_of 64)
    ∷ on_off (config_of 63)
    ∷ []
    ≡ (true ∷ false ∷ false ∷ false ∷ false ∷ false ∷ [])
    ∷ (false ∷ true ∷ false ∷ false ∷ false ∷ false ∷ [])
    ∷ (false ∷ false ∷ true ∷ false ∷ false ∷ false ∷ [])
    ∷ (false ∷ false ∷ false ∷ true ∷ false ∷ false ∷ [])
    ∷ (false ∷ false ∷ false ∷ false ∷ true ∷ false ∷ [])
    ∷ (false ∷ false ∷ false ∷ false ∷ false ∷ true ∷ [])
    ∷ (false ∷ false ∷ false ∷ false ∷ false ∷ false ∷ [])
    ∷ (true ∷ true ∷ true ∷ true ∷ true ∷ true ∷ [])
    ∷ []
unfolding bit_of
bits = refl

-- a row that was found, and none: in ten lent words, and in three
abbrev row : Row
row = record { key = 7; index = 5; kind = 1; start = 64; length = 3 }

lookups : written 10 (words_of (row_answer (Some row))) ∷ written 10 (words_of (row_answer None)) ∷ written 3 (words_of (row_answer (Some row))) ∷ []
    ≡ (0 ∷ 0 ∷ 0 ∷ 0 ∷ 1 ∷ 5 ∷ 1 ∷ 64 ∷ 3 ∷ 0 ∷ [])
    ∷ (0 ∷ 0 ∷ 0 ∷ 0 ∷ 0 ∷ 0 ∷ 0 ∷ 0 ∷ 0 ∷ 0 ∷ [])
    ∷ (0 ∷ 0 ∷ 0 ∷ [])
    ∷ []
unfolding written
lookups = refl
