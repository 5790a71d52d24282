-- The settings of a load, by the bits of a number.
use Rattle.std.specs.Prelude.{ℕ, Bool, ◌/◌, ◌%◌, eqb}
use Rattle.loader.specs.declared.validate.Config.{Config}

-- the bit of that value, a power of two, is set
unfoldable pub bit_of : ℕ → ℕ → Bool
bit_of settings value = eqb (settings / value % 2) 1

-- 1 labels, 2 reject broken files, 4 collision check, 8 optimize, 16 version 1, 32 version 2
abbrev pub config_of : ℕ → Config
config_of settings = record {
  enable_symbol_and_section_labels = bit_of settings 1;
  reject_broken_elfs = bit_of settings 2;
  external_internal_function_hash_collision = bit_of settings 4;
  optimize_rodata = bit_of settings 8;
  enable_sbpf_v1 = bit_of settings 16;
  enable_sbpf_v2 = bit_of settings 32;
}
