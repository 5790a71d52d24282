-- Instruction slots of a text: 8 bytes each.
use Rattle.std.specs.Prelude.{ℕ, ◌+◌, ◌*◌, ◌/◌, ◌%◌, List, length, leb, Option, Some, None}
use Rattle.ebpf.specs.Choice.{◌if◌else◌}
use Rattle.ebpf.specs.LittleEndian.{le}
use Rattle.ebpf.specs.declared.Insn.{Insn}

-- the slot at a byte of the text: opcode; destination in the low nibble and source in the high one; offset; immediate.
-- Offset and immediate are two's complement bits: an immediate n from 2 ^ 31 on stands for n - 2 ^ 32
unfoldable pub slot_at : List ℕ → ℕ → Insn
slot_at s at =
    record {
      opc = le 1 s at;
      dst = le 1 s (at + 1) % 16;
      src = le 1 s (at + 1) / 16;
      off = le 2 s (at + 2);
      imm = le 4 s (at + 4);
    }

-- the slot number pc; `None` where the text has no more than pc whole slots
unfoldable pub insn_at : List ℕ → ℕ → Option Insn
insn_at s pc = None if leb (length s / 8) pc else Some (slot_at s (8 * pc))
