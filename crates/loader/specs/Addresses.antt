-- Sums that stop at 2 ^ 64 - 1, and addresses in the machine.
use Rattle.std.specs.Prelude.{ℕ, ◌+◌, min, Bool, ◌&&◌, leb}
use Rattle.ebpf.specs.Choice.{◌if◌else◌}

-- a sum that stops at 2 ^ 64 - 1
abbrev pub sum_up_to : ℕ → ℕ → ℕ
sum_up_to a b = min (a + b) 0xffff_ffff_ffff_ffff

-- where the program starts in the virtual machine's addresses, and where the stack does
abbrev pub MM_PROGRAM_START : ℕ
MM_PROGRAM_START = 0x1_0000_0000

abbrev pub MM_STACK_START : ℕ
MM_STACK_START = 0x2_0000_0000

-- where a section of that sh_addr stands in the machine
unfoldable pub machine_addr : Bool → ℕ → ℕ
machine_addr version2 sh-addr = sh-addr if version2 && leb MM_PROGRAM_START sh-addr else sum_up_to sh-addr MM_PROGRAM_START
