-- The registers of the core (ATmega128 datasheet, "AVR CPU Core"): their values after reset, and what reading and
-- writing them means.
use Rattle.std.specs.Prelude.{ℕ, ◌+◌, ◌*◌, ◌/◌, ◌%◌, false, replicate, slice_index, slice_set}
use Rattle.data_space.specs.declared.cpu.Core.{Core}
use Rattle.data_space.specs.declared.cpu.Cpu.{Cpu}
use Rattle.data_space.specs.declared.cpu.Registers.{Registers}

-- after reset; the datasheet leaves the general registers open, here they start as 0
abbrev pub zero_cpu : Cpu
zero_cpu = record { r = replicate 32 0; sreg = record { bits = 0 }; sp = 0; pc = 0; rampz = false }

-- with this byte in general register d
abbrev pub with_reg : ℕ → ℕ → Cpu → Cpu
with_reg d value cpu = record cpu { r = slice_set cpu.r d value }

-- the word in register d, the low byte, and the register above it, the high one: r0 stands above r31
abbrev pub pair_at : ℕ → Cpu → ℕ
pair_at d cpu = slice_index cpu.r d + 256 * slice_index cpu.r ((d + 1) % 32)

-- with this word in the pair at register d, the low byte put first
abbrev pub with_pair : ℕ → ℕ → Cpu → Cpu
with_pair d value cpu = with_reg ((d + 1) % 32) (value / 256) (with_reg d (value % 256) cpu)

-- with the program counter so many words further, modulo 65,536
abbrev pub advanced : ℕ → Cpu → Cpu
advanced words cpu = record cpu { pc = (cpu.pc + words) % 65536 }

-- the registers of the core from their two parts, and the parts of them
abbrev pub whole : Registers → Core → Cpu
whole regs core = record { r = regs.r; sreg = core.sreg; sp = regs.sp; pc = core.pc; rampz = regs.rampz }

abbrev pub registers_of : Cpu → Registers
registers_of cpu = record { r = cpu.r; sp = cpu.sp; rampz = cpu.rampz }

abbrev pub core_of : Cpu → Core
core_of cpu = record { sreg = cpu.sreg; pc = cpu.pc }

-- one part alone, the other as after reset: what this part decides alone is said of it so
abbrev pub general : Registers → Cpu
general regs = whole regs (core_of zero_cpu)

abbrev pub lone : Core → Cpu
lone core = whole (registers_of zero_cpu) core
