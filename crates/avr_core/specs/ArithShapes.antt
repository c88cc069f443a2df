-- What the instructions on registers do, one definition for each shape of instruction (AVR Instruction Set Manual):
-- which operands a rule of results and flags is given, and where its result goes.
use Rattle.std.specs.Prelude.{ℕ, ◌+◌, ◌*◌, ◌/◌, ◌%◌, Bool, true, false, slice_index}
use Rattle.avr_base.specs.Flags.{C, T, has_bit, has_flag, with_bit, with_flag}
use Rattle.avr_base.specs.declared.sreg.Sreg.{Sreg}
use Rattle.data_space.specs.declared.cpu.Cpu.{Cpu}
use Rattle.data_space.specs.Core.{pair_at, with_pair, with_reg}
use Rattle.arith_step.specs.declared.products.MulKind.{MulKind}
use Rattle.arith_step.specs.Bytes.{added, subtracted, logical}
use Rattle.arith_step.specs.Words.{multiplied}

abbrev pub carry : Cpu → Bool
carry cpu = has_flag cpu.sreg.bits C

-- with this flags byte
abbrev pub with_sreg : Sreg → Cpu → Cpu
with_sreg s cpu = record cpu { sreg = s }

-- a result and its flags: the byte to register d, the word to the pair at d
abbrev pub to_reg : ℕ → ℕ × Sreg → Cpu → Cpu
to_reg d result cpu = with_sreg result.1 (with_reg d result.0 cpu)

abbrev pub to_pair : ℕ → ℕ × Sreg → Cpu → Cpu
to_pair d result cpu = with_sreg result.1 (with_pair d result.0 cpu)

-- rD becomes the sum of rD, a byte and a carry
unfoldable pub adds : ℕ → ℕ → Bool → Cpu → Cpu
adds d b c cpu = to_reg d (added (slice_index cpu.r d) b c cpu.sreg) cpu

-- rD becomes rD less a byte
unfoldable pub subtracts : ℕ → ℕ → Cpu → Cpu
subtracts d b cpu = to_reg d (subtracted (slice_index cpu.r d) b false false cpu.sreg) cpu

-- rD becomes rD less a byte and the carry, with Z kept
unfoldable pub subtracts_with_carry : ℕ → ℕ → Cpu → Cpu
subtracts_with_carry d b cpu = to_reg d (subtracted (slice_index cpu.r d) b (carry cpu) true cpu.sreg) cpu

-- the flags of rD less a byte
unfoldable pub compares : ℕ → ℕ → Cpu → Cpu
compares d b cpu = with_sreg (subtracted (slice_index cpu.r d) b false false cpu.sreg).1 cpu

-- the flags of rD less a byte and the carry, with Z kept
unfoldable pub compares_with_carry : ℕ → ℕ → Cpu → Cpu
compares_with_carry d b cpu = with_sreg (subtracted (slice_index cpu.r d) b (carry cpu) true cpu.sreg).1 cpu

-- rD becomes a bitwise result
unfoldable pub becomes_bits : ℕ → ℕ → Cpu → Cpu
becomes_bits d r cpu = to_reg d (r, logical r cpu.sreg) cpu

-- rD becomes the result of a rule on rD alone
abbrev pub becomes_by : (ℕ → Sreg → ℕ × Sreg) → ℕ → Cpu → Cpu
becomes_by rule d cpu = to_reg d (rule (slice_index cpu.r d) cpu.sreg) cpu

-- the pair at d becomes the result of a rule on the pair and a constant
abbrev pub pair_becomes_by : (ℕ → ℕ → Sreg → ℕ × Sreg) → ℕ → ℕ → Cpu → Cpu
pair_becomes_by rule d k cpu = to_pair d (rule (pair_at d cpu) k cpu.sreg) cpu

-- r1:r0 becomes the product of rD and rR
unfoldable pub multiplies : MulKind → ℕ → ℕ → Cpu → Cpu
multiplies kind d r cpu = to_pair 0 (multiplied kind (slice_index cpu.r d) (slice_index cpu.r r) cpu.sreg) cpu

-- flag s of SREG is set or cleared
unfoldable pub sets_flag : ℕ → Bool → Cpu → Cpu
sets_flag s on cpu = with_sreg (record { bits = with_flag cpu.sreg.bits s on }) cpu

-- bit b of rD becomes the flag T
unfoldable pub loads_bit : ℕ → ℕ → Cpu → Cpu
loads_bit d b cpu = with_reg d (with_bit (slice_index cpu.r d) b (has_flag cpu.sreg.bits T)) cpu

-- T becomes bit b of rD
abbrev pub stores_bit : ℕ → ℕ → Cpu → Cpu
stores_bit d b cpu = sets_flag T (has_bit (slice_index cpu.r d) b) cpu

-- the halves of rD are exchanged
unfoldable pub swaps : ℕ → Cpu → Cpu
swaps d cpu = with_reg d (slice_index cpu.r d % 16 * 16 + slice_index cpu.r d / 16) cpu
