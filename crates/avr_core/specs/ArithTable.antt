-- The table of the instructions on registers (AVR Instruction Set Manual, the operation, flags and cycles of each):
-- the operands of its row in the shape of instruction that it has. A flag number and a bit number are taken modulo 8.
use Rattle.std.specs.Prelude.{ℕ, ◌%◌, true, false, bit_and, bit_or, bit_xor, slice_index, nat_le}
use Rattle.avr_decoder.specs.declared.op.Op.{Op}
use Rattle.avr_decoder.specs.declared.op.Op.TheVariants as op
use Rattle.arith_step.specs.declared.products.MulKind.TheVariants as kind
use Rattle.arith_step.specs.Bytes.{complemented, negated, incremented, decremented, shifted}
use Rattle.arith_step.specs.Words.{added_word, subtracted_word}
use Rattle.data_space.specs.declared.bus.Done.{Done}
use Rattle.data_space.specs.declared.cpu.Cpu.{Cpu}
use Rattle.data_space.specs.Core.{advanced, pair_at, with_pair, with_reg}
use Rattle.data_space.specs.Sequence.{done}
use Rattle.avr_core.specs.ArithShapes.{carry, adds, subtracts, subtracts_with_carry, compares, compares_with_carry, becomes_bits, becomes_by, pair_becomes_by, multiplies, sets_flag, loads_bit, stores_bit, swaps}

-- registers and flags after an instruction
unfoldable pub effect : Op → Cpu → Cpu
effect (op.Add d r) cpu = adds d (slice_index cpu.r r) false cpu
effect (op.Adc d r) cpu = adds d (slice_index cpu.r r) (carry cpu) cpu
effect (op.Sub d r) cpu = subtracts d (slice_index cpu.r r) cpu
effect (op.Subi d k) cpu = subtracts d k cpu
effect (op.Sbc d r) cpu = subtracts_with_carry d (slice_index cpu.r r) cpu
effect (op.Sbci d k) cpu = subtracts_with_carry d k cpu
effect (op.Cp d r) cpu = compares d (slice_index cpu.r r) cpu
effect (op.Cpi d k) cpu = compares d k cpu
effect (op.Cpc d r) cpu = compares_with_carry d (slice_index cpu.r r) cpu
effect (op.And d r) cpu = becomes_bits d (bit_and (slice_index cpu.r d) (slice_index cpu.r r)) cpu
effect (op.Andi d k) cpu = becomes_bits d (bit_and (slice_index cpu.r d) k) cpu
effect (op.Or d r) cpu = becomes_bits d (bit_or (slice_index cpu.r d) (slice_index cpu.r r)) cpu
effect (op.Ori d k) cpu = becomes_bits d (bit_or (slice_index cpu.r d) k) cpu
effect (op.Eor d r) cpu = becomes_bits d (bit_xor (slice_index cpu.r d) (slice_index cpu.r r)) cpu
effect (op.Com d) cpu = becomes_by complemented d cpu
effect (op.Neg d) cpu = becomes_by negated d cpu
effect (op.Inc d) cpu = becomes_by incremented d cpu
effect (op.Dec d) cpu = becomes_by decremented d cpu
effect (op.Lsr d) cpu = becomes_by (shifted false) d cpu
effect (op.Ror d) cpu = becomes_by (shifted (carry cpu)) d cpu
effect (op.Asr d) cpu = becomes_by (shifted (nat_le 128 (slice_index cpu.r d))) d cpu
effect (op.Swap d) cpu = swaps d cpu
effect (op.Adiw d k) cpu = pair_becomes_by added_word d k cpu
effect (op.Sbiw d k) cpu = pair_becomes_by subtracted_word d k cpu
effect (op.Mul d r) cpu = multiplies kind.Mul d r cpu
effect (op.Muls d r) cpu = multiplies kind.Muls d r cpu
effect (op.Mulsu d r) cpu = multiplies kind.Mulsu d r cpu
effect (op.Fmul d r) cpu = multiplies kind.Fmul d r cpu
effect (op.Fmuls d r) cpu = multiplies kind.Fmuls d r cpu
effect (op.Fmulsu d r) cpu = multiplies kind.Fmulsu d r cpu
effect (op.Mov d r) cpu = with_reg d (slice_index cpu.r r) cpu
effect (op.Movw d r) cpu = with_pair d (pair_at r cpu) cpu
effect (op.Ldi d k) cpu = with_reg d k cpu
effect (op.Bset s) cpu = sets_flag (s % 8) true cpu
effect (op.Bclr s) cpu = sets_flag (s % 8) false cpu
effect (op.Bld d b) cpu = loads_bit d (b % 8) cpu
effect (op.Bst d b) cpu = stores_bit d (b % 8) cpu
effect op.Nop cpu = cpu
effect op.Wdr cpu = cpu
effect _ cpu = cpu  -- no other instruction is executed here

-- the core after an instruction, each of one word
abbrev pub arith_cpu : Op → Cpu → Cpu
arith_cpu instruction cpu = advanced 1 (effect instruction cpu)

abbrev pub arith_cycles : Op → ℕ
arith_cycles (op.Adiw d k) = 2
arith_cycles (op.Sbiw d k) = 2
arith_cycles (op.Mul d r) = 2
arith_cycles (op.Muls d r) = 2
arith_cycles (op.Mulsu d r) = 2
arith_cycles (op.Fmul d r) = 2
arith_cycles (op.Fmuls d r) = 2
arith_cycles (op.Fmulsu d r) = 2
arith_cycles _ = 1

abbrev pub arith_done : Op → Done
arith_done instruction = done (arith_cycles instruction)
