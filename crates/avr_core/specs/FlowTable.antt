-- The table of the instructions of the program's flow (AVR Instruction Set Manual, the operation and cycles of each):
-- the operands of its row in the shape of instruction that it has. A flag number and a bit number are taken modulo 8.
use Rattle.std.specs.Prelude.{ℕ, ◌%◌, ◌==◌, true, false, List, Result, slice_index}
use Rattle.avr_base.specs.declared.stop.StopCause.{StopCause}
use Rattle.avr_decoder.specs.declared.op.Op.{Op}
use Rattle.avr_decoder.specs.declared.op.Op.TheVariants as op
use Rattle.avr_decoder.specs.Words.{words_of}
use Rattle.data_space.specs.declared.cpu.Cpu.{Cpu}
use Rattle.data_space.specs.Core.{advanced, pair_at}
use Rattle.data_space.specs.Sequence.{Outcome, done}
use Rattle.avr_core.specs.FlowShapes.{ends, relative, jumped, branched, skipped, bit_is, skips_by_io, calls, returns, returns_enabling}

-- an instruction over any bus, by what its loads and stores give, and over the bytes of the flash. Z is the pair at r30
unfoldable pub flow_effect : {B : Type 0} → (B → ℕ → Result (ℕ × B) StopCause) → (B → ℕ → ℕ → Result B StopCause) → List ℕ → Op → Cpu → B → Outcome B
flow_effect get put flash (op.Jmp k) cpu bus = ends (jumped 3 k cpu) bus
flow_effect get put flash (op.Rjmp k) cpu bus = ends (jumped 2 (relative k cpu) cpu) bus
flow_effect get put flash op.Ijmp cpu bus = ends (jumped 2 (pair_at 30 cpu) cpu) bus
flow_effect get put flash (op.Brbs s k) cpu bus = ends (branched (bit_is true (s % 8) cpu.sreg.bits) k cpu) bus
flow_effect get put flash (op.Brbc s k) cpu bus = ends (branched (bit_is false (s % 8) cpu.sreg.bits) k cpu) bus
flow_effect get put flash (op.Cpse d r) cpu bus = ends (skipped flash (slice_index cpu.r d == slice_index cpu.r r) cpu) bus
flow_effect get put flash (op.Sbrs r b) cpu bus = ends (skipped flash (bit_is true (b % 8) (slice_index cpu.r r)) cpu) bus
flow_effect get put flash (op.Sbrc r b) cpu bus = ends (skipped flash (bit_is false (b % 8) (slice_index cpu.r r)) cpu) bus
flow_effect get put flash (op.Sbis a b) cpu bus = skips_by_io get flash a (b % 8) true cpu bus
flow_effect get put flash (op.Sbic a b) cpu bus = skips_by_io get flash a (b % 8) false cpu bus
flow_effect get put flash (op.Call k) cpu bus = calls put 4 (words_of (op.Call k)) (λ _. k) cpu bus
flow_effect get put flash (op.Rcall k) cpu bus = calls put 3 (words_of (op.Rcall k)) (relative k) cpu bus
flow_effect get put flash op.Icall cpu bus = calls put 3 (words_of op.Icall) (pair_at 30) cpu bus
flow_effect get put flash op.Ret cpu bus = returns get cpu bus
flow_effect get put flash op.Reti cpu bus = returns_enabling get cpu bus
flow_effect get put flash op.Sleep cpu bus = ends (record { cycles = 1; sleep = true }, advanced 1 cpu) bus
flow_effect get put flash _ cpu bus = ends (done 1, cpu) bus  -- no other instruction is executed here
