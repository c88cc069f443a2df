-- The table of the instructions on memory (AVR Instruction Set Manual, the operation, words and cycles of each): the
-- operands of its row in the shape of instruction that it has. A bit number is taken modulo 8.
use Rattle.std.specs.Prelude.{ℕ, ◌+◌, ◌%◌, true, false, List, Result, slice_index}
use Rattle.avr_base.specs.declared.stop.StopCause.{StopCause}
use Rattle.avr_decoder.specs.declared.op.Op.{Op}
use Rattle.avr_decoder.specs.declared.op.Op.TheVariants as op
use Rattle.avr_decoder.specs.Words.{words_of}
use Rattle.data_space.specs.declared.cpu.Cpu.{Cpu}
use Rattle.data_space.specs.Core.{pair_at}
use Rattle.data_space.specs.Sequence.{Outcome}
use Rattle.avr_core.specs.MemoryShapes.{ends, displaced, loads, loads_post_increment, loads_pre_decrement, stores, stores_post_increment, stores_pre_decrement, pushes, pops, sets_bit, loads_program, loads_program_post_increment, loads_extended, loads_extended_post_increment}

-- the lower registers of the pointers
abbrev pub x : ℕ
x = 26

abbrev pub y : ℕ
y = 28

abbrev pub z : ℕ
z = 30

-- an instruction over any bus, by what its loads and stores give, and over the bytes of the flash
unfoldable pub memory_effect : {B : Type 0} → (B → ℕ → Result (ℕ × B) StopCause) → (B → ℕ → ℕ → Result B StopCause) → List ℕ → Op → Cpu → B → Outcome B
memory_effect get put flash (op.LdX d) cpu bus = loads get d (pair_at x cpu) 1 2 cpu bus
memory_effect get put flash (op.LddY d q) cpu bus = loads get d (displaced y q cpu) 1 2 cpu bus
memory_effect get put flash (op.LddZ d q) cpu bus = loads get d (displaced z q cpu) 1 2 cpu bus
memory_effect get put flash (op.Lds d k) cpu bus = loads get d k (words_of (op.Lds d k)) 2 cpu bus
memory_effect get put flash (op.InIo d a) cpu bus = loads get d (a + 0x20) 1 1 cpu bus
memory_effect get put flash (op.LdXInc d) cpu bus = loads_post_increment get d x cpu bus
memory_effect get put flash (op.LdYInc d) cpu bus = loads_post_increment get d y cpu bus
memory_effect get put flash (op.LdZInc d) cpu bus = loads_post_increment get d z cpu bus
memory_effect get put flash (op.LdXDec d) cpu bus = loads_pre_decrement get d x cpu bus
memory_effect get put flash (op.LdYDec d) cpu bus = loads_pre_decrement get d y cpu bus
memory_effect get put flash (op.LdZDec d) cpu bus = loads_pre_decrement get d z cpu bus
memory_effect get put flash (op.StX r) cpu bus = stores put (pair_at x cpu) (slice_index cpu.r r) 1 2 cpu bus
memory_effect get put flash (op.StdY q r) cpu bus = stores put (displaced y q cpu) (slice_index cpu.r r) 1 2 cpu bus
memory_effect get put flash (op.StdZ q r) cpu bus = stores put (displaced z q cpu) (slice_index cpu.r r) 1 2 cpu bus
memory_effect get put flash (op.Sts k r) cpu bus = stores put k (slice_index cpu.r r) (words_of (op.Sts k r)) 2 cpu bus
memory_effect get put flash (op.OutIo a r) cpu bus = stores put (a + 0x20) (slice_index cpu.r r) 1 1 cpu bus
memory_effect get put flash (op.StXInc r) cpu bus = stores_post_increment put x r cpu bus
memory_effect get put flash (op.StYInc r) cpu bus = stores_post_increment put y r cpu bus
memory_effect get put flash (op.StZInc r) cpu bus = stores_post_increment put z r cpu bus
memory_effect get put flash (op.StXDec r) cpu bus = stores_pre_decrement put x r cpu bus
memory_effect get put flash (op.StYDec r) cpu bus = stores_pre_decrement put y r cpu bus
memory_effect get put flash (op.StZDec r) cpu bus = stores_pre_decrement put z r cpu bus
memory_effect get put flash (op.Push r) cpu bus = pushes put r cpu bus
memory_effect get put flash (op.Pop d) cpu bus = pops get d cpu bus
memory_effect get put flash (op.Sbi a b) cpu bus = sets_bit get put a (b % 8) true cpu bus
memory_effect get put flash (op.Cbi a b) cpu bus = sets_bit get put a (b % 8) false cpu bus
memory_effect get put flash op.LpmR0 cpu bus = ends 1 3 (loads_program flash 0 cpu) bus
memory_effect get put flash (op.LpmZ d) cpu bus = ends 1 3 (loads_program flash d cpu) bus
memory_effect get put flash (op.LpmZInc d) cpu bus = ends 1 3 (loads_program_post_increment flash d cpu) bus
memory_effect get put flash op.ElpmR0 cpu bus = ends 1 3 (loads_extended flash 0 cpu) bus
memory_effect get put flash (op.ElpmZ d) cpu bus = ends 1 3 (loads_extended flash d cpu) bus
memory_effect get put flash (op.ElpmZInc d) cpu bus = ends 1 3 (loads_extended_post_increment flash d cpu) bus
memory_effect get put flash _ cpu bus = ends 0 1 cpu bus  -- no other instruction is executed here
