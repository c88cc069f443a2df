-- Serving an interrupt (ATmega128 datasheet, "Reset and Interrupt Handling"): the program counter is pushed, its low
-- byte first, the flag I is cleared, and the program goes on at the vector.
use Rattle.std.specs.Prelude.{ℕ, false, Option}
use Rattle.avr_base.specs.Flags.{I, with_flag}
use Rattle.board_io.specs.Lines.{lines_of}
use Rattle.data_space.specs.declared.cpu.Cpu.{Cpu}
use Rattle.data_space.specs.Space.{Access, takes}
use Rattle.data_space.specs.Sequence.{pushed_word, then_do}
use Rattle.avr_base.specs.declared.interrupts.Vector.{Vector}
use Rattle.avr_base.specs.Lines.{due_of}
use Rattle.node_core.specs.declared.bus.NodeBus.{NodeBus}
use Rattle.node_core.specs.Bus.{bus_put}
use Rattle.node_core.specs.State.{NodeState}

-- the interrupt that is due
abbrev pub due : NodeState → Option Vector
due s = due_of s.cpu.sreg.bits (lines_of s.board)

abbrev pub vectored : ℕ → Cpu → Cpu
vectored word cpu = record cpu { pc = word; sreg = record { bits = with_flag cpu.sreg.bits I false } }

-- where a push stops, the one before it stays and nothing follows
unfoldable pub entry : ℕ → Cpu → NodeBus → Access (Unit {0}) NodeBus
entry word cpu bus =
    let back = pushed_word bus_put cpu.pc cpu bus in
    then_do back back.result (λ _ cpu bus. takes (vectored word cpu) bus)
