-- A push and the pop behind it, and a call and the return behind it, in the SRAM of a node. The second instruction
-- finds the bus that it would find had the board been there from the first on.
use Rattle.std.proofs.Common.{◌≡◌, ℕ, ◌+◌, ◌-◌, ◌/◌, ◌%◌, true, List, ap, ◌∙◌, arith}
use Rattle.avr_decoder.specs.declared.op.Op.{Op}
use Rattle.avr_decoder.specs.declared.op.Op.TheVariants as op
use Rattle.board_io.specs.declared.clocked.ClockedBoard.{ClockedBoard}
use Rattle.data_space.specs.declared.cpu.Cpu.{Cpu}
use Rattle.data_space.specs.Core.{advanced, with_reg}
use Rattle.data_space.specs.Sequence.{Outcome}
use Rattle.avr_core.specs.FlowShapes.{calls}
use Rattle.avr_core.specs.FlowTable.{flow_effect}
use Rattle.avr_core.specs.MemoryTable.{memory_effect}
use Rattle.node_core.specs.declared.bus.NodeBus.{NodeBus}
use Rattle.node_core.specs.Bus.{bus_get, bus_put, with_io}
use Rattle.instruction_laws.specs.Branches.{reg}
use Rattle.instruction_laws.specs.Stack.{IsStack, TakesReturn, ended}
use Rattle.instruction_laws.specs.Sram.{HasStack, has_sram, node_accesses, sram_first, sram_last, with_byte, with_return}
use Rattle.instruction_laws.proofs.Returns.{call_done, pop_done, push_done, return_done}
use Rattle.instruction_laws.proofs.Sram.{memory, put_done}

stack_of : (room : ℕ) (cpu : Cpu) → HasStack room cpu → IsStack node_accesses has_sram sram_first sram_last room cpu
stack_of room cpu within = record { memory = memory; behind = omega arith; small = omega arith; within = within }

module _ (flash : List ℕ) (cpu : Cpu) (bus : NodeBus) (io : ClockedBoard) (sound : has_sram bus ≡ true) where
  abbrev later : NodeBus
  later = with_io bus io

  pub push_pop : (r d : ℕ) → HasStack 1 cpu
      → (let pushed = memory_effect bus_get bus_put flash (op.Push r) cpu bus in memory_effect bus_get bus_put flash (op.Pop d) pushed.cpu (with_io pushed.bus io))
      ≡ ended 2 (advanced 2 (with_reg d (reg r cpu) cpu)) (with_io (with_byte cpu.sp (reg r cpu) bus) io)
  push_pop r d within =
      let stack = stack_of 1 cpu within in
      let taken = λ (b : NodeBus). put_done b cpu.sp (reg r cpu) (omega (arith, within.low)) within.high in
      ap (λ (it : Outcome NodeBus). memory_effect bus_get bus_put flash (op.Pop d) it.cpu (with_io it.bus io))
      (push_done node_accesses has_sram sram_first sram_last flash r d cpu bus (with_byte cpu.sp (reg r cpu) bus) stack sound (taken bus))
      ∙ pop_done node_accesses has_sram sram_first sram_last flash r d cpu later (with_byte cpu.sp (reg r cpu) later) stack sound (taken later)

  module _ (words : ℕ) (within : HasStack 2 cpu) where
    abbrev with_low : NodeBus → NodeBus
    with_low = with_byte cpu.sp ((cpu.pc + words) % 65536 % 256)

    takes : (b : NodeBus) → TakesReturn node_accesses words cpu b (with_low b) (with_return words cpu b)
    takes b = record {
      low = put_done b cpu.sp ((cpu.pc + words) % 65536 % 256) (omega (arith, within.low)) within.high;
      high = put_done (with_low b) (cpu.sp - 1) ((cpu.pc + words) % 65536 / 256) (omega (arith, within.low)) (omega (arith, within.high));
    }

    pub comes_back : (call : Op) (cycles : ℕ) (target : Cpu → ℕ) → flow_effect bus_get bus_put flash call cpu bus ≡ calls bus_put cycles words target cpu bus
        → (let called = flow_effect bus_get bus_put flash call cpu bus in flow_effect bus_get bus_put flash op.Ret called.cpu (with_io called.bus io))
        ≡ ended 4 (advanced words cpu) (with_io (with_return words cpu bus) io)
    comes_back call cycles target e =
        let stack = stack_of 2 cpu within in
        ap (λ (it : Outcome NodeBus). flow_effect bus_get bus_put flash op.Ret it.cpu (with_io it.bus io))
        (call_done node_accesses has_sram sram_first sram_last flash words cpu bus (with_low bus) (with_return words cpu bus) stack sound (takes bus) call cycles target e)
        ∙ return_done node_accesses has_sram sram_first sram_last flash words cpu later (with_low later) (with_return words cpu later) stack sound (takes later) _
