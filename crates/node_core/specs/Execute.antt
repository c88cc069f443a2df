-- The effect of one instruction on the core and the data space of a node.
use Rattle.std.specs.Prelude.{ℕ, List}
use Rattle.avr_decoder.specs.declared.op.Op.{Op}
use Rattle.avr_decoder.specs.declared.op.Class.{Class}
use Rattle.data_space.specs.declared.cpu.Cpu.{Cpu}
use Rattle.data_space.specs.Sequence.{Outcome}
use Rattle.avr_core.specs.Execute.{executed_over, executed_over_by}
use Rattle.node_core.specs.declared.bus.NodeBus.{NodeBus}
use Rattle.node_core.specs.Bus.{bus_get, bus_put}

abbrev pub executed_by : Class → List ℕ → Op → Cpu → NodeBus → Outcome NodeBus
executed_by k flash o cpu bus = executed_over_by bus_get bus_put k flash o cpu bus

abbrev pub executed : List ℕ → Op → Cpu → NodeBus → Outcome NodeBus
executed flash o cpu bus = executed_over bus_get bus_put flash o cpu bus
