-- The clock of a node runs on with the cycles, and its state does not show it.
use Rattle.std.proofs.Common.{◌≡◌, ℕ, ◌+◌, ◌<◌, None, List, refl, subst}
use Rattle.avr_decoder.specs.declared.op.Op.{Op}
use Rattle.board_io.specs.Cycle.{timers_leap}
use Rattle.board_io.specs.Lagging.{IsIdle}
use Rattle.board_io.specs.Lines.{lines_of}
use Rattle.board_io.proofs.Radio.{get_clock, put_clock}
use Rattle.data_space.specs.declared.cpu.Cpu.{Cpu}
use Rattle.serial_ports.specs.Script.{script_byte}
use Rattle.node_core.specs.declared.bus.NodeBus.{NodeBus}
use Rattle.node_core.specs.declared.machine.Machine.{Machine}
use Rattle.node_core.specs.Execute.{executed}
use Rattle.node_core.specs.Inside.{IsCalm}
use Rattle.node_core.specs.Interrupts.{entry}
use Rattle.node_core.specs.Shown.{shown}
use Rattle.node_core.proofs.Untouched.{IsUntouched, entry_keeps, executed_keeps}

clock : IsUntouched (λ (bus : NodeBus). bus.io.clock)
clock = record {
  got = λ bus io at x e. get_clock bus.io io at x e;
  put = λ bus io at x e. put_clock bus.io io at x e;
  stored = λ bus i x. refl;
}

-- no instruction moves it, and no entry
pub executed_clock : (flash : List ℕ) (o : Op) (cpu : Cpu) (bus : NodeBus) → (executed flash o cpu bus).bus.io.clock ≡ bus.io.clock
executed_clock flash o cpu bus = executed_keeps clock flash o cpu bus

pub entry_clock : (word : ℕ) (cpu : Cpu) (bus : NodeBus) → (entry word cpu bus).bus.io.clock ≡ bus.io.clock
entry_clock word cpu bus = entry_keeps clock word cpu bus

-- cycles in which the board is idle and no byte arrives
module _ (t n : ℕ) (m : Machine) (at : m.bus.io.clock ≡ t) (idle : IsIdle m.bus.io.clock n m.bus.io.board) where
  here : IsIdle t n m.bus.io.board
  here = subst (λ (u : ℕ). IsIdle u n m.bus.io.board) at idle

  pub calm_of : ((i : ℕ) → i < n → script_byte m.script (t + i) ≡ None) → IsCalm t n (shown m)
  calm_of none = record { ends = here.quiet; none = none }

  pub lines_stay : (i : ℕ) → i < n → lines_of (timers_leap t i (shown m).board) ≡ lines_of (shown m).board
  lines_stay i l = here.same i l
