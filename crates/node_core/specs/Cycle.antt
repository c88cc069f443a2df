-- One cycle of a node: first the processor's part, then the devices'. A cycle is split at its sample of the air: what
-- it does before, whether it looks, and what it does with what it heard. The effects of an instruction fall into its
-- first cycle; its other cycles count off (AVR Instruction Set Manual, "Cycles"; ATmega128 datasheet, "Interrupt
-- Response Time", "Sleep Modes").
use Rattle.std.specs.Prelude.{ℕ, ◌+◌, ◌-◌, ◌%◌, ◌==◌, ◌&&◌, ◌||◌, nat_le, nat_lt, if◌then◌else◌, List, [], ◌∷◌, ◌++◌, Bool, true, false, Option, Some, None, is_some, not, Result, Ok, Err}
use Rattle.avr_base.specs.declared.stop.StopCause.{StopCause}
use Rattle.avr_base.specs.declared.stop.StopCause.TheVariants as stop
use Rattle.avr_decoder.specs.declared.op.Op.{Op}
use Rattle.avr_decoder.specs.declared.op.Op.TheVariants as op
use Rattle.avr_decoder.specs.Opcodes.{op_at}
use Rattle.board_io.specs.Board.{sleep_mode}
use Rattle.board_io.specs.Cycle.{board_air, board_answered, board_asks, board_begun, board_sends, board_serial}
use Rattle.board_io.specs.declared.cycle.OnAir.{OnAir}
use Rattle.board_io.specs.declared.cycle.OnAir.TheVariants.{Quiet}
use Rattle.board_io.specs.declared.board.Sleep.{Sleep}
use Rattle.board_io.specs.declared.board.Sleep.TheVariants.{Off, Idle, Other}
use Rattle.board_io.specs.Lines.{entered_of}
use Rattle.data_space.specs.declared.cpu.Cpu.{Cpu}
use Rattle.data_space.specs.declared.bus.Done.{Done}
use Rattle.data_space.specs.Space.{Access}
use Rattle.ihex_loader.specs.Flash.{word_at}
use Rattle.avr_base.specs.declared.interrupts.Vector.{Vector}
use Rattle.node_core.specs.declared.row.Row.{Row}
use Rattle.node_core.specs.declared.row.Kind.{Kind as RowKind}
use Rattle.node_core.specs.declared.row.Kind.TheVariants as kind
use Rattle.node_core.specs.declared.row.NodeEnd.{NodeEnd}
use Rattle.node_core.specs.declared.row.NodeEnd.TheVariants as end
use Rattle.air_base.specs.declared.air.Heard.{Heard}
use Rattle.air_base.specs.NodeKind.{NodeKind}
use Rattle.node_core.specs.declared.bus.NodeBus.{NodeBus}
use Rattle.node_core.specs.Bus.{bus_at, with_bus}
use Rattle.node_core.specs.State.{NodeState}
use Rattle.avr_core.specs.Execute.{is_sleep}
use Rattle.node_core.specs.Execute.{executed}
use Rattle.node_core.specs.Interrupts.{due, entry}
use Rattle.serial_ports.specs.Script.{script_byte}

abbrev pub row : ℕ → NodeState → RowKind → List Row
row t s kind = (record { cycle = t; node = s.number; kind = kind }) ∷ []

-- a row that exists inside the window alone
abbrev pub row_within : ℕ → NodeState → RowKind → List Row
row_within t s kind = if nat_le s.from t && nat_lt t s.to then row t s kind else []

-- the word at the program counter, and the one after it: after word 0xFFFF comes word 0
abbrev pub first_word : NodeState → ℕ
first_word s = word_at s.flash s.cpu.pc

abbrev pub second_word : NodeState → ℕ
second_word s = word_at s.flash ((s.cpu.pc + 1) % 65536)

abbrev pub op_now : NodeState → Op
op_now s = op_at (first_word s) (second_word s)

-- SEI and RETI: the instruction after them is executed before any interrupt
abbrev pub is_sei : Op → Bool
is_sei (op.Bset s) = s == 7
is_sei op.Reti = true
is_sei _ = false

-- whether one instruction is owed: after SEI and RETI, and after one that turned the flag I from 0 to 1
abbrev pub owes : Op → ℕ → ℕ → Bool
owes o before after = is_sei o || (nat_lt before 128 && nat_le 128 after)

abbrev pub is_idle : Sleep → Bool
is_idle Off = false
is_idle Idle = true
is_idle Other = false

abbrev pub is_other : Sleep → Bool
is_other Off = false
is_other Idle = false
is_other Other = true

-- SLEEP in a mode other than idle
abbrev pub is_refused : NodeState → Op → Bool
is_refused s o = is_sleep o && is_other (sleep_mode s.board)

-- after an instruction, by how it ended. One that stops is not counted, and leaves the wait and what is owed
abbrev pub after_instruction : NodeState → Op → Result Done StopCause → Cpu → NodeBus → NodeState
after_instruction s o (Ok d) cpu bus = record (with_bus bus s) {
  cpu = cpu;
  wait = d.cycles - 1;
  owed = owes o s.cpu.sreg.bits cpu.sreg.bits;
  asleep = d.sleep && is_idle (sleep_mode bus.io.board);
  count = s.count + 1;
}
after_instruction s o (Err cause) cpu bus = record (with_bus bus s) { cpu = cpu; stop = Some cause }

-- a Stop row stands in place of the Instr row of an instruction that stops
abbrev pub instruction_rows : ℕ → NodeState → Result Done StopCause → List Row
instruction_rows t s (Ok d) = row_within t s (kind.Instr s.cpu.pc (first_word s) (second_word s))
instruction_rows t s (Err cause) = row t s (kind.Stop s.cpu.pc cause)

-- an instruction whose first cycle is t
unfoldable pub instructed : ℕ → NodeState → NodeState
instructed t s =
    if is_refused s (op_now s) then record s { stop = Some stop.SleepMode }
    else (let o = executed s.flash (op_now s) s.cpu (bus_at t s) in after_instruction s (op_now s) o.result o.cpu o.bus)

unfoldable pub instructed_rows : ℕ → NodeState → List Row
instructed_rows t s =
    if is_refused s (op_now s) then row t s (kind.Stop s.cpu.pc stop.SleepMode)
    else instruction_rows t s (executed s.flash (op_now s) s.cpu (bus_at t s)).result

-- after an interrupt was entered, by how that ended. It wakes the node; one that stops leaves the wait, what is owed
-- and the sleep
abbrev pub after_entry : ℕ → Vector → NodeState → Access (Unit {0}) NodeBus → Result (Unit {0}) StopCause → NodeState
after_entry wait v s a (Ok done) = record s { cpu = a.cpu; board = entered_of v.word a.bus.io.board; sram = a.bus.sram; wait = wait; asleep = false }
after_entry wait v s a (Err cause) = record (with_bus a.bus s) { cpu = a.cpu; stop = Some cause }

abbrev pub entry_rows : ℕ → Vector → NodeState → Result (Unit {0}) StopCause → List Row
entry_rows t v s (Ok done) = row_within t s (kind.Enter v.word s.cpu.pc)
entry_rows t v s (Err cause) = row t s (kind.Stop s.cpu.pc cause)

-- an interrupt is entered in cycle t, which goes on for so many cycles more
unfoldable pub entered : ℕ → ℕ → Vector → NodeState → NodeState
entered t wait v s = let a = entry v.word s.cpu (bus_at t s) in after_entry wait v s a a.result

unfoldable pub entered_rows : ℕ → Vector → NodeState → List Row
entered_rows t v s = entry_rows t v s (entry v.word s.cpu (bus_at t s)).result

-- an instruction begins in the cycle that this state begins: the node neither stopped nor waits nor sleeps, and enters no
-- interrupt. One that stops the node begins too
abbrev pub begins : NodeState → Bool
begins s = not (is_some s.stop) && (s.wait == 0 && (not s.asleep && (s.owed || not (is_some (due s)))))

-- its address, where one begins
abbrev pub begun_at : NodeState → Option ℕ
begun_at s = if begins s then Some s.cpu.pc else None

-- what a processor does that waits for nothing, by what is due: an interrupt is entered in four cycles, from sleep in
-- eight; not before the instruction that is owed. Only what is due wakes a node that sleeps
abbrev pub acted : ℕ → NodeState → Option Vector → NodeState
acted t s None = if s.asleep then s else instructed t s
acted t s (Some v) = if s.asleep then entered t 7 v s else if s.owed then instructed t s else entered t 3 v s

abbrev pub acted_rows : ℕ → NodeState → Option Vector → List Row
acted_rows t s None = if s.asleep then [] else instructed_rows t s
acted_rows t s (Some v) = if s.asleep then entered_rows t v s else if s.owed then instructed_rows t s else entered_rows t v s

-- the processor's part: cycles of the last instruction or entry are counted off first
unfoldable pub cpu_cycle : ℕ → NodeState → NodeState
cpu_cycle t s = if nat_lt 0 s.wait then record s { wait = s.wait - 1 } else acted t s (due s)

unfoldable pub cpu_rows : ℕ → NodeState → List Row
cpu_rows t s = if nat_lt 0 s.wait then [] else acted_rows t s (due s)

-- the devices' part. A node that stopped in this cycle does not reach it
unfoldable pub devices_cycle : ℕ → NodeState → NodeState
devices_cycle t s = if is_some s.stop then s else record s { board = board_begun t (script_byte s.script t) s.board }

-- the cycle up to its sample. A stopped node does nothing more
unfoldable pub begun_in : ℕ → NodeState → NodeState
begun_in t s = if is_some s.stop then s else devices_cycle t (cpu_cycle t s)

abbrev pub serial_rows : ℕ → NodeState → Option ℕ → List Row
serial_rows t s None = []
serial_rows t s (Some byte) = row t s (kind.Serial byte)

abbrev pub sent_rows : ℕ → NodeState → Option ℕ → List Row
sent_rows t s None = []
sent_rows t s (Some byte) = row t s (kind.Sent byte)

-- what the radio does on the air once the processor's part is done, whether it samples, what it sends, and the rows of
-- the devices' part
unfoldable pub air_after : ℕ → NodeState → OnAir
air_after t s = if is_some s.stop then Quiet else board_air t s.board

unfoldable pub asks_after : ℕ → NodeState → Bool
asks_after t s = if is_some s.stop then false else board_asks t s.board

unfoldable pub sends_after : ℕ → NodeState → Option ℕ
sends_after t s = if is_some s.stop then None else board_sends t s.board

unfoldable pub device_rows : ℕ → NodeState → List Row
device_rows t s =
    if is_some s.stop then []
    else serial_rows t s (board_serial t s.board) ++ sent_rows t s (board_sends t s.board)

unfoldable pub asks_in : ℕ → NodeState → Bool
asks_in t s = if is_some s.stop then false else asks_after t (cpu_cycle t s)

unfoldable pub sends_in : ℕ → NodeState → Option ℕ
sends_in t s = if is_some s.stop then None else sends_after t (cpu_cycle t s)

unfoldable pub begun_rows : ℕ → NodeState → List Row
begun_rows t s = if is_some s.stop then [] else cpu_rows t s ++ device_rows t (cpu_cycle t s)

-- the rest of a cycle that looks at the air
abbrev pub finished_in : ℕ → NodeState → Heard → NodeState
finished_in t s heard = record s { board = board_answered heard s.board }

abbrev pub finished_rows : ℕ → NodeState → Heard → List Row
finished_rows t s heard = row t s (kind.Heard heard)

abbrev pub end_of : NodeState → NodeEnd
end_of s = if is_some s.stop then end.Stopped else if s.asleep then end.Asleep else end.Running

-- the last row of a run up to a cycle limit
abbrev pub end_row : ℕ → NodeState → Row
end_row limit s = record { cycle = limit; node = s.number; kind = kind.End (end_of s) s.count }

-- the node, as the order of all nodes sees it
abbrev pub node_kind : NodeKind NodeState Row
node_kind = record {
  asks = asks_in;
  sends = sends_in;
  begun = begun_in;
  begun_rows = begun_rows;
  finished = finished_in;
  finished_rows = finished_rows;
  is_stopped = λ s. is_some s.stop;
  row_cycle = λ r. r.cycle;
  end_row = end_row;
}
