-- Loops that wait: rounds of instructions that leave a node as it is but for the cycle, the count of instructions and
-- what the timers count.
use Rattle.std.specs.Prelude.{◌≡◌, ◌≢◌, ◌≤◌, ◌<◌, ◌+◌, ◌-◌, ◌*◌, ◌/◌, ◌%◌, ℕ, suc, nat_le, if◌then◌else◌, slice_index, Bool, true, false, None, List, Ok}
use Rattle.avr_base.specs.Lines.{due_of}
use Rattle.avr_decoder.specs.declared.op.Op.{Op}
use Rattle.avr_decoder.specs.declared.op.Op.TheVariants as op
use Rattle.board_io.specs.Board.{clocked}
use Rattle.board_io.specs.Cycle.{timers_leap}
use Rattle.board_io.specs.Lines.{lines_of}
use Rattle.data_space.specs.declared.bus.Done.{Done}
use Rattle.data_space.specs.declared.cpu.Cpu.{Cpu}
use Rattle.data_space.specs.Core.{advanced, with_reg}
use Rattle.data_space.specs.Sequence.{Outcome, done}
use Rattle.node_core.specs.declared.bus.NodeBus.{NodeBus}
use Rattle.node_core.specs.declared.pace.countdowns.Countdown.{Countdown}
use Rattle.node_core.specs.declared.pace.countdowns.Lowering.{Lowering}
use Rattle.node_core.specs.declared.pace.leaps.Round.{Round}
use Rattle.node_core.specs.declared.machine.Machine.{Machine}
use Rattle.node_core.specs.Bus.{bus_get, with_io}
use Rattle.avr_core.specs.Execute.{is_sleep}
use Rattle.node_core.specs.Cycle.{is_sei, op_now, owes}
use Rattle.node_core.specs.Execute.{executed}
use Rattle.node_core.specs.Shown.{shown}

-- a jump, a branch or a skip by the core alone
abbrev pub is_steering : Op → Bool
is_steering (op.Rjmp k) = true
is_steering (op.Brbs s k) = true
is_steering (op.Brbc s k) = true
is_steering (op.Cpse d r) = true
is_steering (op.Sbrs r b) = true
is_steering (op.Sbrc r b) = true
is_steering _ = false

-- an instruction that loads one byte, from this data address
abbrev pub IsLoad : Op → ℕ → Type 0
IsLoad (op.Sbis a b) at = at ≡ a + 0x20
IsLoad (op.Sbic a b) at = at ≡ a + 0x20
IsLoad (op.InIo d a) at = at ≡ a + 0x20
IsLoad (op.Lds d k) at = at ≡ k
IsLoad _ at = ⊥

-- the data space n cycles after cycle t in which the timers alone moved, with a clock that shows u
abbrev pub bus_later : ℕ → ℕ → ℕ → NodeBus → NodeBus
bus_later u t n bus = with_io bus (clocked u (timers_leap t n bus.io.board))

-- a load gives this byte and changes nothing, however far the timers ran
pub record LoadsStill (bus : NodeBus) (at : ℕ) : Type 0 where
  pub byte : ℕ
  pub gives : (u t n : ℕ) → bus_get (bus_later u t n bus) at ≡ Ok (byte, bus_later u t n bus)

-- an instruction changes the core alone, and does so in the same way however far the timers ran
pub record IsStill (o : Op) (bus : NodeBus) : Type 0 where
  pub wakes : is_sleep o ≡ false
  pub reached : List ℕ → Cpu → Done × Cpu
  pub does : (flash : List ℕ) (cpu : Cpu) (u t n : ℕ)
      → executed flash o cpu (bus_later u t n bus) ≡ (let a : Outcome NodeBus = record { result = Ok (reached flash cpu).0; cpu = (reached flash cpu).1; bus = bus_later u t n bus } in a)

-- SBIS or SBIC goes on with the next word where the byte that it loads, of a device's register, is x
pub record GoesOnBy (o : Op) (x : ℕ) : Type 0 where
  pub wakes : is_sleep o ≡ false
  pub settled : is_sei o ≡ false
  pub goes : (flash : List ℕ) (cpu : Cpu) (bus : NodeBus) (at : ℕ) → IsLoad o at → bus_get bus at ≡ Ok (x, bus)
      → (let a : Outcome NodeBus = record { result = Ok (done 1); cpu = advanced 1 cpu; bus = bus } in a) ≡ executed flash o cpu bus

-- one such instruction of n cycles, where nothing is due, takes the core of a node from one to another, and owes none
pub record IsStillStep (n : ℕ) (m : Machine) (from to : Cpu) : Type 0 where
  pub none : due_of from.sreg.bits (lines_of m.bus.io.board) ≡ None
  pub some : 1 ≤ n
  pub op : Op
  pub fetched : op ≡ op_now (shown (let x : Machine = record m { cpu = from } in x))
  pub wakes : is_sleep op ≡ false
  pub settled : false ≡ owes op from.sreg.bits to.sreg.bits
  pub does : (u t i : ℕ)
      → (let a : Outcome NodeBus = record { result = Ok (done n); cpu = to; bus = bus_later u t i m.bus } in a) ≡ executed m.program.bytes op from (bus_later u t i m.bus)

-- such instructions one behind another, so many of so many cycles in all, from one core to another
pub data Walk (m : Machine) (head : Cpu) : ℕ → ℕ → Cpu → Type 0 where
  stays : Walk m head 0 0 head
  goes : (length count n : ℕ) (from to : Cpu) → Walk m head length count from → IsStillStep n m from to → Walk m head (length + n) (count + 1) to

-- a round that leads from the core of a node back to it
pub record IsRound (m : Machine) (r : Round) : Type 0 where
  pub some : 0 < r.length
  pub few : r.count ≤ r.length
  pub walk : Walk m m.cpu r.length r.count m.cpu

-- ---- loops that count a number down
-- the loop counter of two bytes in register d, the low one, and e; with this number there, the low byte put first
abbrev pub counter_at : ℕ → ℕ → Cpu → ℕ
counter_at d e cpu = slice_index cpu.r d + 256 * slice_index cpu.r e

abbrev pub with_counter : ℕ → ℕ → ℕ → Cpu → Cpu
with_counter d e value cpu = with_reg e (value / 256) (with_reg d (value % 256) cpu)

-- how often a number can be lowered by one while it is not 0 afterwards, and stays on its side of half
abbrev pub spared : ℕ → ℕ → ℕ
spared half value = if nat_le half value then value - half else value - 1

-- how many times instructions lower a loop counter by one in the same way: not below 0
pub record IsSpare (cpu : Cpu) (l : Lowering) : Type 0 where
  pub other : l.high ≢ l.low
  pub few : l.spare ≤ counter_at l.low l.high cpu

-- the loop counter lowered j times
abbrev pub lowered : Lowering → ℕ → Cpu → Cpu → Cpu
lowered l j head cpu = with_counter l.low l.high (counter_at l.low l.high head - j) cpu

-- an instruction lowers a loop counter by one, and does so in the same way also where that stands up to `spare` lower
pub record IsLowering (o : Op) (from : Cpu) (l : Lowering) : Type 0 where
  pub spare : IsSpare from l
  pub steps : (m : Machine) (n : ℕ) (to : Cpu) → o ≡ op_now (shown (let x : Machine = record m { cpu = from } in x)) → IsStillStep n m from to
      → (j : ℕ) → j < l.spare → IsStillStep n m (lowered l j from from) (lowered l (suc j) from to)

-- so do two, one behind the other
pub record IsLongLowering (o p : Op) (from : Cpu) (l : Lowering) : Type 0 where
  pub spare : IsSpare from l
  pub steps : (m : Machine) (n k : ℕ) (mid to : Cpu) → o ≡ op_now (shown (let x : Machine = record m { cpu = from } in x)) → p ≡ op_now (shown (let x : Machine = record m { cpu = mid } in x))
      → IsStillStep n m from mid → IsStillStep k m mid to → from.sreg.bits < 256
      → (j : ℕ) → j < l.spare → Walk m (lowered l j from from) (n + k) 2 (lowered l (suc j) from to)

-- what an instruction does has nothing to do with registers d and e
pub record IsBeside (d e : ℕ) (o : Op) : Type 0 where
  pub apart : (flash : List ℕ) (cpu : Cpu) (y : ℕ) (bus : NodeBus)
      → executed flash o (with_counter d e y cpu) bus ≡ (let a : Outcome NodeBus = record (executed flash o cpu bus) { cpu = with_counter d e y (executed flash o cpu bus).cpu } in a)

-- a round leads from one core to another and lowers a loop counter by one, also where that stands up to `spare` lower
pub record IsCountdown (m : Machine) (from to : Cpu) (c : Countdown) : Type 0 where
  pub some : 0 < c.round.length
  pub few : c.round.count ≤ c.round.length
  pub short : c.round.length ≤ 255 * c.round.count
  pub spare : IsSpare from c.lowering
  pub walks : (j : ℕ) → j < c.lowering.spare
      → Walk m (lowered c.lowering j from from) c.round.length c.round.count (lowered c.lowering (suc j) from to)
