-- A run of a node that stands in the middle of a cycle: of that cycle the processor's part is done, the devices' is
-- not. What that part did, and what the cycles did in which the node only rested.
use Rattle.std.specs.Prelude.{◌≡◌, ◌<◌, ◌≤◌, ◌+◌, ◌-◌, ◌&&◌, nat_le, nat_lt, ℕ, Bool, Option, None, Some, Result, Ok, Err, true, false, is_some, List, [], ◌++◌, vec_len, vec_capacity}
use Rattle.air_base.specs.Bounds.{LAST_CYCLE}
use Rattle.avr_base.specs.declared.stop.StopCause.{StopCause}
use Rattle.node_core.specs.declared.row.Row.{Row}
use Rattle.node_core.specs.declared.row.Kind.TheVariants as kind
use Rattle.air_base.specs.NodeRun.{AllQuiet, Timed, Comes, passed, passed_rows}
use Rattle.data_space.specs.declared.bus.Done.{Done}
use Rattle.data_space.specs.declared.cpu.Core.{Core}
use Rattle.data_space.specs.declared.cpu.Registers.{Registers}
use Rattle.data_space.specs.Core.{whole}
use Rattle.avr_core.specs.declared.instructions.After.{After}
use Rattle.avr_core.specs.declared.instructions.After.TheVariants as after
use Rattle.node_core.specs.declared.machine.Machine.{Machine}
use Rattle.node_core.specs.declared.pace.sprint.Step.{Step}
use Rattle.node_core.specs.declared.pace.sprint.Step.TheVariants.{Single, Plain, Jumped, Loaded, Stored, Enabled, Stopped, Left}
use Rattle.node_core.specs.declared.bus.NodeBus.{NodeBus}
use Rattle.board_io.specs.Lines.{lines_of}
use Rattle.serial_ports.specs.Script.{script_byte}
use Rattle.node_core.specs.Inside.{IsGoing}
use Rattle.node_core.specs.Shown.{shown}
use Rattle.node_core.specs.State.{NodeState}
use Rattle.board_io.specs.Cycle.{timers_leap}
use Rattle.node_core.specs.Cycle.{begins, cpu_cycle, cpu_rows, instructed, instructed_rows, node_kind, row}

-- from v on the node came through quiet cycles to the beginning of cycle c, ran there, and is now at u with rows k
pub record IsMidway (v : Timed NodeState Row) (c : ℕ) (u : NodeState) (k : List Row) : Type 0 where
  pub state : NodeState
  pub rows : List Row
  pub comes : Comes node_kind v c state rows
  pub going : is_some state.stop ≡ false
  pub part : u ≡ cpu_cycle c state
  pub told : k ≡ rows ++ cpu_rows c state

-- the processor's part of a cycle in which it neither waited nor slept: it came to u and told k. Where it answers n,
-- and not 0, the node goes on with an instruction or an entry of n cycles
pub record IsActed (n : ℕ) (u : NodeState) (k : List Row) (old new : Machine) : Type 0 where
  pub state : shown new ≡ u
  pub rows : new.rows.items ≡ old.rows.items ++ k
  pub going : 0 < n → IsGoing n (shown new)
  pub room : vec_capacity new.rows ≡ vec_capacity old.rows
  pub clock : new.bus.io.clock ≡ old.bus.io.clock

-- a node after i cycles of a wait or of sleep, from cycle t on
abbrev pub rested : ℕ → ℕ → NodeState → NodeState
rested t i s = record s { wait = s.wait - i; board = timers_leap t i s.board }

-- n cycles from cycle t on that a node in state s only waits or sleeps, and the timers alone move
pub record OnlyRests (t n : ℕ) (s : NodeState) : Type 0 where
  pub still : (i : ℕ) → i ≤ n → passed node_kind t i s ≡ rested t i s
  pub none : (i : ℕ) → i < n → begins (rested t i s) ≡ false

-- n cycles from cycle t on in which it only waited or slept
pub record IsRested (t n : ℕ) (old new : Machine) : Type 0 where
  pub only : OnlyRests t n (shown old)
  pub quiet : AllQuiet node_kind t n (shown old)
  pub state : shown new ≡ passed node_kind t n (shown old)
  pub rows : passed_rows node_kind t n (shown old) ≡ []
  pub same : new.rows ≡ old.rows
  pub stop : new.stop ≡ None
  pub count : new.count ≡ old.count
  pub clock : new.bus.io.clock ≡ t + n

-- an instruction of n cycles was executed whole in its first one, t, and told nothing; that it then waits is not kept
pub record IsStepped (t n : ℕ) (old new : Machine) : Type 0 where
  pub some : 0 < n
  pub state : (let u : NodeState = record (shown new) { wait = n - 1 } in u) ≡ instructed t (shown old)
  pub told : instructed_rows t (shown old) ≡ []
  pub same : new.rows ≡ old.rows
  pub going : new.stop ≡ None
  pub awake : new.asleep ≡ false
  pub free : new.wait ≡ 0
  pub opens : new.from ≡ old.from
  pub closes : new.to ≡ old.to
  pub script : new.script ≡ old.script
  pub count : new.count ≡ old.count + 1
  pub clock : new.bus.io.clock ≡ old.bus.io.clock

-- an instruction stopped in its first cycle, t; the row and the stop are still to be told
pub record IsStopping (t : ℕ) (cause : StopCause) (old new : Machine) : Type 0 where
  pub state : (let u : NodeState = record (shown new) { stop = Some cause } in u) ≡ instructed t (shown old)
  pub told : row t (shown new) (kind.Stop new.cpu.pc cause) ≡ instructed_rows t (shown old)
  pub same : new.rows ≡ old.rows
  pub count : new.count ≡ old.count
  pub clock : new.bus.io.clock ≡ old.bus.io.clock

-- whether the flag I was turned on
abbrev pub turned_on : ℕ → ℕ → Bool
turned_on before after = nat_lt before 128 && nat_le 128 after

abbrev pub owing : Bool → Machine → Machine
owing b m = record m { owed = b }

-- a machine whose core has these parts, which stand beside it
abbrev pub beside : Registers → Core → Machine → Machine
beside regs core m = record m { cpu = whole regs core }

-- and whose data space and count are these
abbrev pub over : Registers → Core → NodeBus → ℕ → Machine → Machine
over regs core bus count m = record m { cpu = whole regs core; bus = bus; count = count }

-- a step of a sprint, by what an instruction may leave and how it ended, if it is one that is executed
abbrev pub step_of : After → Option (Result Done StopCause) → Step
step_of k None = Left
step_of k (Some (Err cause)) = Stopped cause
step_of after.Single (Some (Ok d)) = Single
step_of after.Nothing (Some (Ok d)) = Plain d.cycles
step_of after.Back (Some (Ok d)) = Jumped d.cycles
step_of after.Loaded (Some (Ok d)) = Loaded d.cycles
step_of after.Store (Some (Ok d)) = Stored d.cycles
step_of after.Enabled (Some (Ok d)) = Enabled d.cycles

-- how many instructions were executed, by what the last reported
abbrev pub counted : Option (Result Done StopCause) → ℕ → ℕ
counted (Some (Ok d)) n = n + 1
counted _ n = n

-- what a step of a sprint did in cycle t, and whether an instruction is owed behind it
abbrev pub IsStep : ℕ → Step → Machine → Machine → Type 0
IsStep t Single old new = IsStepped t 1 old (owing false new)
IsStep t (Plain n) old new = IsStepped t n old (owing false new)
IsStep t (Jumped n) old new = IsStepped t n old (owing false new)
IsStep t (Loaded n) old new = IsStepped t n old (owing false new)
IsStep t (Stored n) old new = IsStepped t n old (owing (turned_on old.cpu.sreg.bits new.cpu.sreg.bits) new)
IsStep t (Enabled n) old new = IsStepped t n old (owing true new)
IsStep t (Stopped cause) old new = IsStopping t cause old new
IsStep t Left old new = new ≡ old

-- whether a step leaves the flag I as it was
abbrev pub leaves_i : Step → Bool
leaves_i Single = true
leaves_i (Plain n) = true
leaves_i (Jumped n) = true
leaves_i (Loaded n) = true
leaves_i _ = false

-- whether a step accesses no device
abbrev pub leaves_board : Step → Bool
leaves_board Single = true
leaves_board (Plain n) = true
leaves_board (Jumped n) = true
leaves_board _ = false

-- from cycle t on it executed instruction after instruction, told none, and stands at the beginning of cycle `at`
pub record IsSprinting (t at : ℕ) (old m : Machine) : Type 0 where
  pub from : t ≤ at
  pub comes : Comes node_kind (record { cycle = t; asking = false; state = shown old; rows = old.rows.items }) at (shown m) m.rows.items
  pub going : m.stop ≡ None
  pub free : m.wait ≡ 0
  pub awake : m.asleep ≡ false
  pub opens : m.from ≡ old.from
  pub closes : m.to ≡ old.to
  pub clock : m.bus.io.clock ≡ at
  pub script : m.script ≡ old.script
  pub count : m.count ≤ LAST_CYCLE + at
  pub rows : m.rows ≡ old.rows

-- a machine of which a sprint up to `end`, below which no byte arrives, executed an instruction of n cycles: this is the
-- first of them
pub record MayEnd (end n : ℕ) (m : Machine) : Type 0 where
  pub some : 0 < n
  pub early : m.bus.io.clock ≤ LAST_CYCLE
  pub within : m.bus.io.clock ≤ end
  pub none : (i : ℕ) → m.bus.io.clock + i < end → script_byte m.script (m.bus.io.clock + i) ≡ None

-- a sprint from cycle t on, of at most up to `end`, between two instructions: no line is up, or the flag I is off. Parts of the core stand
-- beside the machine, which says of no instruction that it is owed; one is, up to this count of them
pub record IsTurning (t end : ℕ) (first m : Machine) (regs : Registers) (core : Core) (owed_to : ℕ) : Type 0 where
  pub within : m.bus.io.clock ≤ end
  pub off : m.owed ≡ false
  pub clear : nat_lt core.sreg.bits 128 ≡ false → (lines_of m.bus.io.board).bits ≡ 0
  pub top : owed_to ≤ m.count + 1
  pub runs : IsSprinting t m.bus.io.clock first (owing (nat_lt m.count owed_to) (beside regs core m))

-- from cycle t on it executed instruction after instruction, and came to the beginning of cycle c, or, where it is
-- inside, to the middle of it
pub record IsSprinted (t c : ℕ) (inside : Bool) (old new : Machine) : Type 0 where
  pub comes : inside ≡ false → Comes node_kind (record { cycle = t; asking = false; state = shown old; rows = old.rows.items }) c (shown new) new.rows.items
  pub midway : inside ≡ true → IsMidway (record { cycle = t; asking = false; state = shown old; rows = old.rows.items }) c (shown new) new.rows.items
  pub same : inside ≡ false → new.rows ≡ old.rows
  pub len : vec_len new.rows ≤ vec_len old.rows + 1
  pub room : vec_capacity new.rows ≡ vec_capacity old.rows
  pub script : inside ≡ false → new.script ≡ old.script
  pub going : inside ≡ false → new.stop ≡ None
  pub awake : inside ≡ false → new.asleep ≡ false
  pub free : inside ≡ false → new.wait ≡ 0
  pub clock : new.bus.io.clock ≡ c
  pub few : inside ≡ false → new.count ≤ LAST_CYCLE + c
  pub one_more : new.count ≤ LAST_CYCLE + c + 1
  pub from : t ≤ c
