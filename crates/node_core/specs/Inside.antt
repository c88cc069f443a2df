-- What holds of the inside of a node between two calls: an instruction takes at least a cycle, so its count cannot
-- wrap; its clock shows the next cycle of the devices; in the middle of a sample there is room for the row
-- of what is heard, and the transfer that samples runs.
use Rattle.std.specs.Prelude.{◌≡◌, ℕ, ◌+◌, ◌≤◌, ◌<◌, ◌&&◌, nat_le, nat_lt, Bool, true, false, None, is_some, if◌then◌else◌, vec_len, vec_capacity}
use Rattle.air_base.specs.Bounds.{LAST_CYCLE}
use Rattle.node_core.specs.declared.machine.Machine.{Machine}
use Rattle.node_core.specs.State.{NodeState}
use Rattle.board_io.specs.Cycle.{board_quiet, timers_leap}
use Rattle.serial_ports.specs.Script.{script_byte}

pub record IsWhole (cycle : ℕ) (asking : Bool) (m : Machine) : Type 0 where
  pub few : m.count ≤ LAST_CYCLE + cycle + (if asking then 1 else 0)
  pub clock : m.stop ≡ None → m.bus.io.clock ≡ cycle + (if asking then 1 else 0)
  pub early : asking ≡ true → cycle < LAST_CYCLE
  pub room : asking ≡ true → vec_len m.rows < vec_capacity m.rows
  pub waits : asking ≡ true → is_some m.bus.io.board.spi.shift_register ≡ true

-- a node that, at the beginning of cycle t, neither stopped nor waits nor sleeps: it executes an instruction or enters
-- an interrupt, and has room for the row of that
pub record MayAct (t : ℕ) (m : Machine) : Type 0 where
  pub going : m.stop ≡ None
  pub free : m.wait ≡ 0
  pub awake : m.asleep ≡ false
  pub now : m.bus.io.clock ≡ t
  pub few : m.count ≤ LAST_CYCLE + t
  pub early : t ≤ LAST_CYCLE
  pub room : vec_len m.rows < vec_capacity m.rows

-- whether an instruction that begins in cycle t has a row, by the window from `from` on and below `to`
abbrev pub is_told : ℕ → ℕ → ℕ → Bool
is_told from to t = nat_le from t && nat_lt t to

-- n cycles from cycle t on in which the devices end nothing and no byte arrives, as far as the ends that stand now tell
pub record IsCalm (t n : ℕ) (s : NodeState) : Type 0 where
  pub ends : (i : ℕ) → i < n → board_quiet (t + i) s.board ≡ true
  pub none : (i : ℕ) → i < n → script_byte s.script (t + i) ≡ None

-- a node that goes on with an instruction or an entry of n cycles, whose first cycle this is: of that the processor's
-- part is done
pub record IsGoing (n : ℕ) (s : NodeState) : Type 0 where
  pub going : s.stop ≡ None
  pub awake : s.asleep ≡ false
  pub wait : n ≡ s.wait + 1

-- in the middle of cycle t the node at s, which neither stopped nor sleeps, went on to the beginning of the next
-- instruction's first cycle, n cycles later, and is at u: of these cycles the devices' part is done, and they ended
-- nothing
pub record IsPassed (t n : ℕ) (s u : NodeState) : Type 0 where
  pub going : s.stop ≡ None
  pub calm : IsCalm t n s
  pub wait : n ≡ s.wait + 1
  pub after : u ≡ record s { wait = 0; board = timers_leap t n s.board }
