-- One cycle of a node whose processor only goes on, and in which no device ends anything and no byte arrives.
use Rattle.std.proofs.Common.{◌≡◌, ℕ, ◌++◌, Bool, true, false, cond, Option, None, [], is_some, refl, ap, ◌∙◌, append-nil}
use Rattle.board_io.specs.declared.board.Board.{Board}
use Rattle.board_io.specs.Cycle.{board_asks, board_begun, board_quiet, board_sends, board_serial, timers_leap}
use Rattle.board_io.proofs.Leaps.{asks_quiet, begun_quiet, sends_quiet, serial_quiet}
use Rattle.serial_ports.specs.Script.{script_byte}
use Rattle.node_core.specs.State.{NodeState}
use Rattle.node_core.specs.Cycle.{asks_after, asks_in, begun_in, begun_rows, cpu_cycle, cpu_rows, device_rows, devices_cycle, sends_after, sends_in, sent_rows, serial_rows}

-- ---- a node that runs: its cycle by its two parts
module _ (t : ℕ) (s : NodeState) (going : is_some s.stop ≡ false) where
  pub begun_parts : begun_in t s ≡ devices_cycle t (cpu_cycle t s)
  unfolding begun_in
  begun_parts = ap (λ (b : Bool). cond b s (devices_cycle t (cpu_cycle t s))) going

  pub rows_parts : begun_rows t s ≡ cpu_rows t s ++ device_rows t (cpu_cycle t s)
  unfolding begun_rows
  rows_parts = ap (λ (b : Bool). cond b [] (cpu_rows t s ++ device_rows t (cpu_cycle t s))) going

  pub asks_parts : asks_in t s ≡ asks_after t (cpu_cycle t s)
  unfolding asks_in
  asks_parts = ap (λ (b : Bool). cond b false (asks_after t (cpu_cycle t s))) going

  pub sends_parts : sends_in t s ≡ sends_after t (cpu_cycle t s)
  unfolding sends_in
  sends_parts = ap (λ (b : Bool). cond b None (sends_after t (cpu_cycle t s))) going

-- ---- the devices of a node that runs
module _ (t : ℕ) (s : NodeState) (going : is_some s.stop ≡ false) where
  pub devices_move : devices_cycle t s ≡ record s { board = board_begun t (script_byte s.script t) s.board }
  unfolding devices_cycle
  devices_move = rw going refl

  pub devices_ask : asks_after t s ≡ board_asks t s.board
  unfolding asks_after
  devices_ask = rw going refl

  pub devices_send : sends_after t s ≡ board_sends t s.board
  unfolding sends_after
  devices_send = rw going refl

  pub devices_tell : device_rows t s ≡ serial_rows t s (board_serial t s.board) ++ sent_rows t s (board_sends t s.board)
  unfolding device_rows
  devices_tell = rw going refl

-- ---- a cycle of a node whose processor goes on to u
module _ (t : ℕ) (s u : NodeState) (going : is_some s.stop ≡ false) (still : is_some u.stop ≡ false) (part : cpu_cycle t s ≡ u) (quiet : board_quiet t u.board ≡ true) (none : script_byte u.script t ≡ None) where
  moved_by_timers : board_begun t (script_byte u.script t) u.board ≡ timers_leap t 1 u.board
  moved_by_timers = ap (λ (a : Option ℕ). board_begun t a u.board) none ∙ begun_quiet t u.board quiet

  pub begun_calm : begun_in t s ≡ record u { board = timers_leap t 1 u.board }
  begun_calm =
      begun_parts t s going ∙ (ap (devices_cycle t) part ∙ (devices_move t u still
      ∙ ap (λ (b : Board). let v : NodeState = record u { board = b } in v) moved_by_timers))

  no_device_rows : device_rows t u ≡ []
  no_device_rows =
      devices_tell t u still ∙ (λ i. serial_rows t u (serial_quiet t u.board quiet i) ++ sent_rows t u (sends_quiet t u.board quiet i))

  pub rows_calm : begun_rows t s ≡ cpu_rows t s
  rows_calm = rows_parts t s going ∙ ((λ i. cpu_rows t s ++ (ap (device_rows t) part ∙ no_device_rows) i) ∙ append-nil (cpu_rows t s))

  pub asks_calm : asks_in t s ≡ false
  asks_calm = asks_parts t s going ∙ (ap (asks_after t) part ∙ (devices_ask t u still ∙ asks_quiet t u.board quiet))

  pub sends_calm : sends_in t s ≡ None
  sends_calm = sends_parts t s going ∙ (ap (sends_after t) part ∙ (devices_send t u still ∙ sends_quiet t u.board quiet))
