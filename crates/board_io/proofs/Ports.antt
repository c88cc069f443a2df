-- A cycle of the board: its timers, and then what looks at none.
use Rattle.std.proofs.Common.{◌≡◌, ℕ, suc, ◌+◌, ◌-◌, ◌≤◌, Option, Some, None, refl, ap, ◌∙◌, arith}
use Rattle.board_io.specs.declared.board.Board.{Board}
use Rattle.board_io.specs.declared.cycle.OnAir.{OnAir}
use Rattle.board_io.specs.Cycle.{air_of, board_air, board_begun, board_serial, moved, moved_by, ports_begun, timers_cycle, timers_leap, usart_cycle, with_moved}
use Rattle.serial_ports.specs.declared.radio.TransferOutcome.{TransferOutcome}
use Rattle.serial_ports.specs.declared.radio.Radio.{Radio}
use Rattle.serial_ports.specs.Transmission.{ended_byte}
use Rattle.board_io.proofs.Leaps.{leap_next}

by_timers : (t : ℕ) (o : Option ℕ) (b : Board) → moved_by t o (timers_cycle t b) ≡ moved_by t o b
by_timers t None b = refl
by_timers t (Some byte) b = refl

moved_timers : (t : ℕ) (b : Board) → moved t (timers_cycle t b) ≡ moved t b
moved_timers t b = by_timers t (ended_byte b.spi.shift_register t) b

pub begun_ports : (t : ℕ) (a : Option ℕ) (b c new : Board) → c ≡ timers_cycle t b → new ≡ ports_begun t a c → new ≡ board_begun t a b
unfolding ports_begun board_begun
begun_ports t a b c new ticked is =
    is ∙ (ap (ports_begun t a) ticked ∙ ap (λ (m : Option (TransferOutcome × Radio)). with_moved m (usart_cycle t a (timers_cycle t b))) (moved_timers t b))

pub serial_ports : (t : ℕ) (b c : Board) (r : Option ℕ) → c ≡ timers_cycle t b → r ≡ board_serial t c → r ≡ board_serial t b
unfolding board_serial
serial_ports t b c r ticked is = is ∙ ap (board_serial t) ticked

pub air_ports : (t : ℕ) (b c : Board) (r : OnAir) → c ≡ timers_cycle t b → r ≡ board_air t c → r ≡ board_air t b
unfolding board_air
air_ports t b c r ticked is = is ∙ (ap (board_air t) ticked ∙ ap air_of (moved_timers t b))

-- a leap that takes the cycle of the clock with it
pub leap_with : (s t n : ℕ) (b : Board) → s ≤ t → n ≡ t + 1 - s → timers_leap s n b ≡ timers_cycle t (timers_leap s (t - s) b)
leap_with s t n b le e =
    let one : n ≡ suc (t - s) = omega (arith, le, e) in
    let at : s + (t - s) ≡ t = omega (arith, le) in
    ap (λ (k : ℕ). timers_leap s k b) one ∙ (leap_next s (t - s) b ∙ ap (λ (k : ℕ). timers_cycle k (timers_leap s (t - s) b)) at)
