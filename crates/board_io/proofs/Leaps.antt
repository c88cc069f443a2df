-- Cycles of the board in which nothing ends, and leaps over them.
use Rattle.std.proofs.Common.{◌≡◌, ℕ, suc, ◌+◌, Bool, true, false, not, Option, Some, None, refl, sym, ap, ◌∙◌, arith}
use Rattle.std.proofs.lemmas.Bool.{and_parts}
use Rattle.board_io.specs.declared.board.Board.{Board}
use Rattle.board_io.specs.declared.cycle.OnAir.TheVariants.{Quiet}
use Rattle.board_io.specs.Cycle.{air_of, board_air, board_asks, board_begun, board_quiet, board_sends, board_serial, is_asks, moved, moved_by, sent_by, timers_cycle, timers_leap, usart_cycle, with_moved}
use Rattle.serial_ports.specs.declared.radio.TransferOutcome.{TransferOutcome}
use Rattle.serial_ports.specs.declared.radio.Radio.{Radio}
use Rattle.avr_timers.specs.Clock.{cycles}
use Rattle.serial_ports.specs.declared.transmission.Transmission.{Transmission}
use Rattle.serial_ports.specs.Transmission.{ended_byte, is_end}
use Rattle.serial_ports.specs.Spi as spi
use Rattle.serial_ports.specs.declared.usart.Usart.{Usart}
use Rattle.serial_ports.specs.Usart as usart

not_true : (x : Bool) → not x ≡ true → x ≡ false
not_true false e = refl
not_true true e = sym e

-- ---- leaps
pub leap_zero : (t : ℕ) (b : Board) → timers_leap t 0 b ≡ b
unfolding timers_leap cycles
leap_zero t b = refl

pub leap_next : (t n : ℕ) (b : Board) → timers_leap t (suc n) b ≡ timers_cycle (t + n) (timers_leap t n b)
unfolding timers_leap cycles
leap_next t n b = refl

-- no end moves by them
pub leap_quiet : (u t n : ℕ) (b : Board) → board_quiet u (timers_leap t n b) ≡ board_quiet u b
unfolding timers_leap board_quiet
leap_quiet u t n b = refl

pub leap_one : (t : ℕ) (b : Board) → timers_leap t 1 b ≡ timers_cycle t b
leap_one t b = leap_next t 0 b ∙ (λ i. timers_cycle (at i) (leap_zero t b i))
  where
    at : t + 0 ≡ t
    at = omega arith

-- ---- a cycle in which nothing ends
no_frame : (t : ℕ) (b : Board) → board_quiet t b ≡ true → usart.ends_at t b.usart ≡ false
unfolding board_quiet
no_frame t b e = not_true (usart.ends_at t b.usart) (and_parts (not (usart.ends_at t b.usart)) (not (spi.ends_at t b.spi)) e).0

no_transfer : (t : ℕ) (b : Board) → board_quiet t b ≡ true → spi.ends_at t b.spi ≡ false
unfolding board_quiet
no_transfer t b e = not_true (spi.ends_at t b.spi) (and_parts (not (usart.ends_at t b.usart)) (not (spi.ends_at t b.spi)) e).1

none_ended : (o : Option Transmission) (t : ℕ) → is_end o t ≡ false → ended_byte o t ≡ None
none_ended None t e = refl
none_ended (Some f) t e = rw e refl

none_moved : (t : ℕ) (b : Board) → board_quiet t b ≡ true → moved t b ≡ None
none_moved t b e = ap (λ (o : Option ℕ). moved_by t o b) (none_ended b.spi.shift_register t (no_transfer t b e))

frame_goes_on : (t : ℕ) (u : Usart) → usart.ends_at t u ≡ false → usart.usart_cycle t u ≡ u
unfolding usart.usart_cycle
frame_goes_on t u e = rw e refl

quiet_cycle : (t : ℕ) (b : Board) → board_quiet t b ≡ true → usart_cycle t None (timers_cycle t b) ≡ timers_cycle t b
quiet_cycle t b e = ap (λ (u : Usart). let c : Board = record (timers_cycle t b) { usart = u } in c) (frame_goes_on t b.usart (no_frame t b e))

-- it moves the timers alone
pub begun_quiet : (t : ℕ) (b : Board) → board_quiet t b ≡ true → board_begun t None b ≡ timers_leap t 1 b
unfolding board_begun
begun_quiet t b e =
    ap (λ (m : Option (TransferOutcome × Radio)). with_moved m (usart_cycle t None (timers_cycle t b))) (none_moved t b e) ∙ (quiet_cycle t b e ∙ sym (leap_one t b))

-- and has no frame, sends nothing and asks nothing
pub serial_quiet : (t : ℕ) (b : Board) → board_quiet t b ≡ true → board_serial t b ≡ None
unfolding board_serial usart.frame_ended
serial_quiet t b e = none_ended b.usart.shift_register t (no_frame t b e)

pub air_quiet : (t : ℕ) (b : Board) → board_quiet t b ≡ true → board_air t b ≡ Quiet
unfolding board_air
air_quiet t b e = ap air_of (none_moved t b e)

pub sends_quiet : (t : ℕ) (b : Board) → board_quiet t b ≡ true → board_sends t b ≡ None
sends_quiet t b e = ap sent_by (air_quiet t b e)

pub asks_quiet : (t : ℕ) (b : Board) → board_quiet t b ≡ true → board_asks t b ≡ false
asks_quiet t b e = ap is_asks (air_quiet t b e)
