-- What a board is saved and restored by beside its byte time: the numbers of its devices, those of timers 0, 2, 1
-- and 3, of USART0, of the serial peripheral interface and of the radio, and the bytes that it keeps itself.
use Rattle.std.specs.Prelude.{◌≡◌, ℕ, ◌<◌, Bool, List, ◌++◌}
use Rattle.board_io.specs.declared.board.Board.{Board}
use Rattle.board_io.specs.Kept.{kept_of}
use Rattle.device_base.specs.Numbers.{part}
use Rattle.device_base.specs.declared.numbers.TheConstants.{PORT_NUMBERS, TIMER_NUMBERS}
use Rattle.avr_timers.specs.Numbers8 as timer8
use Rattle.avr_timers.specs.Numbers16 as timer16
use Rattle.avr_timers.specs.declared.prescaler.Prescaler.TheVariants.{Own, Shared}
use Rattle.serial_ports.specs.UsartNumbers as usart
use Rattle.serial_ports.specs.SpiNumbers as spi
use Rattle.serial_ports.specs.RadioNumbers as radio

abbrev pub numbers_of : Board → List ℕ
numbers_of b =
    timer8.numbers_of b.t0
    ++ timer8.numbers_of b.t2
    ++ timer16.numbers_of b.t1
    ++ timer16.numbers_of b.t3
    ++ usart.numbers_of b.usart
    ++ spi.numbers_of b.spi
    ++ radio.numbers_of b.radio

-- a test for each number of the timers, whether it is within its bound
unfoldable pub timers_fit : List ℕ → List Bool
timers_fit n =
    timer8.fits Own (part 0 6 n) ++ timer8.fits Shared (part 6 6 n) ++ timer16.fits (part 12 13 n) ++ timer16.fits (part 25 13 n)

-- and for each number of the ports, of a board whose frame and transfer end at cycle t or later
unfoldable pub ports_fit : ℕ → List ℕ → List Bool
ports_fit t n = usart.fits t (part 0 14 n) ++ spi.fits t (part 14 10 n) ++ radio.fits (part 24 5 n)

-- and for each number of the devices
unfoldable pub fits : ℕ → List ℕ → List Bool
fits t n = timers_fit (part 0 TIMER_NUMBERS n) ++ ports_fit t (part TIMER_NUMBERS PORT_NUMBERS n)

-- a board of this byte time that has these numbers and keeps these bytes. The clock select of a timer has three bits,
-- so that its control byte tells it
pub record IsRestored (byte_time : ℕ) (n io : List ℕ) (b : Board) : Type 0 where
  pub numbers : numbers_of b ≡ n
  pub kept : b.kept ≡ kept_of io
  pub own : b.t0.prescaler ≡ Own
  pub shared : b.t2.prescaler ≡ Shared
  pub select0 : b.t0.select < 8
  pub select1 : b.t1.select < 8
  pub select2 : b.t2.select < 8
  pub select3 : b.t3.select < 8
  pub gap : b.radio.byte_time ≡ byte_time
