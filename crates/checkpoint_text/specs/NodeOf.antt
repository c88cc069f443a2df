-- The state of a node of a saved state: each part of it is read from the node's numbers, from the I/O bytes that its
-- board keeps, or is its SRAM. A number's place in its device is that of the device's `numbers_of`. Own to this
-- simulator.
use Rattle.std.specs.Prelude.{ℕ, ◌%◌, ◌==◌, List, Option, None, Some, slice_index}
use Rattle.avr_base.specs.Causes.{cause_of}
use Rattle.device_base.specs.Bits.{any_bit}
use Rattle.device_base.specs.Numbers.{part}
use Rattle.device_base.specs.declared.numbers.TheConstants.{CORE_NUMBERS, DEVICE_NUMBERS}
use Rattle.avr_timers.specs.Numbers16.{control_mode}
use Rattle.avr_timers.specs.declared.mode.Mode16.{Mode16}
use Rattle.avr_timers.specs.declared.mode.Mode16.TheVariants.{Normal}
use Rattle.avr_timers.specs.declared.prescaler.Prescaler.{Prescaler}
use Rattle.avr_timers.specs.declared.prescaler.Prescaler.TheVariants.{Own, Shared}
use Rattle.avr_timers.specs.declared.timer8.Timer8.{Timer8}
use Rattle.avr_timers.specs.declared.timer16.Timer16.{Timer16}
use Rattle.serial_ports.specs.Numbers.{transmission_of}
use Rattle.serial_ports.specs.UsartNumbers.{receive_buffer_of, transmit_buffer_of}
use Rattle.serial_ports.specs.RadioNumbers.{state_of}
use Rattle.serial_ports.specs.declared.usart.Usart.{Usart}
use Rattle.serial_ports.specs.declared.spi.Spi.{Spi}
use Rattle.serial_ports.specs.declared.radio.Radio.{Radio}
use Rattle.board_io.specs.declared.board.Board.{Board}
use Rattle.board_io.specs.Kept.{kept_of}
use Rattle.node_core.specs.Restored.{cpu_of}
use Rattle.node_core.specs.State.{NodeState}
use Rattle.node_runner.specs.Scenario.{ScenarioOf, image_at, script_at}
use Rattle.state_text.specs.Text.{NodeOf}

abbrev pub timer8_of : Prescaler → List ℕ → Timer8
timer8_of p n = record {
  prescaler = p;
  ctc = any_bit (slice_index n 0) 8;
  select = slice_index n 0 % 8;
  count = slice_index n 1;
  compare = slice_index n 2;
  match_blocked = slice_index n 3 == 1;
  tov = slice_index n 4 == 1;
  ocf_a = slice_index n 5 == 1;
}

-- the mode of a byte of TCCRB, where it has one
abbrev pub some_mode : Option Mode16 → Mode16
some_mode None = Normal
some_mode (Some mode) = mode

abbrev pub timer16_of : List ℕ → Timer16
timer16_of n = record {
  mode = some_mode (control_mode (slice_index n 0));
  select = slice_index n 0 % 8;
  noise_canceler = any_bit (slice_index n 0) 0x80;
  rising_edge = any_bit (slice_index n 0) 0x40;
  count = slice_index n 1;
  compare_a = slice_index n 2;
  compare_b = slice_index n 3;
  compare_c = slice_index n 4;
  icr = slice_index n 5;
  temp = slice_index n 6;
  match_blocked = slice_index n 7 == 1;
  flags = record {
    tov = slice_index n 8 == 1;
    ocf_a = slice_index n 9 == 1;
    ocf_b = slice_index n 10 == 1;
    ocf_c = slice_index n 11 == 1;
    icf = slice_index n 12 == 1;
  };
}

abbrev pub usart_of : List ℕ → Usart
usart_of n = record {
  baud = slice_index n 3;
  double = slice_index n 0 == 1;
  control_b = slice_index n 1;
  control_c = slice_index n 2;
  txc = slice_index n 4 == 1;
  dor = slice_index n 5 == 1;
  receive_buffer = receive_buffer_of (slice_index n 6) (slice_index n 7) (slice_index n 8);
  shift_register = transmission_of (slice_index n 9 == 1) (slice_index n 10) (slice_index n 11);
  transmit_buffer = transmit_buffer_of (slice_index n 12 == 1) (slice_index n 13);
}

abbrev pub spi_of : List ℕ → Spi
spi_of n = record {
  control = slice_index n 0;
  double = slice_index n 1 == 1;
  receive_buffer = slice_index n 2;
  spif = slice_index n 6 == 1;
  wcol = slice_index n 7 == 1;
  noted_spif = slice_index n 8 == 1;
  noted_wcol = slice_index n 9 == 1;
  shift_register = transmission_of (slice_index n 3 == 1) (slice_index n 4) (slice_index n 5);
}

abbrev pub radio_of : ℕ → List ℕ → Radio
radio_of byte_time n = record {
  byte_time = byte_time;
  free = slice_index n 4;
  state = state_of (slice_index n 0) (record { status = slice_index n 1; byte = slice_index n 2; age = slice_index n 3 });
}

-- the board of its numbers and of the bytes that it keeps, with a radio of this byte time
abbrev pub board_of : ℕ → List ℕ → List ℕ → Board
board_of byte_time n io = record {
  kept = kept_of io;
  t0 = timer8_of Own (part 0 6 n);
  t1 = timer16_of (part 12 13 n);
  t2 = timer8_of Shared (part 6 6 n);
  t3 = timer16_of (part 25 13 n);
  usart = usart_of (part 38 14 n);
  spi = spi_of (part 52 10 n);
  radio = radio_of byte_time (part 62 5 n);
}

-- node k of a scenario
unfoldable pub node_of : ScenarioOf → ℕ → NodeOf → NodeState
node_of sc k n = record {
  number = k;
  flash = (image_at sc k).bytes;
  script = script_at sc k;
  from = sc.from;
  to = sc.to;
  cpu = cpu_of n.numbers;
  board = board_of sc.topo.byte_time (part CORE_NUMBERS DEVICE_NUMBERS n.numbers) n.io;
  sram = n.sram;
  wait = slice_index n.numbers 36;
  owed = slice_index n.numbers 37 == 1;
  asleep = slice_index n.numbers 38 == 1;
  stop = cause_of (slice_index n.numbers 39);
  count = slice_index n.numbers 40;
}
