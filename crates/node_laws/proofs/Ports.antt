-- Within which bounds the calls of USART0, the serial peripheral interface and the radio leave their numbers.
use Rattle.std.proofs.Common.{◌≡◌, ℕ, ◌+◌, ◌^◌, ◌<◌, ◌≤◌, ◌==◌, Bool, false, if◌then◌else◌, refl, Option, Some, None, arith}
use Rattle.std.specs.Prelude.{IfOk}
use Rattle.std.proofs.Math.Pow.{pow_mono}
use Rattle.air_base.specs.declared.bounds.TheConstants.{LONGEST_BYTE}
use Rattle.std.proofs.lemmas.Bool.{cond_both}
use Rattle.std.proofs.lemmas.Bool.Decides.{nat_tests}
use Rattle.board_io.specs.Cycle.{air_by, sent_by}
use Rattle.device_base.specs.Bits.{any_bit}
use Rattle.serial_ports.specs.Transmission.{ended_byte, is_end}
use Rattle.serial_ports.specs.declared.transmission.Transmission.{Transmission}
use Rattle.serial_ports.specs.declared.usart_receive_buffer.ReceiveBuffer.{ReceiveBuffer}
use Rattle.serial_ports.specs.declared.usart_receive_buffer.ReceiveBuffer.TheVariants.{Empty}
use Rattle.serial_ports.specs.declared.usart_registers.UsartReg.{UsartReg}
use Rattle.serial_ports.specs.declared.usart_registers.UsartReg.TheVariants as ureg
use Rattle.serial_ports.specs.declared.usart.Usart.{Usart}
use Rattle.serial_ports.specs.UsartRegisters as usart_registers
use Rattle.serial_ports.specs.Usart as usart
use Rattle.serial_ports.specs.declared.spi_registers.SpiReg.{SpiReg}
use Rattle.serial_ports.specs.declared.spi_registers.SpiReg.TheVariants as spireg
use Rattle.serial_ports.specs.declared.spi.Spi.{Spi}
use Rattle.serial_ports.specs.SpiRegisters as spi_registers
use Rattle.serial_ports.specs.Spi as spi
use Rattle.serial_ports.specs.declared.radio.TransferOutcome.{TransferOutcome}
use Rattle.serial_ports.specs.declared.radio.TransferOutcome.TheVariants.{Answer, Send, Ask}
use Rattle.serial_ports.specs.declared.radio.Radio.{Radio}
use Rattle.serial_ports.specs.declared.radio.RadioState.{RadioState}
use Rattle.serial_ports.specs.declared.radio.RadioState.TheVariants.{ToSample}
use Rattle.serial_ports.specs.Radio.{radio_transfer, selected_transfer}
use Rattle.device_laws.proofs.Timers.{kept_if}
use Rattle.node_laws.specs.Within.{ByteWithin, InboxWithin, RadioWithin, ShiftWithin, SpiWithin, StateWithin, UsartWithin}
use Rattle.node_laws.proofs.Timers.{refused}

-- a transmission

-- where none ends in cycle t, what runs ends after it
pub shift_later : (t : ℕ) (o : Option Transmission) → is_end o t ≡ false → ShiftWithin t o → ShiftWithin (t + 1) o
shift_later t None e h = tt
shift_later t (Some f) e h = grind (arith, nat_tests)

pub shift_from : (t t' : ℕ) (o : Option Transmission) → t' ≤ t → ShiftWithin t o → ShiftWithin t' o
shift_from t t' None less h = tt
shift_from t t' (Some f) less h = omega arith

pub ended_within : (t : ℕ) (o : Option Transmission) → ShiftWithin t o → ByteWithin (ended_byte o t)
ended_within t None h = tt
ended_within t (Some f) h = kept_if ByteWithin (f.ends == t) _ _ h.2 tt

pub none_ended : (t : ℕ) (o : Option Transmission) → ended_byte o t ≡ None → is_end o t ≡ false
none_ended t None e = refl
none_ended t (Some f) e = grind (arith, nat_tests)

-- USART0

cut_within : (u : Usart) (b : ℕ) → usart.cut u b ≤ 255
unfolding usart.cut
cut_within u b =
    let some : 2 ^ 0 ≤ 2 ^ usart.data_bits u = pow_mono {i = 0} {j = usart.data_bits u} (omega arith) in
    omega (arith, pow_mono {i = usart.data_bits u} {j = 8} (omega arith))

-- a frame lasts less than 2^20 cycles
frame_lasts : (u : Usart) → u.baud < 4096 → (1 ≤ usart.frame_cycles u) × (usart.frame_cycles u ≤ 1048576)
unfolding usart.frame_cycles
frame_lasts u h = grind (arith, nat_tests)

started_within : (t b : ℕ) (u : Usart) → t < 2 ^ 40 → u.baud < 4096 → UsartWithin t u → UsartWithin t (usart.started t b u)
started_within t b u early baud h = search (arith, frame_lasts u baud, cut_within)

started_next : (t b : ℕ) (u : Usart) → t < 2 ^ 40 → u.baud < 4096 → UsartWithin t u → UsartWithin (t + 1) (usart.started t b u)
started_next t b u early baud h = search (arith, frame_lasts u baud, cut_within)

next_within : (t : ℕ) (w : Option ℕ) (u : Usart) → t < 2 ^ 40 → u.baud < 4096 → UsartWithin t u → UsartWithin (t + 1) (usart.next_frame t w u)
next_within t None u early baud h = assumption
next_within t (Some b) u early baud h = started_next t b (record u { transmit_buffer = None }) early baud assumption

pub usart_cycle_within : (t : ℕ) (u : Usart) → t < 2 ^ 40 → u.baud < 4096 → UsartWithin t u → UsartWithin (t + 1) (usart.usart_cycle t u)
unfolding usart.usart_cycle
usart_cycle_within t u early baud h = cond_both (is_end u.shift_register t) _ u (UsartWithin (t + 1)) (λ e. next_within t u.transmit_buffer u early baud h) (λ e. search (shift_later))

buffered_by : (t : ℕ) (i : ReceiveBuffer) (x : ℕ) (u : Usart) → InboxWithin i → x ≤ 255 → UsartWithin t u → UsartWithin t (usart.buffered i x u)
buffered_by t Empty x u i small h = assumption
buffered_by t _ x u i small h = assumption

pub arrived_within : (t : ℕ) (b : ℕ) (u : Usart) → UsartWithin t u → UsartWithin t (usart.arrived b u)
unfolding usart.arrived
arrived_within t b u h = kept_if (UsartWithin t) _ _ u (buffered_by t u.receive_buffer _ u h.receive_buffer (cut_within u b) h) h

oldest_gone : (i : ReceiveBuffer) → InboxWithin i → InboxWithin (usart_registers.without_oldest i)
oldest_gone Empty i = tt
oldest_gone _ i = assumption

pub oldest_within : (i : ReceiveBuffer) → InboxWithin i → usart_registers.oldest i ≤ 255
oldest_within Empty h = omega arith
oldest_within _ h = assumption

pub get_usart_within : (t : ℕ) (u : Usart) (reg : UsartReg) → UsartWithin t u → UsartWithin t (usart_registers.get_of u reg).1
get_usart_within t u ureg.Udr h = search oldest_gone
get_usart_within t u _ h = h

usart_if : (t : ℕ) (c : Bool) (u v : Usart) → UsartWithin t u → UsartWithin t v → UsartWithin t (if c then u else v)
usart_if t = kept_if (UsartWithin t)

pub put_usart_within : (t : ℕ) (u : Usart) (reg : UsartReg) (b : ℕ) → b ≤ 255 → t < 2 ^ 40 → u.baud < 4096 → UsartWithin t u
    → IfOk (usart_registers.put_of t u reg b) (UsartWithin t)
put_usart_within t u ureg.BaudL b small early baud h = assumption
put_usart_within t u ureg.BaudH b small early baud h = assumption
put_usart_within t u ureg.Udr b small early baud h = search (usart_if, started_within)
put_usart_within t u ureg.ControlB b small early baud h = search (refused, usart_if)
put_usart_within t u _ b small early baud h = search refused

-- the serial peripheral interface

transfer_lasts : (s : Spi) → (1 ≤ spi.transfer_cycles s) × (spi.transfer_cycles s ≤ 1024)
unfolding spi.transfer_cycles
transfer_lasts s = grind (arith, nat_tests)

pub get_spi_within : (t : ℕ) (s : Spi) (reg : SpiReg) → SpiWithin t s → SpiWithin t (spi_registers.get_of s reg).1
get_spi_within t s spireg.Control h = h
get_spi_within t s _ h = assumption

pub put_spi_within : (t : ℕ) (s : Spi) (reg : SpiReg) (b : ℕ) → b ≤ 255 → t < 2 ^ 40 → SpiWithin t s → IfOk (spi_registers.put_of t s reg b) (SpiWithin t)
unfolding spi.transfer_cycles
put_spi_within t s spireg.Spdr b small early h = search (kept_if, transfer_lasts s, arith)
put_spi_within t s spireg.Control b small early h =
    let left = kept_if (ShiftWithin t) (any_bit b 0x40) s.shift_register None h.shift_register tt in search refused
put_spi_within t s _ b small early h = assumption

-- the radio

-- what a transfer leaves of it, and the byte that it answers; a sample is answered in the same cycle
abbrev pub MovedWithin : TransferOutcome → Radio → Type 0
MovedWithin (Answer miso) r = (miso ≤ 255) × RadioWithin r
MovedWithin (Send byte miso) r = (miso ≤ 255) × RadioWithin r
MovedWithin Ask r = r.free ≤ 2 ^ 41

-- and what it sends is a byte
abbrev pub Leaves : TransferOutcome × Radio → Type 0
Leaves m = MovedWithin m.0 m.1 × ByteWithin (sent_by (air_by m.0))

selected_within : (t b : ℕ) (state : RadioState) (r : Radio) → t < 2 ^ 40 → b ≤ 255 → r.byte_time ≤ LONGEST_BYTE → r.free ≤ 2 ^ 41 → StateWithin state
    → Leaves (selected_transfer t b state r)
selected_within t b ToSample r early small gap free h = absurd h
selected_within t b _ r early small gap free h = search (kept_if, arith)

pub transfer_within : (t b : ℕ) (selected : Bool) (r : Radio) → t < 2 ^ 40 → b ≤ 255 → r.byte_time ≤ LONGEST_BYTE → RadioWithin r
    → Leaves (radio_transfer t selected b r)
unfolding radio_transfer
transfer_within t b selected r early small gap h = kept_if Leaves selected _ _ (selected_within t b r.state r early small gap h.free h.state) (search arith)
