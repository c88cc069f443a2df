-- What the calls of USART0, the serial peripheral interface and the radio keep.
use Rattle.std.proofs.Common.{◌≡◌, ℕ, ◌+◌, ◌*◌, ◌/◌, ◌%◌, ◌<◌, ◌==◌, nat_le, nat_lt, Bool, true, false, not, ◌&&◌, if◌then◌else◌, refl, sym, ap, subst, ◌∙◌, Option, Some, None, is_some, Ok, Err, bit_and, arith}
use Rattle.std.proofs.lemmas.Bool.{false≢true}
use Rattle.std.proofs.lemmas.Bool.Decides.{nat_tests}
use Rattle.std.specs.Int.Bits.{and_self}
use Rattle.std.proofs.lemmas.Nat.{and_assoc}
use Rattle.avr_base.specs.declared.stop.StopCause.TheVariants as stop
use Rattle.avr_base.proofs.Computed.{all_from, all_from-at}
use Rattle.serial_ports.specs.declared.radio.TransferOutcome.{TransferOutcome}
use Rattle.serial_ports.specs.declared.radio.TransferOutcome.TheVariants.{Answer, Send, Ask}
use Rattle.serial_ports.specs.declared.radio.Radio.{Radio}
use Rattle.serial_ports.specs.declared.radio.RadioState.{RadioState}
use Rattle.serial_ports.specs.declared.radio.RadioState.TheVariants.{Idle, ToSend, ToSample, Status, Byte, Age}
use Rattle.serial_ports.specs.Radio.{in_state, radio_transfer, selected_transfer}
use Rattle.device_base.specs.Bits.{any_bit}
use Rattle.serial_ports.specs.declared.transmission.Transmission.{Transmission}
use Rattle.serial_ports.specs.declared.spi_registers.SpiReg.{SpiReg}
use Rattle.serial_ports.specs.declared.spi_registers.SpiReg.TheVariants as spireg
use Rattle.serial_ports.specs.declared.spi.Spi.{Spi}
use Rattle.serial_ports.specs.SpiRegisters as spi_registers
use Rattle.serial_ports.specs.Spi as spi
use Rattle.serial_ports.specs.declared.usart_receive_buffer.ReceiveBuffer.{ReceiveBuffer}
use Rattle.serial_ports.specs.declared.usart_receive_buffer.ReceiveBuffer.TheVariants.{Empty, One, Two}
use Rattle.serial_ports.specs.declared.usart_registers.UsartReg.{UsartReg}
use Rattle.serial_ports.specs.declared.usart_registers.UsartReg.TheVariants as ureg
use Rattle.serial_ports.specs.declared.usart.Usart.{Usart}
use Rattle.serial_ports.specs.UsartRegisters as usart_registers
use Rattle.serial_ports.specs.Usart as usart
use Rattle.device_laws.specs.States.{IsRadio, IsSpi, IsUsart, IsWithin, is_full}
use Rattle.device_laws.proofs.Timers.{kept_if, same_ok}

never : {P : Type 0} → false ≡ true → P
never e = absurd (false≢true e)

pub within : (x mask : ℕ) → IsWithin mask (bit_and x mask)
within x mask = and_assoc mask x mask ∙ ap (bit_and x) (and_self mask)

-- USART0

four_bits : all_from (λ b. nat_lt (bit_and b 0x0F) 16) 0 256 ≡ true
four_bits = refl

below_16 : (b : ℕ) → b < 256 → bit_and b 0x0F < 16
below_16 b h =
    let e : nat_lt (bit_and b 0x0F) 16 ≡ true = all_from-at (λ b. nat_lt (bit_and b 0x0F) 16) 0 256 b four_bits (omega arith) (omega arith) in
    grind (arith, nat_tests)

started_kept : (t b : ℕ) (u : Usart) → IsUsart u → IsUsart (usart.started t b u)
started_kept t b u h = record {
  baud = h.baud;
  control_b = h.control_b;
  control_c = h.control_c;
  waits = λ e. refl;
  received = h.received;
  lost = h.lost;
}

-- a byte waits while a frame runs
waiting_kept : (b : ℕ) (u : Usart) → is_some u.shift_register ≡ true → IsUsart u → IsUsart (record u { transmit_buffer = Some b })
waiting_kept b u runs h = record {
  baud = h.baud;
  control_b = h.control_b;
  control_c = h.control_c;
  waits = λ e. runs;
  received = h.received;
  lost = h.lost;
}

sent_by : (t b : ℕ) (u : Usart) (enabled runs waits : Bool) → is_some u.shift_register ≡ runs → IsUsart u
    → IsUsart (if not enabled then u else if not runs then usart.started t b u else if waits then u else record u { transmit_buffer = Some b })
sent_by t b u false runs waits e h = h
sent_by t b u true false waits e h = started_kept t b u h
sent_by t b u true true true e h = h
sent_by t b u true true false e h = waiting_kept b u e h

sent_kept : (t b : ℕ) (u : Usart) → IsUsart u → IsUsart (usart_registers.sent_out t b u)
sent_kept t b u h = sent_by t b u (any_bit u.control_b 0x08) (is_some u.shift_register) (is_some u.transmit_buffer) refl h

same_bit : (b : ℕ) → any_bit (bit_and b 0xF9) 0x10 ≡ any_bit b 0x10
same_bit b = ap (λ n. not (n == 0)) (and_assoc 0x10 b 0xF9)

control_b_by : (b : ℕ) (u : Usart) (enabled : Bool) → any_bit b 0x10 ≡ enabled → IsUsart u
    → IsUsart (if enabled then record u { control_b = bit_and b 0xF9 } else record u { control_b = bit_and b 0xF9; receive_buffer = Empty; dor = false })
control_b_by b u true e h = record {
  baud = h.baud;
  control_b = within b 0xF9;
  control_c = h.control_c;
  waits = h.waits;
  received = λ f. same_bit b ∙ e;
  lost = h.lost;
}
control_b_by b u false e h = record {
  baud = h.baud;
  control_b = within b 0xF9;
  control_c = h.control_c;
  waits = h.waits;
  received = λ f. never f;
  lost = λ f. never f;
}

status_kept : (u u' : Usart) (b : ℕ) (many : Bool) → IsUsart u
    → (if many then Err stop.UsartMode else Ok (record u { double = any_bit b 0x02; txc = u.txc && not (any_bit b 0x40) })) ≡ Ok u' → IsUsart u'
status_kept u u' b true h e = absurd (cc)
status_kept u u' b false h e =
    subst IsUsart (same_ok _ _ _ refl e) (record { baud = h.baud; control_b = h.control_b; control_c = h.control_c; waits = h.waits; received = h.received; lost = h.lost })

control_kept : (u u' : Usart) (b : ℕ) (nine : Bool) → IsUsart u
    → (if nine then Err stop.UsartMode else Ok (usart_registers.with_control_b b u)) ≡ Ok u' → IsUsart u'
control_kept u u' b true h e = absurd (cc)
control_kept u u' b false h e = subst IsUsart (same_ok _ _ _ refl e) (control_b_by b u (any_bit b 0x10) refl h)

format_kept : (u u' : Usart) (b : ℕ) (other : Bool) → b < 256 → IsUsart u
    → (if other then Err stop.UsartMode else Ok (record u { control_c = bit_and b 0x0F })) ≡ Ok u' → IsUsart u'
format_kept u u' b true f h e = absurd (cc)
format_kept u u' b false f h e =
    subst IsUsart (same_ok _ _ _ refl e) (record { baud = h.baud; control_b = h.control_b; control_c = below_16 b f; waits = h.waits; received = h.received; lost = h.lost })

baud_kept : (u : Usart) (n : ℕ) → n < 4096 → IsUsart u → IsUsart (record u { baud = n })
baud_kept u n f h = record { baud = f; control_b = h.control_b; control_c = h.control_c; waits = h.waits; received = h.received; lost = h.lost }

pub put_usart_kept : (t : ℕ) (u u' : Usart) (reg : UsartReg) (b : ℕ) → b < 256 → IsUsart u → usart_registers.put_of t u reg b ≡ Ok u' → IsUsart u'
put_usart_kept t u u' ureg.StatusA b f h e = status_kept u u' b (any_bit b 0x01) h e
put_usart_kept t u u' ureg.ControlB b f h e = control_kept u u' b (any_bit b 0x04) h e
put_usart_kept t u u' ureg.ControlC b f h e = format_kept u u' b (any_bit b 0x70) f h e
put_usart_kept t u u' ureg.BaudL b f h e = subst IsUsart (same_ok _ _ _ refl e) (baud_kept u (u.baud / 256 * 256 + b) (omega (arith, h.baud)) h)
put_usart_kept t u u' ureg.BaudH b f h e = subst IsUsart (same_ok _ _ _ refl e) (baud_kept u (b % 16 * 256 + u.baud % 256) (omega arith) h)
put_usart_kept t u u' ureg.Udr b f h e = subst IsUsart (same_ok _ _ _ refl e) (sent_kept t b u h)

still_filled : (i : ReceiveBuffer) → usart.is_filled (usart_registers.without_oldest i) ≡ true → usart.is_filled i ≡ true
still_filled Empty e = e
still_filled (One a) e = refl
still_filled (Two a b) e = refl

pub get_usart_kept : (u : Usart) (reg : UsartReg) → IsUsart u → IsUsart (usart_registers.get_of u reg).1
get_usart_kept u ureg.StatusA h = h
get_usart_kept u ureg.ControlB h = h
get_usart_kept u ureg.ControlC h = h
get_usart_kept u ureg.BaudL h = h
get_usart_kept u ureg.BaudH h = h
get_usart_kept u ureg.Udr h = record {
  baud = h.baud;
  control_b = h.control_b;
  control_c = h.control_c;
  waits = h.waits;
  received = λ e. h.received (still_filled u.receive_buffer e);
  lost = λ e. never e;
}

next_kept : (t : ℕ) (waiting : Option ℕ) (u : Usart) → u.transmit_buffer ≡ waiting → IsUsart u → IsUsart (usart.next_frame t waiting u)
next_kept t None u e h = record {
  baud = h.baud;
  control_b = h.control_b;
  control_c = h.control_c;
  waits = λ f. let g : false ≡ true = sym (ap is_some e) ∙ f in never g;
  received = h.received;
  lost = h.lost;
}
next_kept t (Some b) u e h = started_kept t b (record u { transmit_buffer = None }) (record {
  baud = h.baud;
  control_b = h.control_b;
  control_c = h.control_c;
  waits = λ f. never f;
  received = h.received;
  lost = h.lost;
})

pub usart_cycle_kept : (t : ℕ) (u : Usart) → IsUsart u → IsUsart (usart.usart_cycle t u)
unfolding usart.usart_cycle
usart_cycle_kept t u h = kept_if IsUsart (usart.ends_at t u) _ u (next_kept t u.transmit_buffer u refl h) h

buffered_kept : (i : ReceiveBuffer) (x : ℕ) (u : Usart) → u.receive_buffer ≡ i → any_bit u.control_b 0x10 ≡ true → IsUsart u → IsUsart (usart.buffered i x u)
buffered_kept Empty x u e on h = record {
  baud = h.baud;
  control_b = h.control_b;
  control_c = h.control_c;
  waits = h.waits;
  received = λ f. on;
  lost = λ f. let g : false ≡ true = sym (ap is_full e) ∙ h.lost f in never g;
}
buffered_kept (One a) x u e on h = record {
  baud = h.baud;
  control_b = h.control_b;
  control_c = h.control_c;
  waits = h.waits;
  received = λ f. on;
  lost = λ f. refl;
}
buffered_kept (Two a b) x u e on h = record {
  baud = h.baud;
  control_b = h.control_b;
  control_c = h.control_c;
  waits = h.waits;
  received = λ f. on;
  lost = λ f. ap is_full e;
}

arrived_by : (b : ℕ) (u : Usart) (on : Bool) → any_bit u.control_b 0x10 ≡ on → IsUsart u
    → IsUsart (if on then usart.buffered u.receive_buffer (usart.cut u b) u else u)
arrived_by b u true e h = buffered_kept u.receive_buffer (usart.cut u b) u refl e h
arrived_by b u false e h = h

pub arrived_kept : (b : ℕ) (u : Usart) → IsUsart u → IsUsart (usart.arrived b u)
unfolding usart.arrived
arrived_kept b u h = arrived_by b u (any_bit u.control_b 0x10) refl h

pub txc_kept : (u : Usart) → IsUsart u → IsUsart (record u { txc = false })
txc_kept u h = record { baud = h.baud; control_b = h.control_b; control_c = h.control_c; waits = h.waits; received = h.received; lost = h.lost }

-- the serial peripheral interface

accessed_kept : (s : Spi) → IsSpi s → IsSpi (spi_registers.accessed s)
accessed_kept s h = record { master = h.master; transfers = h.transfers }

pub get_spi_kept : (s : Spi) (reg : SpiReg) → IsSpi s → IsSpi (spi_registers.get_of s reg).1
get_spi_kept s spireg.Control h = h
get_spi_kept s spireg.Status h = record { master = h.master; transfers = h.transfers }
get_spi_kept s spireg.Spdr h = accessed_kept s h

transferred_by : (t b : ℕ) (s : Spi) (on runs : Bool) → any_bit s.control 0x40 ≡ on → IsSpi s
    → IsSpi (if not on then s else if runs then record s { wcol = true }
    else record s { shift_register = Some (record { ends = t + spi.transfer_cycles s; byte = b }) })
transferred_by t b s false runs e h = h
transferred_by t b s true true e h = record { master = h.master; transfers = h.transfers }
transferred_by t b s true false e h = record { master = h.master; transfers = λ f. e }

spi_sent_kept : (t b : ℕ) (s : Spi) → IsSpi s → IsSpi (spi_registers.sent_out t b s)
spi_sent_kept t b s h = transferred_by t b s (any_bit s.control 0x40) (is_some s.shift_register) refl h

none_left : (on : Bool) (transfer : Option Transmission) → is_some (if on then transfer else None) ≡ true → on ≡ true
none_left true transfer e = refl
none_left false transfer e = e

control_spi : (s s' : Spi) (b : ℕ) (on is_master : Bool) → any_bit b 0x40 ≡ on → any_bit b 0x10 ≡ is_master → IsSpi s
    → (if on && not is_master then Err stop.SpiSlave else Ok (record s { control = b; shift_register = if on then s.shift_register else None })) ≡ Ok s'
    → IsSpi s'
control_spi s s' b true false e f h g = absurd (cc)
control_spi s s' b true true e f h g =
    subst IsSpi (same_ok _ _ _ refl g) (record { master = λ i. f; transfers = λ i. e })
control_spi s s' b false is_master e f h g =
    subst IsSpi (same_ok _ _ _ refl g) (record { master = λ i. (let k : false ≡ true = sym e ∙ i in never k); transfers = λ i. never i })

pub put_spi_kept : (t : ℕ) (s s' : Spi) (reg : SpiReg) (b : ℕ) → IsSpi s → spi_registers.put_of t s reg b ≡ Ok s' → IsSpi s'
put_spi_kept t s s' spireg.Control b h e = control_spi s s' b (any_bit b 0x40) (any_bit b 0x10) refl refl h e
put_spi_kept t s s' spireg.Status b h e = subst IsSpi (same_ok _ _ _ refl e) (record { master = h.master; transfers = h.transfers })
put_spi_kept t s s' spireg.Spdr b h e =
    subst IsSpi (same_ok _ _ _ refl e) (spi_sent_kept t b (spi_registers.accessed s) (accessed_kept s h))

pub finished_kept : (x : ℕ) (s : Spi) → IsSpi s → IsSpi (spi.spi_finished x s)
finished_kept x s h = record { master = h.master; transfers = λ e. never e }

pub spif_kept : (s : Spi) → IsSpi s → IsSpi (record s { spif = false })
spif_kept s h = record { master = h.master; transfers = h.transfers }

-- the radio

state_kept : (state : RadioState) (r : Radio) → IsRadio r → IsRadio (in_state state r)
state_kept state r h = record { byte_time = h.byte_time }

-- what a transfer leaves of the radio
abbrev LeavesRadio : TransferOutcome × Radio → Type 0
LeavesRadio m = IsRadio m.1

idle_by : (r : Radio) (first second : Bool) → IsRadio r
    → LeavesRadio (if first then (Answer 0, in_state ToSend r) else if second then (Ask, in_state ToSample r) else (Answer 0, in_state Idle r))
idle_by r true second h = state_kept ToSend r h
idle_by r false true h = state_kept ToSample r h
idle_by r false false h = state_kept Idle r h

send_by : (t b : ℕ) (r : Radio) (free : Bool) → IsRadio r
    → LeavesRadio (if free then (Send b 0, record r { free = t + r.byte_time; state = Idle }) else (Answer 1, in_state Idle r))
send_by t b r true h = record { byte_time = h.byte_time }
send_by t b r false h = state_kept Idle r h

selected_kept : (t b : ℕ) (state : RadioState) (r : Radio) → IsRadio r → LeavesRadio (selected_transfer t b state r)
selected_kept t b Idle r h = idle_by r (b == 1) (b == 2) h
selected_kept t b ToSend r h = send_by t b r (nat_le r.free t) h
selected_kept t b ToSample r h = state_kept Idle r h
selected_kept t b (Status x) r h = state_kept (Byte x) r h
selected_kept t b (Byte x) r h = state_kept (Age x) r h
selected_kept t b (Age x) r h = state_kept Idle r h

radio_by : (t b : ℕ) (r : Radio) (selected : Bool) → IsRadio r
    → LeavesRadio (if selected then selected_transfer t b r.state r else (Answer 0xFF, in_state Idle r))
radio_by t b r true h = selected_kept t b r.state r h
radio_by t b r false h = state_kept Idle r h

pub radio_kept : (t b : ℕ) (selected : Bool) (r : Radio) → IsRadio r → IsRadio (radio_transfer t selected b r).1
unfolding radio_transfer
radio_kept t b selected r h = radio_by t b r selected h
