-- What a cycle of the board does to its radio, and what leaves the radio alone.
use Rattle.std.proofs.Common.{◌≡◌, ℕ, ◌+◌, ◌≤◌, ◌==◌, ◌&&◌, not, if◌then◌else◌, Bool, true, false, Option, Some, None, Result, Ok, Err, refl, sym, ap, ◌∙◌, arith}
use Rattle.std.specs.Prelude.{bit_and}
use Rattle.avr_base.specs.declared.stop.StopCause.{StopCause}
use Rattle.avr_base.specs.declared.stop.StopCause.TheVariants as stop
use Rattle.board_io.specs.declared.board.Board.{Board}
use Rattle.board_io.specs.declared.clocked.ClockedBoard.{ClockedBoard}
use Rattle.board_io.specs.declared.rules.Rule.{Rule}
use Rattle.board_io.specs.declared.rules.Rule.TheVariants.{Reserved, Pin, Kept, Guarded, WatchdogControl, ResetFlags, CpuControl, TimerFlags, ExtendedTimerFlags, Timer0, Timer1, Timer2, Timer3, Usart0, Spi}
use Rattle.board_io.specs.Board.{selected, with_kept}
use Rattle.board_io.specs.declared.cycle.OnAir.{OnAir}
use Rattle.board_io.specs.declared.cycle.OnAir.TheVariants.{Quiet, Sent, Asks}
use Rattle.board_io.specs.Cycle.{air_by, air_of, board_air, board_answered, board_asks, board_begun, board_sends, is_asks, moved_by, sent_by, timers_cycle, timers_leap, transfer_end, usart_cycle, with_moved}
use Rattle.board_io.specs.Lines.{entered_of}
use Rattle.board_io.specs.Names.{IVSEL, SPI_STC, SRE, TIMER0_COMP, TIMER0_OVF, TIMER1_COMPA, TIMER1_COMPB, TIMER1_COMPC, TIMER1_OVF, TIMER2_COMP, TIMER2_OVF, TIMER3_COMPA, TIMER3_COMPB, TIMER3_COMPC, TIMER3_OVF, USART0_TX, WDCE, WDE}
use Rattle.board_io.specs.Registers.{done_in, get_by, got_in, io_get, io_put, put_by, with_spi, with_t0, with_t1, with_t2, with_t3, with_usart}
use Rattle.board_io.specs.Table.{rule_of}
use Rattle.serial_ports.proofs.RadioLaws.{transfer_free, transfer_gap, transfer_sends}
use Rattle.serial_ports.specs.declared.radio.TransferOutcome.{TransferOutcome}
use Rattle.serial_ports.specs.declared.radio.TransferOutcome.TheVariants.{Answer, Send, Ask}
use Rattle.serial_ports.specs.declared.radio.Radio.{Radio}
use Rattle.serial_ports.specs.Radio.{radio_transfer}
use Rattle.device_base.specs.Bits.{any_bit}
use Rattle.serial_ports.specs.Transmission.{ended_byte}
use Rattle.serial_ports.specs.declared.spi.Spi.{Spi as SpiPort}
use Rattle.serial_ports.specs.SpiRegisters as spi
use Rattle.avr_timers.specs.declared.timer16.Timer16.{Timer16}
use Rattle.avr_timers.specs.Registers16 as reg16
use Rattle.avr_timers.specs.declared.timer8.Timer8.{Timer8}
use Rattle.avr_timers.specs.Registers8 as reg8
use Rattle.serial_ports.specs.declared.usart.Usart.{Usart}
use Rattle.serial_ports.specs.UsartRegisters as usart
use Rattle.air_base.specs.declared.air.Heard.{Heard}

-- ---- a cycle
end_radio : (m : TransferOutcome) (r : Radio) (b : Board) → (transfer_end m r b).radio ≡ r
end_radio (Answer miso) r b = refl
end_radio (Send byte miso) r b = refl
end_radio Ask r b = refl

gap_by : (t : ℕ) (o : Option ℕ) (b c : Board) → c.radio ≡ b.radio → (with_moved (moved_by t o b) c).radio.byte_time ≡ b.radio.byte_time
gap_by t None b c e = ap (λ (r : Radio). r.byte_time) e
gap_by t (Some x) b c e =
    let m = radio_transfer t (selected b) x b.radio in
    ap (λ (r : Radio). r.byte_time) (end_radio m.0 m.1 c) ∙ transfer_gap t (selected b) x b.radio

free_by : (t : ℕ) (o : Option ℕ) (b c : Board) → c.radio ≡ b.radio → b.radio.free ≤ (with_moved (moved_by t o b) c).radio.free
free_by t None b c e = let f = ap (λ (r : Radio). r.free) e in omega (arith, f)
free_by t (Some x) b c e =
    let m = radio_transfer t (selected b) x b.radio in
    let f = ap (λ (r : Radio). r.free) (end_radio m.0 m.1 c) in
    let g = transfer_free t (selected b) x b.radio in
    omega (arith, f, g)

sent_is : (m : TransferOutcome) (x : ℕ) → sent_by (air_by m) ≡ Some x → (miso : ℕ) × (m ≡ Send x miso)
sent_is (Answer miso) x e = absurd (cc)
sent_is (Send byte miso) x e = (miso, cc)
sent_is Ask x e = absurd (cc)

sends_by : (t x : ℕ) (o : Option ℕ) (b c : Board) → sent_by (air_of (moved_by t o b)) ≡ Some x → (b.radio.free ≤ t) × (t + b.radio.byte_time ≡ (with_moved (moved_by t o b) c).radio.free)
sends_by t x None b c e = absurd (cc)
sends_by t x (Some y) b c e =
    let m = radio_transfer t (selected b) y b.radio in
    let s = sent_is m.0 x e in
    let k = transfer_sends t (selected b) y b.radio x s.0 s.1 in
    (k.0, k.1 ∙ sym (ap (λ (r : Radio). r.free) (end_radio m.0 m.1 c)))

-- the byte time stays
pub begun_gap : (t : ℕ) (a : Option ℕ) (b : Board) → (board_begun t a b).radio.byte_time ≡ b.radio.byte_time
unfolding board_begun
begun_gap t a b = gap_by t (ended_byte b.spi.shift_register t) b (usart_cycle t a (timers_cycle t b)) refl

-- the cycle from which on the radio may send never falls
pub begun_free : (t : ℕ) (a : Option ℕ) (b : Board) → b.radio.free ≤ (board_begun t a b).radio.free
unfolding board_begun
begun_free t a b = free_by t (ended_byte b.spi.shift_register t) b (usart_cycle t a (timers_cycle t b)) refl

-- a byte is sent only from that cycle on, and moves it to the end of the byte
pub sends_free : (t x : ℕ) (a : Option ℕ) (b : Board) → board_sends t b ≡ Some x → (b.radio.free ≤ t) × (t + b.radio.byte_time ≡ (board_begun t a b).radio.free)
unfolding board_begun board_air
sends_free t x a b e = sends_by t x (ended_byte b.spi.shift_register t) b (usart_cycle t a (timers_cycle t b)) e

apart_by : (air : OnAir) → is_asks air ≡ true → sent_by air ≡ None
apart_by Quiet e = refl
apart_by (Sent byte) e = absurd (cc)
apart_by Asks e = refl

-- a cycle that asks sends nothing
pub asks_apart : (t : ℕ) (b : Board) → board_asks t b ≡ true → board_sends t b ≡ None
asks_apart t b e = apart_by (board_air t b) e

-- ---- the rest of a cycle that asks
pub answered_gap : (h : Heard) (b : Board) → (board_answered h b).radio.byte_time ≡ b.radio.byte_time
unfolding board_answered
answered_gap h b = refl

pub answered_free : (h : Heard) (b : Board) → (board_answered h b).radio.free ≡ b.radio.free
unfolding board_answered
answered_free h b = refl

-- ---- what leaves the radio alone
pub leap_radio : (t n : ℕ) (b : Board) → (timers_leap t n b).radio ≡ b.radio
unfolding timers_leap
leap_radio t n b = refl

-- after a read and after a write, where these do not stop
abbrev radio_got : Result (ℕ × Board) StopCause → Radio → Radio
radio_got (Ok p) r = p.1.radio
radio_got (Err cause) r = r

abbrev radio_put : Result Board StopCause → Radio → Radio
radio_put (Ok b) r = b.radio
radio_put (Err cause) r = r

got_by : (rule : Rule) (b : Board) (at : ℕ) → radio_got (get_by rule b at) b.radio ≡ b.radio
got_by Reserved b at = refl
got_by (Pin port) b at = refl
got_by (Kept mask) b at = refl
got_by (Guarded bits cause mask) b at = refl
got_by WatchdogControl b at = refl
got_by ResetFlags b at = refl
got_by CpuControl b at = refl
got_by TimerFlags b at = refl
got_by ExtendedTimerFlags b at = refl
got_by (Timer0 reg) b at = refl
got_by (Timer1 reg) b at = refl
got_by (Timer2 reg) b at = refl
got_by (Timer3 reg) b at = refl
got_by (Usart0 reg) b at = refl
got_by (Spi reg) b at = refl

abbrev clocked_got : Result (ℕ × ClockedBoard) StopCause → ClockedBoard → ClockedBoard
clocked_got (Ok p) c = p.1
clocked_got (Err cause) c = c

clock_got : (c : ClockedBoard) (g : Result (ℕ × Board) StopCause) → (clocked_got (got_in c.clock g) c).clock ≡ c.clock
clock_got c (Ok p) = refl
clock_got c (Err cause) = refl

got_radio : (c : ClockedBoard) (g : Result (ℕ × Board) StopCause) → (clocked_got (got_in c.clock g) c).board.radio ≡ radio_got g c.board.radio
got_radio c (Ok p) = refl
got_radio c (Err cause) = refl

pub get_radio : (b c : ClockedBoard) (at x : ℕ) → io_get b at ≡ Ok (x, c) → c.board.radio ≡ b.board.radio
unfolding io_get
get_radio b c at x e =
    ap (λ (r : Result (ℕ × ClockedBoard) StopCause). (clocked_got r b).board.radio) (sym e)
    ∙ (got_radio b (get_by (rule_of at) b.board at) ∙ got_by (rule_of at) b.board at)

pub get_clock : (b c : ClockedBoard) (at x : ℕ) → io_get b at ≡ Ok (x, c) → c.clock ≡ b.clock
unfolding io_get
get_clock b c at x e = ap (λ (r : Result (ℕ × ClockedBoard) StopCause). (clocked_got r b).clock) (sym e) ∙ clock_got b (get_by (rule_of at) b.board at)

choice : (c : Bool) (x y : Result Board StopCause) (r : Radio) → radio_put x r ≡ r → radio_put y r ≡ r → radio_put (if c then x else y) r ≡ r
choice true x y r e f = e
choice false x y r e f = f

t0_put : (b : Board) (o : Result Timer8 StopCause) → radio_put (with_t0 b o) b.radio ≡ b.radio
t0_put b (Ok t) = refl
t0_put b (Err cause) = refl

t1_put : (b : Board) (o : Result Timer16 StopCause) → radio_put (with_t1 b o) b.radio ≡ b.radio
t1_put b (Ok t) = refl
t1_put b (Err cause) = refl

t2_put : (b : Board) (o : Result Timer8 StopCause) → radio_put (with_t2 b o) b.radio ≡ b.radio
t2_put b (Ok t) = refl
t2_put b (Err cause) = refl

t3_put : (b : Board) (o : Result Timer16 StopCause) → radio_put (with_t3 b o) b.radio ≡ b.radio
t3_put b (Ok t) = refl
t3_put b (Err cause) = refl

usart_put : (b : Board) (o : Result Usart StopCause) → radio_put (with_usart b o) b.radio ≡ b.radio
usart_put b (Ok u) = refl
usart_put b (Err cause) = refl

spi_put : (b : Board) (o : Result SpiPort StopCause) → radio_put (with_spi b o) b.radio ≡ b.radio
spi_put b (Ok s) = refl
spi_put b (Err cause) = refl

put_keeps : (t : ℕ) (rule : Rule) (b : Board) (at x : ℕ) → radio_put (put_by t rule b at x) b.radio ≡ b.radio
put_keeps t Reserved b at x = refl
put_keeps t (Pin port) b at x = refl
put_keeps t (Kept mask) b at x = refl
put_keeps t (Guarded bits cause mask) b at x = choice (any_bit x bits) (Err cause) (Ok (with_kept at (bit_and x mask) b)) b.radio refl refl
put_keeps t WatchdogControl b at x = choice (any_bit x WDE && not (any_bit x WDCE)) (Err stop.Watchdog) (Ok b) b.radio refl refl
put_keeps t ResetFlags b at x = refl
put_keeps t CpuControl b at x =
    let kept : Result Board StopCause = Ok (with_kept at (bit_and x 0x7C) b) in
    choice (any_bit x SRE) (Err stop.ExternalMemory) (if any_bit x IVSEL then Err stop.MovedVectors else kept) b.radio refl
    (choice (any_bit x IVSEL) (Err stop.MovedVectors) kept b.radio refl refl)
put_keeps t TimerFlags b at x = refl
put_keeps t ExtendedTimerFlags b at x = refl
put_keeps t (Timer0 reg) b at x = t0_put b (reg8.put_of b.t0 reg x)
put_keeps t (Timer1 reg) b at x = t1_put b (reg16.put_of b.t1 reg x)
put_keeps t (Timer2 reg) b at x = t2_put b (reg8.put_of b.t2 reg x)
put_keeps t (Timer3 reg) b at x = t3_put b (reg16.put_of b.t3 reg x)
put_keeps t (Usart0 reg) b at x = usart_put b (usart.put_of t b.usart reg x)
put_keeps t (Spi reg) b at x = spi_put b (spi.put_of t b.spi reg x)

abbrev clocked_put : Result ClockedBoard StopCause → ClockedBoard → ClockedBoard
clocked_put (Ok d) c = d
clocked_put (Err cause) c = c

clock_put : (c : ClockedBoard) (g : Result Board StopCause) → (clocked_put (done_in c.clock g) c).clock ≡ c.clock
clock_put c (Ok b) = refl
clock_put c (Err cause) = refl

put_radio_in : (c : ClockedBoard) (g : Result Board StopCause) → (clocked_put (done_in c.clock g) c).board.radio ≡ radio_put g c.board.radio
put_radio_in c (Ok b) = refl
put_radio_in c (Err cause) = refl

pub put_radio : (b c : ClockedBoard) (at x : ℕ) → io_put b at x ≡ Ok c → c.board.radio ≡ b.board.radio
unfolding io_put
put_radio b c at x e =
    ap (λ (r : Result ClockedBoard StopCause). (clocked_put r b).board.radio) (sym e)
    ∙ (put_radio_in b (put_by b.clock (rule_of at) b.board at x) ∙ put_keeps b.clock (rule_of at) b.board at x)

pub put_clock : (b c : ClockedBoard) (at x : ℕ) → io_put b at x ≡ Ok c → c.clock ≡ b.clock
unfolding io_put
put_clock b c at x e = ap (λ (r : Result ClockedBoard StopCause). (clocked_put r b).clock) (sym e) ∙ clock_put b (put_by b.clock (rule_of at) b.board at x)

apart_from : (c : Bool) (x y b : Board) → x.radio ≡ b.radio → y.radio ≡ b.radio → (if c then x else y).radio ≡ b.radio
apart_from true x y b e f = e
apart_from false x y b e f = f

pub entered_radio : (word : ℕ) (b : Board) → (entered_of word b).radio ≡ b.radio
unfolding entered_of
entered_radio word b =
    apart_from (word == TIMER2_COMP) _ _ b refl (apart_from (word == TIMER2_OVF) _ _ b refl (apart_from (word == TIMER1_COMPA) _ _ b refl
    (apart_from (word == TIMER1_COMPB) _ _ b refl (apart_from (word == TIMER1_OVF) _ _ b refl (apart_from (word == TIMER0_COMP) _ _ b refl
    (apart_from (word == TIMER0_OVF) _ _ b refl (apart_from (word == SPI_STC) _ _ b refl (apart_from (word == USART0_TX) _ _ b refl
    (apart_from (word == TIMER1_COMPC) _ _ b refl (apart_from (word == TIMER3_COMPA) _ _ b refl (apart_from (word == TIMER3_COMPB) _ _ b refl
    (apart_from (word == TIMER3_COMPC) _ _ b refl (apart_from (word == TIMER3_OVF) _ _ b refl refl)))))))))))))
