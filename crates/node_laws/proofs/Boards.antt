-- Within which bounds the calls of a board leave its numbers.
use Rattle.std.proofs.Common.{◌≡◌, ℕ, ◌+◌, ◌-◌, ◌*◌, ◌/◌, ◌^◌, ◌<◌, ◌≤◌, ◌==◌, nat_le, Bool, true, false, ◌||◌, if◌then◌else◌, refl, sym, ap, subst, ◌∙◌, Option, Some, None, inl, inr, Result, Ok, Err, bit_and, bit_or, arith}
use Rattle.std.proofs.lemmas.List.{get_or-set_same, get_or-set_other}
use Rattle.std.proofs.lemmas.Nat.{and_le_r, or_lt}
use Rattle.std.proofs.lemmas.Bool.{cases_lt, cond_both, eqb-true, leb-true}
use Rattle.std.proofs.Math.ListN.{get_or-eq_default}
use Rattle.std.proofs.lemmas.List.FromFn.{get_or-map-range_with_len}
use native.Mathlib.Decide.{ℕ_discrete}
use Rattle.avr_base.specs.declared.stop.StopCause.{StopCause}
use Rattle.avr_base.proofs.Computed.{all_from, all_from-at}
use Rattle.board_io.specs.declared.board.Board.{Board}
use Rattle.board_io.specs.declared.clocked.ClockedBoard.{ClockedBoard}
use Rattle.board_io.specs.declared.rules.Rule.{Rule}
use Rattle.board_io.specs.declared.rules.Rule.TheVariants as rule
use Rattle.board_io.specs.Board.{kept_at, reset_board, selected, with_kept}
use Rattle.board_io.specs.Cycle.{air_by, air_of, board_air, board_answered, board_asks, board_begun, board_sends, is_asks, moved_by, received, sent_by, timers_cycle, transfer_end, usart_cycle, with_moved}
use Rattle.board_io.specs.Kept.{kept_bits}
use Rattle.board_io.specs.Lines.{entered_beside, entered_of}
use Rattle.board_io.specs.Registers.{done_in, get_by, got_in, io_get, io_put, put_by, with_spi, with_t0, with_t1, with_t2, with_t3, with_usart}
use Rattle.board_io.specs.Table.{rule_of, start_of}
use Rattle.device_base.specs.Bits.{any_bit, bit}
use Rattle.avr_timers.specs.Mode.{number_of}
use Rattle.avr_timers.specs.declared.mode.Mode16.{Mode16}
use Rattle.avr_timers.specs.declared.mode.Mode16.TheVariants as mode
use Rattle.avr_timers.specs.declared.registers8.Reg8.{Reg8}
use Rattle.avr_timers.specs.declared.registers8.Reg8.TheVariants as reg8
use Rattle.avr_timers.specs.declared.registers16.Reg16.{Reg16}
use Rattle.avr_timers.specs.declared.registers16.Reg16.TheVariants as reg16
use Rattle.avr_timers.specs.declared.registers16.Channel.TheVariants as chan
use Rattle.avr_timers.specs.Registers8 as registers8
use Rattle.avr_timers.specs.Registers16 as registers16
use Rattle.avr_timers.specs.Registers16.{control_b}
use Rattle.avr_timers.proofs.Saved8.{select-again}
use Rattle.serial_ports.specs.Transmission.{ended_byte}
use Rattle.avr_timers.specs.declared.timer8.Timer8.{Timer8}
use Rattle.avr_timers.specs.declared.timer16.Timer16.{Timer16}
use Rattle.serial_ports.specs.declared.radio.TransferOutcome.{TransferOutcome}
use Rattle.serial_ports.specs.declared.radio.TransferOutcome.TheVariants.{Ask}
use Rattle.serial_ports.specs.declared.radio.Radio.{Radio}
use Rattle.serial_ports.specs.Radio.{radio_answered, radio_transfer}
use Rattle.serial_ports.specs.Spi as spi
use Rattle.serial_ports.specs.declared.usart_registers.UsartReg.{UsartReg}
use Rattle.serial_ports.specs.declared.usart_registers.UsartReg.TheVariants as ureg
use Rattle.serial_ports.specs.UsartRegisters as usart_registers
use Rattle.serial_ports.specs.declared.spi_registers.SpiReg.{SpiReg}
use Rattle.serial_ports.specs.declared.spi_registers.SpiReg.TheVariants as spireg
use Rattle.serial_ports.specs.SpiRegisters as spi_registers
use Rattle.serial_ports.specs.declared.spi.Spi.{Spi}
use Rattle.serial_ports.specs.declared.usart.Usart.{Usart}
use Rattle.air_base.specs.declared.air.Heard.{Heard}
use Rattle.device_laws.specs.States.{IsBoard, IsUsart}
use Rattle.device_laws.proofs.Timers.{kept_if}
use Rattle.node_laws.specs.Within.{BoardWithin, ByteWithin, HeardWithin, RadioWithin, ReadWithin, SpiWithin, Timer16Within, Timer8Within, UsartWithin, WrittenWithin}
use Rattle.node_laws.proofs.Timers.{cycle_16, cycle_8, get_16_within, put_16_within, put_8_within, refused}
use Rattle.node_laws.proofs.Ports.{Leaves, MovedWithin, arrived_within, ended_within, get_spi_within, get_usart_within, none_ended, oldest_within, put_spi_within, put_usart_within, shift_from, shift_later, transfer_within, usart_cycle_within}
use Rattle.device_laws.proofs.Ports.{arrived_kept, within}
use Rattle.std.specs.Prelude.{IfOk}

-- what a register that keeps a byte can have
abbrev Keeps : ℕ → ℕ → Type 0
Keeps at x = bit_and x (kept_bits (rule_of at)) ≡ x

-- a test that the checker computes over all bytes
all_bytes : (p : ℕ → Bool) → all_from p 0 256 ≡ true → (x : ℕ) → x ≤ 255 → p x ≡ true
all_bytes p all x small = all_from-at p 0 256 x all (omega arith) (omega arith)

kept_there : (t : ℕ) (b : Board) (at x other : ℕ) → IsBoard b → BoardWithin t b → Keeps at x → other < 256 → Dec (other ≡ at) → Keeps other (kept_at other (with_kept at x b))
kept_there t b at x other states h f g (yes e) =
    let there : kept_at at (with_kept at x b) ≡ x = get_or-set_same b.kept at x 0 (omega (arith, states.count)) in
    subst (λ n. Keeps n (kept_at n (with_kept at x b))) (sym e) (rw there f)
kept_there t b at x other states h f g (no d) = rw (get_or-set_other b.kept at other x 0 d) (h.kept other g)

set_kept : (t : ℕ) (b : Board) (at x : ℕ) → IsBoard b → BoardWithin t b → Keeps at x → BoardWithin t (with_kept at x b)
set_kept t b at x states h f =
    let kept : (other : ℕ) → other < 256 → Keeps other (kept_at other (with_kept at x b)) = λ other g. kept_there t b at x other states h f g (ℕ_discrete other at) in
    assumption

-- a cycle

received_within : (t : ℕ) (arrival : Option ℕ) (u : Usart) → IsUsart u → UsartWithin t u → UsartWithin t (received arrival u) × ((received arrival u).baud < 4096)
received_within t None u states h = (h, states.baud)
received_within t (Some x) u states h = (arrived_within t x u h, (arrived_kept x u states).baud)

-- all but the serial peripheral interface and the radio is within its bounds before cycle t
abbrev RestWithin : ℕ → Board → Type 0
RestWithin t b = (r : Radio) (s : Spi) → RadioWithin r → SpiWithin t s → BoardWithin t (record b { radio = r; spi = s })

rest_within : (t : ℕ) (arrival : Option ℕ) (b : Board) → t < 2 ^ 40 → IsBoard b → BoardWithin t b → RestWithin (t + 1) (usart_cycle t arrival (timers_cycle t b))
rest_within t arrival b early states w r s f g =
    let u = received_within t arrival b.usart states.usart w.usart in
    let usart = usart_cycle_within t (received arrival b.usart) early u.1 u.0 in
    search (cycle_8, cycle_16)

ended_by : (t : ℕ) (m : TransferOutcome) (r : Radio) (h : Heard) (b : Board) → HeardWithin h → MovedWithin m r → b.spi.control ≤ 255 → RestWithin t b
    → BoardWithin t (if is_asks (air_by m) then board_answered h (transfer_end m r b) else transfer_end m r b)
unfolding board_answered
ended_by t Ask r h b heard known control rest = rest (radio_answered h r) (spi.spi_finished 0 b.spi) (assumption) (omega arith)
ended_by t _ r h b heard known control rest = rest r _ known.1 (omega arith)

-- what the radio makes of the byte of a transfer
transferred : (t byte : ℕ) (b : Board) → t < 2 ^ 40 → byte ≤ 255 → IsBoard b → BoardWithin t b → Leaves (radio_transfer t (selected b) byte b.radio)
transferred t byte b early small states h = transfer_within t byte (selected b) b.radio early small states.radio.byte_time h.radio

moved_within : (t : ℕ) (o : Option ℕ) (h : Heard) (b c : Board) → ended_byte b.spi.shift_register t ≡ o → ByteWithin o → t < 2 ^ 40 → HeardWithin h → IsBoard b → BoardWithin t b
    → c.spi ≡ b.spi → c.radio ≡ b.radio → RestWithin (t + 1) c
    → BoardWithin (t + 1) (if is_asks (air_of (moved_by t o b)) then board_answered h (with_moved (moved_by t o b) c) else with_moved (moved_by t o b) c)
moved_within t None h b c e small early heard states w spi radio rest = rest c.radio c.spi (rw radio w.radio) (rw spi (search (shift_later, none_ended)))
moved_within t (Some byte) h b c e small early heard states w spi radio rest =
    ended_by (t + 1) _ _ h c heard (transferred t byte b early small states w).0 (rw spi w.spi.control) rest

-- after the whole cycle t, where h is what a sample in it hears
pub cycle_within : (t : ℕ) (arrival : Option ℕ) (h : Heard) (b : Board) → t < 2 ^ 40 → HeardWithin h → IsBoard b → BoardWithin t b
    → BoardWithin (t + 1) (if board_asks t b then board_answered h (board_begun t arrival b) else board_begun t arrival b)
unfolding board_begun board_air
cycle_within t arrival h b early heard states w =
    moved_within t _ h b _ refl (ended_within t b.spi.shift_register w.spi.shift_register) early heard states w refl refl (rest_within t arrival b early states w)

sends_by : (t : ℕ) (o : Option ℕ) (b : Board) → t < 2 ^ 40 → IsBoard b → BoardWithin t b → ByteWithin o → ByteWithin (sent_by (air_of (moved_by t o b)))
sends_by t None b early states h small = tt
sends_by t (Some byte) b early states h small = (transferred t byte b early small states h).1

-- what it sends is a byte
pub sends_within : (t : ℕ) (b : Board) → t < 2 ^ 40 → IsBoard b → BoardWithin t b → ByteWithin (board_sends t b)
unfolding board_air
sends_within t b early states h = sends_by t (ended_byte b.spi.shift_register t) b early states h (ended_within t b.spi.shift_register h.spi.shift_register)

-- bytes that are read

masks : all_from (λ at. nat_le (kept_bits (rule_of at)) 255) 0 256 ≡ true
unfolding rule_of
masks = refl

pub kept_byte : (t : ℕ) (b : Board) → IsBoard b → BoardWithin t b → (at : ℕ) → kept_at at b ≤ 255
kept_byte t b states h at =
    elim (cases_lt at 256) [
      | inl low ↦
          let mask : kept_bits (rule_of at) ≤ 255 = leb-true _ _ (all_bytes (λ at. nat_le (kept_bits (rule_of at)) 255) masks at (omega arith)) in
          omega (arith, h.kept at low, and_le_r (kept_at at b) (kept_bits (rule_of at)), mask)
      | inr high ↦ omega (arith, get_or-eq_default b.kept 0 {n = at} (omega (arith, states.count, high)))
    ]

bit_most : (flag : Bool) (mask : ℕ) → bit flag mask ≤ mask
bit_most true mask = omega arith
bit_most false mask = omega arith

pub byte_8 : (tm : Timer8) (reg : Reg8) → tm.select < 8 → Timer8Within tm → registers8.get_of tm reg ≤ 255
byte_8 tm reg8.Control select h = omega (arith, (select-again tm.ctc tm.select select).1)
byte_8 tm _ select h = assumption

mode_most : (m : Mode16) → number_of m ≤ 12
mode_most mode.Normal = omega arith
mode_most _ = omega arith

pub control_byte : (tm : Timer16) → tm.select ≤ 5 → control_b tm < 2 ^ 8
control_byte tm select =
    let noise : bit tm.noise_canceler 0x80 < 2 ^ 8 = omega (arith, bit_most) in
    let rising : bit tm.rising_edge 0x40 < 2 ^ 8 = omega (arith, bit_most) in
    let mode : number_of tm.mode / 4 * 8 < 2 ^ 8 = omega (arith, mode_most) in
    or_lt 8 _ _ (or_lt 8 _ _ (or_lt 8 _ _ noise rising) mode) (omega arith)

byte_16 : (tm : Timer16) (reg : Reg16) → tm.select ≤ 5 → Timer16Within tm → (registers16.get_of tm reg).0 ≤ 255
byte_16 tm reg16.ControlB select h = omega (arith, control_byte tm select)
byte_16 tm (reg16.CompH chan.A) select h = omega arith
byte_16 tm (reg16.CompH _) select h = omega arith
byte_16 tm _ select h = omega arith

byte_usart : (t : ℕ) (u : Usart) (reg : UsartReg) → IsUsart u → UsartWithin t u → (usart_registers.get_of u reg).0 ≤ 255
byte_usart t u ureg.StatusA states h = omega (arith, bit_most)
byte_usart t u ureg.ControlB states h = omega (arith, and_le_r u.control_b 0xF9)
byte_usart t u ureg.Udr states h = oldest_within u.receive_buffer h.receive_buffer
byte_usart t u _ states h = omega arith

byte_spi : (t : ℕ) (s : Spi) (reg : SpiReg) → SpiWithin t s → (spi_registers.get_of s reg).0 ≤ 255
byte_spi t s spireg.Status h = omega (arith, bit_most)
byte_spi t s _ h = assumption

-- accesses in cycle t, by the rule of the register

ruleset reads = (kept_byte, byte_8, byte_16, byte_usart, byte_spi, get_16_within, get_usart_within, get_spi_within)

read_by : (t : ℕ) (r : Rule) (b : Board) (at : ℕ) → IsBoard b → BoardWithin t b → IfOk (get_by r b at) (λ got. (got.0 ≤ 255) × BoardWithin t got.1)
read_by t rule.Reserved b at states h = tt
read_by t rule.WatchdogControl b at states h = (omega arith, h)
read_by t rule.TimerFlags b at states h = (omega (arith, bit_most), h)
read_by t rule.ExtendedTimerFlags b at states h = (omega (arith, bit_most), h)
read_by t _ b at states h = search reads

got_within : (t clock : ℕ) (r : Result (ℕ × Board) StopCause) → clock ≡ t → IfOk r (λ got. (got.0 ≤ 255) × BoardWithin t got.1) → ReadWithin t (got_in clock r)
got_within t clock (Ok got) now h = (h.0, h.1, now)
got_within t clock (Err cause) now h = tt

pub read_within : (t : ℕ) (c : ClockedBoard) (at : ℕ) → c.clock ≡ t → IsBoard c.board → BoardWithin t c.board → ReadWithin t (io_get c at)
unfolding io_get
read_within t c at now states h = got_within t c.clock (get_by (rule_of at) c.board at) now (read_by t (rule_of at) c.board at states h)

-- where none of the bits that stop a write is set, all others stay
abbrev free_of : ℕ → ℕ → ℕ → Bool
free_of bits mask x = any_bit x bits || bit_and (bit_and x mask) (bit_and mask (255 - bits)) == bit_and x mask

abbrev guards : Rule → Bool
guards (rule.Guarded bits cause mask) = all_from (free_of bits mask) 0 256
guards _ = true

all_guard : all_from (λ at. guards (rule_of at)) 0 256 ≡ true
unfolding rule_of
all_guard = refl

guarded_free : (at bits mask x : ℕ) (cause : StopCause) → at < 256 → x ≤ 255 → rule_of at ≡ rule.Guarded bits cause mask → any_bit x bits ≡ false
    → bit_and (bit_and x mask) (bit_and mask (255 - bits)) ≡ bit_and x mask
guarded_free at bits mask x cause low small e f =
    let one : guards (rule_of at) ≡ true = all_bytes (λ at. guards (rule_of at)) all_guard at (omega arith) in
    let free : free_of bits mask x ≡ true = all_bytes (free_of bits mask) (ap guards (sym e) ∙ one) x small in
    eqb-true _ _ (ap (λ (b : Bool). b || bit_and (bit_and x mask) (bit_and mask (255 - bits)) == bit_and x mask) (sym f) ∙ free)

-- MCUCSR keeps JTD and PORF, of which a write can only clear the second
abbrev flags_kept : ℕ → ℕ → ℕ
flags_kept k x = bit_or (bit_and x 0x80) (bit_and (bit_and k x) 0x1F)

abbrev clears : ℕ → ℕ → Bool
clears k x = (let f = flags_kept (bit_and k 0x81) x in bit_and f 0x81 == f)

all_clear : all_from (λ k. all_from (clears k) 0 256) 0 256 ≡ true
all_clear = refl

cleared_by : (k x : ℕ) → bit_and k 0x81 ≡ k → x ≤ 255 → k ≤ 255 → bit_and (flags_kept k x) 0x81 ≡ flags_kept k x
cleared_by k x e small low =
    let same : clears k x ≡ true = all_bytes (clears k) (all_bytes (λ k. all_from (clears k) 0 256) all_clear k low) x small in
    subst (λ m. bit_and (flags_kept m x) 0x81 ≡ flags_kept m x) e (eqb-true _ _ same)

-- what is made of a device's write
in_device : {A : Type 0} (P : A → Type 0) (Q : Board → Type 0) (w : Result A StopCause → Result Board StopCause) (r : Result A StopCause) → IfOk r P
    → ((x : A) → P x → IfOk (w (Ok x)) Q) → ((cause : StopCause) → IfOk (w (Err cause)) Q) → IfOk (w r) Q
in_device P Q w (Ok x) h f g = f x h
in_device P Q w (Err cause) h f g = g cause

write_by : (t : ℕ) (r : Rule) (b : Board) (at x : ℕ) → rule_of at ≡ r → at < 256 → x ≤ 255 → t < 2 ^ 40 → IsBoard b → BoardWithin t b
    → IfOk (put_by t r b at x) (BoardWithin t)
write_by t (rule.Kept mask) b at x e low small early states h = set_kept t b at (bit_and x mask) states h (rw e (within x mask))
write_by t (rule.Guarded bits cause mask) b at x e low small early states h =
    cond_both (any_bit x bits) (Err cause) (Ok (with_kept at (bit_and x mask) b)) (λ r. IfOk r (BoardWithin t)) (λ _. tt)
    (λ f. set_kept t b at (bit_and x mask) states h (rw e (guarded_free at bits mask x cause low small e f)))
write_by t rule.ResetFlags b at x e low small early states h =
    let kept = rw e at (h.kept at low) in
    set_kept t b at (flags_kept (kept_at at b) x) states h (rw e (cleared_by (kept_at at b) x kept small (kept_byte t b states h at)))
write_by t rule.CpuControl b at x e low small early states h = let left = set_kept t b at (bit_and x 0x7C) states h (rw e (within x 0x7C)) in search refused
write_by t (rule.Timer0 reg) b at x e low small early states h = in_device Timer8Within (BoardWithin t) (with_t0 b) _ (put_8_within b.t0 reg x small h.t0) (λ tm f. assumption) (λ _. tt)
write_by t (rule.Timer1 reg) b at x e low small early states h = in_device Timer16Within (BoardWithin t) (with_t1 b) _ (put_16_within b.t1 reg x small h.t1) (λ tm f. assumption) (λ _. tt)
write_by t (rule.Timer2 reg) b at x e low small early states h = in_device Timer8Within (BoardWithin t) (with_t2 b) _ (put_8_within b.t2 reg x small h.t2) (λ tm f. assumption) (λ _. tt)
write_by t (rule.Timer3 reg) b at x e low small early states h = in_device Timer16Within (BoardWithin t) (with_t3 b) _ (put_16_within b.t3 reg x small h.t3) (λ tm f. assumption) (λ _. tt)
write_by t (rule.Usart0 reg) b at x e low small early states h =
    in_device (UsartWithin t) (BoardWithin t) (with_usart b) _ (put_usart_within t b.usart reg x small early states.usart.baud h.usart) (λ u f. assumption) (λ _. tt)
write_by t (rule.Spi reg) b at x e low small early states h = in_device (SpiWithin t) (BoardWithin t) (with_spi b) _ (put_spi_within t b.spi reg x small early h.spi) (λ s f. assumption) (λ _. tt)
write_by t rule.WatchdogControl b at x e low small early states h = search refused
write_by t _ b at x e low small early states h = search

done_within : (t clock : ℕ) (r : Result Board StopCause) → clock ≡ t → IfOk r (BoardWithin t) → WrittenWithin t (done_in clock r)
done_within t clock (Ok b) now h = (h, now)
done_within t clock (Err cause) now h = tt

pub write_within : (t : ℕ) (c : ClockedBoard) (at x : ℕ) → at < 256 → x ≤ 255 → t < 2 ^ 40 → c.clock ≡ t → IsBoard c.board → BoardWithin t c.board
    → WrittenWithin t (io_put c at x)
unfolding io_put
write_within t c at x low small early now states h =
    done_within t c.clock (put_by c.clock (rule_of at) c.board at x) now
    (rw now (write_by t (rule_of at) c.board at x refl low small early states h))

-- an interrupt that is served

board_if : (t : ℕ) (c : Bool) (b b' : Board) → BoardWithin t b → BoardWithin t b' → BoardWithin t (if c then b else b')
board_if t = kept_if (BoardWithin t)

beside_within : (t word : ℕ) (b : Board) → BoardWithin t b → BoardWithin t (entered_beside word b)
beside_within t word b h = search board_if depth 20

pub entered_within : (t word : ℕ) (b : Board) → BoardWithin t b → BoardWithin t (entered_of word b)
unfolding entered_of
entered_within t word b h = search (board_if, beside_within) depth 20

-- after reset

all_start : all_from (λ at. bit_and (start_of at) (kept_bits (rule_of at)) == start_of at) 0 256 ≡ true
unfolding rule_of start_of
all_start = refl

starts : (byte_time at : ℕ) → at < 256 → Keeps at (kept_at at (reset_board byte_time))
starts byte_time at low =
    let e : kept_at at (reset_board byte_time) ≡ start_of at = get_or-map-range_with_len start_of 0 256 at at 0 low (omega arith) in
    rw e (eqb-true _ _ (all_bytes (λ at. bit_and (start_of at) (kept_bits (rule_of at)) == start_of at) all_start at (omega arith)))

pub reset_within : (byte_time : ℕ) → BoardWithin 0 (reset_board byte_time)
reset_within byte_time = search (arith, starts)

-- a board of which less is asked
pub board_from : (t t' : ℕ) (b : Board) → t' ≤ t → BoardWithin t b → BoardWithin t' b
board_from t t' b less h = search shift_from
