-- An access that looks at no timer is the same on a board whose timers lag, and leaves what is known of it.
use Rattle.std.proofs.Common.{◌≡◌, ◌≢◌, ℕ, ◌-◌, ◌<◌, ◌==◌, ◌&&◌, not, if◌then◌else◌, Bool, true, false, Result, Ok, Err, refl, sym, ap, ◌∙◌, subst}
use Rattle.std.specs.Prelude.{bit_and}
use Rattle.std.proofs.lemmas.Bool.{and_parts, eq-eqb}
use Rattle.std.proofs.lemmas.List.{get_or-set_other}
use Rattle.avr_base.specs.declared.stop.StopCause.{StopCause}
use Rattle.board_io.specs.declared.ahead.Forecast.{Forecast}
use Rattle.board_io.specs.declared.board.Board.{Board}
use Rattle.board_io.specs.declared.clocked.ClockedBoard.{ClockedBoard}
use Rattle.board_io.specs.declared.rules.Rule.{Rule}
use Rattle.board_io.specs.declared.rules.Rule.TheVariants.{Reserved, Pin, Kept, Guarded, WatchdogControl, ResetFlags, CpuControl, TimerFlags, ExtendedTimerFlags, Timer0, Timer1, Timer2, Timer3, Usart0, Spi}
use Rattle.board_io.specs.Board.{clocked, kept_at, with_kept}
use Rattle.board_io.specs.Cycle.{board_quiet, timers_leap}
use Rattle.board_io.specs.Lagging.{IsAhead, caught_up, is_high, is_no_mask, is_plain_read, is_plain_write}
use Rattle.board_io.specs.Lines.{lines_of}
use Rattle.board_io.specs.Names.{ETIMSK, IVSEL, SRE, TIMSK, WDCE, WDE}
use Rattle.board_io.specs.Registers.{IsGot, IsPut, extended_timer_flags, get_by, get_in, got_in, put_by, put_in, timer_flags}
use Rattle.board_io.specs.Passing.{changes_flag_at, sets_flag_at}
use Rattle.board_io.proofs.Agree.{get_clocked, put_clocked}
use Rattle.board_io.proofs.Steady.{flags_0, flags_1, flags_2, flags_3}
use Rattle.avr_timers.specs.declared.flags.TimerFlags.{TimerFlags as Flags}
use Rattle.device_base.specs.Bits.{any_bit}
use Rattle.avr_timers.specs.Clock.{cycles}
use Rattle.avr_base.specs.declared.interrupts.Lines.{Lines}
use Rattle.serial_ports.specs.declared.spi.Spi.{Spi as SpiPort}
use Rattle.serial_ports.specs.declared.spi_registers.SpiReg.TheVariants as spi
use Rattle.serial_ports.specs.Spi.{asks_interrupt}
use Rattle.serial_ports.specs.SpiRegisters.{accessed}
use Rattle.serial_ports.specs.Usart.{is_filled, lines_of as usart_lines}
use Rattle.serial_ports.specs.UsartRegisters.{get_of, without_oldest}
use Rattle.serial_ports.specs.declared.usart_receive_buffer.ReceiveBuffer.{ReceiveBuffer}
use Rattle.serial_ports.specs.declared.usart_receive_buffer.ReceiveBuffer.TheVariants.{Empty, One, Two}
use Rattle.device_base.specs.Names.{RXCIE0}
use Rattle.avr_timers.specs.declared.registers16.Reg16.{Reg16}
use Rattle.avr_timers.specs.declared.registers16.Reg16.TheVariants as high
use Rattle.avr_timers.proofs.Later16.{temp_cycles}
use Rattle.avr_timers.specs.declared.registers8.Reg8.{Reg8}
use Rattle.avr_timers.specs.Registers16 as reg16s
use Rattle.avr_timers.specs.Registers8 as reg8
use Rattle.avr_timers.specs.Timer8 as timer8
use Rattle.avr_timers.specs.declared.timer16.Timer16.{Timer16}
use Rattle.avr_timers.specs.Timer16 as timer16
use Rattle.serial_ports.specs.declared.usart_registers.UsartReg.TheVariants as usart

abbrev with_temp : ℕ → Timer16 → Timer16
with_temp x u = record u { temp = x }

-- what a board has of lines and ends, now and later, another one has
pub record IsLike (b c : Board) : Type 0 where
  pub quiet : (t : ℕ) → board_quiet t c ≡ board_quiet t b
  pub calm : (t i : ℕ) → changes_flag_at t c i ≡ changes_flag_at t b i
  pub steady : (t i : ℕ) → sets_flag_at t c i ≡ sets_flag_at t b i
  pub lines : lines_of c ≡ lines_of b

itself : (b : Board) → IsLike b b
itself b = record { quiet = λ t. refl; calm = λ t i. refl; steady = λ t i. refl; lines = refl }

like_ahead : (a : Forecast) (t : ℕ) (b c : Board) → IsLike b c → IsAhead a t b → IsAhead a t c
like_ahead a t b c like h = record {
  settled = h.settled;
  now = h.now;
  early = h.early;
  clear = h.clear;
  down = h.down;
  quiet = λ u from below. like.quiet u ∙ h.quiet u from below;
  calm = λ i below. like.calm a.settled i ∙ h.calm i below;
  past = λ i below. like.calm a.settled i ∙ h.past i below;
  steady = λ i below. like.steady a.settled i ∙ h.steady i below;
  lines = ap (λ (l : Lines). l.bits) like.lines ∙ h.lines;
}

-- ---- reads
abbrev pub GotApart : Board → ℕ → ℕ → Result (ℕ × Board) StopCause → Result (ℕ × Board) StopCause → Type 0
GotApart b s n (Ok p) late = (late ≡ Ok (p.0, timers_leap s n p.1)) × IsLike b p.1
GotApart b s n (Err cause) late = late ≡ Err cause

false_true : false ≡ true → ⊥
false_true e = cc

timer_flags_later : (s n : ℕ) (b : Board) → ((i : ℕ) → i < n → changes_flag_at s b i ≡ false) → timer_flags (timers_leap s n b) ≡ timer_flags b
unfolding timers_leap
timer_flags_later s n b none =
    let f0 = flags_0 s n b none in
    let f1 = flags_1 s n b none in
    let f2 = flags_2 s n b none in
    let over0 = ap (λ (f : Flags). f.tov) f0 in
    let comp0 = ap (λ (f : Flags). f.ocf_a) f0 in
    let over2 = ap (λ (f : Flags). f.tov) f2 in
    let comp2 = ap (λ (f : Flags). f.ocf_a) f2 in
    rw (over0, comp0, over2, comp2, f1) refl

extended_flags_later : (s n : ℕ) (b : Board) → ((i : ℕ) → i < n → changes_flag_at s b i ≡ false) → extended_timer_flags (timers_leap s n b) ≡ extended_timer_flags b
unfolding timers_leap
extended_flags_later s n b none =
    let f1 = flags_1 s n b none in
    let f3 = flags_3 s n b none in
    rw (f1, f3) refl

pub got_apart : (rule : Rule) (b : Board) (at s n : ℕ) → is_plain_read rule ≡ true → ((i : ℕ) → i < n → changes_flag_at s b i ≡ false) → GotApart b s n (get_by rule b at) (get_by rule (timers_leap s n b) at)
unfolding timers_leap board_quiet lines_of
got_apart Reserved b at s n e none = refl
got_apart (Pin port) b at s n e none = (refl, itself b)
got_apart (Kept mask) b at s n e none = (refl, itself b)
got_apart (Guarded bits cause mask) b at s n e none = (refl, itself b)
got_apart WatchdogControl b at s n e none = (refl, itself b)
got_apart ResetFlags b at s n e none = (refl, itself b)
got_apart CpuControl b at s n e none = (refl, itself b)
got_apart TimerFlags b at s n e none = (ap (λ x. let r : Result (ℕ × Board) StopCause = Ok (x, timers_leap s n b) in r) (timer_flags_later s n b none), itself b)
got_apart ExtendedTimerFlags b at s n e none = (ap (λ x. let r : Result (ℕ × Board) StopCause = Ok (x, timers_leap s n b) in r) (extended_flags_later s n b none), itself b)
got_apart (Timer0 reg) b at s n e none = absurd (false_true e)
got_apart (Timer1 reg) b at s n e none = absurd (false_true e)
got_apart (Timer2 reg) b at s n e none = absurd (false_true e)
got_apart (Timer3 reg) b at s n e none = absurd (false_true e)
got_apart (Usart0 usart.StatusA) b at s n e none = (refl, itself b)
got_apart (Usart0 usart.ControlB) b at s n e none = (refl, itself b)
got_apart (Usart0 usart.ControlC) b at s n e none = (refl, itself b)
got_apart (Usart0 usart.BaudL) b at s n e none = (refl, itself b)
got_apart (Usart0 usart.BaudH) b at s n e none = (refl, itself b)
got_apart (Usart0 usart.Udr) b at s n e none = absurd (false_true e)
got_apart (Spi spi.Control) b at s n e none = (refl, itself b)
got_apart (Spi spi.Status) b at s n e none = (refl, record { quiet = λ t. refl; calm = λ t i. refl; steady = λ t i. refl; lines = refl })
got_apart (Spi spi.Spdr) b at s n e none = absurd (false_true e)

-- where the serial peripheral interface asks for no interrupt, it asks for none after an access
asks_no_more : (flag noted on : Bool) → (flag && on) ≡ false → ((flag && not noted) && on) ≡ false
asks_no_more false noted on e = refl
asks_no_more true false on e = e
asks_no_more true true on e = refl

-- and where no byte that was received does, none does after one is read
reads_no_more : (r : ReceiveBuffer) (on : Bool) → (is_filled r && on) ≡ false → (is_filled (without_oldest r) && on) ≡ false
reads_no_more Empty on e = e
reads_no_more (One a) on e = refl
reads_no_more (Two a b) on e = e

lines_udr : (b : Board) → (usart_lines b.usart).rxc ≡ false → lines_of (let c : Board = record b { usart = (get_of b.usart usart.Udr).1 } in c) ≡ lines_of b
unfolding lines_of
lines_udr b e = rw (e, reads_no_more b.usart.receive_buffer (any_bit b.usart.control_b RXCIE0) e) refl

pub got_udr : (b : Board) (at s n : ℕ) → (usart_lines b.usart).rxc ≡ false → GotApart b s n (get_by (Usart0 usart.Udr) b at) (get_by (Usart0 usart.Udr) (timers_leap s n b) at)
unfolding timers_leap board_quiet
got_udr b at s n e = (refl, record { quiet = λ t. refl; calm = λ t i. refl; steady = λ t i. refl; lines = lines_udr b e })

lines_spi : (b : Board) (p : SpiPort) → asks_interrupt b.spi ≡ false → asks_interrupt p ≡ false → lines_of (let c : Board = record b { spi = p } in c) ≡ lines_of b
unfolding lines_of
lines_spi b p e f = rw (e, f) refl

pub lines_accessed : (b : Board) (p : SpiPort) → asks_interrupt b.spi ≡ false → p.spif ≡ (accessed b.spi).spif → p.control ≡ b.spi.control → lines_of (let c : Board = record b { spi = p } in c) ≡ lines_of b
lines_accessed b p e flag control =
    lines_spi b p e (ap (λ (f : Bool). f && any_bit p.control 0x80) flag ∙ (ap (λ (k : ℕ). (accessed b.spi).spif && any_bit k 0x80) control ∙ asks_no_more b.spi.spif b.spi.noted_spif (any_bit b.spi.control 0x80) e))

pub got_spdr : (b : Board) (at s n : ℕ) → asks_interrupt b.spi ≡ false → GotApart b s n (get_by (Spi spi.Spdr) b at) (get_by (Spi spi.Spdr) (timers_leap s n b) at)
unfolding timers_leap board_quiet
got_spdr b at s n e = (refl, record { quiet = λ t. refl; calm = λ t i. refl; steady = λ t i. refl; lines = lines_accessed b _ e refl refl })

-- what a read did on the board that it was caught up to, is told of the value before and after it
pub read_late : (rule : Rule) (at t : ℕ) (r : Result ℕ StopCause) (b c w : Board) (v : ClockedBoard) → clocked t b ≡ v → w ≡ c → IsGot (get_by rule b at) b r c → IsGot (get_in rule v at) v r (clocked t w)
read_late rule at t r b c w v now new h =
    subst (λ (d : Board). IsGot (get_in rule v at) v r (clocked t d)) (sym new)
    (subst (λ (d : ClockedBoard). IsGot (get_in rule d at) d r (clocked t c)) now (get_clocked rule (clocked t b) at r c h))

module _ (rule : Rule) (b : Board) (at s t : ℕ) (apart : GotApart b s (t - s) (get_by rule b at) (get_by rule (caught_up s t b) at)) where
  got : (g : Result (ℕ × Board) StopCause) → get_by rule b at ≡ g → GotApart b s (t - s) g (get_by rule (caught_up s t b) at)
  got g h = subst (λ r. GotApart b s (t - s) r (get_by rule (caught_up s t b) at)) h apart

  read_now : (r : Result ℕ StopCause) (c : Board) → IsGot (get_by rule b at) b r c → IsGot (get_by rule (caught_up s t b) at) (caught_up s t b) r (caught_up s t c)
  read_now (Ok x) c h = (got (Ok (x, c)) h).0
  read_now (Err cause) c h = (got (Err cause) h.0, ap (caught_up s t) h.1)

  pub read_by : (r : Result ℕ StopCause) (c : Board) (v : ClockedBoard) → clocked t (caught_up s t b) ≡ v → IsGot (get_by rule b at) b r c → IsGot (get_in rule v at) v r (clocked t (caught_up s t c))
  read_by r c v is h = read_late rule at t r (caught_up s t b) (caught_up s t c) (caught_up s t c) v is refl (read_now r c h)

  pub read_ahead_by : (r : Result ℕ StopCause) (a : Forecast) (c : Board) → IsGot (get_by rule b at) b r c → IsAhead a t b → IsAhead a t c
  read_ahead_by (Ok x) a c h k = like_ahead a t b c (got (Ok (x, c)) h).1 k
  read_ahead_by (Err cause) a c h k = subst (IsAhead a t) (sym h.1) k

-- reads of the timers: TEMP alone may change
like_t1 : (b : Board) (tm : Timer16) → tm ≡ with_temp tm.temp b.t1 → IsLike b (let c : Board = record b { t1 = tm } in c)
unfolding board_quiet lines_of
like_t1 b tm e = subst (λ (u : Timer16). IsLike b (let c : Board = record b { t1 = u } in c)) (sym e) (temp_like tm.temp)
  where
    temp_like : (x : ℕ) → IsLike b (let c : Board = record b { t1 = with_temp x b.t1 } in c)
    temp_like x = record { quiet = λ t. refl; calm = λ t i. refl; steady = λ t i. refl; lines = refl }

like_t3 : (b : Board) (tm : Timer16) → tm ≡ with_temp tm.temp b.t3 → IsLike b (let c : Board = record b { t3 = tm } in c)
unfolding board_quiet lines_of
like_t3 b tm e = subst (λ (u : Timer16). IsLike b (let c : Board = record b { t3 = u } in c)) (sym e) (temp_like tm.temp)
  where
    temp_like : (x : ℕ) → IsLike b (let c : Board = record b { t3 = with_temp x b.t3 } in c)
    temp_like x = record { quiet = λ t. refl; calm = λ t i. refl; steady = λ t i. refl; lines = refl }

pub ahead_t1 : (a : Forecast) (t : ℕ) (b : Board) (tm : Timer16) → tm ≡ with_temp tm.temp b.t1 → IsAhead a t b → IsAhead a t (let c : Board = record b { t1 = tm } in c)
ahead_t1 a t b tm e h = like_ahead a t b (let c : Board = record b { t1 = tm } in c) (like_t1 b tm e) h

pub ahead_t3 : (a : Forecast) (t : ℕ) (b : Board) (tm : Timer16) → tm ≡ with_temp tm.temp b.t3 → IsAhead a t b → IsAhead a t (let c : Board = record b { t3 = tm } in c)
ahead_t3 a t b tm e h = like_ahead a t b (let c : Board = record b { t3 = tm } in c) (like_t3 b tm e) h

module _ (rule : Rule) (b : Board) (v : ClockedBoard) (at s t x : ℕ) (is : clocked t (caught_up s t b) ≡ v) where
  -- at the value, what is got at the board that is caught up
  got_late : (c : Board) → get_by rule (caught_up s t b) at ≡ Ok (x, c) → get_in rule v at ≡ Ok (x, clocked t c)
  got_late c h = subst (λ (w : ClockedBoard). get_in rule w at ≡ Ok (x, clocked t c)) is (ap (got_in t) h)

  pub read_t0 : (reg : Reg8) → rule ≡ Timer0 reg → x ≡ reg8.get_of (cycles timer8.timer_cycle s (t - s) b.t0) reg → get_in rule v at ≡ Ok (x, v)
  unfolding timers_leap
  read_t0 reg r e =
      got_late (caught_up s t b)
      (ap (λ (k : Rule). get_by k (caught_up s t b) at) r ∙ ap (λ y. let g : Result (ℕ × Board) StopCause = Ok (y, caught_up s t b) in g) (sym e))
      ∙ ap (λ (w : ClockedBoard). let g : Result (ℕ × ClockedBoard) StopCause = Ok (x, w) in g) is

  pub read_t2 : (reg : Reg8) → rule ≡ Timer2 reg → x ≡ reg8.get_of (cycles timer8.timer_cycle s (t - s) b.t2) reg → get_in rule v at ≡ Ok (x, v)
  unfolding timers_leap
  read_t2 reg r e =
      got_late (caught_up s t b)
      (ap (λ (k : Rule). get_by k (caught_up s t b) at) r ∙ ap (λ y. let g : Result (ℕ × Board) StopCause = Ok (y, caught_up s t b) in g) (sym e))
      ∙ ap (λ (w : ClockedBoard). let g : Result (ℕ × ClockedBoard) StopCause = Ok (x, w) in g) is

  pub read_t1 : (reg : Reg16) (tm : Timer16) → rule ≡ Timer1 reg → reg16s.get_of (cycles timer16.timer_cycle s (t - s) b.t1) reg ≡ (x, cycles timer16.timer_cycle s (t - s) tm)
      → IsGot (get_in rule v at) v (Ok x) (clocked t (caught_up s t (let c : Board = record b { t1 = tm } in c)))
  unfolding timers_leap
  read_t1 reg tm r e =
      got_late (caught_up s t (let c : Board = record b { t1 = tm } in c))
      (ap (λ (k : Rule). get_by k (caught_up s t b) at) r
      ∙ ap (λ (p : ℕ × Timer16). let c : Board = record (caught_up s t b) { t1 = p.1 } in let g : Result (ℕ × Board) StopCause = Ok (p.0, c) in g) e)

  pub read_t3 : (reg : Reg16) (tm : Timer16) → rule ≡ Timer3 reg → reg16s.get_of (cycles timer16.timer_cycle s (t - s) b.t3) reg ≡ (x, cycles timer16.timer_cycle s (t - s) tm)
      → IsGot (get_in rule v at) v (Ok x) (clocked t (caught_up s t (let c : Board = record b { t3 = tm } in c)))
  unfolding timers_leap
  read_t3 reg tm r e =
      got_late (caught_up s t (let c : Board = record b { t3 = tm } in c))
      (ap (λ (k : Rule). get_by k (caught_up s t b) at) r
      ∙ ap (λ (p : ℕ × Timer16). let c : Board = record (caught_up s t b) { t3 = p.1 } in let g : Result (ℕ × Board) StopCause = Ok (p.0, c) in g) e)

-- ---- writes
abbrev pub PutApart : Board → ℕ → ℕ → Result Board StopCause → Result Board StopCause → Type 0
PutApart b s n (Ok c) late = (late ≡ Ok (timers_leap s n c)) × IsLike b c
PutApart b s n (Err cause) late = late ≡ Err cause

not_at : (at k : ℕ) → not (at == k) ≡ true → k ≢ at
not_at at k e same = false_true (sym (ap (λ (b : Bool). not b) (eq-eqb at k (sym same))) ∙ e)

-- a register that only holds a byte, and enables nothing
like_kept : (at y : ℕ) (b : Board) → is_no_mask at ≡ true → IsLike b (with_kept at y b)
unfolding timers_leap board_quiet lines_of
like_kept at y b e =
    let parts = and_parts (not (at == TIMSK)) (not (at == ETIMSK)) e in
    let m : kept_at TIMSK (with_kept at y b) ≡ kept_at TIMSK b = get_or-set_other b.kept at TIMSK y 0 (not_at at TIMSK parts.0) in
    let x : kept_at ETIMSK (with_kept at y b) ≡ kept_at ETIMSK b = get_or-set_other b.kept at ETIMSK y 0 (not_at at ETIMSK parts.1) in
    record { quiet = λ t. refl; calm = λ t i. refl; steady = λ t i. refl; lines = rw (m, x) refl }

either : (b : Board) (s n : ℕ) (c : Bool) (p q u w : Result Board StopCause) → PutApart b s n p u → PutApart b s n q w → PutApart b s n (if c then p else q) (if c then u else w)
either b s n true p q u w h k = h
either b s n false p q u w h k = k

kept_apart : (b : Board) (at y s n : ℕ) → is_no_mask at ≡ true → PutApart b s n (Ok (with_kept at y b)) (Ok (with_kept at y (timers_leap s n b)))
unfolding timers_leap
kept_apart b at y s n e = (refl, like_kept at y b e)

-- a high byte of a timer of sixteen bits: TEMP alone
temp_1 : (b : Board) (x s n : ℕ) → PutApart b s n (Ok (let c : Board = record b { t1 = with_temp x b.t1 } in c)) (Ok (let c : Board = record (timers_leap s n b) { t1 = with_temp x (timers_leap s n b).t1 } in c))
unfolding timers_leap
temp_1 b x s n =
    (ap (λ (u : Timer16). let c : Board = record (timers_leap s n b) { t1 = u } in let r : Result Board StopCause = Ok c in r) (sym (temp_cycles s n x b.t1)), like_t1 b (with_temp x b.t1) refl)

put_t1 : (t : ℕ) (reg : Reg16) (b : Board) (at x s n : ℕ) → is_high reg ≡ true → PutApart b s n (put_by t (Timer1 reg) b at x) (put_by t (Timer1 reg) (timers_leap s n b) at x)
put_t1 t high.CountH b at x s n e = temp_1 b x s n
put_t1 t high.IcrH b at x s n e = temp_1 b x s n
put_t1 t (high.CompH chan) b at x s n e = temp_1 b x s n
put_t1 t _ b at x s n e = absurd (false_true e)

temp_3 : (b : Board) (x s n : ℕ) → PutApart b s n (Ok (let c : Board = record b { t3 = with_temp x b.t3 } in c)) (Ok (let c : Board = record (timers_leap s n b) { t3 = with_temp x (timers_leap s n b).t3 } in c))
unfolding timers_leap
temp_3 b x s n =
    (ap (λ (u : Timer16). let c : Board = record (timers_leap s n b) { t3 = u } in let r : Result Board StopCause = Ok c in r) (sym (temp_cycles s n x b.t3)), like_t3 b (with_temp x b.t3) refl)

put_t3 : (t : ℕ) (reg : Reg16) (b : Board) (at x s n : ℕ) → is_high reg ≡ true → PutApart b s n (put_by t (Timer3 reg) b at x) (put_by t (Timer3 reg) (timers_leap s n b) at x)
put_t3 t high.CountH b at x s n e = temp_3 b x s n
put_t3 t high.IcrH b at x s n e = temp_3 b x s n
put_t3 t (high.CompH chan) b at x s n e = temp_3 b x s n
put_t3 t _ b at x s n e = absurd (false_true e)

put_apart : (t : ℕ) (rule : Rule) (b : Board) (at x s n : ℕ) → is_plain_write rule at ≡ true → PutApart b s n (put_by t rule b at x) (put_by t rule (timers_leap s n b) at x)
unfolding timers_leap
put_apart t Reserved b at x s n e = refl
put_apart t (Pin port) b at x s n e = (refl, itself b)
put_apart t (Kept mask) b at x s n e = kept_apart b at (bit_and x mask) s n e
put_apart t (Guarded bits cause mask) b at x s n e = either b s n (any_bit x bits) _ _ _ _ refl (kept_apart b at (bit_and x mask) s n e)
put_apart t WatchdogControl b at x s n e = either b s n (any_bit x WDE && not (any_bit x WDCE)) _ _ _ _ refl (refl, itself b)
put_apart t ResetFlags b at x s n e = kept_apart b at _ s n e
put_apart t CpuControl b at x s n e =
    either b s n (any_bit x SRE) _ _ _ _ refl (either b s n (any_bit x IVSEL) _ _ _ _ refl (kept_apart b at (bit_and x 0x7C) s n e))
put_apart t TimerFlags b at x s n e = absurd (false_true e)
put_apart t ExtendedTimerFlags b at x s n e = absurd (false_true e)
put_apart t (Timer0 reg) b at x s n e = absurd (false_true e)
put_apart t (Timer1 reg) b at x s n e = put_t1 t reg b at x s n e
put_apart t (Timer2 reg) b at x s n e = absurd (false_true e)
put_apart t (Timer3 reg) b at x s n e = put_t3 t reg b at x s n e
put_apart t (Usart0 reg) b at x s n e = absurd (false_true e)
put_apart t (Spi reg) b at x s n e = absurd (false_true e)

-- a write that catches up before or behind it
pub write_late : (rule : Rule) (at x t : ℕ) (r : Result (Unit {0}) StopCause) (b c w : Board) (v : ClockedBoard) → clocked t b ≡ v → w ≡ c → IsPut (put_by t rule b at x) b r c → IsPut (put_in rule v at x) v r (clocked t w)
write_late rule at x t r b c w v now new h =
    subst (λ (d : Board). IsPut (put_in rule v at x) v r (clocked t d)) (sym new)
    (subst (λ (d : ClockedBoard). IsPut (put_in rule d at x) d r (clocked t c)) now (put_clocked rule (clocked t b) at x r c h))

module _ (rule : Rule) (b : Board) (at x s t : ℕ) (apart : PutApart b s (t - s) (put_by t rule b at x) (put_by t rule (caught_up s t b) at x)) where
  done : (g : Result Board StopCause) → put_by t rule b at x ≡ g → PutApart b s (t - s) g (put_by t rule (caught_up s t b) at x)
  done g h = subst (λ r. PutApart b s (t - s) r (put_by t rule (caught_up s t b) at x)) h apart

  write_now : (r : Result (Unit {0}) StopCause) (c : Board) → IsPut (put_by t rule b at x) b r c → IsPut (put_by t rule (caught_up s t b) at x) (caught_up s t b) r (caught_up s t c)
  write_now (Ok u) c h = (done (Ok c) h).0
  write_now (Err cause) c h = (done (Err cause) h.0, ap (caught_up s t) h.1)

  pub write_apart : (r : Result (Unit {0}) StopCause) (c : Board) (v : ClockedBoard) → clocked t (caught_up s t b) ≡ v → IsPut (put_by t rule b at x) b r c → IsPut (put_in rule v at x) v r (clocked t (caught_up s t c))
  write_apart r c v is h = write_late rule at x t r (caught_up s t b) (caught_up s t c) (caught_up s t c) v is refl (write_now r c h)

  pub write_ahead_apart : (r : Result (Unit {0}) StopCause) (a : Forecast) (c : Board) → IsPut (put_by t rule b at x) b r c → IsAhead a t b → IsAhead a t c
  write_ahead_apart (Ok u) a c h k = like_ahead a t b c (done (Ok c) h).1 k
  write_ahead_apart (Err cause) a c h k = subst (IsAhead a t) (sym h.1) k

-- so is one that moves no event, leaves the lines, and what may end
module _ (rule : Rule) (b : Board) (at x s t : ℕ) (e : is_plain_write rule at ≡ true) where
  pub write_by : (r : Result (Unit {0}) StopCause) (c : Board) (v : ClockedBoard) → clocked t (caught_up s t b) ≡ v → IsPut (put_by t rule b at x) b r c → IsPut (put_in rule v at x) v r (clocked t (caught_up s t c))
  write_by r c v is h = write_apart rule b at x s t (put_apart t rule b at x s (t - s) e) r c v is h

  pub write_ahead_by : (r : Result (Unit {0}) StopCause) (a : Forecast) (c : Board) → IsPut (put_by t rule b at x) b r c → IsAhead a t b → IsAhead a t c
  write_ahead_by r a c h k = write_ahead_apart rule b at x s t (put_apart t rule b at x s (t - s) e) r a c h k
