-- A write of SPDR where the serial peripheral interface asks for no interrupt: of what is known of the board, only its
-- next end changes.
use Rattle.std.proofs.Common.{◌≡◌, ◌≤◌, ◌<◌, ◌+◌, ◌-◌, not, ℕ, if◌then◌else◌, Bool, true, false, Option, is_some, Result, Ok, Err, refl, sym, ap, ◌∙◌, subst, arith}
use Rattle.avr_base.specs.declared.interrupts.Lines.{Lines}
use Rattle.avr_base.specs.declared.stop.StopCause.{StopCause}
use Rattle.board_io.specs.declared.ahead.Forecast.{Forecast}
use Rattle.board_io.specs.declared.board.Board.{Board}
use Rattle.board_io.specs.declared.rules.Rule.TheVariants.{Spi}
use Rattle.board_io.specs.Lagging.{IsAhead}
use Rattle.board_io.specs.Lines.{lines_of}
use Rattle.board_io.specs.Passing.{changes_flag_at, is_at, sets_flag_at}
use Rattle.board_io.specs.Registers.{IsPut, put_by}
use Rattle.board_io.proofs.Apart.{lines_accessed}
use Rattle.board_io.proofs.Lags.{known}
use Rattle.board_io.proofs.Steady.{quiet_too}
use Rattle.device_base.specs.Bits.{any_bit}
use Rattle.serial_ports.specs.Spi.{asks_interrupt}
use Rattle.serial_ports.specs.SpiRegisters.{accessed, sent_out}
use Rattle.serial_ports.specs.Transmission.{end_of}
use Rattle.serial_ports.specs.declared.spi.Spi.{Spi as SpiPort}
use Rattle.serial_ports.specs.declared.spi_registers.SpiReg.TheVariants.{Spdr}

abbrev sent : ℕ → Board → ℕ → Board
sent t b x = record b { spi = sent_out t x (accessed b.spi) }

abbrev board_of : Board → Result Board StopCause → Board
board_of b (Ok c) = c
board_of b (Err cause) = b

is_sent : (t : ℕ) (b c : Board) (at x : ℕ) (r : Result (Unit {0}) StopCause) → IsPut (put_by t (Spi Spdr) b at x) b r c → c ≡ sent t b x
is_sent t b c at x (Ok u) h = sym (ap (board_of b) h)
is_sent t b c at x (Err cause) h = absurd (cc)

-- whatever comes of the byte, SPIF and SPCR stay as the access leaves them
one_of : {A : Type 0} (view : SpiPort → A) (v : A) (which : Bool) (p q : SpiPort) → view p ≡ v → view q ≡ v → view (if which then p else q) ≡ v
one_of view v true p q e f = e
one_of view v false p q e f = f

flag_sent : (t x : ℕ) (s : SpiPort) → (sent_out t x s).spif ≡ s.spif
flag_sent t x s = one_of (λ (p : SpiPort). p.spif) s.spif (not (any_bit s.control 0x40)) _ _ refl (one_of (λ (p : SpiPort). p.spif) s.spif (is_some s.shift_register) _ _ refl refl)

control_sent : (t x : ℕ) (s : SpiPort) → (sent_out t x s).control ≡ s.control
control_sent t x s = one_of (λ (p : SpiPort). p.control) s.control (not (any_bit s.control 0x40)) _ _ refl (one_of (λ (p : SpiPort). p.control) s.control (is_some s.shift_register) _ _ refl refl)

lines_sent : (t : ℕ) (b : Board) (x : ℕ) → asks_interrupt b.spi ≡ false → lines_of (sent t b x) ≡ lines_of b
lines_sent t b x down = lines_accessed b (sent_out t x (accessed b.spi)) down (flag_sent t x (accessed b.spi)) (control_sent t x (accessed b.spi))

calm_sent : (t s i : ℕ) (b : Board) (x : ℕ) → changes_flag_at s (sent t b x) i ≡ changes_flag_at s b i
calm_sent t s i b x = refl

steady_sent : (t s i : ℕ) (b : Board) (x : ℕ) → sets_flag_at s (sent t b x) i ≡ sets_flag_at s b i
steady_sent t s i b x = refl

module _ (a : Forecast) (t : ℕ) (b : Board) (h : IsAhead a t b) (x : ℕ) (down : asks_interrupt b.spi ≡ false) where
  ahead_by : (next clear : ℕ) → next - t ≤ a.next - t → ((u : ℕ) → t ≤ u → u < next → is_at (end_of (sent t b x).spi.shift_register) u ≡ false) → clear ≤ next → (0 < clear → a.lines ≡ 0)
      → IsAhead (let c : Forecast = record a { next = next; clear = clear } in c) t (sent t b x)
  ahead_by next clear most none within up =
      let early = h.early in
      let now = h.now in
      record {
        settled = h.settled;
        now = now;
        early = omega (arith, early, most, now);
        quiet = λ u later below. quiet_too u b (sent t b x) refl (h.quiet u later (omega (arith, below, most, later))) (none u later below);
        calm = λ i below. calm_sent t a.settled i b x ∙ known a t b h i next below most;
        past = λ i below. calm_sent t a.settled i b x ∙ h.past i below;
        steady = λ i below. steady_sent t a.settled i b x ∙ h.steady i below;
        lines = ap (λ (l : Lines). l.bits) (lines_sent t b x down) ∙ h.lines;
        clear = within;
        down = up;
      }

  -- what is known after it, where `calm` cycles on from now its transfer has not ended
  pub sent_ahead : (at : ℕ) (r : Result (Unit {0}) StopCause) (c : Board) (clock calm clear : ℕ) (end : Option ℕ) → IsPut (put_by t (Spi Spdr) b at x) b r c → clock ≡ t → end ≡ end_of c.spi.shift_register
      → calm ≤ a.next - clock → ((i : ℕ) → i < calm → is_at end (clock + i) ≡ false) → clear ≤ clock + calm → (0 < clear → a.lines ≡ 0)
      → IsAhead (let f : Forecast = record a { next = clock + calm; clear = clear } in f) t c
  sent_ahead at r c clock calm clear end put here ends most none within up =
      let is = is_sent t b c at x r put in
      let end_is : end ≡ end_of (sent t b x).spi.shift_register = ends ∙ ap (λ (d : Board). end_of d.spi.shift_register) is in
      subst (IsAhead (let f : Forecast = record a { next = clock + calm; clear = clear } in f) t) (sym is)
      (ahead_by (clock + calm) clear (omega (arith, here, most))
      (λ u from below. (let at_u : clock + (u - clock) ≡ u = omega (arith, here, from) in
      ap (λ (o : Option ℕ). is_at o u) (sym end_is) ∙ (ap (is_at end) (sym at_u) ∙ none (u - clock) (omega (arith, here, from, below)))))
      within up)
