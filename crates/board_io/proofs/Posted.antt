-- A write of UDR0 where room for a byte to send asks for no interrupt: of what is known of the board, only its next end
-- changes.
use Rattle.std.proofs.Common.{◌≡◌, ◌≤◌, ◌<◌, ◌+◌, ◌-◌, ◌&&◌, not, ℕ, if◌then◌else◌, Bool, true, false, Option, Some, is_some, Result, Ok, Err, refl, sym, ap, ◌∙◌, subst, arith}
use Rattle.avr_base.specs.declared.interrupts.Lines.{Lines}
use Rattle.avr_base.specs.declared.stop.StopCause.{StopCause}
use Rattle.board_io.specs.declared.ahead.Forecast.{Forecast}
use Rattle.board_io.specs.declared.board.Board.{Board}
use Rattle.board_io.specs.declared.rules.Rule.TheVariants.{Usart0}
use Rattle.board_io.specs.Lagging.{IsAhead}
use Rattle.board_io.specs.Lines.{lines_of}
use Rattle.board_io.specs.Passing.{changes_flag_at, is_at, sets_flag_at}
use Rattle.board_io.specs.Registers.{IsPut, put_by}
use Rattle.board_io.proofs.Lags.{known}
use Rattle.board_io.proofs.Steady.{quiet_beside}
use Rattle.device_base.specs.Bits.{any_bit}
use Rattle.device_base.specs.Names.{RXCIE0, TXCIE0, TXEN0, UDRIE0}
use Rattle.serial_ports.specs.Transmission.{end_of}
use Rattle.serial_ports.specs.Usart.{is_filled, lines_of as usart_lines, started}
use Rattle.serial_ports.specs.UsartRegisters.{sent_out}
use Rattle.serial_ports.specs.declared.usart.Usart.{Usart}
use Rattle.serial_ports.specs.declared.usart_registers.UsartReg.TheVariants.{Udr}

abbrev sent : ℕ → Board → ℕ → Board
sent t b x = record b { usart = sent_out t x b.usart }

abbrev board_of : Board → Result Board StopCause → Board
board_of b (Ok c) = c
board_of b (Err cause) = b

is_sent : (t : ℕ) (b c : Board) (at x : ℕ) (r : Result (Unit {0}) StopCause) → IsPut (put_by t (Usart0 Udr) b at x) b r c → c ≡ sent t b x
is_sent t b c at x (Ok u) h = sym (ap (board_of b) h)
is_sent t b c at x (Err cause) h = absurd (cc)

-- whatever comes of the byte: it waits, its frame begins, or it is lost
any_of : {A : Type 0} (view : Usart → A) (v : A) (c d e : Bool) (p q r s : Usart) → view p ≡ v → view q ≡ v → view r ≡ v → view s ≡ v → view (if c then p else if d then q else if e then r else s) ≡ v
any_of view v true d e p q r s f g h k = f
any_of view v false true e p q r s f g h k = g
any_of view v false false true p q r s f g h k = h
any_of view v false false false p q r s f g h k = k

abbrev asks_rxc : Usart → Bool
asks_rxc u = is_filled u.receive_buffer && any_bit u.control_b RXCIE0

abbrev asks_udre : Usart → Bool
asks_udre u = not (is_some u.transmit_buffer) && any_bit u.control_b UDRIE0

abbrev asks_txc : Usart → Bool
asks_txc u = u.txc && any_bit u.control_b TXCIE0

module _ (t x : ℕ) (u : Usart) where
  -- what a byte leaves of it, for any view that has the same value whatever comes of it
  sent_by : {A : Type 0} (view : Usart → A) (v : A) → view u ≡ v → view (started t x u) ≡ v → view (let w : Usart = record u { transmit_buffer = Some x } in w) ≡ v → view (sent_out t x u) ≡ v
  sent_by view v same begins waits =
      any_of view v (not (any_bit u.control_b TXEN0)) (not (is_some u.shift_register)) (is_some u.transmit_buffer) u (started t x u) u (let w : Usart = record u { transmit_buffer = Some x } in w) same begins same waits

  rxc_sent : asks_rxc (sent_out t x u) ≡ asks_rxc u
  rxc_sent = sent_by asks_rxc (asks_rxc u) refl refl refl

  txc_sent : asks_txc (sent_out t x u) ≡ asks_txc u
  txc_sent = sent_by asks_txc (asks_txc u) refl refl refl

  udre_sent : asks_udre u ≡ false → asks_udre (sent_out t x u) ≡ false
  udre_sent down = sent_by asks_udre false down down refl

lines_usart : (b : Board) (u : Usart) → asks_rxc u ≡ asks_rxc b.usart → asks_udre u ≡ false → asks_udre b.usart ≡ false → asks_txc u ≡ asks_txc b.usart → lines_of (let c : Board = record b { usart = u } in c) ≡ lines_of b
unfolding lines_of
lines_usart b u rx new old tx = rw (rx, new, old, tx) refl

lines_sent : (t : ℕ) (b : Board) (x : ℕ) → (usart_lines b.usart).udre ≡ false → lines_of (sent t b x) ≡ lines_of b
lines_sent t b x down = lines_usart b (sent_out t x b.usart) (rxc_sent t x b.usart) (udre_sent t x b.usart down) down (txc_sent t x b.usart)

calm_sent : (t s i : ℕ) (b : Board) (x : ℕ) → changes_flag_at s (sent t b x) i ≡ changes_flag_at s b i
calm_sent t s i b x = refl

steady_sent : (t s i : ℕ) (b : Board) (x : ℕ) → sets_flag_at s (sent t b x) i ≡ sets_flag_at s b i
steady_sent t s i b x = refl

module _ (a : Forecast) (t : ℕ) (b : Board) (h : IsAhead a t b) (x : ℕ) (down : (usart_lines b.usart).udre ≡ false) where
  ahead_by : (next clear : ℕ) → next - t ≤ a.next - t → ((u : ℕ) → t ≤ u → u < next → is_at (end_of (sent t b x).usart.shift_register) u ≡ false) → clear ≤ next → (0 < clear → a.lines ≡ 0)
      → IsAhead (let c : Forecast = record a { next = next; clear = clear } in c) t (sent t b x)
  ahead_by next clear most none within up =
      let early = h.early in
      let now = h.now in
      record {
        settled = h.settled;
        now = now;
        early = omega (arith, early, most, now);
        quiet = λ u later below. quiet_beside u b (sent t b x) refl (h.quiet u later (omega (arith, below, most, later))) (none u later below);
        calm = λ i below. calm_sent t a.settled i b x ∙ known a t b h i next below most;
        past = λ i below. calm_sent t a.settled i b x ∙ h.past i below;
        steady = λ i below. steady_sent t a.settled i b x ∙ h.steady i below;
        lines = ap (λ (l : Lines). l.bits) (lines_sent t b x down) ∙ h.lines;
        clear = within;
        down = up;
      }

  -- what is known after it, where `calm` cycles on from now its frame has not ended
  pub sent_ahead : (at : ℕ) (r : Result (Unit {0}) StopCause) (c : Board) (clock calm clear : ℕ) (end : Option ℕ) → IsPut (put_by t (Usart0 Udr) b at x) b r c → clock ≡ t → end ≡ end_of c.usart.shift_register
      → calm ≤ a.next - clock → ((i : ℕ) → i < calm → is_at end (clock + i) ≡ false) → clear ≤ clock + calm → (0 < clear → a.lines ≡ 0)
      → IsAhead (let f : Forecast = record a { next = clock + calm; clear = clear } in f) t c
  sent_ahead at r c clock calm clear end put here ends most none within up =
      let is = is_sent t b c at x r put in
      let end_is : end ≡ end_of (sent t b x).usart.shift_register = ends ∙ ap (λ (d : Board). end_of d.usart.shift_register) is in
      subst (IsAhead (let f : Forecast = record a { next = clock + calm; clear = clear } in f) t) (sym is)
      (ahead_by (clock + calm) clear (omega (arith, here, most))
      (λ u from below. (let at_u : clock + (u - clock) ≡ u = omega (arith, here, from) in
      ap (λ (o : Option ℕ). is_at o u) (sym end_is) ∙ (ap (is_at end) (sym at_u) ∙ none (u - clock) (omega (arith, here, from, below)))))
      within up)
