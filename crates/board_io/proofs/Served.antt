-- What serving an interrupt and a write of TIFR or ETIFR do to a board whose timers lag: they clear flags, now as well as
-- later.
use Rattle.std.proofs.Common.{◌≤◌, ◌≡◌, ℕ, ◌+◌, ◌-◌, ◌<◌, ◌==◌, ◌||◌, if◌then◌else◌, Bool, true, false, Result, Ok, Err, refl, sym, subst, ap, ◌∙◌, arith}
use Rattle.avr_base.specs.declared.stop.StopCause.{StopCause}
use Rattle.board_io.specs.declared.rules.Rule.{Rule}
use Rattle.board_io.specs.declared.rules.Rule.TheVariants.{TimerFlags as Tifr, ExtendedTimerFlags as Etifr}
use Rattle.board_io.specs.Registers.{IsPut, extended_flags_cleared, flags_cleared, put_by, put_in}
use Rattle.board_io.proofs.Agree.{put_clocked}
use Rattle.device_base.specs.Bits.{any_bit}
use Rattle.board_io.specs.declared.ahead.Forecast.{Forecast}
use Rattle.board_io.specs.declared.board.Board.{Board}
use Rattle.board_io.specs.declared.clocked.ClockedBoard.{ClockedBoard}
use Rattle.board_io.specs.Board.{clocked}
use Rattle.board_io.specs.Cycle.{board_quiet, timers_leap}
use Rattle.board_io.specs.Lagging.{IsAhead, caught_up, is_flags}
use Rattle.board_io.specs.Lines.{entered_of, lines_of, no_flags}
use Rattle.board_io.specs.Names.{ICF1, ICF3, OCF0, OCF1A, OCF1B, OCF1C, OCF2, OCF3A, OCF3B, OCF3C, TOV0, TOV1, TOV2, TOV3, SPI_STC, TIMER0_COMP, TIMER0_OVF, TIMER1_COMPA, TIMER1_COMPB, TIMER1_COMPC, TIMER1_OVF, TIMER2_COMP, TIMER2_OVF, TIMER3_COMPA, TIMER3_COMPB, TIMER3_COMPC, TIMER3_OVF, USART0_TX}
use Rattle.board_io.specs.Passing.{sets_flag_at}
use Rattle.board_io.proofs.Steady.{calm_each, changes_none}
use Rattle.avr_timers.specs.declared.flags.TimerFlags.{TimerFlags}
use Rattle.avr_timers.proofs.Clocks16 as clocks16
use Rattle.avr_timers.specs.declared.timer16.Timer16.{Timer16}
use Rattle.avr_timers.specs.Timer16 as timer16
use Rattle.avr_timers.proofs.Clocks8 as clocks8
use Rattle.avr_timers.specs.declared.timer8.Timer8.{Timer8}
use Rattle.avr_timers.specs.Timer8 as timer8

module _ (s n : ℕ) (b : Board) (none : (i : ℕ) → i < n → sets_flag_at s b i ≡ false) where
  -- the board c has other flags than b, and n cycles on it is d
  record IsServed (c d : Board) : Type 0 where
    pub quiet : (t : ℕ) → board_quiet t c ≡ board_quiet t b
    pub calm : (m : ℕ) → ((i : ℕ) → i < m → sets_flag_at s b i ≡ false) → sets_flag_at s c m ≡ sets_flag_at s b m
    pub late : timers_leap s n c ≡ d

  pick : (which : Bool) (c d x y : Board) → IsServed c x → IsServed d y → IsServed (if which then c else d) (if which then x else y)
  pick true c d x y e f = e
  pick false c d x y e f = f

  is_none : IsServed b (timers_leap s n b)
  is_none = record { quiet = λ t. refl; calm = λ m before. refl; late = refl }

  is_spi : IsServed (let c : Board = record b { spi = record b.spi { spif = false } } in c) (let d : Board = record (timers_leap s n b) { spi = record (timers_leap s n b).spi { spif = false } } in d)
  unfolding timers_leap board_quiet
  is_spi = record { quiet = λ t. refl; calm = λ m before. refl; late = refl }

  is_usart : IsServed (let c : Board = record b { usart = record b.usart { txc = false } } in c) (let d : Board = record (timers_leap s n b) { usart = record (timers_leap s n b).usart { txc = false } } in d)
  unfolding timers_leap board_quiet
  is_usart = record { quiet = λ t. refl; calm = λ m before. refl; late = refl }

  is_t0 : (f : TimerFlags) → IsServed (let c : Board = record b { t0 = timer8.cleared b.t0 f } in c) (let d : Board = record (timers_leap s n b) { t0 = timer8.cleared (timers_leap s n b).t0 f } in d)
  unfolding timers_leap board_quiet
  is_t0 f = record {
    quiet = λ t. refl;
    calm = λ m before. ap (λ (x : Bool). x || timer16.sets_flag_at s b.t1 m || timer8.sets_flag_at s b.t2 m || timer16.sets_flag_at s b.t3 m) (clocks8.sets-cleared s m f b.t0 (λ i l. (calm_each s i b (before i l)).t0));
    late = ap (λ (u : Timer8). let d : Board = record (timers_leap s n b) { t0 = u } in d) (clocks8.cleared-until s n f b.t0 (λ i l. (calm_each s i b (none i l)).t0));
  }

  is_t1 : (f : TimerFlags) → IsServed (let c : Board = record b { t1 = timer16.cleared b.t1 f } in c) (let d : Board = record (timers_leap s n b) { t1 = timer16.cleared (timers_leap s n b).t1 f } in d)
  unfolding timers_leap board_quiet
  is_t1 f = record {
    quiet = λ t. refl;
    calm = λ m before. ap (λ (x : Bool). timer8.sets_flag_at s b.t0 m || x || timer8.sets_flag_at s b.t2 m || timer16.sets_flag_at s b.t3 m) (clocks16.sets-cleared s m f b.t1 (λ i l. (calm_each s i b (before i l)).t1));
    late = ap (λ (u : Timer16). let d : Board = record (timers_leap s n b) { t1 = u } in d) (clocks16.cleared-until s n f b.t1 (λ i l. (calm_each s i b (none i l)).t1));
  }

  is_t2 : (f : TimerFlags) → IsServed (let c : Board = record b { t2 = timer8.cleared b.t2 f } in c) (let d : Board = record (timers_leap s n b) { t2 = timer8.cleared (timers_leap s n b).t2 f } in d)
  unfolding timers_leap board_quiet
  is_t2 f = record {
    quiet = λ t. refl;
    calm = λ m before. ap (λ (x : Bool). timer8.sets_flag_at s b.t0 m || timer16.sets_flag_at s b.t1 m || x || timer16.sets_flag_at s b.t3 m) (clocks8.sets-cleared s m f b.t2 (λ i l. (calm_each s i b (before i l)).t2));
    late = ap (λ (u : Timer8). let d : Board = record (timers_leap s n b) { t2 = u } in d) (clocks8.cleared-until s n f b.t2 (λ i l. (calm_each s i b (none i l)).t2));
  }

  is_t3 : (f : TimerFlags) → IsServed (let c : Board = record b { t3 = timer16.cleared b.t3 f } in c) (let d : Board = record (timers_leap s n b) { t3 = timer16.cleared (timers_leap s n b).t3 f } in d)
  unfolding timers_leap board_quiet
  is_t3 f = record {
    quiet = λ t. refl;
    calm = λ m before. ap (λ (x : Bool). timer8.sets_flag_at s b.t0 m || timer16.sets_flag_at s b.t1 m || timer8.sets_flag_at s b.t2 m || x) (clocks16.sets-cleared s m f b.t3 (λ i l. (calm_each s i b (before i l)).t3));
    late = ap (λ (u : Timer16). let d : Board = record (timers_leap s n b) { t3 = u } in d) (clocks16.cleared-until s n f b.t3 (λ i l. (calm_each s i b (none i l)).t3));
  }

  served : (word : ℕ) → IsServed (entered_of word b) (entered_of word (timers_leap s n b))
  unfolding entered_of
  served word =
      pick (word == TIMER2_COMP) _ _ _ _ (is_t2 (record no_flags { ocf_a = true })) (pick (word == TIMER2_OVF) _ _ _ _ (is_t2 (record no_flags { tov = true })) (pick (word == TIMER1_COMPA) _ _ _ _ (is_t1 (record no_flags { ocf_a = true })) (pick (word == TIMER1_COMPB) _ _ _ _ (is_t1 (record no_flags { ocf_b = true })) (pick (word == TIMER1_OVF) _ _ _ _ (is_t1 (record no_flags { tov = true })) (pick (word == TIMER0_COMP) _ _ _ _ (is_t0 (record no_flags { ocf_a = true })) (pick (word == TIMER0_OVF) _ _ _ _ (is_t0 (record no_flags { tov = true })) (pick (word == SPI_STC) _ _ _ _ is_spi (pick (word == USART0_TX) _ _ _ _ is_usart (pick (word == TIMER1_COMPC) _ _ _ _ (is_t1 (record no_flags { ocf_c = true })) (pick (word == TIMER3_COMPA) _ _ _ _ (is_t3 (record no_flags { ocf_a = true })) (pick (word == TIMER3_COMPB) _ _ _ _ (is_t3 (record no_flags { ocf_b = true })) (pick (word == TIMER3_COMPC) _ _ _ _ (is_t3 (record no_flags { ocf_c = true })) (pick (word == TIMER3_OVF) _ _ _ _ (is_t3 (record no_flags { tov = true })) is_none)))))))))))))

  -- a write of TIFR
  is_tifr : (x : ℕ) → IsServed (flags_cleared x b) (flags_cleared x (timers_leap s n b))
  unfolding timers_leap board_quiet
  is_tifr x =
      let f0 : TimerFlags = record { tov = any_bit x TOV0; ocf_a = any_bit x OCF0; ocf_b = false; ocf_c = false; icf = false } in
      let f1 : TimerFlags = record { tov = any_bit x TOV1; ocf_a = any_bit x OCF1A; ocf_b = any_bit x OCF1B; ocf_c = false; icf = any_bit x ICF1 } in
      let f2 : TimerFlags = record { tov = any_bit x TOV2; ocf_a = any_bit x OCF2; ocf_b = false; ocf_c = false; icf = false } in
      record {
        quiet = λ t. refl;
        calm = λ m before.
            (let e0 = clocks8.sets-cleared s m f0 b.t0 (λ i l. (calm_each s i b (before i l)).t0) in
            let e1 = clocks16.sets-cleared s m f1 b.t1 (λ i l. (calm_each s i b (before i l)).t1) in
            let e2 = clocks8.sets-cleared s m f2 b.t2 (λ i l. (calm_each s i b (before i l)).t2) in
            λ k. e0 k || e1 k || e2 k || timer16.sets_flag_at s b.t3 m);
        late =
            (let e0 = clocks8.cleared-until s n f0 b.t0 (λ i l. (calm_each s i b (none i l)).t0) in
            let e1 = clocks16.cleared-until s n f1 b.t1 (λ i l. (calm_each s i b (none i l)).t1) in
            let e2 = clocks8.cleared-until s n f2 b.t2 (λ i l. (calm_each s i b (none i l)).t2) in
            λ k. let d : Board = record (timers_leap s n b) { t0 = e0 k; t1 = e1 k; t2 = e2 k } in d);
      }

  -- and of ETIFR
  is_etifr : (x : ℕ) → IsServed (extended_flags_cleared x b) (extended_flags_cleared x (timers_leap s n b))
  unfolding timers_leap board_quiet
  is_etifr x =
      let f1 : TimerFlags = record { tov = false; ocf_a = false; ocf_b = false; ocf_c = any_bit x OCF1C; icf = false } in
      let f3 : TimerFlags = record { tov = any_bit x TOV3; ocf_a = any_bit x OCF3A; ocf_b = any_bit x OCF3B; ocf_c = any_bit x OCF3C; icf = any_bit x ICF3 } in
      record {
        quiet = λ t. refl;
        calm = λ m before.
            (let e1 = clocks16.sets-cleared s m f1 b.t1 (λ i l. (calm_each s i b (before i l)).t1) in
            let e3 = clocks16.sets-cleared s m f3 b.t3 (λ i l. (calm_each s i b (before i l)).t3) in
            λ k. timer8.sets_flag_at s b.t0 m || e1 k || timer8.sets_flag_at s b.t2 m || e3 k);
        late =
            (let e1 = clocks16.cleared-until s n f1 b.t1 (λ i l. (calm_each s i b (none i l)).t1) in
            let e3 = clocks16.cleared-until s n f3 b.t3 (λ i l. (calm_each s i b (none i l)).t3) in
            λ k. let d : Board = record (timers_leap s n b) { t1 = e1 k; t3 = e3 k } in d);
      }

-- what a write made of a board, and of that board n cycles on
abbrev PutServed : (s n : ℕ) (b : Board) → ((i : ℕ) → i < n → sets_flag_at s b i ≡ false) → Result Board StopCause → Result Board StopCause → Type 0
PutServed s n b none (Ok c) late = (late ≡ Ok (timers_leap s n c)) × IsServed s n b none c (timers_leap s n c)
PutServed s n b none (Err cause) late = late ≡ Err cause

to_late : (s n : ℕ) (b c d : Board) (none : (i : ℕ) → i < n → sets_flag_at s b i ≡ false) → IsServed s n b none c d → PutServed s n b none (Ok c) (Ok d)
to_late s n b c d none k =
    (ap (λ (e : Board). let r : Result Board StopCause = Ok e in r) (sym k.late), record { quiet = k.quiet; calm = k.calm; late = refl })

false_true : false ≡ true → ⊥
false_true e = cc

put_served : (t s n : ℕ) (b : Board) (none : (i : ℕ) → i < n → sets_flag_at s b i ≡ false) (rule : Rule) (at x : ℕ) → is_flags rule ≡ true → PutServed s n b none (put_by t rule b at x) (put_by t rule (timers_leap s n b) at x)
put_served t s n b none Tifr at x e = to_late s n b (flags_cleared x b) (flags_cleared x (timers_leap s n b)) none (is_tifr s n b none x)
put_served t s n b none Etifr at x e = to_late s n b (extended_flags_cleared x b) (extended_flags_cleared x (timers_leap s n b)) none (is_etifr s n b none x)
put_served t s n b none _ at x e = absurd (false_true e)

-- where no timer has set a flag since `settled`
module _ (a : Forecast) (t : ℕ) (b : Board) (h : IsAhead a t b) (within : t ≤ a.steady) where
  none_now : (i : ℕ) → i < t - a.settled → sets_flag_at a.settled b i ≡ false
  none_now i l = h.steady i (omega (arith, within, l))

  -- a board of other flags
  abbrev Other : Board → Board → Type 0
  Other c d = IsServed a.settled (t - a.settled) b none_now c d

  -- none sets one up to `steady`
  steady_on : (c d : Board) → Other c d → (i : ℕ) → a.settled + i < a.steady → sets_flag_at a.settled c i ≡ false
  steady_on c d is i below = is.calm i (λ j l. h.steady j (omega (arith, below, l))) ∙ h.steady i below

  -- what is known of it stays known up to there, but for its lines
  ahead_by : (c d : Board) → Other c d → (next lines clear : ℕ) → next ≤ a.next → next ≤ a.steady → lines ≡ (lines_of c).bits → clear ≤ next → (0 < clear → lines ≡ 0)
      → IsAhead (let f : Forecast = record a { next = next; lines = lines; clear = clear } in f) t c
  ahead_by c d is next lines clear le soon e low down =
      let early = h.early in
      record {
        settled = h.settled;
        now = h.now;
        early = omega (arith, early, le);
        quiet = λ u from below. is.quiet u ∙ h.quiet u from (omega (arith, below, le));
        calm = λ i below. changes_none a.settled i c (steady_on c d is i (omega (arith, below, soon)));
        past = λ i below. changes_none a.settled i c (steady_on c d is i (omega (arith, below, within)));
        steady = steady_on c d is;
        lines = sym e;
        clear = low;
        down = down;
      }

  -- an interrupt that is served
  is : (word : ℕ) → Other (entered_of word b) (entered_of word (caught_up a.settled t b))
  is word = served a.settled (t - a.settled) b none_now word

  pub served_ahead : (word next lines clear : ℕ) → next ≤ a.next → next ≤ a.steady → lines ≡ (lines_of (entered_of word b)).bits → clear ≤ next → (0 < clear → lines ≡ 0)
      → IsAhead (let c : Forecast = record a { next = next; lines = lines; clear = clear } in c) t (entered_of word b)
  served_ahead word next lines clear le soon e low down = ahead_by (entered_of word b) (entered_of word (caught_up a.settled t b)) (is word) next lines clear le soon e low down

  -- and its value is the value of before, served
  pub served_late : (word : ℕ) (v : ClockedBoard) → clocked t (caught_up a.settled t b) ≡ v → caught_up a.settled t (entered_of word b) ≡ entered_of word v.board
  served_late word v e =
      let k = is word in
      k.late ∙ ap (λ (w : ClockedBoard). entered_of word w.board) e

  itself : Other b (caught_up a.settled t b)
  itself = record { quiet = λ u. refl; calm = λ m before. refl; late = refl }

  -- a write of TIFR or ETIFR
  done : (rule : Rule) → is_flags rule ≡ true → (at x : ℕ) (g : Result Board StopCause) → put_by t rule b at x ≡ g → PutServed a.settled (t - a.settled) b none_now g (put_by t rule (caught_up a.settled t b) at x)
  done rule e at x g h = subst (λ r. PutServed a.settled (t - a.settled) b none_now r (put_by t rule (caught_up a.settled t b) at x)) h (put_served t a.settled (t - a.settled) b none_now rule at x e)

  flags_other : (rule : Rule) → is_flags rule ≡ true → (at x : ℕ) (r : Result (Unit {0}) StopCause) (c : Board) → IsPut (put_by t rule b at x) b r c → Other c (caught_up a.settled t c)
  flags_other rule e at x (Ok u) c put = (done rule e at x (Ok c) put).1
  flags_other rule e at x (Err cause) c put = subst (λ (d : Board). Other d (caught_up a.settled t d)) (sym put.1) itself

  pub flags_ahead : (rule : Rule) → is_flags rule ≡ true → (at x : ℕ) (r : Result (Unit {0}) StopCause) (c : Board) → IsPut (put_by t rule b at x) b r c
      → (next lines clear : ℕ) → next ≤ a.next → next ≤ a.steady → lines ≡ (lines_of c).bits → clear ≤ next → (0 < clear → lines ≡ 0)
      → IsAhead (let f : Forecast = record a { next = next; lines = lines; clear = clear } in f) t c
  flags_ahead rule e at x r c put next lines clear le soon same low down =
      ahead_by c (caught_up a.settled t c) (flags_other rule e at x r c put) next lines clear le soon same low down

  put_now : (rule : Rule) → is_flags rule ≡ true → (at x : ℕ) (r : Result (Unit {0}) StopCause) (c : Board) → IsPut (put_by t rule b at x) b r c
      → IsPut (put_by t rule (caught_up a.settled t b) at x) (caught_up a.settled t b) r (caught_up a.settled t c)
  put_now rule e at x (Ok u) c put = (done rule e at x (Ok c) put).0
  put_now rule e at x (Err cause) c put = (done rule e at x (Err cause) put.0, ap (caught_up a.settled t) put.1)

  pub flags_put : (rule : Rule) → is_flags rule ≡ true → (at x : ℕ) (r : Result (Unit {0}) StopCause) (c : Board) → IsPut (put_by t rule b at x) b r c → (v : ClockedBoard) → clocked t (caught_up a.settled t b) ≡ v
      → IsPut (put_in rule v at x) v r (clocked t (caught_up a.settled t c))
  flags_put rule e at x r c put v is =
      subst (λ (w : ClockedBoard). IsPut (put_in rule w at x) w r (clocked t (caught_up a.settled t c))) is
      (put_clocked rule (clocked t (caught_up a.settled t b)) at x r (caught_up a.settled t c) (put_now rule e at x r c put))
