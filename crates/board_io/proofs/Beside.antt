-- An access to USART0, to the serial peripheral interface or to a kept byte is the same on a board whose timers lag, and leaves these.
use Rattle.std.proofs.Common.{◌≡◌, ℕ, ◌+◌, ◌-◌, ◌<◌, true, false, Result, Ok, Err, refl, sym, ap, ◌∙◌, subst}
use Rattle.avr_base.specs.declared.stop.StopCause.{StopCause}
use Rattle.board_io.specs.declared.ahead.Forecast.{Forecast}
use Rattle.board_io.specs.declared.board.Board.{Board}
use Rattle.board_io.specs.declared.clocked.ClockedBoard.{ClockedBoard}
use Rattle.board_io.specs.Board.{clocked}
use Rattle.board_io.proofs.Agree.{get_clocked, put_clocked}
use Rattle.board_io.specs.declared.rules.Rule.{Rule}
use Rattle.board_io.specs.declared.rules.Rule.TheVariants.{Reserved, Pin, Kept, Guarded, WatchdogControl, ResetFlags, CpuControl, TimerFlags, ExtendedTimerFlags, Timer0, Timer1, Timer2, Timer3, Usart0, Spi}
use Rattle.board_io.specs.Cycle.{timers_leap}
use Rattle.board_io.specs.Lagging.{IsAhead, caught_up, leaves_timers}
use Rattle.board_io.specs.Passing.{changes_flag_at, sets_flag_at}
use Rattle.board_io.specs.Registers.{IsGot, IsPut, get_by, get_in, put_by, put_in, with_spi, with_usart}
use Rattle.serial_ports.specs.declared.spi.Spi.{Spi as SpiPort}
use Rattle.serial_ports.specs.SpiRegisters as spi
use Rattle.serial_ports.specs.declared.usart.Usart.{Usart}
use Rattle.serial_ports.specs.UsartRegisters as usart

-- another board has timers that set and change flags when those of this one do
pub record IsBeside (b c : Board) : Type 0 where
  pub calm : (t i : ℕ) → changes_flag_at t c i ≡ changes_flag_at t b i
  pub steady : (t i : ℕ) → sets_flag_at t c i ≡ sets_flag_at t b i

itself : (b : Board) → IsBeside b b
itself b = record { calm = λ t i. refl; steady = λ t i. refl }

abbrev GotBeside : Board → ℕ → ℕ → Result (ℕ × Board) StopCause → Result (ℕ × Board) StopCause → Type 0
GotBeside b s n (Ok p) late = (late ≡ Ok (p.0, timers_leap s n p.1)) × IsBeside b p.1
GotBeside b s n (Err cause) late = late ≡ Err cause

abbrev PutBeside : Board → ℕ → ℕ → Result Board StopCause → Result Board StopCause → Type 0
PutBeside b s n (Ok c) late = (late ≡ Ok (timers_leap s n c)) × IsBeside b c
PutBeside b s n (Err cause) late = late ≡ Err cause

false_true : false ≡ true → ⊥
false_true e = cc

got_beside : (rule : Rule) (b : Board) (at s n : ℕ) → leaves_timers rule ≡ true → GotBeside b s n (get_by rule b at) (get_by rule (timers_leap s n b) at)
unfolding timers_leap
got_beside Reserved b at s n e = absurd (false_true e)
got_beside (Pin port) b at s n e = absurd (false_true e)
got_beside (Kept mask) b at s n e = (refl, record { calm = λ t i. refl; steady = λ t i. refl })
got_beside (Guarded bits cause mask) b at s n e = absurd (false_true e)
got_beside WatchdogControl b at s n e = absurd (false_true e)
got_beside ResetFlags b at s n e = absurd (false_true e)
got_beside CpuControl b at s n e = absurd (false_true e)
got_beside TimerFlags b at s n e = absurd (false_true e)
got_beside ExtendedTimerFlags b at s n e = absurd (false_true e)
got_beside (Timer0 reg) b at s n e = absurd (false_true e)
got_beside (Timer1 reg) b at s n e = absurd (false_true e)
got_beside (Timer2 reg) b at s n e = absurd (false_true e)
got_beside (Timer3 reg) b at s n e = absurd (false_true e)
got_beside (Usart0 reg) b at s n e = (refl, record { calm = λ t i. refl; steady = λ t i. refl })
got_beside (Spi reg) b at s n e = (refl, record { calm = λ t i. refl; steady = λ t i. refl })

usart_beside : (b : Board) (s n : ℕ) (o : Result Usart StopCause) → PutBeside b s n (with_usart b o) (with_usart (timers_leap s n b) o)
unfolding timers_leap
usart_beside b s n (Ok u) = (refl, record { calm = λ t i. refl; steady = λ t i. refl })
usart_beside b s n (Err cause) = refl

spi_beside : (b : Board) (s n : ℕ) (o : Result SpiPort StopCause) → PutBeside b s n (with_spi b o) (with_spi (timers_leap s n b) o)
unfolding timers_leap
spi_beside b s n (Ok u) = (refl, record { calm = λ t i. refl; steady = λ t i. refl })
spi_beside b s n (Err cause) = refl

done_beside : (t : ℕ) (rule : Rule) (b : Board) (at x s n : ℕ) → leaves_timers rule ≡ true → PutBeside b s n (put_by t rule b at x) (put_by t rule (timers_leap s n b) at x)
unfolding timers_leap
done_beside t Reserved b at x s n e = absurd (false_true e)
done_beside t (Pin port) b at x s n e = absurd (false_true e)
done_beside t (Kept mask) b at x s n e = (refl, record { calm = λ t i. refl; steady = λ t i. refl })
done_beside t (Guarded bits cause mask) b at x s n e = absurd (false_true e)
done_beside t WatchdogControl b at x s n e = absurd (false_true e)
done_beside t ResetFlags b at x s n e = absurd (false_true e)
done_beside t CpuControl b at x s n e = absurd (false_true e)
done_beside t TimerFlags b at x s n e = absurd (false_true e)
done_beside t ExtendedTimerFlags b at x s n e = absurd (false_true e)
done_beside t (Timer0 reg) b at x s n e = absurd (false_true e)
done_beside t (Timer1 reg) b at x s n e = absurd (false_true e)
done_beside t (Timer2 reg) b at x s n e = absurd (false_true e)
done_beside t (Timer3 reg) b at x s n e = absurd (false_true e)
done_beside t (Usart0 reg) b at x s n e = usart_beside b s n (usart.put_of t b.usart reg x)
done_beside t (Spi reg) b at x s n e = spi_beside b s n (spi.put_of t b.spi reg x)

module _ (rule : Rule) (b : Board) (at s t : ℕ) (e : leaves_timers rule ≡ true) where
  got : (g : Result (ℕ × Board) StopCause) → get_by rule b at ≡ g → GotBeside b s (t - s) g (get_by rule (caught_up s t b) at)
  got g h = subst (λ r. GotBeside b s (t - s) r (get_by rule (caught_up s t b) at)) h (got_beside rule b at s (t - s) e)

  done : (x : ℕ) (g : Result Board StopCause) → put_by t rule b at x ≡ g → PutBeside b s (t - s) g (put_by t rule (caught_up s t b) at x)
  done x g h = subst (λ r. PutBeside b s (t - s) r (put_by t rule (caught_up s t b) at x)) h (done_beside t rule b at x s (t - s) e)

  read_now : (r : Result ℕ StopCause) (c : Board) → IsGot (get_by rule b at) b r c → IsGot (get_by rule (caught_up s t b) at) (caught_up s t b) r (caught_up s t c)
  read_now (Ok x) c h = (got (Ok (x, c)) h).0
  read_now (Err cause) c h = (got (Err cause) h.0, ap (caught_up s t) h.1)

  write_now : (x : ℕ) (r : Result (Unit {0}) StopCause) (c : Board) → IsPut (put_by t rule b at x) b r c → IsPut (put_by t rule (caught_up s t b) at x) (caught_up s t b) r (caught_up s t c)
  write_now x (Ok u) c h = (done x (Ok c) h).0
  write_now x (Err cause) c h = (done x (Err cause) h.0, ap (caught_up s t) h.1)

  pub read_beside : (r : Result ℕ StopCause) (c : Board) (v : ClockedBoard) → clocked t (caught_up s t b) ≡ v → IsGot (get_by rule b at) b r c → IsGot (get_in rule v at) v r (clocked t (caught_up s t c))
  read_beside r c v is h =
      subst (λ (w : ClockedBoard). IsGot (get_in rule w at) w r (clocked t (caught_up s t c))) is
      (get_clocked rule (clocked t (caught_up s t b)) at r (caught_up s t c) (read_now r c h))

  pub write_beside : (x : ℕ) (r : Result (Unit {0}) StopCause) (c : Board) (v : ClockedBoard) → clocked t (caught_up s t b) ≡ v → IsPut (put_by t rule b at x) b r c → IsPut (put_in rule v at x) v r (clocked t (caught_up s t c))
  write_beside x r c v is h =
      subst (λ (w : ClockedBoard). IsPut (put_in rule w at x) w r (clocked t (caught_up s t c))) is
      (put_clocked rule (clocked t (caught_up s t b)) at x r (caught_up s t c) (write_now x r c h))

  pub got_timers : (r : Result ℕ StopCause) (c : Board) → IsGot (get_by rule b at) b r c → IsBeside b c
  got_timers (Ok x) c h = (got (Ok (x, c)) h).1
  got_timers (Err cause) c h = subst (IsBeside b) (sym h.1) (itself b)

  pub done_timers : (x : ℕ) (r : Result (Unit {0}) StopCause) (c : Board) → IsPut (put_by t rule b at x) b r c → IsBeside b c
  done_timers x (Ok u) c h = (done x (Ok c) h).1
  done_timers x (Err cause) c h = subst (IsBeside b) (sym h.1) (itself b)

-- so what was known of the timers is known still
pub calm_beside : (a : Forecast) (t : ℕ) (b c : Board) → IsBeside b c → IsAhead a t b → (i : ℕ) → a.settled + i < a.next → changes_flag_at a.settled c i ≡ false
calm_beside a t b c k h i below = k.calm a.settled i ∙ h.calm i below

pub past_beside : (a : Forecast) (t : ℕ) (b c : Board) → IsBeside b c → IsAhead a t b → (i : ℕ) → a.settled + i < t → changes_flag_at a.settled c i ≡ false
past_beside a t b c k h i below = k.calm a.settled i ∙ h.past i below

pub steady_beside : (a : Forecast) (t : ℕ) (b c : Board) → IsBeside b c → IsAhead a t b → (i : ℕ) → a.settled + i < a.steady → sets_flag_at a.settled c i ≡ false
steady_beside a t b c k h i below = k.steady a.settled i ∙ h.steady i below
