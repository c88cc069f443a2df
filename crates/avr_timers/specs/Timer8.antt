-- The 8-bit timers, cycle by cycle (ATmega128 datasheet, "8-bit Timer/Counter0 with PWM and Asynchronous Operation"
-- and "8-bit Timer/Counter2 with PWM"): after reset, their counter, and the flags.
use Rattle.std.specs.Prelude.{ℕ, ◌&&◌, not, Bool, false, None}
use Rattle.avr_timers.specs.declared.flags.TimerFlags.{TimerFlags}
use Rattle.avr_timers.specs.declared.prescaler.Prescaler.{Prescaler}
use Rattle.avr_timers.specs.declared.timer_counter.TimerCounter.{TimerCounter}
use Rattle.avr_timers.specs.Timer as counter
use Rattle.avr_timers.specs.declared.timer8.Timer8.{Timer8}

-- after reset
abbrev pub reset_timer : Prescaler → Timer8
reset_timer prescaler = record { prescaler = prescaler; ctc = false; select = 0; count = 0; compare = 0; match_blocked = false; tov = false; ocf_a = false }

-- its flags: TOV and OCF
abbrev pub flags_of : Timer8 → TimerFlags
flags_of tm = record { tov = tm.tov; ocf_a = tm.ocf_a; ocf_b = false; ocf_c = false; icf = false }

-- its counter: it goes to 255, and in CTC mode to the compare value
abbrev pub counter_of : Timer8 → TimerCounter
counter_of tm = record {
  maximum = 255;
  prescaler = tm.prescaler;
  select = tm.select;
  count = tm.count;
  match_blocked = tm.match_blocked;
  compare_a = tm.compare;
  clears_at_a = tm.ctc;
  compare_b = None;
  compare_c = None;
  icr = None;
  flags = flags_of tm;
}

-- where its counter came to
abbrev pub with_counter : Timer8 → TimerCounter → Timer8
with_counter tm c = record tm { count = c.count; match_blocked = c.match_blocked; tov = c.flags.tov; ocf_a = c.flags.ocf_a }

-- one cycle
abbrev pub timer_cycle : ℕ → Timer8 → Timer8
timer_cycle t tm = with_counter tm (counter.counter_cycle t (counter_of tm))

-- whether cycle t + n sets a flag, of a timer that is tm when cycle t begins
abbrev pub sets_flag_at : ℕ → Timer8 → ℕ → Bool
sets_flag_at t tm = counter.sets_flag_at t (counter_of tm)

-- whether it sets one that is not set
abbrev pub changes_flag_at : ℕ → Timer8 → ℕ → Bool
changes_flag_at t tm = counter.changes_flag_at t (counter_of tm)

-- with some flags cleared
abbrev pub cleared : Timer8 → TimerFlags → Timer8
cleared tm f = record tm { tov = tm.tov && not f.tov; ocf_a = tm.ocf_a && not f.ocf_a }
