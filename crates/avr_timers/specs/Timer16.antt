-- The 16-bit timers, cycle by cycle (ATmega128 datasheet, "16-bit Timer/Counter (Timer/Counter1 and
-- Timer/Counter3)"): after reset, their counter, and the flags.
use Rattle.std.specs.Prelude.{ℕ, if◌then◌else◌, Bool, true, false, Some, None}
use Rattle.avr_timers.specs.declared.flags.TimerFlags.{TimerFlags}
use Rattle.avr_timers.specs.declared.prescaler.Prescaler.TheVariants.{Shared}
use Rattle.avr_timers.specs.declared.timer_counter.TimerCounter.{TimerCounter}
use Rattle.avr_timers.specs.Flags.{flags_without}
use Rattle.avr_timers.specs.Timer as counter
use Rattle.avr_timers.specs.declared.mode.Mode16.{Mode16}
use Rattle.avr_timers.specs.declared.mode.Mode16.TheVariants.{Normal, ClearAtCompare, ClearAtIcr}
use Rattle.avr_timers.specs.declared.timer16.Timer16.{Timer16}

-- after reset
abbrev pub reset_timer : Timer16
reset_timer = record {
  mode = Normal;
  select = 0;
  noise_canceler = false;
  rising_edge = false;
  count = 0;
  compare_a = 0;
  compare_b = 0;
  compare_c = 0;
  icr = 0;
  temp = 0;
  match_blocked = false;
  flags = record { tov = false; ocf_a = false; ocf_b = false; ocf_c = false; icf = false };
}

abbrev pub clears_at_compare : Mode16 → Bool
clears_at_compare Normal = false
clears_at_compare ClearAtCompare = true
clears_at_compare ClearAtIcr = false

abbrev pub clears_at_icr : Mode16 → Bool
clears_at_icr Normal = false
clears_at_icr ClearAtCompare = false
clears_at_icr ClearAtIcr = true

-- its counter: it goes to 65,535, and in the modes that clear it to the first compare value or to ICR
abbrev pub counter_of : Timer16 → TimerCounter
counter_of tm = record {
  maximum = 65535;
  prescaler = Shared;
  select = tm.select;
  count = tm.count;
  match_blocked = tm.match_blocked;
  compare_a = tm.compare_a;
  clears_at_a = clears_at_compare tm.mode;
  compare_b = Some tm.compare_b;
  compare_c = Some tm.compare_c;
  icr = if clears_at_icr tm.mode then Some tm.icr else None;
  flags = tm.flags;
}

-- where its counter came to
abbrev pub with_counter : Timer16 → TimerCounter → Timer16
with_counter tm c = record tm { count = c.count; match_blocked = c.match_blocked; flags = c.flags }

-- one cycle
abbrev pub timer_cycle : ℕ → Timer16 → Timer16
timer_cycle t tm = with_counter tm (counter.counter_cycle t (counter_of tm))

-- whether cycle t + n sets a flag, of a timer that is tm when cycle t begins
abbrev pub sets_flag_at : ℕ → Timer16 → ℕ → Bool
sets_flag_at t tm = counter.sets_flag_at t (counter_of tm)

-- whether it sets one that is not set
abbrev pub changes_flag_at : ℕ → Timer16 → ℕ → Bool
changes_flag_at t tm = counter.changes_flag_at t (counter_of tm)

-- with some flags cleared
abbrev pub cleared : Timer16 → TimerFlags → Timer16
cleared tm f = record tm { flags = flags_without tm.flags f }
