-- The counter of a timer, clock by clock and cycle by cycle (ATmega128 datasheet, "8-bit Timer/Counter0" and "16-bit
-- Timer/Counter": counter unit, output compare unit, modes of operation).
use Rattle.std.specs.Prelude.{ℕ, ◌==◌, ◌&&◌, not, if◌then◌else◌, Bool, false, Option, Some, None}
use Rattle.avr_timers.specs.declared.flags.TimerFlags.{TimerFlags}
use Rattle.avr_timers.specs.declared.timer_counter.TimerCounter.{TimerCounter}
use Rattle.avr_timers.specs.Clock.{prescaled, sets_at}
use Rattle.avr_timers.specs.Counter.{path, stepped}
use Rattle.avr_timers.specs.Flags.{any_flag, flags_or, flags_without}
use Rattle.avr_timers.specs.Prescaler.{divider_of}

abbrev pub divider : TimerCounter → ℕ
divider c = divider_of c.prescaler c.select

abbrev pub top_of : Option ℕ → Bool → ℕ → ℕ → ℕ
top_of (Some icr) clears_at_a a max = icr
top_of None clears_at_a a max = if clears_at_a then a else max

-- the value at which it is cleared
abbrev pub top : TimerCounter → ℕ
top c = top_of c.icr c.clears_at_a c.compare_a c.maximum

-- whether a count meets a value, where there is one: a write of TCNT blocks the compare match of the next clock
abbrev pub meets : Bool → ℕ → Option ℕ → Bool
meets match_blocked count None = false
meets match_blocked count (Some value) = not match_blocked && count == value

-- the flags that a clock sets
abbrev pub set_flags : TimerCounter → TimerFlags
set_flags c = record {
  tov = c.count == c.maximum;
  ocf_a = meets c.match_blocked c.count (Some c.compare_a);
  ocf_b = meets c.match_blocked c.count c.compare_b;
  ocf_c = meets c.match_blocked c.count c.compare_c;
  icf = meets c.match_blocked c.count c.icr;
}

-- whether a clock sets a flag, be it set already or not
abbrev pub sets : TimerCounter → Bool
sets c = any_flag (set_flags c)

-- whether a clock sets a flag that is not set
abbrev pub changes : TimerCounter → Bool
changes c = any_flag (flags_without (set_flags c) c.flags)

-- one clock
unfoldable pub clock : TimerCounter → TimerCounter
clock c = record c {
  count = stepped c.maximum (top c) c.match_blocked c.count;
  flags = flags_or c.flags (set_flags c);
  match_blocked = false;
}

-- one cycle
abbrev pub counter_cycle : ℕ → TimerCounter → TimerCounter
counter_cycle = prescaled divider clock

-- whether cycle t + n sets a flag, of a counter that is c when cycle t begins
abbrev pub sets_flag_at : ℕ → TimerCounter → ℕ → Bool
sets_flag_at = sets_at divider clock sets

-- whether cycle t + n sets a flag that is not set, of a counter that is c when cycle t begins
abbrev pub changes_flag_at : ℕ → TimerCounter → ℕ → Bool
changes_flag_at = sets_at divider clock changes

-- the count after k clocks, none blocked
unfoldable pub count_at : TimerCounter → ℕ → ℕ
count_at c k = path c.maximum (top c) c.count k
