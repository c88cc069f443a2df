-- Within which bounds the calls of a timer leave its numbers.
use Rattle.std.proofs.Common.{ℕ, ◌≤◌, Bool, true, false, if◌then◌else◌, Result, Err, arith}
use Rattle.std.specs.Prelude.{IfOk}
use Rattle.std.proofs.lemmas.Bool.Decides.{nat_tests}
use Rattle.avr_base.specs.declared.stop.StopCause.{StopCause}
use Rattle.avr_timers.specs.declared.timer_counter.TimerCounter.{TimerCounter}
use Rattle.avr_timers.specs.Timer as counter
use Rattle.avr_timers.specs.declared.registers8.Reg8.{Reg8}
use Rattle.avr_timers.specs.declared.registers8.Reg8.TheVariants as reg8
use Rattle.avr_timers.specs.declared.timer8.Timer8.{Timer8}
use Rattle.avr_timers.specs.Registers8.{put_of as put_8}
use Rattle.avr_timers.specs.Timer8 as timer8
use Rattle.avr_timers.specs.declared.registers16.Reg16.{Reg16}
use Rattle.avr_timers.specs.declared.registers16.Reg16.TheVariants as reg16
use Rattle.avr_timers.specs.declared.registers16.Channel.TheVariants as chan
use Rattle.avr_timers.specs.declared.timer16.Timer16.{Timer16}
use Rattle.avr_timers.specs.Registers16.{get_of as get_16, put_of as put_16}
use Rattle.avr_timers.specs.Timer16 as timer16
use Rattle.node_laws.specs.Within.{Timer8Within, Timer16Within}

-- what a write leaves that stops where a test holds
pub refused : {A : Type 0} (P : A → Type 0) (c : Bool) (cause : StopCause) (r : Result A StopCause) → IfOk r P → IfOk (if c then Err cause else r) P
refused P true cause r h = tt
refused P false cause r h = h

-- a counter that does not stand above its maximum stays there
clock_within : (t : ℕ) (c : TimerCounter) → c.count ≤ c.maximum → (counter.counter_cycle t c).count ≤ c.maximum
unfolding counter.clock
clock_within t c h = grind (arith, nat_tests)

pub cycle_8 : (t : ℕ) (tm : Timer8) → Timer8Within tm → Timer8Within (timer8.timer_cycle t tm)
cycle_8 t tm h = omega (arith, clock_within t (timer8.counter_of tm) h.count)

pub put_8_within : (tm : Timer8) (reg : Reg8) (b : ℕ) → b ≤ 255 → Timer8Within tm → IfOk (put_8 tm reg b) Timer8Within
put_8_within tm reg8.Count b small h = omega arith
put_8_within tm _ b small h = grind arith

pub cycle_16 : (t : ℕ) (tm : Timer16) → Timer16Within tm → Timer16Within (timer16.timer_cycle t tm)
cycle_16 t tm h = omega (arith, clock_within t (timer16.counter_of tm) h.count)

pub get_16_within : (tm : Timer16) (reg : Reg16) → Timer16Within tm → Timer16Within (get_16 tm reg).1
get_16_within tm reg16.ControlA h = h
get_16_within tm _ h = omega arith

pub put_16_within : (tm : Timer16) (reg : Reg16) (b : ℕ) → b ≤ 255 → Timer16Within tm → IfOk (put_16 tm reg b) Timer16Within
put_16_within tm (reg16.CompL chan.A) b small h = omega arith
put_16_within tm (reg16.CompL _) b small h = omega arith
put_16_within tm _ b small h = grind arith
