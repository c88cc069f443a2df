-- A timer that is halted stands as it is.
use Rattle.std.proofs.Common.{◌≡◌, ℕ}
use Rattle.avr_timers.proofs.Clocks16 as clocks16
use Rattle.avr_timers.specs.declared.timer16.Timer16.{Timer16}
use Rattle.avr_timers.specs.Timer16 as timer16
use Rattle.avr_timers.proofs.Clocks8 as clocks8
use Rattle.avr_timers.specs.declared.timer8.Timer8.{Timer8}
use Rattle.avr_timers.specs.Timer8 as timer8

pub halted_8 : (t : ℕ) (tm : Timer8) → tm.select ≡ 0 → timer8.timer_cycle t tm ≡ tm
halted_8 t tm e = clocks8.cycle-stopped t tm e

pub halted_16 : (t : ℕ) (tm : Timer16) → tm.select ≡ 0 → timer16.timer_cycle t tm ≡ tm
halted_16 t tm e = clocks16.cycle-stopped t tm e
