-- A read of a timer of eight bits before cycles that it is not told of.
use Rattle.std.proofs.Common.{◌≡◌, ℕ, sym, ap}
use Rattle.avr_timers.specs.Clock.{cycles}
use Rattle.avr_timers.specs.Registers8.{get_of}
use Rattle.avr_timers.specs.Timer8.{timer_cycle}
use Rattle.avr_timers.specs.declared.registers8.Reg8.TheVariants.{Control, Compare}
use Rattle.avr_timers.specs.declared.timer8.Timer8.{Timer8}
use Rattle.avr_timers.proofs.Clocks8.{cycles-with}

pub get_control : (t n : ℕ) (tm : Timer8) → get_of tm Control ≡ get_of (cycles timer_cycle t n tm) Control
get_control t n tm = sym (ap (λ (u : Timer8). get_of u Control) (cycles-with t n tm))

pub get_compare : (t n : ℕ) (tm : Timer8) → get_of tm Compare ≡ get_of (cycles timer_cycle t n tm) Compare
get_compare t n tm = sym (ap (λ (u : Timer8). get_of u Compare) (cycles-with t n tm))
