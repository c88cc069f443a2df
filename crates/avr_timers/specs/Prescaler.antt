-- What a clock select chooses (ATmega128 datasheet, "Clock Select Bit Description" of the timers).
use Rattle.std.specs.Prelude.{ℕ, ◌==◌, nat_lt, if◌then◌else◌, Bool, false}
use Rattle.avr_timers.specs.declared.prescaler.Prescaler.{Prescaler}
use Rattle.avr_timers.specs.declared.prescaler.Prescaler.TheVariants.{Own, Shared}

-- what it divides the clock by; a timer of select 0 is halted, and 6 and 7 of timers 1 to 3 clock it by a pin and never
-- stand in it
unfoldable pub divider_of : Prescaler → ℕ → ℕ
divider_of Own s =
    if s == 0 then 0
    else if s == 1 then 1
    else if s == 2 then 8
    else if s == 3 then 32
    else if s == 4 then 64
    else if s == 5 then 128
    else if s == 6 then 256
    else 1024
divider_of Shared s =
    if s == 0 then 0
    else if s == 1 then 1
    else if s == 2 then 8
    else if s == 3 then 64
    else if s == 4 then 256
    else 1024

-- whether it is that of a pin: timer 0 has none
abbrev pub is_pin : Prescaler → ℕ → Bool
is_pin Own s = false
is_pin Shared s = nat_lt 5 s
