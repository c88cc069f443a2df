-- The thirteen numbers of a 16-bit timer, by which it is saved and restored: TCCRB, TCNT, the three compare values,
-- ICR, TEMP, whether the next compare match is blocked, TOV, OCFA, OCFB, OCFC and ICF. TCCRA reads 0 in each mode.
use Rattle.std.specs.Prelude.{◌≡◌, ◌<◌, ℕ, ◌*◌, ◌/◌, ◌%◌, nat_le, ◌&&◌, not, if◌then◌else◌, Bool, Option, None, is_some, List, [], ◌∷◌, slice_index}
use Rattle.std.specs.List.{list_all}
use Rattle.device_base.specs.Bits.{any_bit, bit}
use Rattle.avr_timers.specs.Mode.{mode_of}
use Rattle.avr_timers.specs.Prescaler.{is_pin}
use Rattle.avr_timers.specs.Registers16.{control_b}
use Rattle.avr_timers.specs.declared.mode.Mode16.{Mode16}
use Rattle.avr_timers.specs.declared.prescaler.Prescaler.TheVariants.{Shared}
use Rattle.avr_timers.specs.declared.timer16.Timer16.{Timer16}

abbrev pub numbers_of : Timer16 → List ℕ
numbers_of tm =
    control_b tm
    ∷ tm.count
    ∷ tm.compare_a
    ∷ tm.compare_b
    ∷ tm.compare_c
    ∷ tm.icr
    ∷ tm.temp
    ∷ bit tm.match_blocked 1
    ∷ bit tm.flags.tov 1
    ∷ bit tm.flags.ocf_a 1
    ∷ bit tm.flags.ocf_b 1
    ∷ bit tm.flags.ocf_c 1
    ∷ bit tm.flags.icf 1
    ∷ []

-- whether a byte is one of TCCRB as it reads, bit 5 being 0, whose clock is no pin
abbrev pub is_control : ℕ → Bool
is_control b = nat_le b 255 && not (any_bit b 0x20) && not (is_pin Shared (b % 8))

-- its mode, with TCCRA 0: a write of it is accepted
unfoldable pub control_mode : ℕ → Option Mode16
control_mode b = if is_control b then mode_of (b / 8 % 4 * 4) else None

-- a test for each number, whether it is within its bound: a control byte of a mode, five words, a byte, six flags
unfoldable pub fits : List ℕ → List Bool
fits n =
    is_some (control_mode (slice_index n 0))
    ∷ nat_le (slice_index n 1) 65535
    ∷ nat_le (slice_index n 2) 65535
    ∷ nat_le (slice_index n 3) 65535
    ∷ nat_le (slice_index n 4) 65535
    ∷ nat_le (slice_index n 5) 65535
    ∷ nat_le (slice_index n 6) 255
    ∷ nat_le (slice_index n 7) 1
    ∷ nat_le (slice_index n 8) 1
    ∷ nat_le (slice_index n 9) 1
    ∷ nat_le (slice_index n 10) 1
    ∷ nat_le (slice_index n 11) 1
    ∷ nat_le (slice_index n 12) 1
    ∷ []

-- whether each is
abbrev pub are_numbers : List ℕ → Bool
are_numbers n = list_all (λ fit. fit) (fits n)

-- a timer that has these numbers; without the bound of its select two would
pub record HasNumbers (n : List ℕ) (tm : Timer16) : Type 0 where
  pub select : tm.select < 8
  pub numbers : numbers_of tm ≡ n
