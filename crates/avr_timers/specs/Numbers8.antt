-- The six numbers of an 8-bit timer, by which it is saved and restored: TCCR, TCNT, OCR, whether the next compare match
-- is blocked, TOV and OCF.
use Rattle.std.specs.Prelude.{◌≡◌, ◌<◌, ℕ, ◌%◌, nat_le, nat_lt, ◌&&◌, not, Bool, List, [], ◌∷◌, slice_index}
use Rattle.std.specs.List.{list_all}
use Rattle.device_base.specs.Bits.{bit}
use Rattle.avr_timers.specs.Prescaler.{is_pin}
use Rattle.avr_timers.specs.Registers8.{get_of}
use Rattle.avr_timers.specs.declared.prescaler.Prescaler.{Prescaler}
use Rattle.avr_timers.specs.declared.registers8.Reg8.TheVariants.{Control}
use Rattle.avr_timers.specs.declared.timer8.Timer8.{Timer8}

abbrev pub numbers_of : Timer8 → List ℕ
numbers_of tm =
    get_of tm Control
    ∷ tm.count
    ∷ tm.compare
    ∷ bit tm.match_blocked 1
    ∷ bit tm.tov 1
    ∷ bit tm.ocf_a 1
    ∷ []

-- a test for each number, whether it is within its bound: a control byte that a write accepts, as it reads; two bytes;
-- three flags
unfoldable pub fits : Prescaler → List ℕ → List Bool
fits p n =
    (nat_le (slice_index n 0) 15 && not (is_pin p (slice_index n 0 % 8)))
    ∷ nat_le (slice_index n 1) 255
    ∷ nat_le (slice_index n 2) 255
    ∷ nat_le (slice_index n 3) 1
    ∷ nat_le (slice_index n 4) 1
    ∷ nat_le (slice_index n 5) 1
    ∷ []

-- whether each is
abbrev pub are_numbers : Prescaler → List ℕ → Bool
are_numbers p n = list_all (λ fit. fit) (fits p n)

-- whether a clock select is one that a timer can have
abbrev pub is_select : Prescaler → ℕ → Bool
is_select p s = nat_lt s 8 && not (is_pin p s)

-- a timer of a prescaler that has these numbers; without the bound of its select two would
pub record HasNumbers (p : Prescaler) (n : List ℕ) (tm : Timer8) : Type 0 where
  pub prescaler : tm.prescaler ≡ p
  pub select : tm.select < 8
  pub numbers : numbers_of tm ≡ n
