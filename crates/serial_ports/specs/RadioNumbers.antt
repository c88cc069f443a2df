-- The five numbers of the radio: its state (0 idle, 1 waits for the byte to send, 2 to 4 with three, two and one
-- answers left), the status, the byte and the age of what was heard, and the first cycle in which it may send again.
use Rattle.std.specs.Prelude.{◌≡◌, ℕ, ◌==◌, if◌then◌else◌, nat_le, Bool, List, [], ◌∷◌, slice_index}
use Rattle.std.specs.List.{list_all}
use Rattle.air_base.specs.Bounds.{LAST_END}
use Rattle.serial_ports.specs.Numbers.{owned}
use Rattle.serial_ports.specs.declared.radio.Radio.{Radio}
use Rattle.serial_ports.specs.declared.radio.RadioState.{RadioState}
use Rattle.serial_ports.specs.declared.radio.RadioState.TheVariants.{Idle, ToSend, ToSample, Status, Byte, Age}
use Rattle.air_base.specs.declared.air.Heard.{Heard}

-- a sample that still is to be answered is none of the five: it is answered before the next transfer
abbrev pub state_number : RadioState → ℕ
state_number Idle = 0
state_number ToSend = 1
state_number (Status h) = 2
state_number (Byte h) = 3
state_number (Age h) = 4
state_number ToSample = 5

abbrev pub heard_in : RadioState → Heard
heard_in Idle = record { status = 0; byte = 0; age = 0 }
heard_in ToSend = record { status = 0; byte = 0; age = 0 }
heard_in (Status h) = h
heard_in (Byte h) = h
heard_in (Age h) = h
heard_in ToSample = record { status = 0; byte = 0; age = 0 }

abbrev pub state_of : ℕ → Heard → RadioState
state_of n h = if n == 0 then Idle else if n == 1 then ToSend else if n == 2 then Status h else if n == 3 then Byte h else Age h

abbrev pub numbers_of : Radio → List ℕ
numbers_of r =
    state_number r.state
    ∷ (heard_in r.state).status
    ∷ (heard_in r.state).byte
    ∷ (heard_in r.state).age
    ∷ r.free
    ∷ []

-- a test for each number, whether it is within its bound: without a sample nothing was heard
unfoldable pub fits : List ℕ → List Bool
fits n =
    nat_le (slice_index n 0) 4
    ∷ nat_le (slice_index n 1) (owned (nat_le 2 (slice_index n 0)) 2)
    ∷ nat_le (slice_index n 2) (owned (nat_le 2 (slice_index n 0)) 255)
    ∷ nat_le (slice_index n 3) (owned (nat_le 2 (slice_index n 0)) 255)
    ∷ nat_le (slice_index n 4) LAST_END
    ∷ []

-- whether each is
abbrev pub are_numbers : List ℕ → Bool
are_numbers n = list_all (λ fit. fit) (fits n)

-- a radio of a byte time that has these numbers
pub record HasNumbers (byte_time : ℕ) (n : List ℕ) (r : Radio) : Type 0 where
  pub gap : r.byte_time ≡ byte_time
  pub numbers : numbers_of r ≡ n
