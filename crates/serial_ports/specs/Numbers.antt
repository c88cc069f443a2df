-- Numbers by which a port is saved and restored: what its transmission, its buffers and their bounds are. A number
-- whose owner is absent is 0.
use Rattle.std.specs.Prelude.{ℕ, ◌==◌, nat_le, ◌&&◌, if◌then◌else◌, Bool, Option, None, Some}
use Rattle.air_base.specs.Bounds.{LAST_END}
use Rattle.serial_ports.specs.declared.transmission.Transmission.{Transmission}

-- the bound of a number, from whether its owner is there
abbrev pub owned : Bool → ℕ → ℕ
owned there most = if there then most else 0

-- whether n is the end of a transmission, from whether one runs: not before cycle t, nor after 2^41
abbrev pub is_end_number : ℕ → Bool → ℕ → Bool
is_end_number t runs n = if runs then nat_le t n && nat_le n LAST_END else n == 0

abbrev pub end_number : Option Transmission → ℕ
end_number None = 0
end_number (Some f) = f.ends

abbrev pub byte_number : Option Transmission → ℕ
byte_number None = 0
byte_number (Some f) = f.byte

abbrev pub transmission_of : Bool → ℕ → ℕ → Option Transmission
transmission_of runs ends byte = if runs then Some (record { ends = ends; byte = byte }) else None
