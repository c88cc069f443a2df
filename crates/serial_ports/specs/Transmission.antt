-- A byte that is shifted out, and the cycle in which it ends.
use Rattle.std.specs.Prelude.{ℕ, ◌==◌, if◌then◌else◌, Bool, false, Option, Some, None}
use Rattle.serial_ports.specs.declared.transmission.Transmission.{Transmission}

-- whether the one that runs ends in cycle t
abbrev pub is_end : Option Transmission → ℕ → Bool
is_end None t = false
is_end (Some f) t = f.ends == t

-- its end and its byte, where one runs
abbrev pub end_of : Option Transmission → Option ℕ
end_of None = None
end_of (Some f) = Some f.ends

abbrev pub byte_of : Option Transmission → Option ℕ
byte_of None = None
byte_of (Some f) = Some f.byte

-- the byte of the one that ends in cycle t
abbrev pub ended_byte : Option Transmission → ℕ → Option ℕ
ended_byte None t = None
ended_byte (Some f) t = if f.ends == t then Some f.byte else None
