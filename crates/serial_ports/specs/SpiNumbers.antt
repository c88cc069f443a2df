-- The ten numbers of the interface: SPCR, SPI2X, what SPDR reads, whether a transfer runs, its end and its byte, SPIF,
-- WCOL, and which of these two are noted.
use Rattle.std.specs.Prelude.{ℕ, ◌==◌, nat_le, ◌&&◌, not, Bool, is_some, List, [], ◌∷◌, slice_index}
use Rattle.std.specs.List.{list_all}
use Rattle.device_base.specs.Bits.{any_bit, bit}
use Rattle.device_base.specs.Names.{MSTR, SPE}
use Rattle.serial_ports.specs.Numbers.{byte_number, end_number, is_end_number, owned}
use Rattle.serial_ports.specs.declared.spi.Spi.{Spi}

abbrev pub numbers_of : Spi → List ℕ
numbers_of s =
    s.control
    ∷ bit s.double 1
    ∷ s.receive_buffer
    ∷ bit (is_some s.shift_register) 1
    ∷ end_number s.shift_register
    ∷ byte_number s.shift_register
    ∷ bit s.spif 1
    ∷ bit s.wcol 1
    ∷ bit s.noted_spif 1
    ∷ bit s.noted_wcol 1
    ∷ []

-- a test for each number, whether it is within its bound, of an interface before cycle t: SPCR is a byte that a write
-- accepts, and a transfer runs with SPE alone
unfoldable pub fits : ℕ → List ℕ → List Bool
fits t n =
    (nat_le (slice_index n 0) 255 && not (any_bit (slice_index n 0) SPE && not (any_bit (slice_index n 0) MSTR)))
    ∷ nat_le (slice_index n 1) 1
    ∷ nat_le (slice_index n 2) 255
    ∷ nat_le (slice_index n 3) (owned (any_bit (slice_index n 0) SPE) 1)
    ∷ is_end_number t (slice_index n 3 == 1) (slice_index n 4)
    ∷ nat_le (slice_index n 5) (owned (slice_index n 3 == 1) 255)
    ∷ nat_le (slice_index n 6) 1
    ∷ nat_le (slice_index n 7) 1
    ∷ nat_le (slice_index n 8) 1
    ∷ nat_le (slice_index n 9) 1
    ∷ []

-- whether each is
abbrev pub are_numbers : ℕ → List ℕ → Bool
are_numbers t n = list_all (λ fit. fit) (fits t n)
