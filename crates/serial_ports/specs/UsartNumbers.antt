-- The fourteen numbers of the port: U2X, UCSR0B, UCSR0C, UBRR0, TXC, DOR, how many bytes were received, the first and
-- the second, whether a frame runs, its end and its byte, whether a byte waits, and that byte.
use Rattle.std.specs.Prelude.{ℕ, ◌==◌, nat_le, ◌&&◌, not, if◌then◌else◌, Bool, Option, None, Some, is_some, List, [], ◌∷◌, slice_index}
use Rattle.std.specs.List.{list_all}
use Rattle.device_base.specs.Bits.{any_bit, bit}
use Rattle.serial_ports.specs.Numbers.{byte_number, end_number, is_end_number, owned}
use Rattle.serial_ports.specs.declared.usart_receive_buffer.ReceiveBuffer.{ReceiveBuffer}
use Rattle.serial_ports.specs.declared.usart_receive_buffer.ReceiveBuffer.TheVariants.{Empty, One, Two}
use Rattle.serial_ports.specs.declared.usart.Usart.{Usart}

abbrev pub received : ReceiveBuffer → ℕ
received Empty = 0
received (One a) = 1
received (Two a b) = 2

abbrev pub first_number : ReceiveBuffer → ℕ
first_number Empty = 0
first_number (One a) = a
first_number (Two a b) = a

abbrev pub second_number : ReceiveBuffer → ℕ
second_number Empty = 0
second_number (One a) = 0
second_number (Two a b) = b

abbrev pub receive_buffer_of : ℕ → ℕ → ℕ → ReceiveBuffer
receive_buffer_of received a b = if received == 0 then Empty else if received == 1 then One a else Two a b

abbrev pub transmit_buffer_number : Option ℕ → ℕ
transmit_buffer_number None = 0
transmit_buffer_number (Some b) = b

abbrev pub transmit_buffer_of : Bool → ℕ → Option ℕ
transmit_buffer_of waits b = if waits then Some b else None

abbrev pub numbers_of : Usart → List ℕ
numbers_of u =
    bit u.double 1
    ∷ u.control_b
    ∷ u.control_c
    ∷ u.baud
    ∷ bit u.txc 1
    ∷ bit u.dor 1
    ∷ received u.receive_buffer
    ∷ first_number u.receive_buffer
    ∷ second_number u.receive_buffer
    ∷ bit (is_some u.shift_register) 1
    ∷ end_number u.shift_register
    ∷ byte_number u.shift_register
    ∷ bit (is_some u.transmit_buffer) 1
    ∷ transmit_buffer_number u.transmit_buffer
    ∷ []

-- a test for each number, whether it is within its bound, of a port before cycle t: UCSR0B as it reads, with bits 2 and
-- 1 clear; the four low bits of UCSR0C; twelve bits of UBRR0; at most two bytes; a byte waits only where a frame runs
unfoldable pub fits : ℕ → List ℕ → List Bool
fits t n =
    nat_le (slice_index n 0) 1
    ∷ (nat_le (slice_index n 1) 255 && not (any_bit (slice_index n 1) 0x06))
    ∷ nat_le (slice_index n 2) 15
    ∷ nat_le (slice_index n 3) 4095
    ∷ nat_le (slice_index n 4) 1
    ∷ nat_le (slice_index n 5) 1
    ∷ nat_le (slice_index n 6) 2
    ∷ nat_le (slice_index n 7) (owned (nat_le 1 (slice_index n 6)) 255)
    ∷ nat_le (slice_index n 8) (owned (nat_le 2 (slice_index n 6)) 255)
    ∷ nat_le (slice_index n 9) 1
    ∷ is_end_number t (slice_index n 9 == 1) (slice_index n 10)
    ∷ nat_le (slice_index n 11) (owned (slice_index n 9 == 1) 255)
    ∷ nat_le (slice_index n 12) (owned (slice_index n 9 == 1) 1)
    ∷ nat_le (slice_index n 13) (owned (slice_index n 12 == 1) 255)
    ∷ []

-- whether each is
abbrev pub are_numbers : ℕ → List ℕ → Bool
are_numbers t n = list_all (λ fit. fit) (fits t n)
