-- The radio, byte by byte: what it does with a byte that a transfer brings, and what it answers. It is this simulator's
-- own: a device behind the serial peripheral interface that takes one byte to send, or samples the air.
use Rattle.std.specs.Prelude.{ℕ, ◌+◌, ◌==◌, nat_le, if◌then◌else◌, Bool}
use Rattle.serial_ports.specs.declared.radio.TransferOutcome.{TransferOutcome}
use Rattle.serial_ports.specs.declared.radio.TransferOutcome.TheVariants.{Answer, Send, Ask}
use Rattle.serial_ports.specs.declared.radio.Radio.{Radio}
use Rattle.serial_ports.specs.declared.radio.RadioState.{RadioState}
use Rattle.serial_ports.specs.declared.radio.RadioState.TheVariants.{Idle, ToSend, ToSample, Status, Byte, Age}
use Rattle.air_base.specs.declared.air.Heard.{Heard}

abbrev pub reset_radio : ℕ → Radio
reset_radio byte_time = record { byte_time = byte_time; free = 0; state = Idle }

abbrev pub in_state : RadioState → Radio → Radio
in_state state r = record r { state = state }

-- idle: 1 says that the next byte is to be sent, 2 samples the air, any other byte is nothing to it
abbrev pub idle_transfer : ℕ → Radio → TransferOutcome × Radio
idle_transfer b r =
    if b == 1 then (Answer 0, in_state ToSend r)
    else if b == 2 then (Ask, in_state ToSample r)
    else (Answer 0, in_state Idle r)

-- a byte to send goes out at once where the last one is over, and keeps the radio busy for the byte time; else it is
-- refused by the answer 1
abbrev pub send_transfer : ℕ → ℕ → Radio → TransferOutcome × Radio
send_transfer t b r =
    if nat_le r.free t then (Send b 0, record r { free = t + r.byte_time; state = Idle })
    else (Answer 1, in_state Idle r)

-- after a sample three transfers answer its status, its byte and its age, whatever byte they bring; a sample is
-- answered before the next transfer
abbrev pub selected_transfer : ℕ → ℕ → RadioState → Radio → TransferOutcome × Radio
selected_transfer t b Idle r = idle_transfer b r
selected_transfer t b ToSend r = send_transfer t b r
selected_transfer t b ToSample r = (Answer 0, in_state Idle r)
selected_transfer t b (Status h) r = (Answer h.status, in_state (Byte h) r)
selected_transfer t b (Byte h) r = (Answer h.byte, in_state (Age h) r)
selected_transfer t b (Age h) r = (Answer h.age, in_state Idle r)

-- a transfer that ends in cycle t; one that ends while the radio is not selected makes it idle
unfoldable pub radio_transfer : ℕ → Bool → ℕ → Radio → TransferOutcome × Radio
radio_transfer t selected b r = if selected then selected_transfer t b r.state r else (Answer 0xFF, in_state Idle r)

-- what a sample heard; its own transfer answers 0
abbrev pub radio_answered : Heard → Radio → Radio
radio_answered h r = in_state (Status h) r
