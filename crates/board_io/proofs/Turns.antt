-- A byte that arrives leaves the frame that runs alone.
use Rattle.std.proofs.Common.{◌≡◌, ℕ, if◌then◌else◌, Bool, true, false, refl, ap}
use Rattle.device_base.specs.Bits.{any_bit}
use Rattle.serial_ports.specs.Transmission.{ended_byte}
use Rattle.serial_ports.specs.declared.usart_receive_buffer.ReceiveBuffer.{ReceiveBuffer}
use Rattle.serial_ports.specs.declared.usart_receive_buffer.ReceiveBuffer.TheVariants.{Empty, One, Two}
use Rattle.serial_ports.specs.declared.usart.Usart.{Usart}
use Rattle.serial_ports.specs.Usart.{arrived, buffered, cut, frame_ended}

buffered_frame : (receive_buffer : ReceiveBuffer) (x : ℕ) (u : Usart) → (buffered receive_buffer x u).shift_register ≡ u.shift_register
buffered_frame Empty x u = refl
buffered_frame (One a) x u = refl
buffered_frame (Two a b) x u = refl

either_frame : (c : Bool) (u v : Usart) → u.shift_register ≡ v.shift_register → (if c then u else v).shift_register ≡ v.shift_register
either_frame true u v e = e
either_frame false u v e = refl

arrived_frame : (x : ℕ) (u : Usart) → (arrived x u).shift_register ≡ u.shift_register
unfolding arrived
arrived_frame x u = either_frame (any_bit u.control_b 0x10) (buffered u.receive_buffer (cut u x) u) u (buffered_frame u.receive_buffer (cut u x) u)

pub arrived_ended : (t x : ℕ) (u : Usart) → frame_ended t (arrived x u) ≡ frame_ended t u
unfolding frame_ended
arrived_ended t x u = ap (λ f. ended_byte f t) (arrived_frame x u)
