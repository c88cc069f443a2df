-- Laws of the radio's transfers: the byte time stays, the cycle from which on it may send never falls, and a byte is
-- sent only from that cycle on and moves it by the byte time.
use Rattle.std.proofs.Common.{◌≡◌, ℕ, ◌+◌, ◌≤◌, ◌==◌, nat_le, if◌then◌else◌, Bool, true, false, refl, arith}
use Rattle.std.proofs.lemmas.Bool.{cond_both, leb-true}
use Rattle.serial_ports.specs.Radio.{idle_transfer, in_state, radio_transfer, selected_transfer, send_transfer}
use Rattle.serial_ports.specs.declared.radio.TransferOutcome.{TransferOutcome}
use Rattle.serial_ports.specs.declared.radio.TransferOutcome.TheVariants.{Answer, Send, Ask}
use Rattle.serial_ports.specs.declared.radio.Radio.{Radio}
use Rattle.serial_ports.specs.declared.radio.RadioState.{RadioState}
use Rattle.serial_ports.specs.declared.radio.RadioState.TheVariants.{Idle, ToSend, ToSample, Status, Byte, Age}

-- what a transfer in cycle t keeps of a radio, with what it comes to and the radio after it
abbrev Keeps : ℕ → Radio → TransferOutcome × Radio → Type 0
Keeps t r p = (p.1.byte_time ≡ r.byte_time) × (r.free ≤ p.1.free) × ((x m : ℕ) → p.0 ≡ Send x m → (r.free ≤ t) × (t + r.byte_time ≡ p.1.free))

keeps_answer : (t k : ℕ) (state : RadioState) (r : Radio) → Keeps t r (Answer k, in_state state r)
keeps_answer t k state r = (refl, omega arith, λ x m e. absurd (cc))

keeps_ask : (t : ℕ) (state : RadioState) (r : Radio) → Keeps t r (Ask, in_state state r)
keeps_ask t state r = (refl, omega arith, λ x m e. absurd (cc))

keeps_idle : (t b : ℕ) (r : Radio) → Keeps t r (idle_transfer b r)
keeps_idle t b r =
    cond_both (b == 1) (Answer 0, in_state ToSend r) (if b == 2 then (Ask, in_state ToSample r) else (Answer 0, in_state Idle r)) (Keeps t r)
    (λ e. keeps_answer t 0 ToSend r)
    (λ e. cond_both (b == 2) (Ask, in_state ToSample r) (Answer 0, in_state Idle r) (Keeps t r) (λ d. keeps_ask t ToSample r) (λ d. keeps_answer t 0 Idle r))

keeps_send : (t b : ℕ) (r : Radio) → Keeps t r (send_transfer t b r)
keeps_send t b r =
    cond_both (nat_le r.free t) (Send b 0, record r { free = t + r.byte_time; state = Idle }) (Answer 1, in_state Idle r) (Keeps t r)
    (λ e. let late : r.free ≤ t = leb-true r.free t e in (refl, omega (arith, late), λ x m d. (late, refl)))
    (λ e. keeps_answer t 1 Idle r)

keeps_selected : (t b : ℕ) (state : RadioState) (r : Radio) → Keeps t r (selected_transfer t b state r)
keeps_selected t b Idle r = keeps_idle t b r
keeps_selected t b ToSend r = keeps_send t b r
keeps_selected t b ToSample r = keeps_answer t 0 Idle r
keeps_selected t b (Status h) r = keeps_answer t h.status (Byte h) r
keeps_selected t b (Byte h) r = keeps_answer t h.byte (Age h) r
keeps_selected t b (Age h) r = keeps_answer t h.age Idle r

keeps_transfer : (t : ℕ) (sel : Bool) (b : ℕ) (r : Radio) → Keeps t r (radio_transfer t sel b r)
unfolding radio_transfer
keeps_transfer t true b r = keeps_selected t b r.state r
keeps_transfer t false b r = keeps_answer t 0xFF Idle r

-- the byte time stays
pub transfer_gap : (t : ℕ) (sel : Bool) (b : ℕ) (r : Radio) → (radio_transfer t sel b r).1.byte_time ≡ r.byte_time
transfer_gap t sel b r = (keeps_transfer t sel b r).0

-- the cycle from which on it may send never falls
pub transfer_free : (t : ℕ) (sel : Bool) (b : ℕ) (r : Radio) → r.free ≤ (radio_transfer t sel b r).1.free
transfer_free t sel b r = (keeps_transfer t sel b r).1

-- a byte is sent only from that cycle on, and moves it to the end of the byte
pub transfer_sends : (t : ℕ) (sel : Bool) (b : ℕ) (r : Radio) (x m : ℕ) → (radio_transfer t sel b r).0 ≡ Send x m
    → (r.free ≤ t) × (t + r.byte_time ≡ (radio_transfer t sel b r).1.free)
transfer_sends t sel b r = (keeps_transfer t sel b r).2
