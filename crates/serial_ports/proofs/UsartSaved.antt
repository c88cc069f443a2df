-- The numbers of the port: what their bounds say, and the one port that has them.
use Rattle.std.proofs.Common.{◌≡◌, ◌≤◌, ℕ, zero, suc, true, refl, sym, ◌∙◌, ap, arith, List, length, slice_index, nat_le, ◌==◌, Option, None, Some, is_some}
use Rattle.std.proofs.lemmas.Bool.{and_parts, leb-true}
use Rattle.device_base.specs.Bits.{bit}
use Rattle.serial_ports.specs.declared.transmission.Transmission.{Transmission}
use Rattle.device_base.proofs.Places.{by-places, bit-flag, flag-bit, same-list}
use Rattle.serial_ports.specs.Numbers.{is_end_number, owned, transmission_of}
use Rattle.serial_ports.specs.UsartNumbers.{are_numbers, first_number, fits, receive_buffer_of, numbers_of, received, second_number, transmit_buffer_number, transmit_buffer_of}
use Rattle.serial_ports.specs.declared.usart_receive_buffer.ReceiveBuffer.{ReceiveBuffer}
use Rattle.serial_ports.specs.declared.usart_receive_buffer.ReceiveBuffer.TheVariants.{Empty, One, Two}
use Rattle.serial_ports.specs.declared.usart.Usart.{Usart}
use Rattle.serial_ports.proofs.TransmissionSaved.{owned-most, runs-again, transmission-again}

-- ---- the buffers

pub receive_buffer-again : (i : ReceiveBuffer) → receive_buffer_of (received i) (first_number i) (second_number i) ≡ i
receive_buffer-again Empty = refl
receive_buffer-again (One a) = refl
receive_buffer-again (Two a b) = refl

pub record Holds (k a b : ℕ) : Type 0 where
  pub count : received (receive_buffer_of k a b) ≡ k
  pub first : first_number (receive_buffer_of k a b) ≡ a
  pub second : second_number (receive_buffer_of k a b) ≡ b

pub holds-again : (k a b : ℕ) → k ≤ 2 → a ≤ owned (nat_le 1 k) 255 → b ≤ owned (nat_le 2 k) 255 → Holds k a b
holds-again zero a b h first second = record { count = refl; first = omega arith; second = omega arith }
holds-again (suc zero) a b h first second = record { count = refl; first = refl; second = omega arith }
holds-again (suc (suc zero)) a b h first second = record { count = refl; first = refl; second = refl }
holds-again (suc (suc (suc n))) a b h first second = absurd (omega arith)

pub transmit_buffer-again : (o : Option ℕ) → transmit_buffer_of (bit (is_some o) 1 == 1) (transmit_buffer_number o) ≡ o
transmit_buffer-again None = refl
transmit_buffer-again (Some b) = refl

pub record Waits (w b : ℕ) : Type 0 where
  pub waits : bit (is_some (transmit_buffer_of (w == 1) b)) 1 ≡ w
  pub byte : transmit_buffer_number (transmit_buffer_of (w == 1) b) ≡ b

pub waits-again : (w b : ℕ) → w ≤ 1 → b ≤ owned (w == 1) 255 → Waits w b
waits-again zero b h most = record { waits = refl; byte = omega arith }
waits-again (suc zero) b h most = record { waits = refl; byte = refl }
waits-again (suc (suc n)) b h most = absurd (omega arith)

-- ---- the bounds

pub record Within (t : ℕ) (n : List ℕ) : Type 0 where
  pub double : slice_index n 0 ≤ 1
  pub control_b : slice_index n 1 ≤ 255
  pub control_c : slice_index n 2 ≤ 15
  pub baud : slice_index n 3 ≤ 4095
  pub txc : slice_index n 4 ≤ 1
  pub dor : slice_index n 5 ≤ 1
  pub count : slice_index n 6 ≤ 2
  pub first : slice_index n 7 ≤ owned (nat_le 1 (slice_index n 6)) 255
  pub second : slice_index n 8 ≤ owned (nat_le 2 (slice_index n 6)) 255
  pub runs : slice_index n 9 ≤ 1
  pub ends : is_end_number t (slice_index n 9 == 1) (slice_index n 10) ≡ true
  pub byte : slice_index n 11 ≤ owned (slice_index n 9 == 1) 255
  pub waits : slice_index n 12 ≤ 1
  pub next : slice_index n 13 ≤ owned (slice_index n 12 == 1) 255

pub within : (t : ℕ) (n : List ℕ) → are_numbers t n ≡ true → Within t n
unfolding fits
within t n h =
    let a = and_parts _ _ h in
    let b = and_parts _ _ a.1 in
    let c = and_parts _ _ b.1 in
    let d = and_parts _ _ c.1 in
    let e = and_parts _ _ d.1 in
    let f = and_parts _ _ e.1 in
    let g = and_parts _ _ f.1 in
    let i = and_parts _ _ g.1 in
    let j = and_parts _ _ i.1 in
    let k = and_parts _ _ j.1 in
    let l = and_parts _ _ k.1 in
    let m = and_parts _ _ l.1 in
    let o = and_parts _ _ m.1 in
    let p = and_parts _ _ o.1 in
    record {
      double = leb-true _ _ a.0;
      control_b = leb-true _ _ (and_parts _ _ b.0).0;
      control_c = leb-true _ _ c.0;
      baud = leb-true _ _ d.0;
      txc = leb-true _ _ e.0;
      dor = leb-true _ _ f.0;
      count = leb-true _ _ g.0;
      first = leb-true _ _ i.0;
      second = leb-true _ _ j.0;
      runs = leb-true _ _ k.0;
      ends = l.0;
      byte = leb-true _ _ m.0;
      waits = owned-most (slice_index n 9 == 1) _ 1 (leb-true _ _ o.0);
      next = leb-true _ _ p.0;
    }

-- ---- the port that has the numbers

abbrev pub usart_of : List ℕ → Usart
usart_of n = record {
  baud = slice_index n 3;
  double = slice_index n 0 == 1;
  control_b = slice_index n 1;
  control_c = slice_index n 2;
  txc = slice_index n 4 == 1;
  dor = slice_index n 5 == 1;
  receive_buffer = receive_buffer_of (slice_index n 6) (slice_index n 7) (slice_index n 8);
  shift_register = transmission_of (slice_index n 9 == 1) (slice_index n 10) (slice_index n 11);
  transmit_buffer = transmit_buffer_of (slice_index n 12 == 1) (slice_index n 13);
}

pub has-numbers : (t : ℕ) (n : List ℕ) → length n ≡ 14 → are_numbers t n ≡ true → numbers_of (usart_of n) ≡ n
has-numbers t n len h =
    let w = within t n h in
    let i = holds-again (slice_index n 6) (slice_index n 7) (slice_index n 8) w.count w.first w.second in
    let f = runs-again t (slice_index n 9) (slice_index n 10) (slice_index n 11) w.runs w.ends w.byte in
    let b = waits-again (slice_index n 12) (slice_index n 13) w.waits w.next in
    let double = bit-flag (slice_index n 0) w.double in
    let txc = bit-flag (slice_index n 4) w.txc in
    let dor = bit-flag (slice_index n 5) w.dor in
    let transmit_buffer = same-list b.waits (same-list b.byte refl) in
    let shift_register = same-list f.runs (same-list f.ends (same-list f.byte transmit_buffer)) in
    let receive_buffer = same-list i.count (same-list i.first (same-list i.second shift_register)) in
    let flags = same-list txc (same-list dor receive_buffer) in
    same-list double (same-list refl (same-list refl (same-list refl flags))) ∙ by-places n 14 len

pub one-usart : (n : List ℕ) (u : Usart) → numbers_of u ≡ n → usart_of n ≡ u
one-usart n u numbers =
    let double = flag-bit u.double in
    let txc = flag-bit u.txc in
    let dor = flag-bit u.dor in
    let receive_buffer = receive_buffer-again u.receive_buffer in
    let shift_register = transmission-again u.shift_register in
    let transmit_buffer = transmit_buffer-again u.transmit_buffer in
    let whole : usart_of (numbers_of u) ≡ u = rw (receive_buffer, shift_register, transmit_buffer, double, txc, dor) refl in
    ap usart_of (sym numbers) ∙ whole

pub made-is :
    (n : List ℕ) (i : ReceiveBuffer) (f : Option Transmission) (w : Option ℕ)
    → i ≡ receive_buffer_of (slice_index n 6) (slice_index n 7) (slice_index n 8)
    → f ≡ transmission_of (slice_index n 9 == 1) (slice_index n 10) (slice_index n 11)
    → w ≡ transmit_buffer_of (slice_index n 12 == 1) (slice_index n 13)
    → (record (usart_of n) { receive_buffer = i; shift_register = f; transmit_buffer = w }) ≡ usart_of n
made-is n i f w receive_buffer shift_register transmit_buffer = rw (receive_buffer, shift_register, transmit_buffer) refl
