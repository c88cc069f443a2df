-- The numbers of the radio: what their bounds say, and the one radio that has them.
use Rattle.std.proofs.Common.{◌≡◌, ◌≤◌, ℕ, zero, suc, true, refl, sym, ◌∙◌, ap, arith, List, length, slice_index, nat_le}
use Rattle.std.proofs.lemmas.Bool.{and_parts, leb-true}
use Rattle.device_base.proofs.Places.{by-places, same-list}
use Rattle.serial_ports.specs.Numbers.{owned}
use Rattle.serial_ports.specs.RadioNumbers.{HasNumbers, are_numbers, fits, heard_in, numbers_of, state_number, state_of}
use Rattle.serial_ports.specs.declared.radio.Radio.{Radio}
use Rattle.serial_ports.specs.declared.radio.RadioState.{RadioState}
use Rattle.serial_ports.specs.declared.radio.RadioState.TheVariants.{Idle, ToSend, ToSample, Status, Byte, Age}
use Rattle.air_base.specs.declared.air.Heard.{Heard}

-- ---- the state

pub state-again : (s : RadioState) → state_number s ≤ 4 → state_of (state_number s) (heard_in s) ≡ s
state-again Idle h = refl
state-again ToSend h = refl
state-again (Status x) h = refl
state-again (Byte x) h = refl
state-again (Age x) h = refl
state-again ToSample h = absurd (omega arith)

pub record Stands (k : ℕ) (h : Heard) : Type 0 where
  pub number : state_number (state_of k h) ≡ k
  pub heard : heard_in (state_of k h) ≡ h

pub nothing : (h : Heard) → h.status ≤ 0 → h.byte ≤ 0 → h.age ≤ 0 → (record { status = 0; byte = 0; age = 0 }) ≡ h
nothing h status byte age =
    let a : 0 ≡ h.status = omega arith in
    let b : 0 ≡ h.byte = omega arith in
    let c : 0 ≡ h.age = omega arith in
    let made : Heard = record { status = h.status; byte = h.byte; age = h.age } in
    let same : (record { status = 0; byte = 0; age = 0 }) ≡ made = cc in
    same

pub stands-again : (k : ℕ) (h : Heard) → k ≤ 4 → h.status ≤ owned (nat_le 2 k) 2 → h.byte ≤ owned (nat_le 2 k) 255 → h.age ≤ owned (nat_le 2 k) 255 → Stands k h
stands-again zero h m status byte age = record { number = refl; heard = nothing h status byte age }
stands-again (suc zero) h m status byte age = record { number = refl; heard = nothing h status byte age }
stands-again (suc (suc zero)) h m status byte age = record { number = refl; heard = refl }
stands-again (suc (suc (suc zero))) h m status byte age = record { number = refl; heard = refl }
stands-again (suc (suc (suc (suc zero)))) h m status byte age = record { number = refl; heard = refl }
stands-again (suc (suc (suc (suc (suc n))))) h m status byte age = absurd (omega arith)

-- ---- the bounds

pub record Within (n : List ℕ) : Type 0 where
  pub state : slice_index n 0 ≤ 4
  pub status : slice_index n 1 ≤ owned (nat_le 2 (slice_index n 0)) 2
  pub byte : slice_index n 2 ≤ owned (nat_le 2 (slice_index n 0)) 255
  pub age : slice_index n 3 ≤ owned (nat_le 2 (slice_index n 0)) 255

pub within : (n : List ℕ) → are_numbers n ≡ true → Within n
unfolding fits
within n h =
    let a = and_parts _ _ h in
    let b = and_parts _ _ a.1 in
    let c = and_parts _ _ b.1 in
    let d = and_parts _ _ c.1 in
    record { state = leb-true _ _ a.0; status = leb-true _ _ b.0; byte = leb-true _ _ c.0; age = leb-true _ _ d.0 }

-- ---- the radio that has the numbers

abbrev pub heard_of : List ℕ → Heard
heard_of n = record { status = slice_index n 1; byte = slice_index n 2; age = slice_index n 3 }

abbrev pub radio_of : ℕ → List ℕ → Radio
radio_of byte_time n = record { byte_time = byte_time; free = slice_index n 4; state = state_of (slice_index n 0) (heard_of n) }

pub has-numbers : (byte_time : ℕ) (n : List ℕ) → length n ≡ 5 → are_numbers n ≡ true → HasNumbers byte_time n (radio_of byte_time n)
has-numbers byte_time n len h =
    let w = within n h in
    let s = stands-again (slice_index n 0) (heard_of n) w.state w.status w.byte w.age in
    let status = ap (λ h. h.status) s.heard in
    let byte = ap (λ h. h.byte) s.heard in
    let age = ap (λ h. h.age) s.heard in
    let same = same-list s.number (same-list status (same-list byte (same-list age refl))) ∙ by-places n 5 len in
    record { gap = refl; numbers = same }

pub one-radio : (byte_time : ℕ) (n : List ℕ) (r : Radio) → are_numbers n ≡ true → HasNumbers byte_time n r → radio_of byte_time n ≡ r
one-radio byte_time n r fit h =
    let w = within n fit in
    let first : slice_index n 0 ≡ state_number r.state = ap (λ xs. slice_index xs 0) (sym h.numbers) in
    let most : state_number r.state ≤ 4 = omega arith in
    let state = state-again r.state most in
    let whole : radio_of r.byte_time (numbers_of r) ≡ r = ap (λ s. record r { state = s }) state in
    ap (λ b. radio_of b n) (sym h.gap) ∙ ap (radio_of r.byte_time) (sym h.numbers) ∙ whole
