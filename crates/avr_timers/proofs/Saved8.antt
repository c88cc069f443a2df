-- The numbers of an 8-bit timer: what their bounds say, and the one timer that has them.
use Rattle.std.proofs.Common.{◌≡◌, ◌≤◌, ◌<◌, ◌%◌, ℕ, Bool, true, false, not, ◌&&◌, refl, sym, ◌∙◌, ap, arith, List, length, slice_index, nat_le, ◌==◌, bit_or}
use Rattle.std.proofs.lemmas.Bool.{and_parts, leb-true, le-leb, eqb-true}
use Rattle.avr_base.proofs.Computed.{all_from, all_from-at}
use Rattle.device_base.specs.Bits.{any_bit, bit}
use Rattle.avr_timers.specs.Prescaler.{is_pin}
use Rattle.avr_timers.specs.Numbers8.{HasNumbers, are_numbers, fits, is_select, numbers_of}
use Rattle.avr_timers.specs.declared.prescaler.Prescaler.{Prescaler}
use Rattle.avr_timers.specs.declared.timer8.Timer8.{Timer8}
use Rattle.device_base.proofs.Places.{by-places, bit-flag, flag-bit, bit-most}

-- ---- the control byte

abbrev same_control : ℕ → Bool
same_control b = bit_or (bit (any_bit b 8) 8) (b % 8) == b

controls : all_from same_control 0 16 ≡ true
controls = refl

pub control-again : (b : ℕ) → b ≤ 15 → bit_or (bit (any_bit b 8) 8) (b % 8) ≡ b
control-again b h = eqb-true _ _ (all_from-at same_control 0 16 b controls (omega arith) (omega arith))

-- the byte of a mode bit and a select, from which both are read
abbrev select_kept : Bool → ℕ → Bool
select_kept ctc s = bit_or (bit ctc 8) s % 8 == s && nat_le (bit_or (bit ctc 8) s) 15

selects : (ctc : Bool) → all_from (select_kept ctc) 0 8 ≡ true
selects true = refl
selects false = refl

pub select-again : (ctc : Bool) (s : ℕ) → s < 8 → (bit_or (bit ctc 8) s % 8 ≡ s) × (bit_or (bit ctc 8) s ≤ 15)
select-again ctc s h =
    let parts = and_parts _ _ (all_from-at (select_kept ctc) 0 8 s (selects ctc) (omega arith) (omega arith)) in
    (eqb-true _ _ parts.0, leb-true _ _ parts.1)

abbrev ctc_set : ℕ → Bool
ctc_set s = any_bit (bit_or (bit true 8) s) 8

abbrev ctc_clear : ℕ → Bool
ctc_clear s = not (any_bit (bit_or (bit false 8) s) 8)

not-true : (b : Bool) → not b ≡ true → b ≡ false
not-true true h = sym h
not-true false h = refl

pub ctc-again : (ctc : Bool) (s : ℕ) → s < 8 → any_bit (bit_or (bit ctc 8) s) 8 ≡ ctc
ctc-again true s h = all_from-at ctc_set 0 8 s refl (omega arith) (omega arith)
ctc-again false s h = not-true _ (all_from-at ctc_clear 0 8 s refl (omega arith) (omega arith))

-- ---- the bounds

pub record Within (p : Prescaler) (n : List ℕ) : Type 0 where
  pub control : slice_index n 0 ≤ 15
  pub pin : is_pin p (slice_index n 0 % 8) ≡ false
  pub count : slice_index n 1 ≤ 255
  pub compare : slice_index n 2 ≤ 255
  pub match_blocked : slice_index n 3 ≤ 1
  pub tov : slice_index n 4 ≤ 1
  pub ocf_a : slice_index n 5 ≤ 1

pub within : (p : Prescaler) (n : List ℕ) → true ≡ are_numbers p n → Within p n
unfolding fits
within p n h =
    let a = and_parts _ _ (sym h) in
    let b = and_parts _ _ a.1 in
    let c = and_parts _ _ b.1 in
    let d = and_parts _ _ c.1 in
    let e = and_parts _ _ d.1 in
    let f = and_parts _ _ e.1 in
    let control = and_parts _ _ a.0 in
    record {
      control = leb-true _ _ control.0;
      pin = not-true _ control.1;
      count = leb-true _ _ b.0;
      compare = leb-true _ _ c.0;
      match_blocked = leb-true _ _ d.0;
      tov = leb-true _ _ e.0;
      ocf_a = leb-true _ _ f.0;
    }

pub are-within : (p : Prescaler) (n : List ℕ) → Within p n → are_numbers p n ≡ true
unfolding fits
are-within p n w =
    let control = le-leb _ _ w.control in
    let pin = w.pin in
    let count = le-leb _ _ w.count in
    let compare = le-leb _ _ w.compare in
    let match_blocked = le-leb _ _ w.match_blocked in
    let tov = le-leb _ _ w.tov in
    let ocf_a = le-leb _ _ w.ocf_a in
    rw (control, pin, count, compare, match_blocked, tov, ocf_a) refl

-- the numbers of a timer are within them
pub numbers-within : (tm : Timer8) → is_select tm.prescaler tm.select ≡ true → tm.count ≤ 255 → tm.compare ≤ 255 → are_numbers tm.prescaler (numbers_of tm) ≡ true
numbers-within tm select count compare =
    let parts = and_parts _ _ select in
    let again = select-again tm.ctc tm.select (leb-true _ _ parts.0) in
    let no_pin = not-true _ parts.1 in
    let w : Within tm.prescaler (numbers_of tm) = record {
      control = again.1;
      pin = ap (is_pin tm.prescaler) again.0 ∙ no_pin;
      count = count;
      compare = compare;
      match_blocked = bit-most tm.match_blocked;
      tov = bit-most tm.tov;
      ocf_a = bit-most tm.ocf_a;
    } in
    are-within tm.prescaler (numbers_of tm) w

-- ---- the timer that has the numbers

abbrev pub timer_of : Prescaler → List ℕ → Timer8
timer_of p n = record {
  prescaler = p;
  ctc = any_bit (slice_index n 0) 8;
  select = slice_index n 0 % 8;
  count = slice_index n 1;
  compare = slice_index n 2;
  match_blocked = slice_index n 3 == 1;
  tov = slice_index n 4 == 1;
  ocf_a = slice_index n 5 == 1;
}

pub has-numbers : (p : Prescaler) (n : List ℕ) → length n ≡ 6 → true ≡ are_numbers p n → HasNumbers p n (timer_of p n)
has-numbers p n len h =
    let w = within p n h in
    let places = by-places n 6 len in
    let control = control-again (slice_index n 0) w.control in
    let match_blocked = bit-flag (slice_index n 3) w.match_blocked in
    let tov = bit-flag (slice_index n 4) w.tov in
    let ocf_a = bit-flag (slice_index n 5) w.ocf_a in
    let same : numbers_of (timer_of p n) ≡ n = rw (control, match_blocked, tov, ocf_a) places in
    record { prescaler = refl; select = omega arith; numbers = same }

pub one-timer : (p : Prescaler) (n : List ℕ) (tm : Timer8) → HasNumbers p n tm → timer_of p n ≡ tm
one-timer p n tm h =
    let ctc = ctc-again tm.ctc tm.select h.select in
    let again = select-again tm.ctc tm.select h.select in
    let match_blocked = flag-bit tm.match_blocked in
    let tov = flag-bit tm.tov in
    let ocf_a = flag-bit tm.ocf_a in
    let whole : timer_of tm.prescaler (numbers_of tm) ≡ tm = rw (ctc, again.0, match_blocked, tov, ocf_a) refl in
    let numbers = h.numbers in
    let prescaler = h.prescaler in
    let there : timer_of p n ≡ timer_of tm.prescaler (numbers_of tm) = cc in
    there ∙ whole
