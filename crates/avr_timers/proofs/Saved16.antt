-- The numbers of a 16-bit timer: what their bounds say, and the one timer that has them.
use Rattle.std.proofs.Common.{◌≡◌, ◌≤◌, ◌<◌, ◌*◌, ◌/◌, ◌%◌, ℕ, Bool, true, false, not, ◌&&◌, if◌then◌else◌, refl, sym, ◌∙◌, ap, arith, List, length, slice_index, ◌==◌, bit_or, Option, None, Some, is_some}
use Rattle.std.proofs.lemmas.Bool.{and_parts, leb-true, le-leb, eqb-true, false≢true}
use Rattle.avr_base.proofs.Computed.{all_from, all_from-at}
use Rattle.device_base.specs.Bits.{any_bit, bit}
use Rattle.avr_timers.specs.Mode.{mode_of, number_of}
use Rattle.avr_timers.specs.Registers16.{control_b}
use Rattle.avr_timers.specs.Numbers16.{HasNumbers, are_numbers, control_mode, fits, is_control, numbers_of}
use Rattle.avr_timers.specs.declared.mode.Mode16.{Mode16}
use Rattle.avr_timers.specs.declared.mode.Mode16.TheVariants.{Normal, ClearAtCompare, ClearAtIcr}
use Rattle.avr_timers.specs.declared.timer16.Timer16.{Timer16}
use Rattle.device_base.proofs.Places.{by-places, bit-flag, flag-bit, bit-most}

-- ---- TCCRB

abbrev control : Bool → Bool → Mode16 → ℕ → ℕ
control noise rising mode s = bit_or (bit_or (bit_or (bit noise 0x80) (bit rising 0x40)) (number_of mode / 4 * 8)) s

-- a byte is made again of what is read from it
abbrev again_in : ℕ → Option Mode16 → Bool
again_in b None = true
again_in b (Some mode) = control (any_bit b 0x80) (any_bit b 0x40) mode (b % 8) == b

abbrev again : ℕ → Bool
again b = again_in b (control_mode b)

controls : all_from again 0 256 ≡ true
unfolding control_mode
controls = refl

if-some : (c : Bool) (o : Option Mode16) (mode : Mode16) → (if c then o else None) ≡ Some mode → (c ≡ true) × (o ≡ Some mode)
if-some true o mode e = (refl, e)
if-some false o mode e = absurd (false≢true (ap is_some e))

-- what a mode of a byte says of it
control-has : (b : ℕ) (mode : Mode16) → control_mode b ≡ Some mode → (is_control b ≡ true) × (mode_of (b / 8 % 4 * 4) ≡ Some mode)
unfolding control_mode
control-has b mode e = if-some (is_control b) (mode_of (b / 8 % 4 * 4)) mode e

control-most : (b : ℕ) (mode : Mode16) → control_mode b ≡ Some mode → b ≤ 255
control-most b mode e = leb-true _ _ (and_parts _ _ (and_parts _ _ (control-has b mode e).0).0).0

pub control-again : (b : ℕ) (mode : Mode16) → control_mode b ≡ Some mode → control (any_bit b 0x80) (any_bit b 0x40) mode (b % 8) ≡ b
control-again b mode e =
    let most = control-most b mode e in
    let there : again b ≡ true = all_from-at again 0 256 b controls (omega arith) (omega arith) in
    eqb-true _ _ (ap (again_in b) (sym e) ∙ there)

-- and what a byte is made of is read from it again
abbrev alike : Bool → Bool → Bool
alike true b = b
alike false b = not b

alike-same : (a b : Bool) → alike a b ≡ true → a ≡ b
alike-same true b h = sym h
alike-same false true h = h
alike-same false false h = refl

abbrev kept : Bool → Bool → Mode16 → ℕ → Bool
kept noise rising mode s =
    alike (any_bit (control noise rising mode s) 0x80) noise
    && alike (any_bit (control noise rising mode s) 0x40) rising
    && control noise rising mode s % 8 == s
    && control noise rising mode s / 8 % 4 * 4 == number_of mode

keeps : (noise rising : Bool) (mode : Mode16) → all_from (kept noise rising mode) 0 8 ≡ true
keeps true true Normal = refl
keeps true true ClearAtCompare = refl
keeps true true ClearAtIcr = refl
keeps true false Normal = refl
keeps true false ClearAtCompare = refl
keeps true false ClearAtIcr = refl
keeps false true Normal = refl
keeps false true ClearAtCompare = refl
keeps false true ClearAtIcr = refl
keeps false false Normal = refl
keeps false false ClearAtCompare = refl
keeps false false ClearAtIcr = refl

pub record Reads (noise rising : Bool) (mode : Mode16) (s : ℕ) : Type 0 where
  pub noise_canceler : any_bit (control noise rising mode s) 0x80 ≡ noise
  pub rising_edge : any_bit (control noise rising mode s) 0x40 ≡ rising
  pub select : control noise rising mode s % 8 ≡ s
  pub number : control noise rising mode s / 8 % 4 * 4 ≡ number_of mode

pub reads : (noise rising : Bool) (mode : Mode16) (s : ℕ) → s < 8 → Reads noise rising mode s
reads noise rising mode s h =
    let c = and_parts _ _ (all_from-at (kept noise rising mode) 0 8 s (keeps noise rising mode) (omega arith) (omega arith)) in
    let b = and_parts _ _ c.0 in
    let a = and_parts _ _ b.0 in
    record {
      noise_canceler = alike-same _ _ a.0;
      rising_edge = alike-same _ _ a.1;
      select = eqb-true _ _ b.1;
      number = eqb-true _ _ c.1;
    }

-- the mode of a timer is that of its TCCRB
abbrev same_mode : Option Mode16 → Mode16 → Bool
same_mode None mode = false
same_mode (Some m) mode = number_of m == number_of mode

abbrev moded : Bool → Bool → Mode16 → ℕ → Bool
moded noise rising mode s = same_mode (control_mode (control noise rising mode s)) mode

modes : (noise rising : Bool) (mode : Mode16) → all_from (moded noise rising mode) 0 6 ≡ true
unfolding control_mode
modes true true Normal = refl
modes true true ClearAtCompare = refl
modes true true ClearAtIcr = refl
modes true false Normal = refl
modes true false ClearAtCompare = refl
modes true false ClearAtIcr = refl
modes false true Normal = refl
modes false true ClearAtCompare = refl
modes false true ClearAtIcr = refl
modes false false Normal = refl
modes false false ClearAtCompare = refl
modes false false ClearAtIcr = refl

some-mode : (o : Option Mode16) (mode : Mode16) → same_mode o mode ≡ true → is_some o ≡ true
some-mode (Some m) mode h = refl
some-mode None mode h = h

pub has-mode : (noise rising : Bool) (mode : Mode16) (s : ℕ) → s ≤ 5 → is_some (control_mode (control noise rising mode s)) ≡ true
has-mode noise rising mode s h =
    some-mode _ mode (all_from-at (moded noise rising mode) 0 6 s (modes noise rising mode) (omega arith) (omega arith))

mode-again : (mode : Mode16) → mode_of (number_of mode) ≡ Some mode
mode-again Normal = refl
mode-again ClearAtCompare = refl
mode-again ClearAtIcr = refl

-- ---- the bounds

pub record Within (n : List ℕ) : Type 0 where
  pub control : is_some (control_mode (slice_index n 0)) ≡ true
  pub count : slice_index n 1 ≤ 65535
  pub compare_a : slice_index n 2 ≤ 65535
  pub compare_b : slice_index n 3 ≤ 65535
  pub compare_c : slice_index n 4 ≤ 65535
  pub icr : slice_index n 5 ≤ 65535
  pub temp : slice_index n 6 ≤ 255
  pub match_blocked : slice_index n 7 ≤ 1
  pub tov : slice_index n 8 ≤ 1
  pub ocf_a : slice_index n 9 ≤ 1
  pub ocf_b : slice_index n 10 ≤ 1
  pub ocf_c : slice_index n 11 ≤ 1
  pub icf : slice_index n 12 ≤ 1

pub within : (n : List ℕ) → true ≡ are_numbers n → Within n
unfolding fits
within n h =
    let a = and_parts _ _ (sym h) in
    let b = and_parts _ _ a.1 in
    let c = and_parts _ _ b.1 in
    let d = and_parts _ _ c.1 in
    let e = and_parts _ _ d.1 in
    let f = and_parts _ _ e.1 in
    let g = and_parts _ _ f.1 in
    let i = and_parts _ _ g.1 in
    let j = and_parts _ _ i.1 in
    let k = and_parts _ _ j.1 in
    let l = and_parts _ _ k.1 in
    let m = and_parts _ _ l.1 in
    let o = and_parts _ _ m.1 in
    record {
      control = a.0;
      count = leb-true _ _ b.0;
      compare_a = leb-true _ _ c.0;
      compare_b = leb-true _ _ d.0;
      compare_c = leb-true _ _ e.0;
      icr = leb-true _ _ f.0;
      temp = leb-true _ _ g.0;
      match_blocked = leb-true _ _ i.0;
      tov = leb-true _ _ j.0;
      ocf_a = leb-true _ _ k.0;
      ocf_b = leb-true _ _ l.0;
      ocf_c = leb-true _ _ m.0;
      icf = leb-true _ _ o.0;
    }

pub are-within : (n : List ℕ) → Within n → are_numbers n ≡ true
unfolding fits
are-within n w =
    let control = w.control in
    let count = le-leb _ _ w.count in
    let compare_a = le-leb _ _ w.compare_a in
    let compare_b = le-leb _ _ w.compare_b in
    let compare_c = le-leb _ _ w.compare_c in
    let icr = le-leb _ _ w.icr in
    let temp = le-leb _ _ w.temp in
    let match_blocked = le-leb _ _ w.match_blocked in
    let tov = le-leb _ _ w.tov in
    let ocf_a = le-leb _ _ w.ocf_a in
    let ocf_b = le-leb _ _ w.ocf_b in
    let ocf_c = le-leb _ _ w.ocf_c in
    let icf = le-leb _ _ w.icf in
    rw (control, count, compare_a, compare_b, compare_c, icr, temp, match_blocked, tov, ocf_a, ocf_b, ocf_c, icf) refl

-- a timer's registers are words and a byte
pub record IsPlain (tm : Timer16) : Type 0 where
  pub count : tm.count ≤ 65535
  pub compare_a : tm.compare_a ≤ 65535
  pub compare_b : tm.compare_b ≤ 65535
  pub compare_c : tm.compare_c ≤ 65535
  pub icr : tm.icr ≤ 65535
  pub temp : tm.temp ≤ 255

-- the numbers of a timer are within them
pub numbers-within : (tm : Timer16) → tm.select ≤ 5 → IsPlain tm → are_numbers (numbers_of tm) ≡ true
numbers-within tm select plain =
    let mode = has-mode tm.noise_canceler tm.rising_edge tm.mode tm.select select in
    let w : Within (numbers_of tm) = record {
      control = mode;
      count = plain.count;
      compare_a = plain.compare_a;
      compare_b = plain.compare_b;
      compare_c = plain.compare_c;
      icr = plain.icr;
      temp = plain.temp;
      match_blocked = bit-most tm.match_blocked;
      tov = bit-most tm.flags.tov;
      ocf_a = bit-most tm.flags.ocf_a;
      ocf_b = bit-most tm.flags.ocf_b;
      ocf_c = bit-most tm.flags.ocf_c;
      icf = bit-most tm.flags.icf;
    } in
    are-within (numbers_of tm) w

-- ---- the timer that has the numbers

abbrev pub timer_of : Mode16 → List ℕ → Timer16
timer_of mode n = record {
  mode = mode;
  select = slice_index n 0 % 8;
  noise_canceler = any_bit (slice_index n 0) 0x80;
  rising_edge = any_bit (slice_index n 0) 0x40;
  count = slice_index n 1;
  compare_a = slice_index n 2;
  compare_b = slice_index n 3;
  compare_c = slice_index n 4;
  icr = slice_index n 5;
  temp = slice_index n 6;
  match_blocked = slice_index n 7 == 1;
  flags = record {
    tov = slice_index n 8 == 1;
    ocf_a = slice_index n 9 == 1;
    ocf_b = slice_index n 10 == 1;
    ocf_c = slice_index n 11 == 1;
    icf = slice_index n 12 == 1;
  };
}

pub has-numbers : (mode : Mode16) (n : List ℕ) → length n ≡ 13 → control_mode (slice_index n 0) ≡ Some mode → true ≡ are_numbers n → HasNumbers n (timer_of mode n)
has-numbers mode n len m h =
    let w = within n h in
    let places = by-places n 13 len in
    let control = control-again (slice_index n 0) mode m in
    let match_blocked = bit-flag (slice_index n 7) w.match_blocked in
    let tov = bit-flag (slice_index n 8) w.tov in
    let ocf_a = bit-flag (slice_index n 9) w.ocf_a in
    let ocf_b = bit-flag (slice_index n 10) w.ocf_b in
    let ocf_c = bit-flag (slice_index n 11) w.ocf_c in
    let icf = bit-flag (slice_index n 12) w.icf in
    let same : numbers_of (timer_of mode n) ≡ n = rw (control, match_blocked, tov, ocf_a, ocf_b, ocf_c, icf) places in
    record { select = omega arith; numbers = same }

pub one-timer : (mode : Mode16) (n : List ℕ) (tm : Timer16) → control_mode (slice_index n 0) ≡ Some mode → HasNumbers n tm → timer_of mode n ≡ tm
one-timer mode n tm m h =
    let numbers = h.numbers in
    let r = reads tm.noise_canceler tm.rising_edge tm.mode tm.select h.select in
    let first : slice_index n 0 ≡ control_b tm = ap (λ xs. slice_index xs 0) (sym numbers) in
    let bits : mode_of (control_b tm / 8 % 4 * 4) ≡ Some mode = ap (λ b. mode_of (b / 8 % 4 * 4)) (sym first) ∙ (control-has (slice_index n 0) mode m).1 in
    let own : mode_of (control_b tm / 8 % 4 * 4) ≡ Some tm.mode = ap mode_of r.number ∙ mode-again tm.mode in
    let same_mode : mode ≡ tm.mode = cc in
    let match_blocked = flag-bit tm.match_blocked in
    let tov = flag-bit tm.flags.tov in
    let ocf_a = flag-bit tm.flags.ocf_a in
    let ocf_b = flag-bit tm.flags.ocf_b in
    let ocf_c = flag-bit tm.flags.ocf_c in
    let icf = flag-bit tm.flags.icf in
    let whole : timer_of tm.mode (numbers_of tm) ≡ tm =
    rw (r.noise_canceler, r.rising_edge, r.select, match_blocked, tov, ocf_a, ocf_b, ocf_c, icf) refl in
    ap (λ mode. timer_of mode n) same_mode ∙ ap (timer_of tm.mode) (sym numbers) ∙ whole

-- by its mode, where it has one
abbrev pub timer_by : Option Mode16 → List ℕ → Timer16
timer_by None n = timer_of Normal n
timer_by (Some mode) n = timer_of mode n

one-by : (n : List ℕ) (tm : Timer16) (o : Option Mode16) → control_mode (slice_index n 0) ≡ o → is_some o ≡ true → HasNumbers n tm → timer_by o n ≡ tm
one-by n tm None e some h = absurd (false≢true some)
one-by n tm (Some mode) e some h = one-timer mode n tm e h

-- the timer that has numbers within their bounds
pub one-within : (n : List ℕ) (tm : Timer16) → are_numbers n ≡ true → HasNumbers n tm → timer_by (control_mode (slice_index n 0)) n ≡ tm
one-within n tm fit h =
    let w = within n (sym fit) in
    one-by n tm (control_mode (slice_index n 0)) refl w.control h
