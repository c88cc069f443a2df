-- The numbers of the interface: what their bounds say, and the one interface that has them.
use Rattle.std.proofs.Common.{◌≡◌, ◌≤◌, ℕ, true, refl, sym, ◌∙◌, ap, List, length, slice_index, ◌==◌}
use Rattle.std.proofs.lemmas.Bool.{and_parts, leb-true}
use Rattle.device_base.specs.Bits.{any_bit}
use Rattle.device_base.proofs.Places.{by-places, bit-flag, flag-bit, same-list}
use Rattle.serial_ports.specs.Numbers.{is_end_number, owned, transmission_of}
use Rattle.serial_ports.proofs.TransmissionSaved.{owned-most, runs-again, transmission-again}
use Rattle.serial_ports.specs.SpiNumbers.{are_numbers, fits, numbers_of}
use Rattle.serial_ports.specs.declared.spi.Spi.{Spi}

-- ---- the bounds of the interface

pub record Within (t : ℕ) (n : List ℕ) : Type 0 where
  pub control : slice_index n 0 ≤ 255
  pub double : slice_index n 1 ≤ 1
  pub register : slice_index n 2 ≤ 255
  pub runs : slice_index n 3 ≤ 1
  pub ends : is_end_number t (slice_index n 3 == 1) (slice_index n 4) ≡ true
  pub byte : slice_index n 5 ≤ owned (slice_index n 3 == 1) 255
  pub spif : slice_index n 6 ≤ 1
  pub wcol : slice_index n 7 ≤ 1
  pub noted_spif : slice_index n 8 ≤ 1
  pub noted_wcol : slice_index n 9 ≤ 1

pub within : (t : ℕ) (n : List ℕ) → true ≡ are_numbers t n → Within t n
unfolding fits
within t n h =
    let a = and_parts _ _ (sym h) in
    let b = and_parts _ _ a.1 in
    let c = and_parts _ _ b.1 in
    let d = and_parts _ _ c.1 in
    let e = and_parts _ _ d.1 in
    let f = and_parts _ _ e.1 in
    let g = and_parts _ _ f.1 in
    let i = and_parts _ _ g.1 in
    let j = and_parts _ _ i.1 in
    let k = and_parts _ _ j.1 in
    record {
      control = leb-true _ _ (and_parts _ _ a.0).0;
      double = leb-true _ _ b.0;
      register = leb-true _ _ c.0;
      runs = owned-most (any_bit (slice_index n 0) 0x40) _ _ (leb-true _ _ d.0);
      ends = e.0;
      byte = leb-true _ _ f.0;
      spif = leb-true _ _ g.0;
      wcol = leb-true _ _ i.0;
      noted_spif = leb-true _ _ j.0;
      noted_wcol = leb-true _ _ k.0;
    }

-- ---- the interface that has the numbers

abbrev pub spi_of : List ℕ → Spi
spi_of n = record {
  control = slice_index n 0;
  double = slice_index n 1 == 1;
  receive_buffer = slice_index n 2;
  spif = slice_index n 6 == 1;
  wcol = slice_index n 7 == 1;
  noted_spif = slice_index n 8 == 1;
  noted_wcol = slice_index n 9 == 1;
  shift_register = transmission_of (slice_index n 3 == 1) (slice_index n 4) (slice_index n 5);
}

pub has-numbers : (t : ℕ) (n : List ℕ) → length n ≡ 10 → true ≡ are_numbers t n → numbers_of (spi_of n) ≡ n
has-numbers t n len h =
    let w = within t n h in
    let r = runs-again t (slice_index n 3) (slice_index n 4) (slice_index n 5) w.runs w.ends w.byte in
    let double = bit-flag (slice_index n 1) w.double in
    let spif = bit-flag (slice_index n 6) w.spif in
    let wcol = bit-flag (slice_index n 7) w.wcol in
    let noted_spif = bit-flag (slice_index n 8) w.noted_spif in
    let noted_wcol = bit-flag (slice_index n 9) w.noted_wcol in
    let flags = same-list spif (same-list wcol (same-list noted_spif (same-list noted_wcol refl))) in
    let shift_register = same-list r.runs (same-list r.ends (same-list r.byte flags)) in
    same-list refl (same-list double (same-list refl shift_register)) ∙ by-places n 10 len

pub one-spi : (n : List ℕ) (s : Spi) → numbers_of s ≡ n → spi_of n ≡ s
one-spi n s numbers =
    let double = flag-bit s.double in
    let spif = flag-bit s.spif in
    let wcol = flag-bit s.wcol in
    let noted_spif = flag-bit s.noted_spif in
    let noted_wcol = flag-bit s.noted_wcol in
    let shift_register = transmission-again s.shift_register in
    let whole : spi_of (numbers_of s) ≡ s = rw (shift_register, double, spif, wcol, noted_spif, noted_wcol) refl in
    ap spi_of (sym numbers) ∙ whole
