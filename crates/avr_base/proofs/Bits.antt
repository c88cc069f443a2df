-- A flag set or cleared by bit operations is the flag by arithmetic: a test over all bytes and flags.
use Rattle.std.proofs.Common.{◌≡◌, ℕ, ◌+◌, ◌-◌, ◌*◌, ◌/◌, ◌%◌, ◌^◌, ◌<◌, ◌≤◌, ◌==◌, Bool, true, false, ◌&&◌, refl, bit_and, bit_or, arith}
use Rattle.std.proofs.lemmas.Bool.{and_parts, eqb-true}
use Rattle.avr_base.specs.Flags.{with_flag}
use Rattle.avr_base.proofs.Computed.{all_from, all_from-at}

abbrev agrees : ℕ → Bool
agrees n =
    let s = n / 8 in let i = n % 8 in
    (bit_or s (1 * 2 ^ i % 256) == with_flag s i true) && (bit_and s (255 - 1 * 2 ^ i % 256) == with_flag s i false)

all_agree : all_from agrees 0 2048 ≡ true
unfolding with_flag
all_agree = refl

flag_agrees : (s i : ℕ) → s < 256 → i ≤ 7 → agrees (8 * s + i) ≡ true
flag_agrees s i h g = all_from-at agrees 0 2048 (8 * s + i) all_agree (omega arith) (omega arith)

split : (s i : ℕ) → i ≤ 7 → ((8 * s + i) / 8 ≡ s) × ((8 * s + i) % 8 ≡ i)
split s i g = (omega arith, omega arith)

pub flag_on : (s i : ℕ) → s < 256 → i ≤ 7 → bit_or s (1 * 2 ^ i % 256) ≡ with_flag s i true
flag_on s i h g =
    let e = split s i g in
    let a = rw (e.0, e.1) at (flag_agrees s i h g) in
    eqb-true _ _ (and_parts _ _ a).0

pub flag_off : (s i : ℕ) → s < 256 → i ≤ 7 → bit_and s (255 - 1 * 2 ^ i % 256) ≡ with_flag s i false
flag_off s i h g =
    let e = split s i g in
    let a = rw (e.0, e.1) at (flag_agrees s i h g) in
    eqb-true _ _ (and_parts _ _ a).1
