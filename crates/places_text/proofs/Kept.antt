-- The addresses of kept bytes in the code are those of the table of registers.
use Rattle.std.proofs.Common.{◌≡◌, ℕ, ◌<◌, nat_le, Bool, true, false, refl, arith}
use Rattle.std.specs.List.{list_any}
use Rattle.std.proofs.lemmas.Bool.Decides.{nat_tests}
use Rattle.avr_base.proofs.Computed.{all_from, all_from-at}
use Rattle.board_io.specs.Table.{rule_of}
use Rattle.places_text.specs.Addresses.{is_byte, is_core, is_kept, is_within}
use Rattle.places_text.specs.declared.addresses.TheConstants.{KEPT}

abbrev same : Bool → Bool → Bool
same true b = b
same false true = false
same false false = true

same_is : (a b : Bool) → same a b ≡ true → a ≡ b
same_is true true h = refl
same_is true false h = absurd (cc)
same_is false true h = absurd (cc)
same_is false false h = refl

abbrev is_told : ℕ → Bool
is_told at = same (list_any (is_within at) KEPT) (is_kept at)

all_told : all_from is_told 0 0x100 ≡ true
unfolding rule_of
all_told = refl

pub kept_is : (at : ℕ) → at < 0x100 → list_any (is_within at) KEPT ≡ is_kept at
kept_is at h = same_is _ _ (all_from-at is_told 0 0x100 at all_told (omega arith) h)

pub byte_is : (at : ℕ) → at < 0x100 → is_core at ≡ false → list_any (is_within at) KEPT ≡ is_byte at
unfolding is_byte
byte_is at h e =
    let over : nat_le 0x100 at ≡ false = grind (arith, nat_tests) in
    rw (over, e) (kept_is at h)
