-- Words 0x9600 to 0x9FFF: ADIW, SBIW, single bits of I/O registers, and MUL.
use Rattle.std.proofs.Common.{◌≡◌, ℕ, ◌/◌, refl}
use Rattle.avr_decoder.specs.declared.op.Op.TheVariants as op
use Rattle.avr_decoder.specs.Opcodes.{op_at}
use Rattle.avr_decoder.proofs.Spelled.{middle, split, word_pair, short_constant, low_address, low_three}
use Rattle.avr_decoder.proofs.Rows.{numbered, number_of, by_top}

pub adiw_at : (w next : ℕ) → w / 256 ≡ 150 → op_at w next ≡ op.Adiw (word_pair w) (short_constant w)
unfolding numbered number_of
adiw_at w next e = by_top 71 8 8 150 w next refl refl e

pub sbiw_at : (w next : ℕ) → w / 256 ≡ 151 → op_at w next ≡ op.Sbiw (word_pair w) (short_constant w)
unfolding numbered number_of
sbiw_at w next e = by_top 72 8 8 151 w next refl refl e

pub cbi_at : (w next : ℕ) → w / 256 ≡ 152 → op_at w next ≡ op.Cbi (low_address w) (low_three w)
unfolding numbered number_of
cbi_at w next e = by_top 73 8 8 152 w next refl refl e

pub sbic_at : (w next : ℕ) → w / 256 ≡ 153 → op_at w next ≡ op.Sbic (low_address w) (low_three w)
unfolding numbered number_of
sbic_at w next e = by_top 74 8 8 153 w next refl refl e

pub sbi_at : (w next : ℕ) → w / 256 ≡ 154 → op_at w next ≡ op.Sbi (low_address w) (low_three w)
unfolding numbered number_of
sbi_at w next e = by_top 75 8 8 154 w next refl refl e

pub sbis_at : (w next : ℕ) → w / 256 ≡ 155 → op_at w next ≡ op.Sbis (low_address w) (low_three w)
unfolding numbered number_of
sbis_at w next e = by_top 76 8 8 155 w next refl refl e

pub mul_at : (w next : ℕ) → w / 1024 ≡ 39 → op_at w next ≡ op.Mul (middle w) (split w)
unfolding numbered number_of
mul_at w next e = by_top 77 6 10 39 w next refl refl e

pub ruleset words_rows = (adiw_at, sbiw_at, cbi_at, sbic_at, sbi_at, sbis_at, mul_at)
