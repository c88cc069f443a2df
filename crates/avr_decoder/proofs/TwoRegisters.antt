-- Words 0x0000 to 0x2FFF: NOP, products and the instructions over two registers.
use Rattle.std.proofs.Common.{◌≡◌, ℕ, ◌/◌, ◌%◌, ◌≢◌, refl, arith}
use Rattle.avr_decoder.specs.declared.op.Op.TheVariants as op
use Rattle.avr_decoder.specs.Opcodes.{op_at}
use Rattle.avr_decoder.proofs.Spelled.{middle, split, upper_d, upper_r, pair_d, pair_r, short_d, short_r}
use Rattle.avr_decoder.proofs.Rows.{numbered, number_of, by_top, by_bit, with_field}

pub nop_at : (w next : ℕ) → w ≡ 0 → op_at w next ≡ op.Nop
unfolding numbered number_of
nop_at w next e = by_top 0 16 0 0 w next refl refl (omega arith)

pub movw_at : (w next : ℕ) → w / 256 ≡ 1 → op_at w next ≡ op.Movw (pair_d w) (pair_r w)
unfolding numbered number_of
movw_at w next e = by_top 1 8 8 1 w next refl refl e

pub muls_at : (w next : ℕ) → w / 256 ≡ 2 → op_at w next ≡ op.Muls (upper_d w) (upper_r w)
unfolding numbered number_of
muls_at w next e = by_top 2 8 8 2 w next refl refl e

pub mulsu_at : (w next : ℕ) → w / 128 ≡ 6 → w / 8 % 2 ≡ 0 → op_at w next ≡ op.Mulsu (short_d w) (short_r w)
unfolding numbered number_of
mulsu_at w next e f = by_bit 3 9 3 6 0 w next refl refl e f

pub fmul_at : (w next : ℕ) → w / 128 ≡ 6 → w / 8 % 2 ≡ 1 → op_at w next ≡ op.Fmul (short_d w) (short_r w)
unfolding numbered number_of
fmul_at w next e f = by_bit 4 9 3 6 1 w next refl refl e f

pub fmuls_at : (w next : ℕ) → w / 128 ≡ 7 → w / 8 % 2 ≡ 0 → op_at w next ≡ op.Fmuls (short_d w) (short_r w)
unfolding numbered number_of
fmuls_at w next e f = by_bit 5 9 3 7 0 w next refl refl e f

pub fmulsu_at : (w next : ℕ) → w / 128 ≡ 7 → w / 8 % 2 ≡ 1 → op_at w next ≡ op.Fmulsu (short_d w) (short_r w)
unfolding numbered number_of
fmulsu_at w next e f = by_bit 6 9 3 7 1 w next refl refl e f

pub cpc_at : (w next : ℕ) → w / 1024 ≡ 1 → op_at w next ≡ op.Cpc (middle w) (split w)
unfolding numbered number_of
cpc_at w next e = by_top 7 6 10 1 w next refl refl e

pub sbc_at : (w next : ℕ) → w / 1024 ≡ 2 → op_at w next ≡ op.Sbc (middle w) (split w)
unfolding numbered number_of
sbc_at w next e = by_top 8 6 10 2 w next refl refl e

pub add_at : (w next : ℕ) → w / 1024 ≡ 3 → op_at w next ≡ op.Add (middle w) (split w)
unfolding numbered number_of
add_at w next e = by_top 9 6 10 3 w next refl refl e

pub cpse_at : (w next : ℕ) → w / 1024 ≡ 4 → op_at w next ≡ op.Cpse (middle w) (split w)
unfolding numbered number_of
cpse_at w next e = by_top 10 6 10 4 w next refl refl e

pub cp_at : (w next : ℕ) → w / 1024 ≡ 5 → op_at w next ≡ op.Cp (middle w) (split w)
unfolding numbered number_of
cp_at w next e = by_top 11 6 10 5 w next refl refl e

pub sub_at : (w next : ℕ) → w / 1024 ≡ 6 → op_at w next ≡ op.Sub (middle w) (split w)
unfolding numbered number_of
sub_at w next e = by_top 12 6 10 6 w next refl refl e

pub adc_at : (w next : ℕ) → w / 1024 ≡ 7 → op_at w next ≡ op.Adc (middle w) (split w)
unfolding numbered number_of
adc_at w next e = by_top 13 6 10 7 w next refl refl e

pub and_at : (w next : ℕ) → w / 1024 ≡ 8 → op_at w next ≡ op.And (middle w) (split w)
unfolding numbered number_of
and_at w next e = by_top 14 6 10 8 w next refl refl e

pub eor_at : (w next : ℕ) → w / 1024 ≡ 9 → op_at w next ≡ op.Eor (middle w) (split w)
unfolding numbered number_of
eor_at w next e = by_top 15 6 10 9 w next refl refl e

pub or_at : (w next : ℕ) → w / 1024 ≡ 10 → op_at w next ≡ op.Or (middle w) (split w)
unfolding numbered number_of
or_at w next e = by_top 16 6 10 10 w next refl refl e

pub mov_at : (w next : ℕ) → w / 1024 ≡ 11 → op_at w next ≡ op.Mov (middle w) (split w)
unfolding numbered number_of
mov_at w next e = by_top 17 6 10 11 w next refl refl e

pub first_reserved : (w next : ℕ) → w / 256 ≡ 0 → w ≢ 0 → op_at w next ≡ op.Reserved w
unfolding numbered number_of
first_reserved w next e f = with_field (λ v. v / 256) 89 1 255 0 w next refl (omega arith) (omega arith) e

pub ruleset two_registers_rows = (nop_at, movw_at, muls_at, mulsu_at, fmul_at, fmuls_at, fmulsu_at, cpc_at, sbc_at, add_at, cpse_at, cp_at, sub_at, adc_at, and_at, eor_at, or_at, mov_at, first_reserved)
