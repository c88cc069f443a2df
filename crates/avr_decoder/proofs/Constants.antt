-- Words 0x3000 to 0x7FFF and 0xC000 to 0xEFFF: constants, RJMP and RCALL.
use Rattle.std.proofs.Common.{◌≡◌, ℕ, ◌/◌, refl}
use Rattle.avr_decoder.specs.declared.op.Op.TheVariants as op
use Rattle.avr_decoder.specs.Opcodes.{op_at}
use Rattle.avr_decoder.proofs.Spelled.{upper_d, constant, jump_offset}
use Rattle.avr_decoder.proofs.Rows.{numbered, number_of, by_top}

pub cpi_at : (w next : ℕ) → w / 4096 ≡ 3 → op_at w next ≡ op.Cpi (upper_d w) (constant w)
unfolding numbered number_of
cpi_at w next e = by_top 18 4 12 3 w next refl refl e

pub sbci_at : (w next : ℕ) → w / 4096 ≡ 4 → op_at w next ≡ op.Sbci (upper_d w) (constant w)
unfolding numbered number_of
sbci_at w next e = by_top 19 4 12 4 w next refl refl e

pub subi_at : (w next : ℕ) → w / 4096 ≡ 5 → op_at w next ≡ op.Subi (upper_d w) (constant w)
unfolding numbered number_of
subi_at w next e = by_top 20 4 12 5 w next refl refl e

pub ori_at : (w next : ℕ) → w / 4096 ≡ 6 → op_at w next ≡ op.Ori (upper_d w) (constant w)
unfolding numbered number_of
ori_at w next e = by_top 21 4 12 6 w next refl refl e

pub andi_at : (w next : ℕ) → w / 4096 ≡ 7 → op_at w next ≡ op.Andi (upper_d w) (constant w)
unfolding numbered number_of
andi_at w next e = by_top 22 4 12 7 w next refl refl e

pub ldi_at : (w next : ℕ) → w / 4096 ≡ 14 → op_at w next ≡ op.Ldi (upper_d w) (constant w)
unfolding numbered number_of
ldi_at w next e = by_top 82 4 12 14 w next refl refl e

pub rjmp_at : (w next : ℕ) → w / 4096 ≡ 12 → op_at w next ≡ op.Rjmp (jump_offset w)
unfolding numbered number_of
rjmp_at w next e = by_top 80 4 12 12 w next refl refl e

pub rcall_at : (w next : ℕ) → w / 4096 ≡ 13 → op_at w next ≡ op.Rcall (jump_offset w)
unfolding numbered number_of
rcall_at w next e = by_top 81 4 12 13 w next refl refl e

pub ruleset constants_rows = (cpi_at, sbci_at, subi_at, ori_at, andi_at, ldi_at, rjmp_at, rcall_at)
