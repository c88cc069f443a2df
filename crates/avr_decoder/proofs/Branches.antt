-- Words 0xF000 to 0xFFFF: branches on a flag, and single bits of registers.
use Rattle.std.proofs.Common.{◌≡◌, ℕ, ◌/◌, ◌%◌, refl, arith, inl, inr}
use Rattle.std.proofs.lemmas.Bool.{cases_lt}
use Rattle.avr_decoder.specs.declared.op.Op.TheVariants as op
use Rattle.avr_decoder.specs.Opcodes.{op_at}
use Rattle.avr_decoder.proofs.Spelled.{middle, low_three, branch_offset}
use Rattle.avr_decoder.proofs.Rows.{numbered, number_of, by_top, by_bit}

pub brbs_at : (w next : ℕ) → w / 1024 ≡ 60 → op_at w next ≡ op.Brbs (low_three w) (branch_offset w)
unfolding numbered number_of
brbs_at w next e = by_top 83 6 10 60 w next refl refl e

pub brbc_at : (w next : ℕ) → w / 1024 ≡ 61 → op_at w next ≡ op.Brbc (low_three w) (branch_offset w)
unfolding numbered number_of
brbc_at w next e = by_top 84 6 10 61 w next refl refl e

pub bld_at : (w next : ℕ) → w / 512 ≡ 124 → w / 8 % 2 ≡ 0 → op_at w next ≡ op.Bld (middle w) (low_three w)
unfolding numbered number_of
bld_at w next e f = by_bit 85 7 5 124 0 w next refl refl e f

pub bst_at : (w next : ℕ) → w / 512 ≡ 125 → w / 8 % 2 ≡ 0 → op_at w next ≡ op.Bst (middle w) (low_three w)
unfolding numbered number_of
bst_at w next e f = by_bit 86 7 5 125 0 w next refl refl e f

pub sbrc_at : (w next : ℕ) → w / 512 ≡ 126 → w / 8 % 2 ≡ 0 → op_at w next ≡ op.Sbrc (middle w) (low_three w)
unfolding numbered number_of
sbrc_at w next e f = by_bit 87 7 5 126 0 w next refl refl e f

pub sbrs_at : (w next : ℕ) → w / 512 ≡ 127 → w / 8 % 2 ≡ 0 → op_at w next ≡ op.Sbrs (middle w) (low_three w)
unfolding numbered number_of
sbrs_at w next e f = by_bit 88 7 5 127 0 w next refl refl e f

pub bit_reserved : (w next : ℕ) → w / 2048 ≡ 31 → w / 8 % 2 ≡ 1 → op_at w next ≡ op.Reserved w
unfolding numbered number_of
bit_reserved w next e f =
    elim (cases_lt (w / 512) 126) [
      | inl low ↦ elim (cases_lt (w / 512) 125) [
        | inl bld ↦ by_bit 89 7 5 124 1 w next refl refl (omega arith) f
        | inr bst ↦ by_bit 89 7 5 125 1 w next refl refl (omega arith) f
      ]
      | inr high ↦ elim (cases_lt (w / 512) 127) [
        | inl sbrc ↦ by_bit 89 7 5 126 1 w next refl refl (omega arith) f
        | inr sbrs ↦ by_bit 89 7 5 127 1 w next refl refl (omega arith) f
      ]
    ]

pub ruleset branches_rows = (brbs_at, brbc_at, bld_at, bst_at, sbrc_at, sbrs_at, bit_reserved)
