-- Words 0x9000 to 0x91FF: loads.
use Rattle.std.proofs.Common.{[], ◌∷◌, ◌≡◌, ℕ, ◌/◌, ◌%◌, ◌≢◌, ◌==◌, refl, arith}
use Rattle.std.specs.Prelude.{if◌then◌else◌}
use Rattle.avr_decoder.specs.declared.op.Op.TheVariants as op
use Rattle.avr_decoder.specs.Opcodes.{op_at}
use Rattle.avr_decoder.proofs.Spelled.{middle}
use Rattle.avr_decoder.proofs.Rows.{numbered, number_of, by_registers, with_field, moving, none_of, none_is}

pub lds_at : (w next : ℕ) → w / 512 ≡ 72 → w % 16 ≡ 0 → op_at w next ≡ op.Lds (middle w) next
unfolding numbered number_of
lds_at w next e f = by_registers 27 72 0 w next refl e f

pub ld_z_inc_at : (w next : ℕ) → w / 512 ≡ 72 → w % 16 ≡ 1 → op_at w next ≡ (if w / 32 % 16 == 15 then op.Undefined w else op.LdZInc (middle w))
unfolding numbered number_of
ld_z_inc_at w next e f = moving 28 72 15 1 w next refl e f

pub ld_z_dec_at : (w next : ℕ) → w / 512 ≡ 72 → w % 16 ≡ 2 → op_at w next ≡ (if w / 32 % 16 == 15 then op.Undefined w else op.LdZDec (middle w))
unfolding numbered number_of
ld_z_dec_at w next e f = moving 29 72 15 2 w next refl e f

pub lpm_z_at : (w next : ℕ) → w / 512 ≡ 72 → w % 16 ≡ 4 → op_at w next ≡ op.LpmZ (middle w)
unfolding numbered number_of
lpm_z_at w next e f = by_registers 30 72 4 w next refl e f

pub lpm_z_inc_at : (w next : ℕ) → w / 512 ≡ 72 → w % 16 ≡ 5 → op_at w next ≡ (if w / 32 % 16 == 15 then op.Undefined w else op.LpmZInc (middle w))
unfolding numbered number_of
lpm_z_inc_at w next e f = moving 31 72 15 5 w next refl e f

pub elpm_z_at : (w next : ℕ) → w / 512 ≡ 72 → w % 16 ≡ 6 → op_at w next ≡ op.ElpmZ (middle w)
unfolding numbered number_of
elpm_z_at w next e f = by_registers 32 72 6 w next refl e f

pub elpm_z_inc_at : (w next : ℕ) → w / 512 ≡ 72 → w % 16 ≡ 7 → op_at w next ≡ (if w / 32 % 16 == 15 then op.Undefined w else op.ElpmZInc (middle w))
unfolding numbered number_of
elpm_z_inc_at w next e f = moving 33 72 15 7 w next refl e f

pub ld_y_inc_at : (w next : ℕ) → w / 512 ≡ 72 → w % 16 ≡ 9 → op_at w next ≡ (if w / 32 % 16 == 14 then op.Undefined w else op.LdYInc (middle w))
unfolding numbered number_of
ld_y_inc_at w next e f = moving 34 72 14 9 w next refl e f

pub ld_y_dec_at : (w next : ℕ) → w / 512 ≡ 72 → w % 16 ≡ 10 → op_at w next ≡ (if w / 32 % 16 == 14 then op.Undefined w else op.LdYDec (middle w))
unfolding numbered number_of
ld_y_dec_at w next e f = moving 35 72 14 10 w next refl e f

pub ld_x_at : (w next : ℕ) → w / 512 ≡ 72 → w % 16 ≡ 12 → op_at w next ≡ op.LdX (middle w)
unfolding numbered number_of
ld_x_at w next e f = by_registers 36 72 12 w next refl e f

pub ld_x_inc_at : (w next : ℕ) → w / 512 ≡ 72 → w % 16 ≡ 13 → op_at w next ≡ (if w / 32 % 16 == 13 then op.Undefined w else op.LdXInc (middle w))
unfolding numbered number_of
ld_x_inc_at w next e f = moving 37 72 13 13 w next refl e f

pub ld_x_dec_at : (w next : ℕ) → w / 512 ≡ 72 → w % 16 ≡ 14 → op_at w next ≡ (if w / 32 % 16 == 13 then op.Undefined w else op.LdXDec (middle w))
unfolding numbered number_of
ld_x_dec_at w next e f = moving 38 72 13 14 w next refl e f

pub pop_at : (w next : ℕ) → w / 512 ≡ 72 → w % 16 ≡ 15 → op_at w next ≡ op.Pop (middle w)
unfolding numbered number_of
pop_at w next e f = by_registers 39 72 15 w next refl e f

pub load_reserved : (w next : ℕ) → w / 512 ≡ 72 → w % 16 ≢ 0 → w % 16 ≢ 1 → w % 16 ≢ 2 → w % 16 ≢ 4 → w % 16 ≢ 5 → w % 16 ≢ 6 → w % 16 ≢ 7 → w % 16 ≢ 9 → w % 16 ≢ 10 → w % 16 ≢ 12 → w % 16 ≢ 13 → w % 16 ≢ 14 → w % 16 ≢ 15 → op_at w next ≡ op.Reserved w
unfolding numbered number_of
load_reserved w next e n0 n1 n2 n4 n5 n6 n7 n9 n10 n12 n13 n14 n15 =
    with_field (λ v. none_of (0 ∷ 1 ∷ 2 ∷ 4 ∷ 5 ∷ 6 ∷ 7 ∷ 9 ∷ 10 ∷ 12 ∷ 13 ∷ 14 ∷ 15 ∷ []) (v % 16)) 89 36864 512 1 w next refl (omega arith) (omega arith) (none_is (0 ∷ 1 ∷ 2 ∷ 4 ∷ 5 ∷ 6 ∷ 7 ∷ 9 ∷ 10 ∷ 12 ∷ 13 ∷ 14 ∷ 15 ∷ []) (w % 16) (n0, (n1, (n2, (n4, (n5, (n6, (n7, (n9, (n10, (n12, (n13, (n14, (n15, tt))))))))))))))

pub ruleset loads_rows = (lds_at, ld_z_inc_at, ld_z_dec_at, lpm_z_at, lpm_z_inc_at, elpm_z_at, elpm_z_inc_at, ld_y_inc_at, ld_y_dec_at, ld_x_at, ld_x_inc_at, ld_x_dec_at, pop_at, load_reserved)
