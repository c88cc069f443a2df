-- Words 0x9200 to 0x93FF: stores.
use Rattle.std.proofs.Common.{[], ◌∷◌, ◌≡◌, ℕ, ◌/◌, ◌%◌, ◌≢◌, ◌==◌, refl, arith}
use Rattle.std.specs.Prelude.{if◌then◌else◌}
use Rattle.avr_decoder.specs.declared.op.Op.TheVariants as op
use Rattle.avr_decoder.specs.Opcodes.{op_at}
use Rattle.avr_decoder.proofs.Spelled.{middle}
use Rattle.avr_decoder.proofs.Rows.{numbered, number_of, by_registers, with_field, moving, none_of, none_is}

pub sts_at : (w next : ℕ) → w / 512 ≡ 73 → w % 16 ≡ 0 → op_at w next ≡ op.Sts next (middle w)
unfolding numbered number_of
sts_at w next e f = by_registers 40 73 0 w next refl e f

pub st_z_inc_at : (w next : ℕ) → w / 512 ≡ 73 → w % 16 ≡ 1 → op_at w next ≡ (if w / 32 % 16 == 15 then op.Undefined w else op.StZInc (middle w))
unfolding numbered number_of
st_z_inc_at w next e f = moving 41 73 15 1 w next refl e f

pub st_z_dec_at : (w next : ℕ) → w / 512 ≡ 73 → w % 16 ≡ 2 → op_at w next ≡ (if w / 32 % 16 == 15 then op.Undefined w else op.StZDec (middle w))
unfolding numbered number_of
st_z_dec_at w next e f = moving 42 73 15 2 w next refl e f

pub st_y_inc_at : (w next : ℕ) → w / 512 ≡ 73 → w % 16 ≡ 9 → op_at w next ≡ (if w / 32 % 16 == 14 then op.Undefined w else op.StYInc (middle w))
unfolding numbered number_of
st_y_inc_at w next e f = moving 43 73 14 9 w next refl e f

pub st_y_dec_at : (w next : ℕ) → w / 512 ≡ 73 → w % 16 ≡ 10 → op_at w next ≡ (if w / 32 % 16 == 14 then op.Undefined w else op.StYDec (middle w))
unfolding numbered number_of
st_y_dec_at w next e f = moving 44 73 14 10 w next refl e f

pub st_x_at : (w next : ℕ) → w / 512 ≡ 73 → w % 16 ≡ 12 → op_at w next ≡ op.StX (middle w)
unfolding numbered number_of
st_x_at w next e f = by_registers 45 73 12 w next refl e f

pub st_x_inc_at : (w next : ℕ) → w / 512 ≡ 73 → w % 16 ≡ 13 → op_at w next ≡ (if w / 32 % 16 == 13 then op.Undefined w else op.StXInc (middle w))
unfolding numbered number_of
st_x_inc_at w next e f = moving 46 73 13 13 w next refl e f

pub st_x_dec_at : (w next : ℕ) → w / 512 ≡ 73 → w % 16 ≡ 14 → op_at w next ≡ (if w / 32 % 16 == 13 then op.Undefined w else op.StXDec (middle w))
unfolding numbered number_of
st_x_dec_at w next e f = moving 47 73 13 14 w next refl e f

pub push_at : (w next : ℕ) → w / 512 ≡ 73 → w % 16 ≡ 15 → op_at w next ≡ op.Push (middle w)
unfolding numbered number_of
push_at w next e f = by_registers 48 73 15 w next refl e f

pub store_reserved : (w next : ℕ) → w / 512 ≡ 73 → w % 16 ≢ 0 → w % 16 ≢ 1 → w % 16 ≢ 2 → w % 16 ≢ 9 → w % 16 ≢ 10 → w % 16 ≢ 12 → w % 16 ≢ 13 → w % 16 ≢ 14 → w % 16 ≢ 15 → op_at w next ≡ op.Reserved w
unfolding numbered number_of
store_reserved w next e n0 n1 n2 n9 n10 n12 n13 n14 n15 =
    with_field (λ v. none_of (0 ∷ 1 ∷ 2 ∷ 9 ∷ 10 ∷ 12 ∷ 13 ∷ 14 ∷ 15 ∷ []) (v % 16)) 89 37376 512 1 w next refl (omega arith) (omega arith) (none_is (0 ∷ 1 ∷ 2 ∷ 9 ∷ 10 ∷ 12 ∷ 13 ∷ 14 ∷ 15 ∷ []) (w % 16) (n0, (n1, (n2, (n9, (n10, (n12, (n13, (n14, (n15, tt))))))))))

pub ruleset stores_rows = (sts_at, st_z_inc_at, st_z_dec_at, st_y_inc_at, st_y_dec_at, st_x_at, st_x_inc_at, st_x_dec_at, push_at, store_reserved)
