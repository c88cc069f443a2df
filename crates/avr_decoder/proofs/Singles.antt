-- Words 0x9400 to 0x95FF: instructions over one register or none, JMP and CALL.
use Rattle.std.proofs.Common.{[], ◌∷◌, ◌≡◌, ℕ, ◌+◌, ◌*◌, ◌/◌, ◌%◌, ◌≢◌, refl, arith}
use Rattle.avr_decoder.specs.declared.op.Op.TheVariants as op
use Rattle.avr_decoder.specs.Opcodes.{op_at}
use Rattle.avr_decoder.proofs.Spelled.{middle, flag}
use Rattle.avr_decoder.proofs.Rows.{numbered, number_of, by_top, by_ends, with_field, none_of, none_is}

pub com_at : (w next : ℕ) → w / 512 ≡ 74 → w % 16 ≡ 0 → op_at w next ≡ op.Com (middle w)
unfolding numbered number_of
com_at w next e f = by_ends 49 74 0 w next refl e f

pub neg_at : (w next : ℕ) → w / 512 ≡ 74 → w % 16 ≡ 1 → op_at w next ≡ op.Neg (middle w)
unfolding numbered number_of
neg_at w next e f = by_ends 50 74 1 w next refl e f

pub swap_at : (w next : ℕ) → w / 512 ≡ 74 → w % 16 ≡ 2 → op_at w next ≡ op.Swap (middle w)
unfolding numbered number_of
swap_at w next e f = by_ends 51 74 2 w next refl e f

pub inc_at : (w next : ℕ) → w / 512 ≡ 74 → w % 16 ≡ 3 → op_at w next ≡ op.Inc (middle w)
unfolding numbered number_of
inc_at w next e f = by_ends 52 74 3 w next refl e f

pub asr_at : (w next : ℕ) → w / 512 ≡ 74 → w % 16 ≡ 5 → op_at w next ≡ op.Asr (middle w)
unfolding numbered number_of
asr_at w next e f = by_ends 53 74 5 w next refl e f

pub lsr_at : (w next : ℕ) → w / 512 ≡ 74 → w % 16 ≡ 6 → op_at w next ≡ op.Lsr (middle w)
unfolding numbered number_of
lsr_at w next e f = by_ends 54 74 6 w next refl e f

pub ror_at : (w next : ℕ) → w / 512 ≡ 74 → w % 16 ≡ 7 → op_at w next ≡ op.Ror (middle w)
unfolding numbered number_of
ror_at w next e f = by_ends 55 74 7 w next refl e f

pub dec_at : (w next : ℕ) → w / 512 ≡ 74 → w % 16 ≡ 10 → op_at w next ≡ op.Dec (middle w)
unfolding numbered number_of
dec_at w next e f = by_ends 56 74 10 w next refl e f

pub bset_at : (w next : ℕ) → w / 128 ≡ 296 → w % 16 ≡ 8 → op_at w next ≡ op.Bset (flag w)
unfolding numbered number_of
bset_at w next e f = with_field (λ w. w % 16) 57 37888 128 8 w next refl (omega arith) (omega arith) f

pub bclr_at : (w next : ℕ) → w / 128 ≡ 297 → w % 16 ≡ 8 → op_at w next ≡ op.Bclr (flag w)
unfolding numbered number_of
bclr_at w next e f = with_field (λ w. w % 16) 58 38016 128 8 w next refl (omega arith) (omega arith) f

pub ijmp_at : (w next : ℕ) → w ≡ 37897 → op_at w next ≡ op.Ijmp
unfolding numbered number_of
ijmp_at w next e = by_top 59 16 0 37897 w next refl refl (omega arith)

pub icall_at : (w next : ℕ) → w ≡ 38153 → op_at w next ≡ op.Icall
unfolding numbered number_of
icall_at w next e = by_top 60 16 0 38153 w next refl refl (omega arith)

pub ret_at : (w next : ℕ) → w ≡ 38152 → op_at w next ≡ op.Ret
unfolding numbered number_of
ret_at w next e = by_top 61 16 0 38152 w next refl refl (omega arith)

pub reti_at : (w next : ℕ) → w ≡ 38168 → op_at w next ≡ op.Reti
unfolding numbered number_of
reti_at w next e = by_top 62 16 0 38168 w next refl refl (omega arith)

pub sleep_at : (w next : ℕ) → w ≡ 38280 → op_at w next ≡ op.Sleep
unfolding numbered number_of
sleep_at w next e = by_top 63 16 0 38280 w next refl refl (omega arith)

pub break_at : (w next : ℕ) → w ≡ 38296 → op_at w next ≡ op.Break
unfolding numbered number_of
break_at w next e = by_top 64 16 0 38296 w next refl refl (omega arith)

pub wdr_at : (w next : ℕ) → w ≡ 38312 → op_at w next ≡ op.Wdr
unfolding numbered number_of
wdr_at w next e = by_top 65 16 0 38312 w next refl refl (omega arith)

pub lpm_r0_at : (w next : ℕ) → w ≡ 38344 → op_at w next ≡ op.LpmR0
unfolding numbered number_of
lpm_r0_at w next e = by_top 66 16 0 38344 w next refl refl (omega arith)

pub elpm_r0_at : (w next : ℕ) → w ≡ 38360 → op_at w next ≡ op.ElpmR0
unfolding numbered number_of
elpm_r0_at w next e = by_top 67 16 0 38360 w next refl refl (omega arith)

pub spm_at : (w next : ℕ) → w ≡ 38376 → op_at w next ≡ op.Spm
unfolding numbered number_of
spm_at w next e = by_top 68 16 0 38376 w next refl refl (omega arith)

pub jmp_at : (w next : ℕ) → w / 512 ≡ 74 → w / 2 % 8 ≡ 6 → op_at w next ≡ op.Jmp next
unfolding numbered number_of
jmp_at w next e f = with_field (λ w. w / 2 % 8) 69 37888 512 6 w next refl (omega arith) (omega arith) f

pub call_at : (w next : ℕ) → w / 512 ≡ 74 → w / 2 % 8 ≡ 7 → op_at w next ≡ op.Call next
unfolding numbered number_of
call_at w next e f = with_field (λ w. w / 2 % 8) 70 37888 512 7 w next refl (omega arith) (omega arith) f

pub single_reserved : (w next : ℕ) → w / 512 ≡ 74 → w % 16 ≢ 0 → w % 16 ≢ 1 → w % 16 ≢ 2 → w % 16 ≢ 3 → w % 16 ≢ 5 → w % 16 ≢ 6 → w % 16 ≢ 7 → w % 16 ≢ 8 → w % 16 ≢ 9 → w % 16 ≢ 10 → w % 16 ≢ 12 → w % 16 ≢ 13 → w % 16 ≢ 14 → w % 16 ≢ 15 → op_at w next ≡ op.Reserved w
unfolding numbered number_of
single_reserved w next e n0 n1 n2 n3 n5 n6 n7 n8 n9 n10 n12 n13 n14 n15 =
    with_field (λ v. none_of (0 ∷ 1 ∷ 2 ∷ 3 ∷ 5 ∷ 6 ∷ 7 ∷ 8 ∷ 9 ∷ 10 ∷ 12 ∷ 13 ∷ 14 ∷ 15 ∷ []) (v % 16)) 89 37888 512 1 w next refl (omega arith) (omega arith) (none_is (0 ∷ 1 ∷ 2 ∷ 3 ∷ 5 ∷ 6 ∷ 7 ∷ 8 ∷ 9 ∷ 10 ∷ 12 ∷ 13 ∷ 14 ∷ 15 ∷ []) (w % 16) (n0, (n1, (n2, (n3, (n5, (n6, (n7, (n8, (n9, (n10, (n12, (n13, (n14, (n15, tt)))))))))))))))

sixteen_and : (x y : ℕ) {z : ℕ} → x ≡ 1 → y ≡ z → 16 * x + y ≡ 16 + z
sixteen_and x y e f = omega arith

pub control_reserved : (w next : ℕ) → w / 256 ≡ 149 → w % 16 ≡ 8 → w ≢ 0x9508 → w ≢ 0x9518 → w ≢ 0x9588 → w ≢ 0x9598 → w ≢ 0x95A8 → w ≢ 0x95C8 → w ≢ 0x95D8 → w ≢ 0x95E8 → op_at w next ≡ op.Reserved w
unfolding numbered number_of
control_reserved w next e f n0 n1 n2 n3 n4 n5 n6 n7 =
    let none = none_is (0x9508 ∷ 0x9518 ∷ 0x9588 ∷ 0x9598 ∷ 0x95A8 ∷ 0x95C8 ∷ 0x95D8 ∷ 0x95E8 ∷ []) w (n0, (n1, (n2, (n3, (n4, (n5, (n6, (n7, tt)))))))) in
    with_field (λ v. 16 * none_of (0x9508 ∷ 0x9518 ∷ 0x9588 ∷ 0x9598 ∷ 0x95A8 ∷ 0x95C8 ∷ 0x95D8 ∷ 0x95E8 ∷ []) v + v % 16) 89 38144 256 24 w next refl (omega arith) (omega arith) (sixteen_and _ _ none f)

pub indirect_reserved : (w next : ℕ) → w / 512 ≡ 74 → w % 16 ≡ 9 → w ≢ 0x9409 → w ≢ 0x9509 → op_at w next ≡ op.Reserved w
unfolding numbered number_of
indirect_reserved w next e f n0 n1 =
    let none = none_is (0x9409 ∷ 0x9509 ∷ []) w (n0, (n1, tt)) in
    with_field (λ v. 16 * none_of (0x9409 ∷ 0x9509 ∷ []) v + v % 16) 89 37888 512 25 w next refl (omega arith) (omega arith) (sixteen_and _ _ none f)

pub ruleset singles_rows = (com_at, neg_at, swap_at, inc_at, asr_at, lsr_at, ror_at, dec_at, bset_at, bclr_at, ijmp_at, icall_at, ret_at, reti_at, sleep_at, break_at, wdr_at, lpm_r0_at, elpm_r0_at, spm_at, jmp_at, call_at, single_reserved, control_reserved, indirect_reserved)
