-- No instruction on registers but BSET and BCLR changes the flag I, bit 7 of the flags byte.
use Rattle.std.proofs.Common.{◌≡◌, ℕ, ◌/◌, Bool, true, false, refl, ◌∙◌, arith}
use Rattle.std.proofs.lemmas.Bool.{true≢false}
use Rattle.avr_base.specs.Flags.{C, Z, N, V, S, H, T, with_flag}
use Rattle.avr_base.specs.declared.sreg.Sreg.{Sreg}
use Rattle.avr_decoder.specs.declared.op.Op.{Op}
use Rattle.avr_decoder.specs.declared.op.Op.TheVariants as op
use Rattle.data_space.specs.declared.cpu.Cpu.{Cpu}
use Rattle.arith_step.specs.Whole.{with_carries, with_sign, xor}
use Rattle.arith_step.specs.Bytes.{added, subtracted, logical, complemented, incremented, decremented, shifted}
use Rattle.arith_step.specs.Words.{added_word, subtracted_word, multiplied}
use Rattle.avr_core.specs.ArithShapes.{adds, subtracts, subtracts_with_carry, compares, compares_with_carry, becomes_bits, multiplies, sets_flag, loads_bit, swaps}
use Rattle.avr_core.specs.ArithTable.{effect}

abbrev pub sets_a_flag : Op → Bool
sets_a_flag (op.Bset s) = true
sets_a_flag (op.Bclr s) = true
sets_a_flag _ = false

-- bit 7 and all above it are the same in both flags bytes
abbrev Keeps : ℕ → ℕ → Type 0
Keeps s t = t / 128 ≡ s / 128

-- ---- one flag below I
put_0 : (s : ℕ) (on : Bool) → Keeps s (with_flag s C on)
unfolding with_flag
put_0 s true = omega arith
put_0 s false = omega arith

put_1 : (s : ℕ) (on : Bool) → Keeps s (with_flag s Z on)
unfolding with_flag
put_1 s true = omega arith
put_1 s false = omega arith

put_2 : (s : ℕ) (on : Bool) → Keeps s (with_flag s N on)
unfolding with_flag
put_2 s true = omega arith
put_2 s false = omega arith

put_3 : (s : ℕ) (on : Bool) → Keeps s (with_flag s V on)
unfolding with_flag
put_3 s true = omega arith
put_3 s false = omega arith

put_4 : (s : ℕ) (on : Bool) → Keeps s (with_flag s S on)
unfolding with_flag
put_4 s true = omega arith
put_4 s false = omega arith

put_5 : (s : ℕ) (on : Bool) → Keeps s (with_flag s H on)
unfolding with_flag
put_5 s true = omega arith
put_5 s false = omega arith

put_6 : (s : ℕ) (on : Bool) → Keeps s (with_flag s T on)
unfolding with_flag
put_6 s true = omega arith
put_6 s false = omega arith

-- ---- the flags of results
signs : (n z v : Bool) (s : ℕ) → Keeps s (with_sign n z v s)
unfolding with_sign
signs n z v s = put_4 _ (xor n v) ∙ put_3 _ v ∙ put_2 _ n ∙ put_1 s z

carries : (c h : Bool) (s : ℕ) → Keeps s (with_carries c h s)
unfolding with_carries
carries c h s = put_5 _ h ∙ put_0 s c

sum : (a b : ℕ) (carry : Bool) (s : Sreg) → Keeps s.bits (added a b carry s).1.bits
unfolding added
sum a b carry s = signs _ _ _ _ ∙ carries _ _ s.bits

difference : (a b : ℕ) (borrow keep_z : Bool) (s : Sreg) → Keeps s.bits (subtracted a b borrow keep_z s).1.bits
unfolding subtracted
difference a b borrow keep_z s = signs _ _ _ _ ∙ carries _ _ s.bits

-- flags of a shift, a complement and a word, and flags of a product
with_carry : (n z v c : Bool) (s : ℕ) → Keeps s (with_sign n z v (with_flag s C c))
with_carry n z v c s = signs n z v _ ∙ put_0 s c

product : (c z : Bool) (s : ℕ) → Keeps s (with_flag (with_flag s C c) Z z)
product c z s = put_1 _ z ∙ put_0 s c

-- ---- the instructions
pub arith_keeps_i : (o : Op) (cpu : Cpu) → sets_a_flag o ≡ false → (effect o cpu).sreg.bits / 128 ≡ cpu.sreg.bits / 128
unfolding effect adds subtracts subtracts_with_carry compares compares_with_carry becomes_bits multiplies sets_flag loads_bit swaps logical complemented incremented decremented shifted added_word subtracted_word multiplied
arith_keeps_i (op.Add d r) cpu e = sum _ _ _ _
arith_keeps_i (op.Adc d r) cpu e = sum _ _ _ _
arith_keeps_i (op.Sub d r) cpu e = difference _ _ _ _ _
arith_keeps_i (op.Subi d k) cpu e = difference _ _ _ _ _
arith_keeps_i (op.Sbc d r) cpu e = difference _ _ _ _ _
arith_keeps_i (op.Sbci d k) cpu e = difference _ _ _ _ _
arith_keeps_i (op.Cp d r) cpu e = difference _ _ _ _ _
arith_keeps_i (op.Cpi d k) cpu e = difference _ _ _ _ _
arith_keeps_i (op.Cpc d r) cpu e = difference _ _ _ _ _
arith_keeps_i (op.Neg d) cpu e = difference _ _ _ _ _
arith_keeps_i (op.And d r) cpu e = signs _ _ _ _
arith_keeps_i (op.Andi d k) cpu e = signs _ _ _ _
arith_keeps_i (op.Or d r) cpu e = signs _ _ _ _
arith_keeps_i (op.Ori d k) cpu e = signs _ _ _ _
arith_keeps_i (op.Eor d r) cpu e = signs _ _ _ _
arith_keeps_i (op.Inc d) cpu e = signs _ _ _ _
arith_keeps_i (op.Dec d) cpu e = signs _ _ _ _
arith_keeps_i (op.Com d) cpu e = with_carry _ _ _ _ _
arith_keeps_i (op.Lsr d) cpu e = with_carry _ _ _ _ _
arith_keeps_i (op.Ror d) cpu e = with_carry _ _ _ _ _
arith_keeps_i (op.Asr d) cpu e = with_carry _ _ _ _ _
arith_keeps_i (op.Adiw d k) cpu e = with_carry _ _ _ _ _
arith_keeps_i (op.Sbiw d k) cpu e = with_carry _ _ _ _ _
arith_keeps_i (op.Mul d r) cpu e = product _ _ _
arith_keeps_i (op.Muls d r) cpu e = product _ _ _
arith_keeps_i (op.Mulsu d r) cpu e = product _ _ _
arith_keeps_i (op.Fmul d r) cpu e = product _ _ _
arith_keeps_i (op.Fmuls d r) cpu e = product _ _ _
arith_keeps_i (op.Fmulsu d r) cpu e = product _ _ _
arith_keeps_i (op.Bset s) cpu e = absurd (true≢false e)
arith_keeps_i (op.Bclr s) cpu e = absurd (true≢false e)
arith_keeps_i (op.Bst d b) cpu e = put_6 _ _
arith_keeps_i _ cpu e = refl
