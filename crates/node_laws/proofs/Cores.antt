-- An instruction on registers leaves them within their widths.
use Rattle.std.proofs.Common.{◌≡◌, ℕ, ◌+◌, ◌-◌, ◌*◌, ◌/◌, ◌%◌, ◌^◌, ◌≤◌, Bool, true, false, List, length, length-set, slice_index, slice_set, ◌∙◌, bit_and, bit_or, bit_xor, arith, ℤ, pos, negsuc, unsigned_abs, ◌*ℤ◌}
use Rattle.std.proofs.lemmas.Nat.{and_le_l, or_lt, xor_lt}
use Rattle.std.proofs.lemmas.Grind.{common_steps}
use Rattle.std.specs.Int.{int_rem_euclid}
use Rattle.avr_base.specs.Flags.{with_flag}
use Rattle.avr_base.specs.declared.sreg.Sreg.{Sreg}
use Rattle.avr_base.proofs.Bits.{flag_off, flag_on}
use Rattle.avr_decoder.specs.declared.op.Op.{Op}
use Rattle.avr_decoder.specs.declared.op.Op.TheVariants as op
use Rattle.arith_step.specs.Bytes.{added, complemented, decremented, incremented, logical, shifted, subtracted}
use Rattle.avr_core.specs.ArithShapes.{adds, becomes_bits, compares, compares_with_carry, loads_bit, multiplies, sets_flag, subtracts, subtracts_with_carry, swaps}
use Rattle.avr_core.specs.ArithTable.{arith_cpu, arith_cycles, effect}
use Rattle.arith_step.specs.Whole.{one_if, with_carries, with_sign}
use Rattle.arith_step.specs.Words.{added_word, first_factor, is_fractional, multiplied, product, second_factor, subtracted_word}
use Rattle.arith_step.specs.declared.products.MulKind.{MulKind}
use Rattle.data_space.specs.declared.cpu.Cpu.{Cpu}
use Rattle.device_laws.proofs.Timers.{kept_if}
use Rattle.node_laws.specs.Node.{AreBytes, CoreWithin}

-- lists of bytes

set_bytes_by : (xs : List ℕ) (i x k : ℕ) → AreBytes xs → x ≤ 255 → slice_index (slice_set xs i x) k ≤ 255
set_bytes_by xs i x k h small = grind (arith, common_steps, h k)

pub set_bytes : (xs : List ℕ) (i x : ℕ) → AreBytes xs → x ≤ 255 → AreBytes (slice_set xs i x)
set_bytes xs i x h small = λ k. set_bytes_by xs i x k h small

pub set_count : (xs : List ℕ) (i x n : ℕ) → length xs ≡ n → length (slice_set xs i x) ≡ n
set_count xs i x n e = length-set xs i x ∙ e

-- flags

pub flag_in : (s i : ℕ) (on : Bool) → s ≤ 255 → i ≤ 7 → with_flag s i on ≤ 255
flag_in s i true small low = omega (arith, flag_on s i (omega arith) low, or_lt 8 s (1 * 2 ^ i % 256) (omega arith) (omega arith))
flag_in s i false small low = omega (arith, flag_off s i (omega arith) low, and_le_l s (255 - 1 * 2 ^ i % 256))

sign_in : (n z v : Bool) (s : ℕ) → s ≤ 255 → with_sign n z v s ≤ 255
unfolding with_sign
sign_in n z v s small = search (flag_in, arith)

carries_in : (c h : Bool) (s : ℕ) → s ≤ 255 → with_carries c h s ≤ 255
unfolding with_carries
carries_in c h s small = search (flag_in, arith)

-- results

and_in : (a b : ℕ) → a ≤ 255 → bit_and a b ≤ 255
and_in a b small = omega (arith, and_le_l a b)

pub or_in : (a b : ℕ) → a ≤ 255 → b ≤ 255 → bit_or a b ≤ 255
or_in a b small other = omega (arith, or_lt 8 a b (omega arith) (omega arith))

xor_in : (a b : ℕ) → a ≤ 255 → b ≤ 255 → bit_xor a b ≤ 255
xor_in a b small other = omega (arith, xor_lt 8 a b (omega arith) (omega arith))

byte_of : (n : ℕ) → n % 256 ≤ 255
byte_of n = omega arith

half_by : (a : ℕ) (top : Bool) → a ≤ 255 → a / 2 + 128 * one_if top ≤ 255
half_by a top small = grind arith

rest_in : (z : ℤ) → unsigned_abs (int_rem_euclid z (pos 65536)) ≤ 65535
rest_in (pos a) = omega arith
rest_in (negsuc a) = omega arith

product_in : (k : MulKind) (a b : ℕ) → product k a b ≤ 65535
unfolding product
product_in k a b = rest_in (first_factor k a *ℤ second_factor k b)

multiplied_word : (k : MulKind) (a b : ℕ) (s : Sreg) → (multiplied k a b s).0 ≤ 65535
unfolding multiplied
multiplied_word k a b s = kept_if (λ n. n ≤ 65535) (is_fractional k) (2 * product k a b % 65536) _ (omega arith) (product_in k a b)

multiplied_flags : (k : MulKind) (a b : ℕ) (s : Sreg) → s.bits ≤ 255 → (multiplied k a b s).1.bits ≤ 255
unfolding multiplied
multiplied_flags k a b s small = search (flag_in, arith)

-- the core by its parts

pub core_of : (r : List ℕ) (s : Sreg) (sp pc : ℕ) (rampz : Bool) → length r ≡ 32 → AreBytes r → s.bits ≤ 255 → sp ≤ 65535 → pc ≤ 65535
    → CoreWithin (record { r = r; sreg = s; sp = sp; pc = pc; rampz = rampz })
core_of r s sp pc rampz count bytes a b c = assumption

pub reg_most : (d : ℕ) (cpu : Cpu) → CoreWithin cpu → slice_index cpu.r d ≤ 255
reg_most d cpu h = h.bytes d

-- numbers in an instruction that go to a register or to the program counter
abbrev pub OpWithin : Op → Type 0
OpWithin (op.Ori d k) = k ≤ 255
OpWithin (op.Ldi d k) = k ≤ 255
OpWithin (op.Jmp k) = k ≤ 65535
OpWithin (op.Call k) = k ≤ 65535
OpWithin _ = Unit {0}

ruleset results = (core_of, reg_most, set_count, set_bytes, and_in, or_in, xor_in, half_by, multiplied_word, multiplied_flags, byte_of, sign_in, carries_in, flag_in)

effect_in : (o : Op) (cpu : Cpu) → CoreWithin cpu → OpWithin o → CoreWithin (effect o cpu)
unfolding effect adds subtracts subtracts_with_carry compares compares_with_carry becomes_bits multiplies sets_flag loads_bit swaps added subtracted logical complemented incremented decremented shifted added_word subtracted_word
effect_in (op.Ori d r) cpu h k = search (results, arith)
effect_in op.Nop cpu h k = h
effect_in _ cpu h k = search (results, arith)

pub arith_in : (o : Op) (cpu : Cpu) → OpWithin o → CoreWithin cpu → CoreWithin (arith_cpu o cpu)
arith_in o cpu k h = let left = effect_in o cpu h k in search (core_of, arith)

-- an instruction takes at most eight cycles
pub arith_short : (o : Op) → arith_cycles o ≤ 8
arith_short op.Nop = omega arith
arith_short _ = omega arith
