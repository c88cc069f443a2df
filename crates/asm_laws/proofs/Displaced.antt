-- The printed text of the loads and stores with a displacement assembles to them.
use Rattle.std.proofs.Common.{◌≡◌, ℕ, ◌+◌, ◌*◌, ◌/◌, ◌%◌, ◌<◌, ◌≤◌, ◌==◌, Bool, true, false, refl, ap, ◌∙◌, arith, inl, inr}
use Rattle.std.proofs.lemmas.Bool.{cases_lt, eq-eqb}
use Rattle.avr_base.proofs.Computed.{all_from, all_from-at}
use Rattle.avr_decoder.specs.Opcodes.{bits_at}
use Rattle.avr_decoder.proofs.Spelled.{middle, displacement}
use Rattle.avr_decoder.proofs.Displaced.{ldd_y_at, ldd_z_at, std_y_at, std_z_at}
use Rattle.avr_disassembler.specs.Text.{shown}
use Rattle.avr_disassembler.specs.declared.parts.Operand.TheVariants as operand
use Rattle.asm_words.specs.Encoded.{encoded, is_undefined_op}
use Rattle.asm_words.specs.Opcodes.{two_registers, two_narrow, two_signed, two_constant, two_memory}
use Rattle.asm_words.specs.declared.form.Field.TheVariants.{Register, Displaced}
use Rattle.asm_words.specs.declared.form.RegisterField.TheVariants.{Middle}
use Rattle.asm_laws.specs.Printed.{Labels, assembled}
use Rattle.asm_laws.proofs.Parts.{spells, two_fields, middle_all, past_y_all, past_z_all}
use Rattle.asm_laws.proofs.Families.{Back}

-- a test of the words in which bits 9 and 3, a store and Y, are these
abbrev of_kind : ℕ → ℕ → (ℕ → Bool) → ℕ → Bool
of_kind store y test w = elim (w / 512 % 2 == store) [ true ↦ elim (w / 8 % 2 == y) [ true ↦ test w | false ↦ true ] | false ↦ true ]

when : (b c : Bool) → elim b [ true ↦ c | false ↦ true ] ≡ true → b ≡ true → c ≡ true
when true c h e = h
when false c h e = absurd (cc)

kind_is : (store y : ℕ) (test : ℕ → Bool) (w : ℕ) → of_kind store y test w ≡ true → w / 512 % 2 ≡ store → w / 8 % 2 ≡ y → test w ≡ true
kind_is store y test w h s e =
    when (w / 8 % 2 == y) (test w) (when (w / 512 % 2 == store) (elim (w / 8 % 2 == y) [ true ↦ test w | false ↦ true ]) h (eq-eqb (w / 512 % 2) store s)) (eq-eqb (w / 8 % 2) y e)

abbrev z_bits : ℕ → ℕ
z_bits n = n / 32 * 8192 + n / 8 % 4 * 1024 + n % 8

abbrev y_bits : ℕ → ℕ
y_bits n = z_bits n + 8

abbrev load : (ℕ → ℕ) → ℕ → Bool
load bits = spells 0x8000 32 (λ n. 16 * n) 64 bits middle displacement

abbrev store : (ℕ → ℕ) → ℕ → Bool
store bits = spells 0x8200 64 bits 32 (λ n. 16 * n) displacement middle

-- each of the four kinds, in each of the two ranges
ldd_z_32768 : all_from (of_kind 0 0 (load z_bits)) 32768 4096 ≡ true
unfolding bits_at
ldd_z_32768 = refl

ldd_y_32768 : all_from (of_kind 0 1 (load y_bits)) 32768 4096 ≡ true
unfolding bits_at
ldd_y_32768 = refl

std_z_32768 : all_from (of_kind 1 0 (store z_bits)) 32768 4096 ≡ true
unfolding bits_at
std_z_32768 = refl

std_y_32768 : all_from (of_kind 1 1 (store y_bits)) 32768 4096 ≡ true
unfolding bits_at
std_y_32768 = refl

ldd_z_40960 : all_from (of_kind 0 0 (load z_bits)) 40960 4096 ≡ true
unfolding bits_at
ldd_z_40960 = refl

ldd_y_40960 : all_from (of_kind 0 1 (load y_bits)) 40960 4096 ≡ true
unfolding bits_at
ldd_y_40960 = refl

std_z_40960 : all_from (of_kind 1 0 (store z_bits)) 40960 4096 ≡ true
unfolding bits_at
std_z_40960 = refl

std_y_40960 : all_from (of_kind 1 1 (store y_bits)) 40960 4096 ≡ true
unfolding bits_at
std_y_40960 = refl

module _ (w next at : ℕ) (labels : Labels) (quarter : w / 16384 ≡ 2) (low : w / 4096 % 2 ≡ 0) where
  ldd_z_back : w / 512 % 2 ≡ 0 → w / 8 % 2 ≡ 0 → of_kind 0 0 (load z_bits) w ≡ true → Back w next at labels
  unfolding encoded shown two_registers two_narrow two_signed two_constant two_memory
  ldd_z_back s y h =
      ap (λ o. assembled o at labels) (ldd_z_at w next quarter low s y)
      ∙ two_fields at labels 0x8000 (Register Middle) (λ n. operand.Register n) (λ n. 16 * n) 32 Displaced (λ n. operand.PastZ n) z_bits 64 middle displacement w (middle_all at labels) (past_z_all at labels) (kind_is 0 0 (load z_bits) w h s y) (ap is_undefined_op (ldd_z_at w 0 quarter low s y))

  ldd_y_back : w / 512 % 2 ≡ 0 → w / 8 % 2 ≡ 1 → of_kind 0 1 (load y_bits) w ≡ true → Back w next at labels
  unfolding encoded shown two_registers two_narrow two_signed two_constant two_memory
  ldd_y_back s y h =
      ap (λ o. assembled o at labels) (ldd_y_at w next quarter low s y)
      ∙ two_fields at labels 0x8000 (Register Middle) (λ n. operand.Register n) (λ n. 16 * n) 32 Displaced (λ n. operand.PastY n) y_bits 64 middle displacement w (middle_all at labels) (past_y_all at labels) (kind_is 0 1 (load y_bits) w h s y) (ap is_undefined_op (ldd_y_at w 0 quarter low s y))

  std_z_back : w / 512 % 2 ≡ 1 → w / 8 % 2 ≡ 0 → of_kind 1 0 (store z_bits) w ≡ true → Back w next at labels
  unfolding encoded shown two_registers two_narrow two_signed two_constant two_memory
  std_z_back s y h =
      ap (λ o. assembled o at labels) (std_z_at w next quarter low s y)
      ∙ two_fields at labels 0x8200 Displaced (λ n. operand.PastZ n) z_bits 64 (Register Middle) (λ n. operand.Register n) (λ n. 16 * n) 32 displacement middle w (past_z_all at labels) (middle_all at labels) (kind_is 1 0 (store z_bits) w h s y) (ap is_undefined_op (std_z_at w 0 quarter low s y))

  std_y_back : w / 512 % 2 ≡ 1 → w / 8 % 2 ≡ 1 → of_kind 1 1 (store y_bits) w ≡ true → Back w next at labels
  unfolding encoded shown two_registers two_narrow two_signed two_constant two_memory
  std_y_back s y h =
      ap (λ o. assembled o at labels) (std_y_at w next quarter low s y)
      ∙ two_fields at labels 0x8200 Displaced (λ n. operand.PastY n) y_bits 64 (Register Middle) (λ n. operand.Register n) (λ n. 16 * n) 32 displacement middle w (past_y_all at labels) (middle_all at labels) (kind_is 1 1 (store y_bits) w h s y) (ap is_undefined_op (std_y_at w 0 quarter low s y))

  by_kind : of_kind 0 0 (load z_bits) w ≡ true → of_kind 0 1 (load y_bits) w ≡ true → of_kind 1 0 (store z_bits) w ≡ true → of_kind 1 1 (store y_bits) w ≡ true → Back w next at labels
  by_kind a b c d = elim (cases_lt (w / 512 % 2) 1) [
    | inl load ↦ elim (cases_lt (w / 8 % 2) 1) [ inl z ↦ ldd_z_back (omega arith) (omega arith) a | inr y ↦ ldd_y_back (omega arith) (omega arith) b ]
    | inr store ↦ elim (cases_lt (w / 8 % 2) 1) [ inl z ↦ std_z_back (omega arith) (omega arith) c | inr y ↦ std_y_back (omega arith) (omega arith) d ]
  ]

pub displaced_8_back : (w next at : ℕ) (labels : Labels) → 32768 ≤ w → w < 36864 → Back w next at labels
displaced_8_back w next at labels from below =
    by_kind w next at labels (omega arith) (omega arith)
    (all_from-at (of_kind 0 0 (load z_bits)) 32768 4096 w ldd_z_32768 from below)
    (all_from-at (of_kind 0 1 (load y_bits)) 32768 4096 w ldd_y_32768 from below)
    (all_from-at (of_kind 1 0 (store z_bits)) 32768 4096 w std_z_32768 from below)
    (all_from-at (of_kind 1 1 (store y_bits)) 32768 4096 w std_y_32768 from below)

pub displaced_10_back : (w next at : ℕ) (labels : Labels) → 40960 ≤ w → w < 45056 → Back w next at labels
displaced_10_back w next at labels from below =
    by_kind w next at labels (omega arith) (omega arith)
    (all_from-at (of_kind 0 0 (load z_bits)) 40960 4096 w ldd_z_40960 from below)
    (all_from-at (of_kind 0 1 (load y_bits)) 40960 4096 w ldd_y_40960 from below)
    (all_from-at (of_kind 1 0 (store z_bits)) 40960 4096 w std_z_40960 from below)
    (all_from-at (of_kind 1 1 (store y_bits)) 40960 4096 w std_y_40960 from below)
