-- The printed text of the instructions that take up most words assembles to them: the decoder's lemma of the row, what
-- the operands give in their fields, and that opcode and fields add up to the word, which is computed.
use Rattle.std.proofs.Common.{◌≡◌, ℕ, ◌+◌, ◌*◌, ◌/◌, ◌%◌, ◌<◌, ◌≤◌, Bool, true, refl, ap, ◌∙◌, Ok, arith}
use Rattle.std.specs.Prelude.{codes}
use Rattle.avr_base.proofs.Computed.{all_from, all_from-at}
use Rattle.avr_decoder.specs.Opcodes.{bits_at, op_at, signed, spelled, d, k}
use Rattle.avr_decoder.proofs.Spelled.{middle, split, constant, address, low_three}
use Rattle.avr_decoder.proofs.Constants.{cpi_at, sbci_at, subi_at, ori_at, andi_at, ldi_at, rjmp_at, rcall_at}
use Rattle.avr_decoder.proofs.TwoRegisters.{cpc_at, sbc_at, add_at, cpse_at, cp_at, sub_at, adc_at, and_at, eor_at, or_at, mov_at}
use Rattle.avr_decoder.proofs.Displaced.{in_io_at, out_io_at}
use Rattle.avr_decoder.proofs.Branches.{brbs_at, brbc_at}
use Rattle.avr_decoder.proofs.Words.{mul_at}
use Rattle.avr_disassembler.specs.Text.{shown}
use Rattle.avr_disassembler.specs.declared.parts.Operand.TheVariants as operand
use Rattle.asm_words.specs.Encoded.{encoded, is_undefined_op}
use Rattle.asm_words.specs.Opcodes.{one_plain, one_alias, two_registers, two_narrow, two_signed, two_constant, two_memory, two_bits}
use Rattle.asm_words.specs.declared.form.Field.TheVariants.{Register, Number, Jump, Branch}
use Rattle.asm_words.specs.declared.form.RegisterField.TheVariants.{Middle, Split, UpperMiddle}
use Rattle.asm_words.specs.declared.form.NumberField.TheVariants.{Constant, Address, LowThree}
use Rattle.asm_laws.specs.Printed.{Labels, assembled, one_word}
use Rattle.asm_laws.proofs.Parts.{spells, spells_one, two_fields, one_field, middle_all, split_all, upper_all, constant_all, address_all, three_all, jump_all, branch_all}

-- fields of the decoder's table that have no name of their own there
abbrev upper : ℕ → ℕ
upper w = spelled d (codes "0011KKKKddddKKKK") w

abbrev jump : ℕ → ℕ
jump w = spelled k (codes "1100kkkkkkkkkkkk") w

abbrev branch : ℕ → ℕ
branch w = spelled k (codes "111100kkkkkkksss") w

-- that opcode and fields add up to a word
abbrev with_registers : ℕ → ℕ → Bool
with_registers opcode = spells opcode 32 (λ n. 16 * n) 32 (λ n. n / 16 * 512 + n % 16) middle split

abbrev with_constant : ℕ → ℕ → Bool
with_constant opcode = spells opcode 16 (λ n. 16 * n) 256 (λ n. n / 16 * 256 + n % 16) upper constant

abbrev with_address : ℕ → ℕ → Bool
with_address opcode = spells opcode 32 (λ n. 16 * n) 64 (λ n. n / 16 * 512 + n % 16) middle address

abbrev behind_address : ℕ → ℕ → Bool
behind_address opcode = spells opcode 64 (λ n. n / 16 * 512 + n % 16) 32 (λ n. 16 * n) address middle

abbrev with_jump : ℕ → ℕ → Bool
with_jump opcode = spells_one opcode 4096 (λ n. n) jump

abbrev with_branch : ℕ → ℕ → Bool
with_branch opcode = spells opcode 8 (λ n. n) 128 (λ n. 8 * n) low_three branch

module _ (w next at : ℕ) (labels : Labels) where
  -- what is to be shown of a word
  abbrev pub Back : Type 0
  Back = assembled (op_at w next) at labels ≡ Ok (one_word w)

  cpc_spells : all_from (with_registers 1024) 1024 1024 ≡ true
  unfolding bits_at
  cpc_spells = refl

  pub cpc_back : 1024 ≤ w → w < 2048 → Back
  unfolding encoded shown two_registers
  cpc_back low high =
      let top : w / 1024 ≡ 1 = omega arith in
      ap (λ o. assembled o at labels) (cpc_at w next top)
      ∙ two_fields at labels 1024 (Register Middle) (λ n. operand.Register n) (λ n. 16 * n) 32 (Register Split) (λ n. operand.Register n) (λ n. n / 16 * 512 + n % 16) 32 middle split w (middle_all at labels) (split_all at labels) (all_from-at (with_registers 1024) 1024 1024 w cpc_spells low high) (ap is_undefined_op (cpc_at w 0 top))

  sbc_spells : all_from (with_registers 2048) 2048 1024 ≡ true
  unfolding bits_at
  sbc_spells = refl

  pub sbc_back : 2048 ≤ w → w < 3072 → Back
  unfolding encoded shown two_registers
  sbc_back low high =
      let top : w / 1024 ≡ 2 = omega arith in
      ap (λ o. assembled o at labels) (sbc_at w next top)
      ∙ two_fields at labels 2048 (Register Middle) (λ n. operand.Register n) (λ n. 16 * n) 32 (Register Split) (λ n. operand.Register n) (λ n. n / 16 * 512 + n % 16) 32 middle split w (middle_all at labels) (split_all at labels) (all_from-at (with_registers 2048) 2048 1024 w sbc_spells low high) (ap is_undefined_op (sbc_at w 0 top))

  add_spells : all_from (with_registers 3072) 3072 1024 ≡ true
  unfolding bits_at
  add_spells = refl

  pub add_back : 3072 ≤ w → w < 4096 → Back
  unfolding encoded shown two_registers
  add_back low high =
      let top : w / 1024 ≡ 3 = omega arith in
      ap (λ o. assembled o at labels) (add_at w next top)
      ∙ two_fields at labels 3072 (Register Middle) (λ n. operand.Register n) (λ n. 16 * n) 32 (Register Split) (λ n. operand.Register n) (λ n. n / 16 * 512 + n % 16) 32 middle split w (middle_all at labels) (split_all at labels) (all_from-at (with_registers 3072) 3072 1024 w add_spells low high) (ap is_undefined_op (add_at w 0 top))

  cpse_spells : all_from (with_registers 4096) 4096 1024 ≡ true
  unfolding bits_at
  cpse_spells = refl

  pub cpse_back : 4096 ≤ w → w < 5120 → Back
  unfolding encoded shown two_registers
  cpse_back low high =
      let top : w / 1024 ≡ 4 = omega arith in
      ap (λ o. assembled o at labels) (cpse_at w next top)
      ∙ two_fields at labels 4096 (Register Middle) (λ n. operand.Register n) (λ n. 16 * n) 32 (Register Split) (λ n. operand.Register n) (λ n. n / 16 * 512 + n % 16) 32 middle split w (middle_all at labels) (split_all at labels) (all_from-at (with_registers 4096) 4096 1024 w cpse_spells low high) (ap is_undefined_op (cpse_at w 0 top))

  cp_spells : all_from (with_registers 5120) 5120 1024 ≡ true
  unfolding bits_at
  cp_spells = refl

  pub cp_back : 5120 ≤ w → w < 6144 → Back
  unfolding encoded shown two_registers
  cp_back low high =
      let top : w / 1024 ≡ 5 = omega arith in
      ap (λ o. assembled o at labels) (cp_at w next top)
      ∙ two_fields at labels 5120 (Register Middle) (λ n. operand.Register n) (λ n. 16 * n) 32 (Register Split) (λ n. operand.Register n) (λ n. n / 16 * 512 + n % 16) 32 middle split w (middle_all at labels) (split_all at labels) (all_from-at (with_registers 5120) 5120 1024 w cp_spells low high) (ap is_undefined_op (cp_at w 0 top))

  sub_spells : all_from (with_registers 6144) 6144 1024 ≡ true
  unfolding bits_at
  sub_spells = refl

  pub sub_back : 6144 ≤ w → w < 7168 → Back
  unfolding encoded shown two_registers
  sub_back low high =
      let top : w / 1024 ≡ 6 = omega arith in
      ap (λ o. assembled o at labels) (sub_at w next top)
      ∙ two_fields at labels 6144 (Register Middle) (λ n. operand.Register n) (λ n. 16 * n) 32 (Register Split) (λ n. operand.Register n) (λ n. n / 16 * 512 + n % 16) 32 middle split w (middle_all at labels) (split_all at labels) (all_from-at (with_registers 6144) 6144 1024 w sub_spells low high) (ap is_undefined_op (sub_at w 0 top))

  adc_spells : all_from (with_registers 7168) 7168 1024 ≡ true
  unfolding bits_at
  adc_spells = refl

  pub adc_back : 7168 ≤ w → w < 8192 → Back
  unfolding encoded shown two_registers
  adc_back low high =
      let top : w / 1024 ≡ 7 = omega arith in
      ap (λ o. assembled o at labels) (adc_at w next top)
      ∙ two_fields at labels 7168 (Register Middle) (λ n. operand.Register n) (λ n. 16 * n) 32 (Register Split) (λ n. operand.Register n) (λ n. n / 16 * 512 + n % 16) 32 middle split w (middle_all at labels) (split_all at labels) (all_from-at (with_registers 7168) 7168 1024 w adc_spells low high) (ap is_undefined_op (adc_at w 0 top))

  and_spells : all_from (with_registers 8192) 8192 1024 ≡ true
  unfolding bits_at
  and_spells = refl

  pub and_back : 8192 ≤ w → w < 9216 → Back
  unfolding encoded shown two_registers
  and_back low high =
      let top : w / 1024 ≡ 8 = omega arith in
      ap (λ o. assembled o at labels) (and_at w next top)
      ∙ two_fields at labels 8192 (Register Middle) (λ n. operand.Register n) (λ n. 16 * n) 32 (Register Split) (λ n. operand.Register n) (λ n. n / 16 * 512 + n % 16) 32 middle split w (middle_all at labels) (split_all at labels) (all_from-at (with_registers 8192) 8192 1024 w and_spells low high) (ap is_undefined_op (and_at w 0 top))

  eor_spells : all_from (with_registers 9216) 9216 1024 ≡ true
  unfolding bits_at
  eor_spells = refl

  pub eor_back : 9216 ≤ w → w < 10240 → Back
  unfolding encoded shown two_registers
  eor_back low high =
      let top : w / 1024 ≡ 9 = omega arith in
      ap (λ o. assembled o at labels) (eor_at w next top)
      ∙ two_fields at labels 9216 (Register Middle) (λ n. operand.Register n) (λ n. 16 * n) 32 (Register Split) (λ n. operand.Register n) (λ n. n / 16 * 512 + n % 16) 32 middle split w (middle_all at labels) (split_all at labels) (all_from-at (with_registers 9216) 9216 1024 w eor_spells low high) (ap is_undefined_op (eor_at w 0 top))

  or_spells : all_from (with_registers 10240) 10240 1024 ≡ true
  unfolding bits_at
  or_spells = refl

  pub or_back : 10240 ≤ w → w < 11264 → Back
  unfolding encoded shown two_registers
  or_back low high =
      let top : w / 1024 ≡ 10 = omega arith in
      ap (λ o. assembled o at labels) (or_at w next top)
      ∙ two_fields at labels 10240 (Register Middle) (λ n. operand.Register n) (λ n. 16 * n) 32 (Register Split) (λ n. operand.Register n) (λ n. n / 16 * 512 + n % 16) 32 middle split w (middle_all at labels) (split_all at labels) (all_from-at (with_registers 10240) 10240 1024 w or_spells low high) (ap is_undefined_op (or_at w 0 top))

  mov_spells : all_from (with_registers 11264) 11264 1024 ≡ true
  unfolding bits_at
  mov_spells = refl

  pub mov_back : 11264 ≤ w → w < 12288 → Back
  unfolding encoded shown two_registers
  mov_back low high =
      let top : w / 1024 ≡ 11 = omega arith in
      ap (λ o. assembled o at labels) (mov_at w next top)
      ∙ two_fields at labels 11264 (Register Middle) (λ n. operand.Register n) (λ n. 16 * n) 32 (Register Split) (λ n. operand.Register n) (λ n. n / 16 * 512 + n % 16) 32 middle split w (middle_all at labels) (split_all at labels) (all_from-at (with_registers 11264) 11264 1024 w mov_spells low high) (ap is_undefined_op (mov_at w 0 top))

  cpi_spells : all_from (with_constant 12288) 12288 4096 ≡ true
  unfolding bits_at
  cpi_spells = refl

  pub cpi_back : 12288 ≤ w → w < 16384 → Back
  unfolding encoded shown two_registers two_narrow two_signed two_constant
  cpi_back low high =
      let top : w / 4096 ≡ 3 = omega arith in
      ap (λ o. assembled o at labels) (cpi_at w next top)
      ∙ two_fields at labels 12288 (Register UpperMiddle) (λ n. operand.Register (16 + n)) (λ n. 16 * n) 16 (Number Constant) (λ n. operand.Byte n) (λ n. n / 16 * 256 + n % 16) 256 upper constant w (upper_all at labels) (constant_all at labels) (all_from-at (with_constant 12288) 12288 4096 w cpi_spells low high) (ap is_undefined_op (cpi_at w 0 top))

  sbci_spells : all_from (with_constant 16384) 16384 4096 ≡ true
  unfolding bits_at
  sbci_spells = refl

  pub sbci_back : 16384 ≤ w → w < 20480 → Back
  unfolding encoded shown two_registers two_narrow two_signed two_constant
  sbci_back low high =
      let top : w / 4096 ≡ 4 = omega arith in
      ap (λ o. assembled o at labels) (sbci_at w next top)
      ∙ two_fields at labels 16384 (Register UpperMiddle) (λ n. operand.Register (16 + n)) (λ n. 16 * n) 16 (Number Constant) (λ n. operand.Byte n) (λ n. n / 16 * 256 + n % 16) 256 upper constant w (upper_all at labels) (constant_all at labels) (all_from-at (with_constant 16384) 16384 4096 w sbci_spells low high) (ap is_undefined_op (sbci_at w 0 top))

  subi_spells : all_from (with_constant 20480) 20480 4096 ≡ true
  unfolding bits_at
  subi_spells = refl

  pub subi_back : 20480 ≤ w → w < 24576 → Back
  unfolding encoded shown two_registers two_narrow two_signed two_constant
  subi_back low high =
      let top : w / 4096 ≡ 5 = omega arith in
      ap (λ o. assembled o at labels) (subi_at w next top)
      ∙ two_fields at labels 20480 (Register UpperMiddle) (λ n. operand.Register (16 + n)) (λ n. 16 * n) 16 (Number Constant) (λ n. operand.Byte n) (λ n. n / 16 * 256 + n % 16) 256 upper constant w (upper_all at labels) (constant_all at labels) (all_from-at (with_constant 20480) 20480 4096 w subi_spells low high) (ap is_undefined_op (subi_at w 0 top))

  ori_spells : all_from (with_constant 24576) 24576 4096 ≡ true
  unfolding bits_at
  ori_spells = refl

  pub ori_back : 24576 ≤ w → w < 28672 → Back
  unfolding encoded shown two_registers two_narrow two_signed two_constant
  ori_back low high =
      let top : w / 4096 ≡ 6 = omega arith in
      ap (λ o. assembled o at labels) (ori_at w next top)
      ∙ two_fields at labels 24576 (Register UpperMiddle) (λ n. operand.Register (16 + n)) (λ n. 16 * n) 16 (Number Constant) (λ n. operand.Byte n) (λ n. n / 16 * 256 + n % 16) 256 upper constant w (upper_all at labels) (constant_all at labels) (all_from-at (with_constant 24576) 24576 4096 w ori_spells low high) (ap is_undefined_op (ori_at w 0 top))

  andi_spells : all_from (with_constant 28672) 28672 4096 ≡ true
  unfolding bits_at
  andi_spells = refl

  pub andi_back : 28672 ≤ w → w < 32768 → Back
  unfolding encoded shown two_registers two_narrow two_signed two_constant
  andi_back low high =
      let top : w / 4096 ≡ 7 = omega arith in
      ap (λ o. assembled o at labels) (andi_at w next top)
      ∙ two_fields at labels 28672 (Register UpperMiddle) (λ n. operand.Register (16 + n)) (λ n. 16 * n) 16 (Number Constant) (λ n. operand.Byte n) (λ n. n / 16 * 256 + n % 16) 256 upper constant w (upper_all at labels) (constant_all at labels) (all_from-at (with_constant 28672) 28672 4096 w andi_spells low high) (ap is_undefined_op (andi_at w 0 top))

  mul_spells : all_from (with_registers 39936) 39936 1024 ≡ true
  unfolding bits_at
  mul_spells = refl

  pub mul_back : 39936 ≤ w → w < 40960 → Back
  unfolding encoded shown two_registers
  mul_back low high =
      let top : w / 1024 ≡ 39 = omega arith in
      ap (λ o. assembled o at labels) (mul_at w next top)
      ∙ two_fields at labels 39936 (Register Middle) (λ n. operand.Register n) (λ n. 16 * n) 32 (Register Split) (λ n. operand.Register n) (λ n. n / 16 * 512 + n % 16) 32 middle split w (middle_all at labels) (split_all at labels) (all_from-at (with_registers 39936) 39936 1024 w mul_spells low high) (ap is_undefined_op (mul_at w 0 top))

  in_io_spells : all_from (with_address 45056) 45056 2048 ≡ true
  unfolding bits_at
  in_io_spells = refl

  pub in_io_back : 45056 ≤ w → w < 47104 → Back
  unfolding encoded shown two_registers two_narrow two_signed two_constant two_memory
  in_io_back low high =
      let top : w / 2048 ≡ 22 = omega arith in
      ap (λ o. assembled o at labels) (in_io_at w next top)
      ∙ two_fields at labels 45056 (Register Middle) (λ n. operand.Register n) (λ n. 16 * n) 32 (Number Address) (λ n. operand.Byte n) (λ n. n / 16 * 512 + n % 16) 64 middle address w (middle_all at labels) (address_all at labels) (all_from-at (with_address 45056) 45056 2048 w in_io_spells low high) (ap is_undefined_op (in_io_at w 0 top))

  out_io_spells : all_from (behind_address 47104) 47104 2048 ≡ true
  unfolding bits_at
  out_io_spells = refl

  pub out_io_back : 47104 ≤ w → w < 49152 → Back
  unfolding encoded shown two_registers two_narrow two_signed two_constant two_memory
  out_io_back low high =
      let top : w / 2048 ≡ 23 = omega arith in
      ap (λ o. assembled o at labels) (out_io_at w next top)
      ∙ two_fields at labels 47104 (Number Address) (λ n. operand.Byte n) (λ n. n / 16 * 512 + n % 16) 64 (Register Middle) (λ n. operand.Register n) (λ n. 16 * n) 32 address middle w (address_all at labels) (middle_all at labels) (all_from-at (behind_address 47104) 47104 2048 w out_io_spells low high) (ap is_undefined_op (out_io_at w 0 top))

  rjmp_spells : all_from (with_jump 49152) 49152 4096 ≡ true
  unfolding bits_at
  rjmp_spells = refl

  pub rjmp_back : 49152 ≤ w → w < 53248 → Back
  unfolding encoded shown one_plain one_alias
  rjmp_back low high =
      let top : w / 4096 ≡ 12 = omega arith in
      ap (λ o. assembled o at labels) (rjmp_at w next top)
      ∙ one_field at labels 49152 Jump (λ n. operand.Offset (signed 12 n)) (λ n. n) 4096 jump w (jump_all at labels) (all_from-at (with_jump 49152) 49152 4096 w rjmp_spells low high)

  rcall_spells : all_from (with_jump 53248) 53248 4096 ≡ true
  unfolding bits_at
  rcall_spells = refl

  pub rcall_back : 53248 ≤ w → w < 57344 → Back
  unfolding encoded shown one_plain one_alias
  rcall_back low high =
      let top : w / 4096 ≡ 13 = omega arith in
      ap (λ o. assembled o at labels) (rcall_at w next top)
      ∙ one_field at labels 53248 Jump (λ n. operand.Offset (signed 12 n)) (λ n. n) 4096 jump w (jump_all at labels) (all_from-at (with_jump 53248) 53248 4096 w rcall_spells low high)

  ldi_spells : all_from (with_constant 57344) 57344 4096 ≡ true
  unfolding bits_at
  ldi_spells = refl

  pub ldi_back : 57344 ≤ w → w < 61440 → Back
  unfolding encoded shown two_registers two_narrow two_signed two_constant
  ldi_back low high =
      let top : w / 4096 ≡ 14 = omega arith in
      ap (λ o. assembled o at labels) (ldi_at w next top)
      ∙ two_fields at labels 57344 (Register UpperMiddle) (λ n. operand.Register (16 + n)) (λ n. 16 * n) 16 (Number Constant) (λ n. operand.Byte n) (λ n. n / 16 * 256 + n % 16) 256 upper constant w (upper_all at labels) (constant_all at labels) (all_from-at (with_constant 57344) 57344 4096 w ldi_spells low high) (ap is_undefined_op (ldi_at w 0 top))

  brbs_spells : all_from (with_branch 61440) 61440 1024 ≡ true
  unfolding bits_at
  brbs_spells = refl

  pub brbs_back : 61440 ≤ w → w < 62464 → Back
  unfolding encoded shown two_registers two_narrow two_signed two_constant two_memory two_bits
  brbs_back low high =
      let top : w / 1024 ≡ 60 = omega arith in
      ap (λ o. assembled o at labels) (brbs_at w next top)
      ∙ two_fields at labels 61440 (Number LowThree) (λ n. operand.Number n) (λ n. n) 8 Branch (λ n. operand.Offset (signed 7 n)) (λ n. 8 * n) 128 low_three branch w (three_all at labels) (branch_all at labels) (all_from-at (with_branch 61440) 61440 1024 w brbs_spells low high) (ap is_undefined_op (brbs_at w 0 top))

  brbc_spells : all_from (with_branch 62464) 62464 1024 ≡ true
  unfolding bits_at
  brbc_spells = refl

  pub brbc_back : 62464 ≤ w → w < 63488 → Back
  unfolding encoded shown two_registers two_narrow two_signed two_constant two_memory two_bits
  brbc_back low high =
      let top : w / 1024 ≡ 61 = omega arith in
      ap (λ o. assembled o at labels) (brbc_at w next top)
      ∙ two_fields at labels 62464 (Number LowThree) (λ n. operand.Number n) (λ n. n) 8 Branch (λ n. operand.Offset (signed 7 n)) (λ n. 8 * n) 128 low_three branch w (three_all at labels) (branch_all at labels) (all_from-at (with_branch 62464) 62464 1024 w brbc_spells low high) (ap is_undefined_op (brbc_at w 0 top))
