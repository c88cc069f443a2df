-- The printed text of each instruction of two words assembles to those words.
use Rattle.std.proofs.Common.{◌≡◌, ℕ, ◌+◌, ◌*◌, ◌/◌, ◌%◌, ◌<◌, ◌≤◌, ◌==◌, ◌&&◌, not, min, is_some, Bool, true, false, List, [], ◌∷◌, ◌++◌, Option, Some, None, Result, Ok, Err, inl, inr, refl, sym, ap, ◌∙◌, arith}
use Rattle.std.specs.Prelude.{codes, decimal, nat_lt}
use Rattle.std.specs.Fmt.{digit_glyph, digits}
use Rattle.std.proofs.lemmas.Bool.{and_parts, eqb-true, cases_Bool, cases_lt}
use Rattle.std.proofs.lemmas.Bool.Decides.{nat_tests}
use Rattle.avr_base.proofs.Computed.{all_from, all_from-at}
use Rattle.avr_decoder.specs.declared.op.Op.{Op}
use Rattle.avr_decoder.specs.declared.op.Op.TheVariants as op
use Rattle.avr_decoder.specs.Opcodes.{op_at, bits_at}
use Rattle.avr_decoder.specs.Words.{is_two_words}
use Rattle.avr_decoder.proofs.Spelled.{middle}
use Rattle.avr_decoder.proofs.Loads.{lds_at}
use Rattle.avr_decoder.proofs.Stores.{sts_at}
use Rattle.avr_decoder.proofs.Singles.{jmp_at, call_at}
use Rattle.avr_decoder.proofs.Widths.{by_fields, is_two_words-by_fields}
use Rattle.avr_disassembler.specs.Text.{shown, operand_text}
use Rattle.sim_io.specs.Digits.{hex2, hex4}
use Rattle.asm_words.specs.Text.{is_label}
use Rattle.asm_words.specs.Encoded.{encoded, part, part_of, piece, register_part, data_part, with_part, with_parts, checked, is_undefined, is_undefined_op}
use Rattle.asm_words.specs.Fields.{register_bits}
use Rattle.asm_words.specs.Number.{digit, digits_from, digits_of, is_digit, number, register}
use Rattle.asm_words.specs.Opcodes.{bare, one_plain, one_alias, two_registers, two_narrow, two_signed, two_constant, two_memory, two_bits}
use Rattle.asm_words.specs.declared.form.RegisterField.TheVariants.{Middle}
use Rattle.asm_words.specs.declared.operand.Part.{Part}
use Rattle.asm_words.specs.declared.instruction.WordFault.{WordFault}
use Rattle.asm_laws.specs.Printed.{Labels, assembled, two_words, without_ignored}

-- hexadecimal digits are read as they are printed
abbrev reads_back : ℕ → Bool
reads_back n = is_digit 16 (digit_glyph true n) && digit (digit_glyph true n) == n

all_read_back : all_from reads_back 0 16 ≡ true
all_read_back = refl

record Read (n : ℕ) : Type 0 where
  pub is : is_digit 16 (digit_glyph true n) ≡ true
  pub value : digit (digit_glyph true n) ≡ n

read : (n : ℕ) → n < 16 → Read n
read n h =
    let parts = and_parts (is_digit 16 (digit_glyph true n)) (digit (digit_glyph true n) == n) (all_from-at reads_back 0 16 n all_read_back (omega arith) h) in
    record { is = parts.0; value = eqb-true (digit (digit_glyph true n)) n parts.1 }

step : (value n : ℕ) (rest : List ℕ) → Read n → 16 * value + n ≤ 65536 → digits_from 16 value (digit_glyph true n ∷ rest) ≡ digits_from 16 (16 * value + n) rest
step value n rest r h =
    let small : min (16 * value + n) 65536 ≡ 16 * value + n = omega arith in
    rw (r.is, r.value, small) refl

-- a printed address is read as itself
address_read : (n : ℕ) → n < 65536 → number (codes "0x" ++ hex4 n) ≡ Some n
unfolding number digits_of hex4 hex2
address_read n h =
    let a : n / 256 / 16 < 16 = omega arith in
    let b : n / 256 % 16 < 16 = omega arith in
    let c : n % 256 / 16 < 16 = omega arith in
    let d : n % 256 % 16 < 16 = omega arith in
    let same : 16 * (16 * (16 * (16 * 0 + n / 256 / 16) + n / 256 % 16) + n % 256 / 16) + n % 256 % 16 ≡ n = omega arith in
    let fourth = digit_glyph true (n % 256 % 16) ∷ [] in
    let third = digit_glyph true (n % 256 / 16) ∷ fourth in
    let second = digit_glyph true (n / 256 % 16) ∷ third in
    step 0 (n / 256 / 16) second (read _ a) (omega arith)
    ∙ (step (16 * 0 + n / 256 / 16) (n / 256 % 16) third (read _ b) (omega arith)
    ∙ (step (16 * (16 * 0 + n / 256 / 16) + n / 256 % 16) (n % 256 / 16) fourth (read _ c) (omega arith)
    ∙ (step (16 * (16 * (16 * 0 + n / 256 / 16) + n / 256 % 16) + n % 256 / 16) (n % 256 % 16) [] (read _ d) (omega arith) ∙ ap Some same)))

fits : (n : ℕ) → n < 65536 → data_part (Some n) ≡ Ok (part 0 (Some n))
fits n h = let small : nat_lt 65535 n ≡ false = grind (arith, nat_tests) in rw small refl

address_part : (n : ℕ) → n < 65536 → data_part (number (codes "0x" ++ hex4 n)) ≡ Ok (part 0 (Some n))
address_part n h = ap data_part (address_read n h) ∙ fits n h

-- the register of LDS and STS
abbrev is_part : ℕ → Result Part WordFault → Bool
is_part bits (Err fault) = false
is_part bits (Ok p) = p.bits == bits && not (is_some p.second)

none_of : (o : Option ℕ) → not (is_some o) ≡ true → o ≡ None
none_of None h = refl
none_of (Some n) h = absurd (cc)

part_is : (bits : ℕ) (r : Result Part WordFault) → is_part bits r ≡ true → r ≡ Ok (part bits None)
part_is bits (Err fault) h = absurd (cc)
part_is bits (Ok p) h =
    let parts = and_parts (p.bits == bits) (not (is_some p.second)) h in
    λ i. Ok (part (eqb-true p.bits bits parts.0 i) (none_of p.second parts.1 i))

abbrev register_of : ℕ → Result Part WordFault
register_of w = register_part Middle (register (codes "r" ++ decimal (middle w)))

abbrev has_register : ℕ → Bool
has_register w = is_part (16 * (w / 16 % 32)) (register_of w)

all_have : all_from has_register 36864 1024 ≡ true
unfolding digits bits_at register register_bits
all_have = refl

register_at : (w : ℕ) → 36864 ≤ w → w < 37888 → register_of w ≡ Ok (part (16 * (w / 16 % 32)) None)
register_at w low high = part_is (16 * (w / 16 % 32)) (register_of w) (all_from-at has_register 36864 1024 w all_have low (omega arith))

-- a word that is that of an instruction whose result is defined
defined : (w first next : ℕ) → first ≡ w → is_undefined w ≡ false → checked (piece first (Some next)) ≡ Ok (piece w (Some next))
defined w first next e h = ap (λ n. checked (piece n (Some next))) e ∙ rw h refl

lds_back : (w next at : ℕ) (labels : Labels) → w / 512 ≡ 72 → w % 16 ≡ 0 → next < 65536 → assembled (op_at w next) at labels ≡ Ok (two_words w next)
unfolding encoded part_of shown operand_text bare one_plain one_alias two_registers two_narrow two_signed two_constant two_memory two_bits
lds_back w next at labels e f h =
    let bits = 16 * (w / 16 % 32) in
    let sum : ((36864 + bits) % 65536 + 0) % 65536 ≡ w = omega arith in
    let is : op_at w next ≡ op.Lds (middle w) next = lds_at w next e f in
    let sure : is_undefined w ≡ false = ap is_undefined_op (lds_at w 0 e f) in
    rw is (
    ap (λ p. with_parts 36864 p (data_part (number (codes "0x" ++ hex4 next)))) (register_at w (omega arith) (omega arith))
    ∙ (ap (with_parts 36864 (Ok (part bits None))) (address_part next h) ∙ defined w (((36864 + bits) % 65536 + 0) % 65536) next sum sure)
    )

sts_back : (w next at : ℕ) (labels : Labels) → w / 512 ≡ 73 → w % 16 ≡ 0 → next < 65536 → assembled (op_at w next) at labels ≡ Ok (two_words w next)
unfolding encoded part_of shown operand_text bare one_plain one_alias two_registers two_narrow two_signed two_constant two_memory two_bits
sts_back w next at labels e f h =
    let bits = 16 * (w / 16 % 32) in
    let sum : ((37376 + 0) % 65536 + bits) % 65536 ≡ w = omega arith in
    let is : op_at w next ≡ op.Sts next (middle w) = sts_at w next e f in
    let sure : is_undefined w ≡ false = ap is_undefined_op (sts_at w 0 e f) in
    rw is (
    ap (λ p. with_parts 37376 (data_part (number (codes "0x" ++ hex4 next))) p) (register_at w (omega arith) (omega arith))
    ∙ (ap (λ p. with_parts 37376 p (Ok (part bits None))) (address_part next h) ∙ defined w (((37376 + 0) % 65536 + bits) % 65536) next sum sure)
    )

jmp_back : (w next at : ℕ) (labels : Labels) → w / 512 ≡ 74 → w / 2 % 8 ≡ 6 → next < 65536 → assembled (op_at w next) at labels ≡ Ok (two_words w next)
unfolding encoded part_of shown operand_text bare one_plain one_alias two_registers two_narrow two_signed two_constant two_memory two_bits is_label
jmp_back w next at labels e f h =
    let is : op_at w next ≡ op.Jmp next = jmp_at w next e f in
    rw is (ap (with_part 37900) (address_part next h))

call_back : (w next at : ℕ) (labels : Labels) → w / 512 ≡ 74 → w / 2 % 8 ≡ 7 → next < 65536 → assembled (op_at w next) at labels ≡ Ok (two_words w next)
unfolding encoded part_of shown operand_text bare one_plain one_alias two_registers two_narrow two_signed two_constant two_memory two_bits is_label
call_back w next at labels e f h =
    let is : op_at w next ≡ op.Call next = call_at w next e f in
    rw is (ap (with_part 37902) (address_part next h))

-- the four kinds of words that begin an instruction of two
by_kind : (P : Type 0) (w : ℕ) → (w / 512 ≡ 72 → w % 16 ≡ 0 → P) → (w / 512 ≡ 73 → w % 16 ≡ 0 → P) → (w / 512 ≡ 74 → w / 2 % 8 ≡ 6 → P) → (w / 512 ≡ 74 → w / 2 % 8 ≡ 7 → P)
    → by_fields w ≡ true → P
by_kind P w lds sts jmp call fields =
    elim (cases_Bool (w / 1024 == 36 && w % 16 == 0)) [
      | inl access ↦
          let parts = and_parts (w / 1024 == 36) (w % 16 == 0) access in
          let high : w / 1024 ≡ 36 = eqb-true (w / 1024) 36 parts.0 in
          let low : w % 16 ≡ 0 = eqb-true (w % 16) 0 parts.1 in
          elim (cases_lt (w / 512) 73) [
            | inl load ↦ let is : w / 512 ≡ 72 = omega arith in lds is low
            | inr store ↦ let is : w / 512 ≡ 73 = omega arith in sts is low
          ]
      | inr other ↦
          let place : (w / 512 == 74 && w / 4 % 4 == 3) ≡ true = rw other at fields in
          let parts = and_parts (w / 512 == 74) (w / 4 % 4 == 3) place in
          let high : w / 512 ≡ 74 = eqb-true (w / 512) 74 parts.0 in
          let low : w / 4 % 4 ≡ 3 = eqb-true (w / 4 % 4) 3 parts.1 in
          elim (cases_lt (w / 2 % 8) 7) [
            | inl jump ↦ let is : w / 2 % 8 ≡ 6 = omega arith in jmp high is
            | inr far ↦ let is : w / 2 % 8 ≡ 7 = omega arith in call high is
          ]
    ]

pub two_back : (w next at : ℕ) (labels : Labels) → w < 65536 → next < 65536 → is_two_words w ≡ true → assembled (op_at w next) at labels ≡ Ok (two_words w next)
two_back w next at labels small h two =
    by_kind (assembled (op_at w next) at labels ≡ Ok (two_words w next)) w
    (λ e f. lds_back w next at labels e f h) (λ e f. sts_back w next at labels e f h)
    (λ e f. jmp_back w next at labels e f h) (λ e f. call_back w next at labels e f h)
    (sym (is_two_words-by_fields w small) ∙ two)

-- the ignored bits say nothing
pub same_op : (w next : ℕ) → w < 65536 → is_two_words w ≡ true → op_at (without_ignored (op_at w next) w) next ≡ op_at w next
same_op w next small two =
    let first : Op → ℕ = λ o. without_ignored o w in
    by_kind (op_at (first (op_at w next)) next ≡ op_at w next) w
    (λ e f. ap (λ o. op_at (first o) next) (lds_at w next e f)) (λ e f. ap (λ o. op_at (first o) next) (sts_at w next e f))
    (λ e f. ap (λ o. op_at (first o) next) (jmp_at w next e f) ∙ (jmp_at 37900 next refl refl ∙ sym (jmp_at w next e f)))
    (λ e f. ap (λ o. op_at (first o) next) (call_at w next e f) ∙ (call_at 37902 next refl refl ∙ sym (call_at w next e f)))
    (sym (is_two_words-by_fields w small) ∙ two)

-- nor does the second word
pub first_same : (w next : ℕ) → w < 65536 → is_two_words w ≡ true → without_ignored (op_at w next) w ≡ without_ignored (op_at w 0) w
first_same w next small two =
    let first : Op → ℕ = λ o. without_ignored o w in
    by_kind (first (op_at w next) ≡ first (op_at w 0)) w
    (λ e f. ap first (lds_at w next e f) ∙ sym (ap first (lds_at w 0 e f))) (λ e f. ap first (sts_at w next e f) ∙ sym (ap first (sts_at w 0 e f)))
    (λ e f. ap first (jmp_at w next e f) ∙ sym (ap first (jmp_at w 0 e f))) (λ e f. ap first (call_at w next e f) ∙ sym (ap first (call_at w 0 e f)))
    (sym (is_two_words-by_fields w small) ∙ two)
