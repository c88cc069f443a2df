-- Aliases, each against its long form.
use Rattle.std.proofs.Common.{◌≡◌, ℕ, ◌+◌, ◌-◌, ◌*◌, ◌%◌, ◌/◌, ◌<◌, ◌==◌, ◌||◌, not, Bool, true, false, List, [], ◌∷◌, Option, Some, None, Result, Ok, Err, inl, inr, refl, sym, arith, if◌then◌else◌}
use Rattle.std.specs.Prelude.{codes, nat_lt, nat_le}
use Rattle.std.proofs.lemmas.Bool.{not-true, not-false, cases_Bool}
use Rattle.std.proofs.lemmas.Bool.Decides.{nat_tests}
use Rattle.avr_base.proofs.Computed.{all_from, all_from-at}
use Rattle.avr_decoder.specs.Opcodes.{op_at, rows_at}
use Rattle.asm_words.specs.Encoded.{encoded, part, part_of, register_part, offset_part, reach_part, with_part, with_parts, is_undefined}
use Rattle.asm_words.specs.Fields.{register_bits, number_bits, pointer, displaced_of}
use Rattle.asm_words.specs.Number.{digit, digits_of, is_digit, number, register}
use Rattle.asm_words.specs.Opcodes.{bare, one_plain, one_alias, two_registers, two_narrow, two_signed, two_constant, two_memory, two_bits}
use Rattle.asm_words.specs.Target.{offset, offset_of, reach}
use Rattle.asm_words.specs.declared.target.JumpOffset.{JumpOffset}
use Rattle.asm_words.specs.declared.form.RegisterField.TheVariants.{Middle, Split, Both}
use Rattle.asm_words.specs.declared.instruction.WordFault.{WordFault}
use Rattle.asm_words.specs.declared.instruction.WordFault.TheVariants.{OutOfReach}
use Rattle.asm_words.specs.Aliases.{IsBare, IsBranch, IsTwice, IsLoad, IsStore}

-- without operands, and pointers: by computing
pub sei_is : IsBare (codes "sei") (codes "bset") (codes "7")
unfolding op_at encoded part_of number_bits digits_of number bare one_plain one_alias
sei_is at labels = refl

pub cli_is : IsBare (codes "cli") (codes "bclr") (codes "7")
unfolding op_at encoded part_of number_bits digits_of number bare one_plain one_alias
cli_is at labels = refl

pub ld_y_is : IsLoad (codes "Y") (codes "Y+0")
unfolding encoded part_of pointer displaced_of digits_of number two_registers two_narrow two_signed two_constant two_memory
ld_y_is register at labels = refl

pub ld_z_is : IsLoad (codes "Z") (codes "Z+0")
unfolding encoded part_of pointer displaced_of digits_of number two_registers two_narrow two_signed two_constant two_memory
ld_z_is register at labels = refl

pub st_y_is : IsStore (codes "Y") (codes "Y+0")
unfolding encoded part_of pointer displaced_of digits_of number two_registers two_narrow two_signed two_constant two_memory
st_y_is register at labels = refl

pub st_z_is : IsStore (codes "Z") (codes "Z+0")
unfolding encoded part_of pointer displaced_of digits_of number two_registers two_narrow two_signed two_constant two_memory
st_z_is register at labels = refl

-- what a branch reaches is a number of seven bits
back_bits : (b : Bool) (words bits : ℕ) → (if b then Err OutOfReach else Ok ((128 - words) % 128)) ≡ Ok bits → bits < 128
back_bits true words bits h = absurd (cc)
back_bits false words bits h = let same : (128 - words) % 128 ≡ bits = cc in omega arith

forward_bits : (b : Bool) (words bits : ℕ) → b ≡ nat_le 64 words → (if b then Err OutOfReach else Ok words) ≡ Ok bits → bits < 128
forward_bits true words bits e h = absurd (cc)
forward_bits false words bits e h =
    let same : words ≡ bits = cc in
    let near : nat_le 64 words ≡ false = sym e in
    grind (arith, nat_tests)

reach_bits : (back : Bool) (words bits : ℕ) → reach 64 (offset back words) ≡ Ok bits → bits < 128
reach_bits true words bits h = back_bits (nat_lt 64 words) words bits h
reach_bits false words bits h = forward_bits (nat_le 64 words) words bits refl h

-- a branch with its flag in the opcode, and as an operand
abbrev is_sure : ℕ → ℕ → Bool
is_sure opcode bits = not (is_undefined ((opcode + 8 * bits) % 65536))

sure : (opcode bits : ℕ) → all_from (is_sure opcode) 0 128 ≡ true → bits < 128 → is_undefined ((opcode + 8 * bits) % 65536) ≡ false
sure opcode bits all h = not-true (is_undefined ((opcode + 8 * bits) % 65536)) (all_from-at (is_sure opcode) 0 128 bits all (omega arith) h)

reached : (opcode flag : ℕ) (r : Result ℕ WordFault) → ((bits : ℕ) → r ≡ Ok bits → bits < 128) → (opcode + flag) % 65536 ≡ opcode + flag → all_from (is_sure (opcode + flag)) 0 128 ≡ true
    → with_part (opcode + flag) (reach_part 8 r) ≡ with_parts opcode (Ok (part flag None)) (reach_part 8 r)
reached opcode flag (Err f) small e all = refl
reached opcode flag (Ok bits) small e all = rw (e, sure (opcode + flag) bits all (small bits refl)) refl

branch : (opcode flag : ℕ) (r : Result JumpOffset WordFault) → (opcode + flag) % 65536 ≡ opcode + flag → all_from (is_sure (opcode + flag)) 0 128 ≡ true
    → with_part (opcode + flag) (offset_part 64 8 r) ≡ with_parts opcode (Ok (part flag None)) (offset_part 64 8 r)
branch opcode flag (Err f) e all = refl
branch opcode flag (Ok h) e all = reached opcode flag (reach 64 h) (λ bits r. reach_bits h.is_back h.words bits r) e all

pub brcs_is : IsBranch (codes "brcs") (codes "brbs") (codes "0")
unfolding op_at rows_at encoded part_of number_bits digits_of number one_plain one_alias two_registers two_narrow two_signed two_constant two_memory two_bits
brcs_is target at labels = branch 0xF000 0 (offset_of target at labels) refl refl

pub brcc_is : IsBranch (codes "brcc") (codes "brbc") (codes "0")
unfolding op_at rows_at encoded part_of number_bits digits_of number one_plain one_alias two_registers two_narrow two_signed two_constant two_memory two_bits
brcc_is target at labels = branch 0xF400 0 (offset_of target at labels) refl refl

pub breq_is : IsBranch (codes "breq") (codes "brbs") (codes "1")
unfolding op_at rows_at encoded part_of number_bits digits_of number one_plain one_alias two_registers two_narrow two_signed two_constant two_memory two_bits
breq_is target at labels = branch 0xF000 1 (offset_of target at labels) refl refl

pub brne_is : IsBranch (codes "brne") (codes "brbc") (codes "1")
unfolding op_at rows_at encoded part_of number_bits digits_of number one_plain one_alias two_registers two_narrow two_signed two_constant two_memory two_bits
brne_is target at labels = branch 0xF400 1 (offset_of target at labels) refl refl

-- a register that is read has a number below 32
one_digit : (b : Bool) (a n : ℕ) → b ≡ (not (is_digit 10 a)) → (if b then None else Some (digit a)) ≡ Some n → n < 32
one_digit true a n e h = absurd (cc)
one_digit false a n e h =
    let same : digit a ≡ n = cc in
    let is : is_digit 10 a ≡ true = not-false (is_digit 10 a) (sym e) in
    grind (arith, nat_tests)

two_digits : (b c : Bool) (m n : ℕ) → c ≡ (nat_lt m 10 || nat_lt 31 m) → (if b then None else (if c then None else Some m)) ≡ Some n → n < 32
two_digits true c m n e h = absurd (cc)
two_digits false true m n e h = absurd (cc)
two_digits false false m n e h = let same : m ≡ n = cc in grind (arith, nat_tests)

register_small : (text : List ℕ) (n : ℕ) → register text ≡ Some n → n < 32
unfolding register
register_small [] n h = absurd (cc)
register_small (r ∷ []) n h = absurd (cc)
register_small (r ∷ a ∷ []) n h = elim (cases_Bool (r == 114)) [
  | inl letter ↦ one_digit (not (is_digit 10 a)) a n refl (rw letter at h)
  | inr other ↦ let none = rw other at h in absurd (cc)
]
register_small (r ∷ a ∷ b ∷ []) n h =
    two_digits (not (r == 114) || not (is_digit 10 a) || not (is_digit 10 b)) (nat_lt (10 * digit a + digit b) 10 || nat_lt 31 (10 * digit a + digit b)) (10 * digit a + digit b) n refl h
register_small (r ∷ a ∷ b ∷ c ∷ more) n h = absurd (cc)

-- a register twice: in two fields of one operand, and in the fields of two
abbrev both_fields : ℕ → ℕ → ℕ
both_fields opcode n = (opcode + (16 * n + (n / 16 * 512 + n % 16))) % 65536

abbrev is_sure_of : ℕ → ℕ → Bool
is_sure_of opcode n = not (is_undefined (both_fields opcode n))

twice : (opcode : ℕ) (o : Option ℕ) → ((n : ℕ) → o ≡ Some n → n < 32) → all_from (is_sure_of opcode) 0 32 ≡ true
    → with_part opcode (register_part Both o) ≡ with_parts opcode (register_part Middle o) (register_part Split o)
unfolding register_bits
twice opcode None small all = refl
twice opcode (Some n) small all =
    let sum : ((opcode + 16 * n) % 65536 + (n / 16 * 512 + n % 16)) % 65536 ≡ both_fields opcode n = omega arith in
    let sure : is_undefined (both_fields opcode n) ≡ false = not-true (is_undefined (both_fields opcode n)) (all_from-at (is_sure_of opcode) 0 32 n all (omega arith) (small n refl)) in
    rw (sum, sure) refl

pub clr_is : IsTwice (codes "clr") (codes "eor")
unfolding op_at rows_at encoded part_of one_plain one_alias two_registers
clr_is text at labels = twice 0x2400 (register text) (register_small text) refl

pub tst_is : IsTwice (codes "tst") (codes "and")
unfolding op_at rows_at encoded part_of one_plain one_alias two_registers
tst_is text at labels = twice 0x2000 (register text) (register_small text) refl

pub lsl_is : IsTwice (codes "lsl") (codes "add")
unfolding op_at rows_at encoded part_of one_plain one_alias two_registers
lsl_is text at labels = twice 0x0C00 (register text) (register_small text) refl

pub rol_is : IsTwice (codes "rol") (codes "adc")
unfolding op_at rows_at encoded part_of one_plain one_alias two_registers
rol_is text at labels = twice 0x1C00 (register text) (register_small text) refl
