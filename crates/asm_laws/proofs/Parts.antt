-- What an operand that is printed gives in its field: computed for each number that the field can have.
use Rattle.std.proofs.Common.{◌≡◌, ℕ, ◌+◌, ◌*◌, ◌/◌, ◌%◌, ◌<◌, ◌==◌, ◌&&◌, not, is_some, Bool, true, false, refl, Option, Some, None, Result, Ok, Err, arith}
use Rattle.std.specs.Prelude.{nat_lt}
use Rattle.std.specs.Fmt.{digits}
use Rattle.std.proofs.lemmas.Bool.{and_parts, eqb-true}
use Rattle.std.proofs.lemmas.Bool.Decides.{nat_tests}
use Rattle.avr_base.proofs.Computed.{all_from, all_from-at}
use Rattle.avr_decoder.specs.Opcodes.{signed}
use Rattle.avr_disassembler.specs.Text.{operand_text}
use Rattle.avr_disassembler.specs.declared.parts.Operand.{Operand}
use Rattle.avr_disassembler.specs.declared.parts.Operand.TheVariants as operand
use Rattle.sim_io.specs.Digits.{hex2, offset_text}
use Rattle.asm_words.specs.Text.{is_label}
use Rattle.asm_words.specs.Encoded.{part, part_of, with_part, with_parts, is_undefined}
use Rattle.asm_words.specs.Fields.{register_bits, number_bits, displaced_of}
use Rattle.asm_words.specs.Number.{digits_of, number, register}
use Rattle.asm_words.specs.Target.{offset_of}
use Rattle.asm_words.specs.declared.form.Field.{Field}
use Rattle.asm_words.specs.declared.form.Field.TheVariants.{Register, Number, Displaced, Jump, Branch}
use Rattle.asm_words.specs.declared.form.RegisterField.TheVariants.{Middle, Split, UpperMiddle}
use Rattle.asm_words.specs.declared.form.NumberField.TheVariants.{Constant, Address, LowThree}
use Rattle.asm_words.specs.declared.operand.Part.{Part}
use Rattle.asm_words.specs.declared.instruction.WordFault.{WordFault}
use Rattle.asm_laws.specs.Printed.{Labels, one_word}

-- whether these bits alone came of an operand
abbrev is_part : ℕ → Result Part WordFault → Bool
is_part bits (Err fault) = false
is_part bits (Ok p) = p.bits == bits && not (is_some p.second)

pub none_of : (o : Option ℕ) → not (is_some o) ≡ true → o ≡ None
none_of None h = refl
none_of (Some n) h = absurd (cc)

part_is : (bits : ℕ) (r : Result Part WordFault) → is_part bits r ≡ true → r ≡ Ok (part bits None)
part_is bits (Err fault) h = absurd (cc)
part_is bits (Ok p) h =
    let parts = and_parts (p.bits == bits) (not (is_some p.second)) h in
    λ i. Ok (part (eqb-true p.bits bits parts.0 i) (none_of p.second parts.1 i))

-- what two fields add to an opcode, and that of these numbers they add up to the word
abbrev sum_of : ℕ → ℕ → ℕ → ℕ
sum_of opcode b c = ((opcode + b) % 65536 + c) % 65536

abbrev pub spells : ℕ → ℕ → (ℕ → ℕ) → ℕ → (ℕ → ℕ) → (ℕ → ℕ) → (ℕ → ℕ) → ℕ → Bool
spells opcode m bits n more first second w = nat_lt (first w) m && (nat_lt (second w) n && sum_of opcode (bits (first w)) (more (second w)) == w)

-- what one field adds to an opcode, and that of this number it adds up to the word
abbrev pub spells_one : ℕ → ℕ → (ℕ → ℕ) → (ℕ → ℕ) → ℕ → Bool
spells_one opcode m bits first w = nat_lt (first w) m && (opcode + bits (first w)) % 65536 == w

below : (a b : ℕ) → nat_lt a b ≡ true → a < b
below a b h = grind (arith, nat_tests)

joined : (opcode b c w : ℕ) (p q : Result Part WordFault) → p ≡ Ok (part b None) → q ≡ Ok (part c None) → sum_of opcode b c ≡ w → is_undefined w ≡ false → with_parts opcode p q ≡ Ok (one_word w)
joined opcode b c w p q ep eq s u = rw (ep, eq, s, u) refl

single : (opcode b w : ℕ) (p : Result Part WordFault) → p ≡ Ok (part b None) → (opcode + b) % 65536 ≡ w → with_part opcode p ≡ Ok (one_word w)
single opcode b w p ep s = rw (ep, s) refl

module _ (at : ℕ) (labels : Labels) where
  -- what an operand of this number gives in a field
  abbrev gives : Field → (ℕ → Operand) → (ℕ → ℕ) → ℕ → Bool
  gives f shape bits n = is_part (bits n) (part_of f (operand_text (shape n)) at labels)

  in_field : (f : Field) (shape : ℕ → Operand) (bits : ℕ → ℕ) (m n : ℕ) → all_from (gives f shape bits) 0 m ≡ true → n < m → part_of f (operand_text (shape n)) at labels ≡ Ok (part (bits n) None)
  in_field f shape bits m n all h = part_is (bits n) (part_of f (operand_text (shape n)) at labels) (all_from-at (gives f shape bits) 0 m n all (omega arith) (omega arith))

  -- an instruction of two operands, of whose fields these are the numbers
  pub two_fields : (opcode : ℕ) (f : Field) (shape : ℕ → Operand) (bits : ℕ → ℕ) (m : ℕ) (g : Field) (shape' : ℕ → Operand) (more : ℕ → ℕ) (n : ℕ) (first second : ℕ → ℕ) (w : ℕ)
      → all_from (gives f shape bits) 0 m ≡ true → all_from (gives g shape' more) 0 n ≡ true → spells opcode m bits n more first second w ≡ true → is_undefined w ≡ false
      → with_parts opcode (part_of f (operand_text (shape (first w))) at labels) (part_of g (operand_text (shape' (second w))) at labels) ≡ Ok (one_word w)
  two_fields opcode f shape bits m g shape' more n first second w all all' s u =
      let one = and_parts (nat_lt (first w) m) (nat_lt (second w) n && sum_of opcode (bits (first w)) (more (second w)) == w) s in
      let two = and_parts (nat_lt (second w) n) (sum_of opcode (bits (first w)) (more (second w)) == w) one.1 in
      joined opcode (bits (first w)) (more (second w)) w _ _
      (in_field f shape bits m (first w) all (below (first w) m one.0))
      (in_field g shape' more n (second w) all' (below (second w) n two.0))
      (eqb-true (sum_of opcode (bits (first w)) (more (second w))) w two.1) u

  pub one_field : (opcode : ℕ) (f : Field) (shape : ℕ → Operand) (bits : ℕ → ℕ) (m : ℕ) (first : ℕ → ℕ) (w : ℕ) → all_from (gives f shape bits) 0 m ≡ true → spells_one opcode m bits first w ≡ true
      → with_part opcode (part_of f (operand_text (shape (first w))) at labels) ≡ Ok (one_word w)
  one_field opcode f shape bits m first w all s =
      let one = and_parts (nat_lt (first w) m) ((opcode + bits (first w)) % 65536 == w) s in
      single opcode (bits (first w)) w _ (in_field f shape bits m (first w) all (below (first w) m one.0)) (eqb-true ((opcode + bits (first w)) % 65536) w one.1)

  pub middle_all : all_from (gives (Register Middle) (λ n. operand.Register n) (λ n. 16 * n)) 0 32 ≡ true
  unfolding digits operand_text part_of register_bits register
  middle_all = refl

  pub split_all : all_from (gives (Register Split) (λ n. operand.Register n) (λ n. n / 16 * 512 + n % 16)) 0 32 ≡ true
  unfolding digits operand_text part_of register_bits register
  split_all = refl

  pub upper_all : all_from (gives (Register UpperMiddle) (λ n. operand.Register (16 + n)) (λ n. 16 * n)) 0 16 ≡ true
  unfolding digits operand_text part_of register_bits register
  upper_all = refl

  pub constant_all : all_from (gives (Number Constant) (λ n. operand.Byte n) (λ n. n / 16 * 256 + n % 16)) 0 256 ≡ true
  unfolding operand_text hex2 part_of number_bits digits_of number
  constant_all = refl

  pub address_all : all_from (gives (Number Address) (λ n. operand.Byte n) (λ n. n / 16 * 512 + n % 16)) 0 64 ≡ true
  unfolding operand_text hex2 part_of number_bits digits_of number
  address_all = refl

  pub three_all : all_from (gives (Number LowThree) (λ n. operand.Number n) (λ n. n)) 0 8 ≡ true
  unfolding digits operand_text part_of number_bits digits_of number
  three_all = refl

  pub jump_all : all_from (gives Jump (λ n. operand.Offset (signed 12 n)) (λ n. n)) 0 4096 ≡ true
  unfolding digits operand_text offset_text part_of digits_of number is_label offset_of
  jump_all = refl

  pub branch_all : all_from (gives Branch (λ n. operand.Offset (signed 7 n)) (λ n. 8 * n)) 0 128 ≡ true
  unfolding digits operand_text offset_text part_of digits_of number is_label offset_of
  branch_all = refl

  pub past_y_all : all_from (gives Displaced (λ n. operand.PastY n) (λ n. n / 32 * 8192 + n / 8 % 4 * 1024 + n % 8 + 8)) 0 64 ≡ true
  unfolding digits operand_text part_of displaced_of digits_of number
  past_y_all = refl

  pub past_z_all : all_from (gives Displaced (λ n. operand.PastZ n) (λ n. n / 32 * 8192 + n / 8 % 4 * 1024 + n % 8)) 0 64 ≡ true
  unfolding digits operand_text part_of displaced_of digits_of number
  past_z_all = refl
