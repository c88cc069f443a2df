-- The bytes of what is printed of an instruction: mnemonics, operands and addresses are visible bytes that separate
-- nothing.
use Rattle.std.proofs.Common.{◌≡◌, ℕ, zero, suc, ◌+◌, ◌*◌, ◌/◌, ◌%◌, ◌<◌, ◌==◌, ◌&&◌, not, if◌then◌else◌, ℤ, pos, negsuc, Bool, true, false, List, [], ◌∷◌, ◌++◌, Some, None, refl, ap, ◌∙◌, arith}
use Rattle.std.specs.Prelude.{codes, decimal}
use Rattle.std.specs.Fmt.{digits, digits_onto, digit_glyph}
use Rattle.std.specs.List.{list_all}
use Rattle.std.proofs.lemmas.Bool.{and_from, and_parts, cond_both, eqb-true, not-true}
use Rattle.avr_base.proofs.Computed.{all_from, all_from-at}
use Rattle.avr_decoder.specs.declared.op.Op.{Op}
use Rattle.avr_decoder.specs.declared.op.Op.TheVariants as op
use Rattle.avr_disassembler.specs.Text.{shown, operand_text, pointer_text}
use Rattle.avr_disassembler.specs.declared.parts.Pointer.{Pointer}
use Rattle.avr_disassembler.specs.declared.parts.Pointer.TheVariants as pointer
use Rattle.avr_disassembler.specs.declared.parts.Operand.{Operand}
use Rattle.avr_disassembler.specs.declared.parts.Operand.TheVariants.{Register, Byte, Address, Number, Offset, At, PastY, PastZ}
use Rattle.avr_disassembler.specs.declared.parts.Operands.{Operands}
use Rattle.avr_disassembler.specs.declared.parts.Operands.TheVariants as operands
use Rattle.sim_io.specs.Digits.{hex2, hex4, offset_text}
use Rattle.asm_words.specs.Text.{address_of, is_upper_digit, upper_digit}
use Rattle.asm_laws.proofs.Cut.{appended, is_solid, is_solid_text, solid_before}

-- digits
ten : all_from (λ n. is_solid (digit_glyph false n)) 0 10 ≡ true
ten = refl

sixteen : all_from (λ n. is_solid (digit_glyph true n)) 0 16 ≡ true
sixteen = refl

digit_solid : (n : ℕ) → is_solid (digit_glyph false (n % 10)) ≡ true
digit_solid n = all_from-at (λ k. is_solid (digit_glyph false k)) 0 10 (n % 10) ten (omega arith) (omega arith)

hex_solid : (n : ℕ) → n < 16 → is_solid (digit_glyph true n) ≡ true
hex_solid n h = all_from-at (λ k. is_solid (digit_glyph true k)) 0 16 n sixteen (omega arith) (omega arith)

digits_solid : (k n : ℕ) (acc : List ℕ) → list_all is_solid acc ≡ true → is_solid_text (digits_onto (suc k) 10 false n acc) ≡ true
digits_solid zero n acc h =
    let first : is_solid_text (digit_glyph false (n % 10) ∷ acc) ≡ true = and_from (is_solid (digit_glyph false (n % 10))) (list_all is_solid acc) (digit_solid n) h in
    cond_both (n / 10 == 0) (digit_glyph false (n % 10) ∷ acc) (digit_glyph false (n % 10) ∷ acc) (λ ds. is_solid_text ds ≡ true) (λ _. first) (λ _. first)
digits_solid (suc k) n acc h =
    let first : is_solid_text (digit_glyph false (n % 10) ∷ acc) ≡ true = and_from (is_solid (digit_glyph false (n % 10))) (list_all is_solid acc) (digit_solid n) h in
    cond_both (n / 10 == 0) (digit_glyph false (n % 10) ∷ acc) (digits_onto (suc k) 10 false (n / 10) (digit_glyph false (n % 10) ∷ acc)) (λ ds. is_solid_text ds ≡ true) (λ _. first) (λ _. digits_solid k (n / 10) (digit_glyph false (n % 10) ∷ acc) first)

decimal_solid : (n : ℕ) → is_solid_text (decimal n) ≡ true
unfolding digits
decimal_solid n = digits_solid 63 n [] refl

-- what each operand needs for its text to be such bytes: a number that its digits can write
abbrev pub Fits : Operand → Type 0
Fits (Byte n) = n < 256
Fits (Address n) = n < 65536
Fits _ = Unit {0}

abbrev pub AllFit : Operands → Type 0
AllFit operands.Zero = Unit {0}
AllFit (operands.One a) = Fits a
AllFit (operands.Two a b) = Fits a × Fits b

hex2_solid : (n : ℕ) → n < 256 → list_all is_solid (hex2 n) ≡ true
unfolding hex2
hex2_solid n h =
    and_from (is_solid (digit_glyph true (n / 16))) (is_solid (digit_glyph true (n % 16)) && true) (hex_solid (n / 16) (omega arith))
    (and_from (is_solid (digit_glyph true (n % 16))) true (hex_solid (n % 16) (omega arith)) refl)

pub hex4_solid : (n : ℕ) → n < 65536 → list_all is_solid (hex4 n) ≡ true
unfolding hex4
hex4_solid n h = appended is_solid (hex2 (n / 256)) (hex2 (n % 256)) (hex2_solid (n / 256) (omega arith)) (hex2_solid (n % 256) (omega arith))

pointer_solid : (p : Pointer) → is_solid_text (pointer_text p) ≡ true
unfolding pointer_text
pointer_solid pointer.X = refl
pointer_solid _ = refl

offset_solid : (k : ℤ) → is_solid_text (offset_text k) ≡ true
unfolding offset_text
offset_solid (pos n) = solid_before (codes ".+") (decimal (2 * n)) refl (decimal_solid (2 * n))
offset_solid (negsuc n) = solid_before (codes ".-") (decimal (2 * (n + 1))) refl (decimal_solid (2 * (n + 1)))

pub operand_solid : (a : Operand) → Fits a → is_solid_text (operand_text a) ≡ true
unfolding operand_text
operand_solid (Register n) h = solid_before (codes "r") (decimal n) refl (decimal_solid n)
operand_solid (Byte n) h = hex2_solid n h
operand_solid (Address n) h = hex4_solid n h
operand_solid (Number n) h = decimal_solid n
operand_solid (Offset k) h = offset_solid k
operand_solid (At p) h = pointer_solid p
operand_solid (PastY q) h = solid_before (codes "Y+") (decimal q) refl (decimal_solid q)
operand_solid (PastZ q) h = solid_before (codes "Z+") (decimal q) refl (decimal_solid q)

-- a mnemonic: solid, and it does not begin as an address does
abbrev pub is_name : List ℕ → Bool
is_name [] = false
is_name (c ∷ cs) = not (is_upper_digit c) && is_solid_text (c ∷ cs)

pub name_solid : (m : List ℕ) → is_name m ≡ true → is_solid_text m ≡ true
name_solid [] h = absurd (cc)
name_solid (c ∷ cs) h = (and_parts (not (is_upper_digit c)) (is_solid_text (c ∷ cs)) h).1

pub mnemonic_is : (o : Op) → is_name (shown o).mnemonic ≡ true
unfolding shown
mnemonic_is op.Nop = refl
mnemonic_is _ = refl

-- four digits and a space are the address
is_nibble : ℕ → Bool
is_nibble n = is_upper_digit (digit_glyph true n) && upper_digit (digit_glyph true n) == n

nibbles : all_from is_nibble 0 16 ≡ true
unfolding is_nibble
nibbles = refl

nibble : (n : ℕ) → n < 16 → (is_upper_digit (digit_glyph true n) ≡ true) × (upper_digit (digit_glyph true n) ≡ n)
unfolding is_nibble
nibble n h =
    let parts = and_parts (is_upper_digit (digit_glyph true n)) (upper_digit (digit_glyph true n) == n) (all_from-at is_nibble 0 16 n nibbles (omega arith) (omega arith)) in
    (parts.0, eqb-true (upper_digit (digit_glyph true n)) n parts.1)

pub address_is : (pc : ℕ) (rest : List ℕ) → pc < 65536 → address_of (hex4 pc ++ 32 ∷ rest) ≡ Some pc
unfolding address_of hex2 hex4
address_is pc rest h =
    let a = nibble (pc / 256 / 16) (omega arith) in
    let b = nibble (pc / 256 % 16) (omega arith) in
    let c = nibble (pc % 256 / 16) (omega arith) in
    let d = nibble (pc % 256 % 16) (omega arith) in
    let whole : 4096 * (pc / 256 / 16) + 256 * (pc / 256 % 16) + 16 * (pc % 256 / 16) + pc % 256 % 16 ≡ pc = omega arith in
    (λ i. if a.0 i && b.0 i && c.0 i && d.0 i && true then Some (4096 * a.1 i + 256 * b.1 i + 16 * c.1 i + d.1 i) else None) ∙ ap (λ n. Some n) whole

-- a text that does not begin with such a digit has none
not_upper : (c : ℕ) (cs : List ℕ) → is_upper_digit c ≡ false → address_of (c ∷ cs) ≡ None
unfolding address_of
not_upper a [] e = refl
not_upper a (b ∷ []) e = refl
not_upper a (b ∷ c ∷ []) e = refl
not_upper a (b ∷ c ∷ d ∷ []) e = refl
not_upper a (b ∷ c ∷ d ∷ e ∷ rest) u =
    ap (λ t. if t && is_upper_digit b && is_upper_digit c && is_upper_digit d && e == 32 then Some (4096 * upper_digit a + 256 * upper_digit b + 16 * upper_digit c + upper_digit d) else None) u

pub no_address : (m rest : List ℕ) → is_name m ≡ true → address_of (m ++ rest) ≡ None
no_address [] rest h = absurd (cc)
no_address (c ∷ cs) rest h = not_upper c (cs ++ rest) (not-true (is_upper_digit c) (and_parts (not (is_upper_digit c)) (is_solid_text (c ∷ cs)) h).0)
