-- The instruction that a program word is (AVR Instruction Set Manual: the "16-bit Opcode" of each instruction that the
-- ATmega128 has, and the notes on undefined results).
use Rattle.std.specs.Prelude.{ℕ, zero, suc, ◌+◌, ◌-◌, ◌*◌, ◌/◌, ◌%◌, ◌^◌, ◌==◌, nat_lt, ℤ, pos, ◌-ℤ◌, Bool, true, false, if◌then◌else◌, List, [], ◌∷◌, filter, codes}
use Rattle.avr_decoder.specs.declared.op.Op.{Op}
use Rattle.avr_decoder.specs.declared.op.Op.TheVariants as op

-- the n low bits of a word, the highest first
abbrev pub bits : ℕ → ℕ → List ℕ
bits zero word = []
bits (suc n) word = (word / 2 ^ n % 2) ∷ bits n word

-- a character of a pattern fits a bit: 0 and 1 fit themselves, a letter fits either
abbrev pub fits : ℕ → ℕ → Bool
fits c bit = elim (c == 48) [ true ↦ bit == 0 | false ↦ elim (c == 49) [ true ↦ bit == 1 | false ↦ true ] ]

-- the bits match a pattern: each fits its character
abbrev pub matches : List ℕ → List ℕ → Bool
matches [] bs = true
matches (c ∷ cs) [] = false
matches (c ∷ cs) (b ∷ bs) = elim (fits c b) [ true ↦ matches cs bs | false ↦ false ]

-- the bits match one of these patterns
abbrev pub matches_any : List (List ℕ) → List ℕ → Bool
matches_any [] bs = false
matches_any (p ∷ ps) bs = elim (matches p bs) [ true ↦ true | false ↦ matches_any ps bs ]

-- the places of a letter in a pattern whose first character is at place n, the highest first
abbrev pub places : ℕ → ℕ → List ℕ → List ℕ
places letter n [] = []
places letter n (c ∷ cs) = elim (c == letter) [ true ↦ n ∷ places letter (n - 1) cs | false ↦ places letter (n - 1) cs ]

-- the number of the bits of a word at these places, behind the number of those before
unfoldable pub bits_at : ℕ → List ℕ → ℕ → ℕ
bits_at before [] word = before
bits_at before (place ∷ places) word = bits_at (2 * before + word / 2 ^ place % 2) places word

-- the number that a letter of a pattern spells in a word
abbrev pub spelled : ℕ → List ℕ → ℕ → ℕ
spelled letter pattern word = bits_at 0 (places letter 15 pattern) word

-- a row of the opcode table: the pattern of the first word, and the instruction, made of the numbers that the letters
-- spell and of the second word
pub record Row : Type 0 where
  pub pattern : List ℕ
  pub made : (ℕ → ℕ) → ℕ → Op

abbrev pub row : List ℕ → ((ℕ → ℕ) → ℕ → Op) → Row
row pattern made = record { pattern = pattern; made = made }

-- a number of n bits in two's complement
abbrev pub signed : ℕ → ℕ → ℤ
signed n x = if nat_lt x (2 ^ (n - 1)) then pos x else pos x -ℤ pos (2 ^ n)

-- the letters of the patterns
abbrev pub d : ℕ
d = 100

abbrev pub r : ℕ
r = 114

abbrev pub K : ℕ
K = 75

abbrev pub A : ℕ
A = 65

abbrev pub b : ℕ
b = 98

abbrev pub s : ℕ
s = 115

abbrev pub q : ℕ
q = 113

abbrev pub k : ℕ
k = 107

-- the opcode table. A register field of four or three bits counts from r16; MOVW's count pairs, and those of ADIW and
-- SBIW the pairs from r24 on. The second word is the 16-bit address; JMP and CALL have six more bits of address in the
-- first word, which a part with 128 KiB of program memory ignores.
abbrev pub table : List Row
table =
    row (codes "0000000000000000") (λ _ _. op.Nop) ∷
    row (codes "00000001ddddrrrr") (λ n _. op.Movw (2 * n d) (2 * n r)) ∷
    row (codes "00000010ddddrrrr") (λ n _. op.Muls (16 + n d) (16 + n r)) ∷
    row (codes "000000110ddd0rrr") (λ n _. op.Mulsu (16 + n d) (16 + n r)) ∷
    row (codes "000000110ddd1rrr") (λ n _. op.Fmul (16 + n d) (16 + n r)) ∷
    row (codes "000000111ddd0rrr") (λ n _. op.Fmuls (16 + n d) (16 + n r)) ∷
    row (codes "000000111ddd1rrr") (λ n _. op.Fmulsu (16 + n d) (16 + n r)) ∷
    row (codes "000001rdddddrrrr") (λ n _. op.Cpc (n d) (n r)) ∷
    row (codes "000010rdddddrrrr") (λ n _. op.Sbc (n d) (n r)) ∷
    row (codes "000011rdddddrrrr") (λ n _. op.Add (n d) (n r)) ∷
    row (codes "000100rdddddrrrr") (λ n _. op.Cpse (n d) (n r)) ∷
    row (codes "000101rdddddrrrr") (λ n _. op.Cp (n d) (n r)) ∷
    row (codes "000110rdddddrrrr") (λ n _. op.Sub (n d) (n r)) ∷
    row (codes "000111rdddddrrrr") (λ n _. op.Adc (n d) (n r)) ∷
    row (codes "001000rdddddrrrr") (λ n _. op.And (n d) (n r)) ∷
    row (codes "001001rdddddrrrr") (λ n _. op.Eor (n d) (n r)) ∷
    row (codes "001010rdddddrrrr") (λ n _. op.Or (n d) (n r)) ∷
    row (codes "001011rdddddrrrr") (λ n _. op.Mov (n d) (n r)) ∷
    row (codes "0011KKKKddddKKKK") (λ n _. op.Cpi (16 + n d) (n K)) ∷
    row (codes "0100KKKKddddKKKK") (λ n _. op.Sbci (16 + n d) (n K)) ∷
    row (codes "0101KKKKddddKKKK") (λ n _. op.Subi (16 + n d) (n K)) ∷
    row (codes "0110KKKKddddKKKK") (λ n _. op.Ori (16 + n d) (n K)) ∷
    row (codes "0111KKKKddddKKKK") (λ n _. op.Andi (16 + n d) (n K)) ∷
    row (codes "10q0qq0ddddd0qqq") (λ n _. op.LddZ (n d) (n q)) ∷
    row (codes "10q0qq0ddddd1qqq") (λ n _. op.LddY (n d) (n q)) ∷
    row (codes "10q0qq1rrrrr0qqq") (λ n _. op.StdZ (n q) (n r)) ∷
    row (codes "10q0qq1rrrrr1qqq") (λ n _. op.StdY (n q) (n r)) ∷
    row (codes "1001000ddddd0000") (λ n second. op.Lds (n d) second) ∷
    row (codes "1001000ddddd0001") (λ n _. op.LdZInc (n d)) ∷
    row (codes "1001000ddddd0010") (λ n _. op.LdZDec (n d)) ∷
    row (codes "1001000ddddd0100") (λ n _. op.LpmZ (n d)) ∷
    row (codes "1001000ddddd0101") (λ n _. op.LpmZInc (n d)) ∷
    row (codes "1001000ddddd0110") (λ n _. op.ElpmZ (n d)) ∷
    row (codes "1001000ddddd0111") (λ n _. op.ElpmZInc (n d)) ∷
    row (codes "1001000ddddd1001") (λ n _. op.LdYInc (n d)) ∷
    row (codes "1001000ddddd1010") (λ n _. op.LdYDec (n d)) ∷
    row (codes "1001000ddddd1100") (λ n _. op.LdX (n d)) ∷
    row (codes "1001000ddddd1101") (λ n _. op.LdXInc (n d)) ∷
    row (codes "1001000ddddd1110") (λ n _. op.LdXDec (n d)) ∷
    row (codes "1001000ddddd1111") (λ n _. op.Pop (n d)) ∷
    row (codes "1001001rrrrr0000") (λ n second. op.Sts second (n r)) ∷
    row (codes "1001001rrrrr0001") (λ n _. op.StZInc (n r)) ∷
    row (codes "1001001rrrrr0010") (λ n _. op.StZDec (n r)) ∷
    row (codes "1001001rrrrr1001") (λ n _. op.StYInc (n r)) ∷
    row (codes "1001001rrrrr1010") (λ n _. op.StYDec (n r)) ∷
    row (codes "1001001rrrrr1100") (λ n _. op.StX (n r)) ∷
    row (codes "1001001rrrrr1101") (λ n _. op.StXInc (n r)) ∷
    row (codes "1001001rrrrr1110") (λ n _. op.StXDec (n r)) ∷
    row (codes "1001001rrrrr1111") (λ n _. op.Push (n r)) ∷
    row (codes "1001010ddddd0000") (λ n _. op.Com (n d)) ∷
    row (codes "1001010ddddd0001") (λ n _. op.Neg (n d)) ∷
    row (codes "1001010ddddd0010") (λ n _. op.Swap (n d)) ∷
    row (codes "1001010ddddd0011") (λ n _. op.Inc (n d)) ∷
    row (codes "1001010ddddd0101") (λ n _. op.Asr (n d)) ∷
    row (codes "1001010ddddd0110") (λ n _. op.Lsr (n d)) ∷
    row (codes "1001010ddddd0111") (λ n _. op.Ror (n d)) ∷
    row (codes "1001010ddddd1010") (λ n _. op.Dec (n d)) ∷
    row (codes "100101000sss1000") (λ n _. op.Bset (n s)) ∷
    row (codes "100101001sss1000") (λ n _. op.Bclr (n s)) ∷
    row (codes "1001010000001001") (λ _ _. op.Ijmp) ∷
    row (codes "1001010100001001") (λ _ _. op.Icall) ∷
    row (codes "1001010100001000") (λ _ _. op.Ret) ∷
    row (codes "1001010100011000") (λ _ _. op.Reti) ∷
    row (codes "1001010110001000") (λ _ _. op.Sleep) ∷
    row (codes "1001010110011000") (λ _ _. op.Break) ∷
    row (codes "1001010110101000") (λ _ _. op.Wdr) ∷
    row (codes "1001010111001000") (λ _ _. op.LpmR0) ∷
    row (codes "1001010111011000") (λ _ _. op.ElpmR0) ∷
    row (codes "1001010111101000") (λ _ _. op.Spm) ∷
    row (codes "1001010kkkkk110k") (λ _ second. op.Jmp second) ∷
    row (codes "1001010kkkkk111k") (λ _ second. op.Call second) ∷
    row (codes "10010110KKddKKKK") (λ n _. op.Adiw (24 + 2 * n d) (n K)) ∷
    row (codes "10010111KKddKKKK") (λ n _. op.Sbiw (24 + 2 * n d) (n K)) ∷
    row (codes "10011000AAAAAbbb") (λ n _. op.Cbi (n A) (n b)) ∷
    row (codes "10011001AAAAAbbb") (λ n _. op.Sbic (n A) (n b)) ∷
    row (codes "10011010AAAAAbbb") (λ n _. op.Sbi (n A) (n b)) ∷
    row (codes "10011011AAAAAbbb") (λ n _. op.Sbis (n A) (n b)) ∷
    row (codes "100111rdddddrrrr") (λ n _. op.Mul (n d) (n r)) ∷
    row (codes "10110AAdddddAAAA") (λ n _. op.InIo (n d) (n A)) ∷
    row (codes "10111AArrrrrAAAA") (λ n _. op.OutIo (n A) (n r)) ∷
    row (codes "1100kkkkkkkkkkkk") (λ n _. op.Rjmp (signed 12 (n k))) ∷
    row (codes "1101kkkkkkkkkkkk") (λ n _. op.Rcall (signed 12 (n k))) ∷
    row (codes "1110KKKKddddKKKK") (λ n _. op.Ldi (16 + n d) (n K)) ∷
    row (codes "111100kkkkkkksss") (λ n _. op.Brbs (n s) (signed 7 (n k))) ∷
    row (codes "111101kkkkkkksss") (λ n _. op.Brbc (n s) (signed 7 (n k))) ∷
    row (codes "1111100ddddd0bbb") (λ n _. op.Bld (n d) (n b)) ∷
    row (codes "1111101ddddd0bbb") (λ n _. op.Bst (n d) (n b)) ∷
    row (codes "1111110rrrrr0bbb") (λ n _. op.Sbrc (n r) (n b)) ∷
    row (codes "1111111rrrrr0bbb") (λ n _. op.Sbrs (n r) (n b)) ∷
    []

-- the words whose result the manual leaves undefined: a load or store that moves its pointer and has half of the
-- pointer, r27:r26, r29:r28 or r31:r30, as its register
abbrev pub undefined : List (List ℕ)
undefined =
    codes "10010001101d1101" ∷  -- LD X+
    codes "10010001101d1110" ∷  -- LD -X
    codes "10010001110d1001" ∷  -- LD Y+
    codes "10010001110d1010" ∷  -- LD -Y
    codes "10010001111d0001" ∷  -- LD Z+
    codes "10010001111d0010" ∷  -- LD -Z
    codes "10010011101d1101" ∷  -- ST X+
    codes "10010011101d1110" ∷  -- ST -X
    codes "10010011110d1001" ∷  -- ST Y+
    codes "10010011110d1010" ∷  -- ST -Y
    codes "10010011111d0001" ∷  -- ST Z+
    codes "10010011111d0010" ∷  -- ST -Z
    codes "10010001111d0101" ∷  -- LPM Z+
    codes "10010001111d0111" ∷  -- ELPM Z+
    []

-- the rows that a word matches
unfoldable pub rows_at : ℕ → List Row
rows_at word = filter (λ row. matches row.pattern (bits 16 word)) table

-- the instruction at a word and the word after it
unfoldable pub op_at : ℕ → ℕ → Op
op_at word next =
    elim (matches_any undefined (bits 16 word)) [
      | true ↦ op.Undefined word
      | false ↦ elim (rows_at word) [
        | [] ↦ op.Reserved word
        | row ∷ _ ↦ row.made (λ letter. spelled letter row.pattern word) next
      ]
    ]
