-- The text of an instruction: its mnemonic (AVR Instruction Set Manual, "Syntax" of each instruction) and its operands
-- in this product's forms. A register is r and its number, a constant or an I/O address 0x and two digits, a 16-bit
-- address 0x and four, a bit, a flag and a displacement a decimal, and an offset a distance in bytes.
use Rattle.std.specs.Prelude.{ℕ, List, [], ◌++◌, codes, decimal}
use Rattle.sim_io.specs.Digits.{hex2, hex4, offset_text}
use Rattle.avr_decoder.specs.declared.op.Op.{Op}
use Rattle.avr_decoder.specs.declared.op.Op.TheVariants as op
use Rattle.avr_disassembler.specs.declared.parts.Pointer.{Pointer}
use Rattle.avr_disassembler.specs.declared.parts.Pointer.TheVariants as pointer
use Rattle.avr_disassembler.specs.declared.parts.Operand.{Operand}
use Rattle.avr_disassembler.specs.declared.parts.Operand.TheVariants.{Register, Byte, Address, Number, Offset, At, PastY, PastZ}
use Rattle.avr_disassembler.specs.declared.parts.Operands.{Operands}
use Rattle.avr_disassembler.specs.declared.parts.Operands.TheVariants.{Zero, One, Two}

-- a pointer register, with + where it is raised behind the access and - where it is lowered before it
unfoldable pub pointer_text : Pointer → List ℕ
pointer_text pointer.X = codes "X"
pointer_text pointer.XInc = codes "X+"
pointer_text pointer.XDec = codes "-X"
pointer_text pointer.YInc = codes "Y+"
pointer_text pointer.YDec = codes "-Y"
pointer_text pointer.Z = codes "Z"
pointer_text pointer.ZInc = codes "Z+"
pointer_text pointer.ZDec = codes "-Z"

-- one operand
unfoldable pub operand_text : Operand → List ℕ
operand_text (Register n) = codes "r" ++ decimal n
operand_text (Byte n) = codes "0x" ++ hex2 n
operand_text (Address n) = codes "0x" ++ hex4 n
operand_text (Number n) = decimal n
operand_text (Offset k) = offset_text k
operand_text (At p) = pointer_text p
operand_text (PastY q) = codes "Y+" ++ decimal q
operand_text (PastZ q) = codes "Z+" ++ decimal q

-- what stands behind the mnemonic
unfoldable pub operands_text : Operands → List ℕ
operands_text Zero = []
operands_text (One a) = codes " " ++ operand_text a
operands_text (Two a b) = codes " " ++ operand_text a ++ codes ", " ++ operand_text b

-- what is printed of an instruction
pub record Shown : Type 0 where
  pub mnemonic : List ℕ
  pub operands : Operands

abbrev pub zero : List ℕ → Shown
zero mnemonic = record { mnemonic = mnemonic; operands = Zero }

abbrev pub one : List ℕ → Operand → Shown
one mnemonic a = record { mnemonic = mnemonic; operands = One a }

abbrev pub two : List ℕ → Operand → Operand → Shown
two mnemonic a b = record { mnemonic = mnemonic; operands = Two a b }

-- the mnemonic and operands of each instruction; a word of no instruction is an assembler's .word
unfoldable pub shown : Op → Shown
shown op.Nop = zero (codes "nop")
shown (op.Movw d r) = two (codes "movw") (Register d) (Register r)
shown (op.Muls d r) = two (codes "muls") (Register d) (Register r)
shown (op.Mulsu d r) = two (codes "mulsu") (Register d) (Register r)
shown (op.Fmul d r) = two (codes "fmul") (Register d) (Register r)
shown (op.Fmuls d r) = two (codes "fmuls") (Register d) (Register r)
shown (op.Fmulsu d r) = two (codes "fmulsu") (Register d) (Register r)
shown (op.Cpc d r) = two (codes "cpc") (Register d) (Register r)
shown (op.Sbc d r) = two (codes "sbc") (Register d) (Register r)
shown (op.Add d r) = two (codes "add") (Register d) (Register r)
shown (op.Cpse d r) = two (codes "cpse") (Register d) (Register r)
shown (op.Cp d r) = two (codes "cp") (Register d) (Register r)
shown (op.Sub d r) = two (codes "sub") (Register d) (Register r)
shown (op.Adc d r) = two (codes "adc") (Register d) (Register r)
shown (op.And d r) = two (codes "and") (Register d) (Register r)
shown (op.Eor d r) = two (codes "eor") (Register d) (Register r)
shown (op.Or d r) = two (codes "or") (Register d) (Register r)
shown (op.Mov d r) = two (codes "mov") (Register d) (Register r)
shown (op.Cpi d k) = two (codes "cpi") (Register d) (Byte k)
shown (op.Sbci d k) = two (codes "sbci") (Register d) (Byte k)
shown (op.Subi d k) = two (codes "subi") (Register d) (Byte k)
shown (op.Ori d k) = two (codes "ori") (Register d) (Byte k)
shown (op.Andi d k) = two (codes "andi") (Register d) (Byte k)
shown (op.LddZ d q) = two (codes "ldd") (Register d) (PastZ q)
shown (op.LddY d q) = two (codes "ldd") (Register d) (PastY q)
shown (op.StdZ q r) = two (codes "std") (PastZ q) (Register r)
shown (op.StdY q r) = two (codes "std") (PastY q) (Register r)
shown (op.Lds d k) = two (codes "lds") (Register d) (Address k)
shown (op.LdZInc d) = two (codes "ld") (Register d) (At pointer.ZInc)
shown (op.LdZDec d) = two (codes "ld") (Register d) (At pointer.ZDec)
shown (op.LpmZ d) = two (codes "lpm") (Register d) (At pointer.Z)
shown (op.LpmZInc d) = two (codes "lpm") (Register d) (At pointer.ZInc)
shown (op.ElpmZ d) = two (codes "elpm") (Register d) (At pointer.Z)
shown (op.ElpmZInc d) = two (codes "elpm") (Register d) (At pointer.ZInc)
shown (op.LdYInc d) = two (codes "ld") (Register d) (At pointer.YInc)
shown (op.LdYDec d) = two (codes "ld") (Register d) (At pointer.YDec)
shown (op.LdX d) = two (codes "ld") (Register d) (At pointer.X)
shown (op.LdXInc d) = two (codes "ld") (Register d) (At pointer.XInc)
shown (op.LdXDec d) = two (codes "ld") (Register d) (At pointer.XDec)
shown (op.Pop d) = one (codes "pop") (Register d)
shown (op.Sts k r) = two (codes "sts") (Address k) (Register r)
shown (op.StZInc r) = two (codes "st") (At pointer.ZInc) (Register r)
shown (op.StZDec r) = two (codes "st") (At pointer.ZDec) (Register r)
shown (op.StYInc r) = two (codes "st") (At pointer.YInc) (Register r)
shown (op.StYDec r) = two (codes "st") (At pointer.YDec) (Register r)
shown (op.StX r) = two (codes "st") (At pointer.X) (Register r)
shown (op.StXInc r) = two (codes "st") (At pointer.XInc) (Register r)
shown (op.StXDec r) = two (codes "st") (At pointer.XDec) (Register r)
shown (op.Push r) = one (codes "push") (Register r)
shown (op.Com d) = one (codes "com") (Register d)
shown (op.Neg d) = one (codes "neg") (Register d)
shown (op.Swap d) = one (codes "swap") (Register d)
shown (op.Inc d) = one (codes "inc") (Register d)
shown (op.Asr d) = one (codes "asr") (Register d)
shown (op.Lsr d) = one (codes "lsr") (Register d)
shown (op.Ror d) = one (codes "ror") (Register d)
shown (op.Dec d) = one (codes "dec") (Register d)
shown (op.Bset s) = one (codes "bset") (Number s)
shown (op.Bclr s) = one (codes "bclr") (Number s)
shown op.Ijmp = zero (codes "ijmp")
shown op.Icall = zero (codes "icall")
shown op.Ret = zero (codes "ret")
shown op.Reti = zero (codes "reti")
shown op.Sleep = zero (codes "sleep")
shown op.Break = zero (codes "break")
shown op.Wdr = zero (codes "wdr")
shown op.LpmR0 = zero (codes "lpm")
shown op.ElpmR0 = zero (codes "elpm")
shown op.Spm = zero (codes "spm")
shown (op.Jmp k) = one (codes "jmp") (Address k)
shown (op.Call k) = one (codes "call") (Address k)
shown (op.Adiw d k) = two (codes "adiw") (Register d) (Byte k)
shown (op.Sbiw d k) = two (codes "sbiw") (Register d) (Byte k)
shown (op.Cbi a b) = two (codes "cbi") (Byte a) (Number b)
shown (op.Sbic a b) = two (codes "sbic") (Byte a) (Number b)
shown (op.Sbi a b) = two (codes "sbi") (Byte a) (Number b)
shown (op.Sbis a b) = two (codes "sbis") (Byte a) (Number b)
shown (op.Mul d r) = two (codes "mul") (Register d) (Register r)
shown (op.InIo d a) = two (codes "in") (Register d) (Byte a)
shown (op.OutIo a r) = two (codes "out") (Byte a) (Register r)
shown (op.Rjmp k) = one (codes "rjmp") (Offset k)
shown (op.Rcall k) = one (codes "rcall") (Offset k)
shown (op.Ldi d k) = two (codes "ldi") (Register d) (Byte k)
shown (op.Brbs s k) = two (codes "brbs") (Number s) (Offset k)
shown (op.Brbc s k) = two (codes "brbc") (Number s) (Offset k)
shown (op.Bld d b) = two (codes "bld") (Register d) (Number b)
shown (op.Bst d b) = two (codes "bst") (Register d) (Number b)
shown (op.Sbrc r b) = two (codes "sbrc") (Register r) (Number b)
shown (op.Sbrs r b) = two (codes "sbrs") (Register r) (Number b)
shown (op.Reserved word) = one (codes ".word") (Address word)
shown (op.Undefined word) = one (codes ".word") (Address word)

-- the text of an instruction
unfoldable pub text_of : Op → List ℕ
text_of instruction = (shown instruction).mnemonic ++ operands_text (shown instruction).operands

-- the line of an instruction at a word address
unfoldable pub line_of : ℕ → Op → List ℕ
line_of pc instruction = hex4 pc ++ codes " " ++ text_of instruction
