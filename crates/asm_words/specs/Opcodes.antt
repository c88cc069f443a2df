-- The mnemonics of an assembler's source, with the operands that they take and the words without these (AVR Instruction
-- Set Manual, "Syntax" and "16-bit Opcode" of each instruction).
use Rattle.std.specs.Prelude.{ℕ, ◌||◌, Bool, true, false, if◌then◌else◌, List, codes, is_some, Option, Some, None}
use Rattle.std.specs.Str.{bytes_eq}
use Rattle.asm_words.specs.declared.form.Field.{Field}
use Rattle.asm_words.specs.declared.form.Field.TheVariants.{Register, Number, Pointer, FlashPointer, Displaced, Data, Place, Jump, Branch}
use Rattle.asm_words.specs.declared.form.RegisterField.TheVariants.{Middle, Split, Both, UpperMiddle, UpperLow, ShortMiddle, ShortLow, PairMiddle, PairLow, WordPair}
use Rattle.asm_words.specs.declared.form.NumberField.TheVariants.{Constant, ShortConstant, Address, LowAddress, LowThree, Flag, Word}
use Rattle.asm_words.specs.declared.form.OneForm.{OneForm}
use Rattle.asm_words.specs.declared.form.TwoForm.{TwoForm}

abbrev pub with_one : Field → ℕ → Option OneForm
with_one field opcode = Some (record { field = field; opcode = opcode })

abbrev pub with_two : Field → Field → ℕ → Option TwoForm
with_two first second opcode = Some (record { first = first; second = second; opcode = opcode })

-- mnemonics without operands, and their words; SEI and CLI are BSET 7 and BCLR 7
unfoldable pub bare : List ℕ → Option ℕ
bare mnemonic =
    if bytes_eq mnemonic (codes "nop") then Some 0x0000
    else if bytes_eq mnemonic (codes "ijmp") then Some 0x9409
    else if bytes_eq mnemonic (codes "icall") then Some 0x9509
    else if bytes_eq mnemonic (codes "ret") then Some 0x9508
    else if bytes_eq mnemonic (codes "reti") then Some 0x9518
    else if bytes_eq mnemonic (codes "sleep") then Some 0x9588
    else if bytes_eq mnemonic (codes "break") then Some 0x9598
    else if bytes_eq mnemonic (codes "wdr") then Some 0x95A8
    else if bytes_eq mnemonic (codes "lpm") then Some 0x95C8
    else if bytes_eq mnemonic (codes "elpm") then Some 0x95D8
    else if bytes_eq mnemonic (codes "spm") then Some 0x95E8
    else if bytes_eq mnemonic (codes "sei") then Some 0x9478
    else if bytes_eq mnemonic (codes "cli") then Some 0x94F8
    else None

-- mnemonics with one operand
unfoldable pub one_plain : List ℕ → Option OneForm
one_plain mnemonic =
    if bytes_eq mnemonic (codes "com") then with_one (Register Middle) 0x9400
    else if bytes_eq mnemonic (codes "neg") then with_one (Register Middle) 0x9401
    else if bytes_eq mnemonic (codes "swap") then with_one (Register Middle) 0x9402
    else if bytes_eq mnemonic (codes "inc") then with_one (Register Middle) 0x9403
    else if bytes_eq mnemonic (codes "asr") then with_one (Register Middle) 0x9405
    else if bytes_eq mnemonic (codes "lsr") then with_one (Register Middle) 0x9406
    else if bytes_eq mnemonic (codes "ror") then with_one (Register Middle) 0x9407
    else if bytes_eq mnemonic (codes "dec") then with_one (Register Middle) 0x940A
    else if bytes_eq mnemonic (codes "pop") then with_one (Register Middle) 0x900F
    else if bytes_eq mnemonic (codes "push") then with_one (Register Middle) 0x920F
    else if bytes_eq mnemonic (codes "bset") then with_one (Number Flag) 0x9408
    else if bytes_eq mnemonic (codes "bclr") then with_one (Number Flag) 0x9488
    else if bytes_eq mnemonic (codes "jmp") then with_one Place 0x940C
    else if bytes_eq mnemonic (codes "call") then with_one Place 0x940E
    else if bytes_eq mnemonic (codes "rjmp") then with_one Jump 0xC000
    else if bytes_eq mnemonic (codes "rcall") then with_one Jump 0xD000
    else if bytes_eq mnemonic (codes ".word") then with_one (Number Word) 0x0000
    else None

-- aliases with one operand: branches with their flag, and instructions over one register twice
unfoldable pub one_alias : List ℕ → Option OneForm
one_alias mnemonic =
    if bytes_eq mnemonic (codes "brcs") then with_one Branch 0xF000
    else if bytes_eq mnemonic (codes "brcc") then with_one Branch 0xF400
    else if bytes_eq mnemonic (codes "breq") then with_one Branch 0xF001
    else if bytes_eq mnemonic (codes "brne") then with_one Branch 0xF401
    else if bytes_eq mnemonic (codes "clr") then with_one (Register Both) 0x2400
    else if bytes_eq mnemonic (codes "tst") then with_one (Register Both) 0x2000
    else if bytes_eq mnemonic (codes "lsl") then with_one (Register Both) 0x0C00
    else if bytes_eq mnemonic (codes "rol") then with_one (Register Both) 0x1C00
    else None

-- mnemonics with two registers of any kind
unfoldable pub two_registers : List ℕ → Option TwoForm
two_registers mnemonic =
    if bytes_eq mnemonic (codes "cpc") then with_two (Register Middle) (Register Split) 0x0400
    else if bytes_eq mnemonic (codes "sbc") then with_two (Register Middle) (Register Split) 0x0800
    else if bytes_eq mnemonic (codes "add") then with_two (Register Middle) (Register Split) 0x0C00
    else if bytes_eq mnemonic (codes "cpse") then with_two (Register Middle) (Register Split) 0x1000
    else if bytes_eq mnemonic (codes "cp") then with_two (Register Middle) (Register Split) 0x1400
    else if bytes_eq mnemonic (codes "sub") then with_two (Register Middle) (Register Split) 0x1800
    else if bytes_eq mnemonic (codes "adc") then with_two (Register Middle) (Register Split) 0x1C00
    else if bytes_eq mnemonic (codes "and") then with_two (Register Middle) (Register Split) 0x2000
    else if bytes_eq mnemonic (codes "eor") then with_two (Register Middle) (Register Split) 0x2400
    else if bytes_eq mnemonic (codes "or") then with_two (Register Middle) (Register Split) 0x2800
    else if bytes_eq mnemonic (codes "mov") then with_two (Register Middle) (Register Split) 0x2C00
    else if bytes_eq mnemonic (codes "mul") then with_two (Register Middle) (Register Split) 0x9C00
    else None

-- mnemonics with two registers of some kind, in four letters
unfoldable pub two_narrow : List ℕ → Option TwoForm
two_narrow mnemonic =
    if bytes_eq mnemonic (codes "movw") then with_two (Register PairMiddle) (Register PairLow) 0x0100
    else if bytes_eq mnemonic (codes "muls") then with_two (Register UpperMiddle) (Register UpperLow) 0x0200
    else if bytes_eq mnemonic (codes "fmul") then with_two (Register ShortMiddle) (Register ShortLow) 0x0308
    else None

-- mnemonics with two registers of some kind, in more letters
unfoldable pub two_signed : List ℕ → Option TwoForm
two_signed mnemonic =
    if bytes_eq mnemonic (codes "fmulsu") then with_two (Register ShortMiddle) (Register ShortLow) 0x0388
    else if bytes_eq mnemonic (codes "mulsu") then with_two (Register ShortMiddle) (Register ShortLow) 0x0300
    else if bytes_eq mnemonic (codes "fmuls") then with_two (Register ShortMiddle) (Register ShortLow) 0x0380
    else None

-- mnemonics with a register and a constant
unfoldable pub two_constant : List ℕ → Option TwoForm
two_constant mnemonic =
    if bytes_eq mnemonic (codes "cpi") then with_two (Register UpperMiddle) (Number Constant) 0x3000
    else if bytes_eq mnemonic (codes "sbci") then with_two (Register UpperMiddle) (Number Constant) 0x4000
    else if bytes_eq mnemonic (codes "subi") then with_two (Register UpperMiddle) (Number Constant) 0x5000
    else if bytes_eq mnemonic (codes "ori") then with_two (Register UpperMiddle) (Number Constant) 0x6000
    else if bytes_eq mnemonic (codes "andi") then with_two (Register UpperMiddle) (Number Constant) 0x7000
    else if bytes_eq mnemonic (codes "ldi") then with_two (Register UpperMiddle) (Number Constant) 0xE000
    else if bytes_eq mnemonic (codes "adiw") then with_two (Register WordPair) (Number ShortConstant) 0x9600
    else if bytes_eq mnemonic (codes "sbiw") then with_two (Register WordPair) (Number ShortConstant) 0x9700
    else None

-- mnemonics of loads, stores and I/O
unfoldable pub two_memory : List ℕ → Option TwoForm
two_memory mnemonic =
    if bytes_eq mnemonic (codes "ldd") then with_two (Register Middle) Displaced 0x8000
    else if bytes_eq mnemonic (codes "std") then with_two Displaced (Register Middle) 0x8200
    else if bytes_eq mnemonic (codes "ld") then with_two (Register Middle) Pointer 0x8000
    else if bytes_eq mnemonic (codes "st") then with_two Pointer (Register Middle) 0x8200
    else if bytes_eq mnemonic (codes "lds") then with_two (Register Middle) Data 0x9000
    else if bytes_eq mnemonic (codes "sts") then with_two Data (Register Middle) 0x9200
    else if bytes_eq mnemonic (codes "lpm") then with_two (Register Middle) FlashPointer 0x9004
    else if bytes_eq mnemonic (codes "elpm") then with_two (Register Middle) FlashPointer 0x9006
    else if bytes_eq mnemonic (codes "in") then with_two (Register Middle) (Number Address) 0xB000
    else if bytes_eq mnemonic (codes "out") then with_two (Number Address) (Register Middle) 0xB800
    else None

-- mnemonics with a bit or a flag
unfoldable pub two_bits : List ℕ → Option TwoForm
two_bits mnemonic =
    if bytes_eq mnemonic (codes "cbi") then with_two (Number LowAddress) (Number LowThree) 0x9800
    else if bytes_eq mnemonic (codes "sbic") then with_two (Number LowAddress) (Number LowThree) 0x9900
    else if bytes_eq mnemonic (codes "sbi") then with_two (Number LowAddress) (Number LowThree) 0x9A00
    else if bytes_eq mnemonic (codes "sbis") then with_two (Number LowAddress) (Number LowThree) 0x9B00
    else if bytes_eq mnemonic (codes "bld") then with_two (Register Middle) (Number LowThree) 0xF800
    else if bytes_eq mnemonic (codes "bst") then with_two (Register Middle) (Number LowThree) 0xFA00
    else if bytes_eq mnemonic (codes "sbrc") then with_two (Register Middle) (Number LowThree) 0xFC00
    else if bytes_eq mnemonic (codes "sbrs") then with_two (Register Middle) (Number LowThree) 0xFE00
    else if bytes_eq mnemonic (codes "brbs") then with_two (Number LowThree) Branch 0xF000
    else if bytes_eq mnemonic (codes "brbc") then with_two (Number LowThree) Branch 0xF400
    else None

-- one table or the next
abbrev pub or_else : {X : Type 0} → Option X → Option X → Option X
or_else (Some x) other = Some x
or_else None other = other

abbrev pub one : List ℕ → Option OneForm
one mnemonic = or_else (one_plain mnemonic) (one_alias mnemonic)

abbrev pub two : List ℕ → Option TwoForm
two mnemonic = or_else (two_registers mnemonic) (or_else (two_narrow mnemonic) (or_else (two_signed mnemonic) (or_else (two_constant mnemonic) (or_else (two_memory mnemonic) (two_bits mnemonic)))))

-- a mnemonic, an alias or .word
abbrev pub is_known : List ℕ → Bool
is_known mnemonic = is_some (bare mnemonic) || is_some (one mnemonic) || is_some (two mnemonic)

-- whether an operand stands in a second word
abbrev pub has_word : Field → Bool
has_word Data = true
has_word Place = true
has_word _ = false

abbrev pub one_has_word : Option OneForm → Bool
one_has_word None = false
one_has_word (Some form) = has_word form.field

abbrev pub two_has_word : Option TwoForm → Bool
two_has_word None = false
two_has_word (Some form) = has_word form.first || has_word form.second

-- how many words an instruction of this mnemonic takes
abbrev pub width : List ℕ → ℕ
width mnemonic = if one_has_word (one mnemonic) || two_has_word (two mnemonic) then 2 else 1
