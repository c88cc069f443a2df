-- The firmware of a sample's nodes (AVR Instruction Set Manual, the opcodes of these instructions; ATmega128 datasheet,
-- "Stack Pointer", "SPI", the addresses of SPH, SPL, DDRB, SPCR, SPDR and SPSR).
use Rattle.std.specs.Prelude.{ℕ, ◌+◌, ◌-◌, ◌*◌, ◌/◌, ◌%◌, List, [], ◌∷◌}

-- `ldi rD, K`, with D from 16 to 31 and a byte K: 1110 KKKK DDDD KKKK
abbrev pub ldi : ℕ → ℕ → ℕ
ldi d k = 0xE000 + 256 * (k / 16) + 16 * (d - 16) + k % 16

-- The words of the firmware, with the first byte that it gives the radio to send, and its rounds of waiting.
unfoldable pub ring_words : ℕ → ℕ → List ℕ
ring_words byte rounds =
    -- the stack pointer to 0x10FF, the end of the SRAM
    0xE100 ∷ 0xBF0E ∷ 0xEF0F ∷ 0xBF0D
    -- DDRB to 0x01, and SPCR to 0x50: the SPI on, as a master, a bit in 4 cycles
    ∷ 0xE001 ∷ 0xBB07 ∷ 0xE500 ∷ 0xB90D
    -- r17 to the byte, and r19 counts the rounds down to 0
    ∷ ldi 17 byte ∷ ldi 19 rounds ∷ 0x953A ∷ 0xF7F1
    -- the loop, from word 0x0C on: the order to send, and r17
    ∷ 0xE001 ∷ 0xD00B ∷ 0x2F01 ∷ 0xD009
    -- the order to sample, and three more transfers, of which the middle one brings the byte
    ∷ 0xE002 ∷ 0xD007 ∷ 0xD006 ∷ 0xD005 ∷ 0x2F20 ∷ 0xD003
    -- r17 to itself, the byte and 1; again
    ∷ 0x0F12 ∷ 0x9513 ∷ 0xCFF3
    -- a transfer of r16 over the SPI, which waits for its end: r16 to what it brings
    ∷ 0xB90F ∷ 0x9B77 ∷ 0xCFFE ∷ 0xB10F ∷ 0x9508
    ∷ []
