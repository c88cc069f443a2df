-- Bits of the timers, of USART0 and of the serial peripheral interface by the datasheet's names (ATmega128 datasheet,
-- "Register Summary"): the byte in which that bit alone, or these bits alone, are set. The registers themselves, and all
-- other bits, have their names in `board_io`.
use Rattle.std.specs.Prelude.{ℕ}

-- TCCR0 and TCCR2. Timers of one width name their bits alike, so the timer's number is left out.
abbrev pub FOC : ℕ
FOC = 0x80  -- bit 7

abbrev pub WGM0 : ℕ
WGM0 = 0x40  -- bit 6

abbrev pub COM : ℕ
COM = 0x30  -- COM1:0, bits 5 and 4

abbrev pub WGM1 : ℕ
WGM1 = 0x08  -- bit 3

-- TCCR1A and TCCR3A.
abbrev pub COM_ABC : ℕ
COM_ABC = 0xFC  -- COMA1:0, COMB1:0 and COMC1:0, bits 7 to 2

-- TCCR1B and TCCR3B.
abbrev pub ICNC : ℕ
ICNC = 0x80  -- bit 7

abbrev pub ICES : ℕ
ICES = 0x40  -- bit 6

-- TCCR1C and TCCR3C.
abbrev pub FOC_ABC : ℕ
FOC_ABC = 0xE0  -- FOCA, FOCB and FOCC, bits 7 to 5

-- UCSR0A.
abbrev pub RXC0 : ℕ
RXC0 = 0x80  -- bit 7

abbrev pub TXC0 : ℕ
TXC0 = 0x40  -- bit 6

abbrev pub UDRE0 : ℕ
UDRE0 = 0x20  -- bit 5

abbrev pub DOR0 : ℕ
DOR0 = 0x08  -- bit 3

abbrev pub U2X0 : ℕ
U2X0 = 0x02  -- bit 1

abbrev pub MPCM0 : ℕ
MPCM0 = 0x01  -- bit 0

-- UCSR0B.
abbrev pub RXCIE0 : ℕ
RXCIE0 = 0x80  -- bit 7

abbrev pub TXCIE0 : ℕ
TXCIE0 = 0x40  -- bit 6

abbrev pub UDRIE0 : ℕ
UDRIE0 = 0x20  -- bit 5

abbrev pub RXEN0 : ℕ
RXEN0 = 0x10  -- bit 4

abbrev pub TXEN0 : ℕ
TXEN0 = 0x08  -- bit 3

abbrev pub UCSZ02 : ℕ
UCSZ02 = 0x04  -- bit 2

abbrev pub UCSR0B_KEPT : ℕ
UCSR0B_KEPT = 0xF9  -- all but UCSZ02 and RXB80, bits 2 and 1

-- UCSR0C.
abbrev pub UMSEL0_UPM0 : ℕ
UMSEL0_UPM0 = 0x70  -- UMSEL0 and UPM01:0, bits 6 to 4

abbrev pub USBS0 : ℕ
USBS0 = 0x08  -- bit 3

abbrev pub UCSZ0 : ℕ
UCSZ0 = 0x06  -- UCSZ01:0, bits 2 and 1

abbrev pub UCSR0C_KEPT : ℕ
UCSR0C_KEPT = 0x0F  -- USBS0, UCSZ01:0 and UCPOL0, bits 3 to 0

-- SPCR.
abbrev pub SPIE : ℕ
SPIE = 0x80  -- bit 7

abbrev pub SPE : ℕ
SPE = 0x40  -- bit 6

abbrev pub MSTR : ℕ
MSTR = 0x10  -- bit 4

-- SPSR.
abbrev pub SPIF : ℕ
SPIF = 0x80  -- bit 7

abbrev pub WCOL : ℕ
WCOL = 0x40  -- bit 6

abbrev pub SPI2X : ℕ
SPI2X = 0x01  -- bit 0
