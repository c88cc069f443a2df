-- Registers and bits by the datasheet's names (ATmega128 datasheet, "Register Summary"): the data address of each
-- register that a rule speaks of, and of its bits the byte in which that bit alone is set. `Table` has all registers.
-- IN, OUT, SBI, CBI, SBIC and SBIS name a register below 0x60 by its I/O address, which is 0x20 less.
use Rattle.std.specs.Prelude.{ℕ}

abbrev pub PORTE : ℕ
PORTE = 0x23  -- I/O address 0x03

-- bits of ADCSRA, 0x26
abbrev pub ADEN : ℕ
ADEN = 0x80

abbrev pub ADSC : ℕ
ADSC = 0x40

-- bits of ACSR, 0x28
abbrev pub ACIE : ℕ
ACIE = 0x08

abbrev pub ACIC : ℕ
ACIC = 0x04

abbrev pub PORTD : ℕ
PORTD = 0x32  -- I/O address 0x12

abbrev pub PORTC : ℕ
PORTC = 0x35  -- I/O address 0x15

abbrev pub DDRB : ℕ
DDRB = 0x37  -- I/O address 0x17

abbrev pub PORTB : ℕ
PORTB = 0x38  -- I/O address 0x18

abbrev pub PORTA : ℕ
PORTA = 0x3B  -- I/O address 0x1B

-- bits of EECR, 0x3C
abbrev pub EERIE : ℕ
EERIE = 0x08

abbrev pub EEMWE : ℕ
EEMWE = 0x04

abbrev pub EEWE : ℕ
EEWE = 0x02

abbrev pub EERE : ℕ
EERE = 0x01

-- bits of SFIOR, 0x40
abbrev pub TSM : ℕ
TSM = 0x80

abbrev pub PSR0 : ℕ
PSR0 = 0x02

abbrev pub PSR321 : ℕ
PSR321 = 0x01

-- bits of WDTCR, 0x41
abbrev pub WDCE : ℕ
WDCE = 0x10

abbrev pub WDE : ℕ
WDE = 0x08

-- bits of ASSR, 0x50
abbrev pub AS0 : ℕ
AS0 = 0x08

abbrev pub MCUCSR : ℕ
MCUCSR = 0x54  -- I/O address 0x34

-- bits of MCUCSR, 0x54
abbrev pub JTD : ℕ
JTD = 0x80

abbrev pub PORF : ℕ
PORF = 0x01

abbrev pub MCUCR : ℕ
MCUCR = 0x55  -- I/O address 0x35

-- bits of MCUCR, 0x55
abbrev pub SRE : ℕ
SRE = 0x80

abbrev pub SE : ℕ
SE = 0x20

abbrev pub IVSEL : ℕ
IVSEL = 0x02

-- bits of TIFR, 0x56
abbrev pub OCF2 : ℕ
OCF2 = 0x80

abbrev pub TOV2 : ℕ
TOV2 = 0x40

abbrev pub ICF1 : ℕ
ICF1 = 0x20

abbrev pub OCF1A : ℕ
OCF1A = 0x10

abbrev pub OCF1B : ℕ
OCF1B = 0x08

abbrev pub TOV1 : ℕ
TOV1 = 0x04

abbrev pub OCF0 : ℕ
OCF0 = 0x02

abbrev pub TOV0 : ℕ
TOV0 = 0x01

abbrev pub TIMSK : ℕ
TIMSK = 0x57  -- I/O address 0x37

-- bits of TIMSK, 0x57
abbrev pub OCIE2 : ℕ
OCIE2 = 0x80

abbrev pub TOIE2 : ℕ
TOIE2 = 0x40

abbrev pub TICIE1 : ℕ
TICIE1 = 0x20

abbrev pub OCIE1A : ℕ
OCIE1A = 0x10

abbrev pub OCIE1B : ℕ
OCIE1B = 0x08

abbrev pub TOIE1 : ℕ
TOIE1 = 0x04

abbrev pub OCIE0 : ℕ
OCIE0 = 0x02

abbrev pub TOIE0 : ℕ
TOIE0 = 0x01

-- bits of XDIV, 0x5C
abbrev pub XDIVEN : ℕ
XDIVEN = 0x80

abbrev pub PORTF : ℕ
PORTF = 0x62

abbrev pub PORTG : ℕ
PORTG = 0x65

abbrev pub TWSR : ℕ
TWSR = 0x71

abbrev pub TWAR : ℕ
TWAR = 0x72

abbrev pub TWDR : ℕ
TWDR = 0x73

-- bits of TWCR, 0x74
abbrev pub TWEN : ℕ
TWEN = 0x04

-- bits of ETIFR, 0x7C
abbrev pub ICF3 : ℕ
ICF3 = 0x20

abbrev pub OCF3A : ℕ
OCF3A = 0x10

abbrev pub OCF3B : ℕ
OCF3B = 0x08

abbrev pub TOV3 : ℕ
TOV3 = 0x04

abbrev pub OCF3C : ℕ
OCF3C = 0x02

abbrev pub OCF1C : ℕ
OCF1C = 0x01

abbrev pub ETIMSK : ℕ
ETIMSK = 0x7D

-- bits of ETIMSK, 0x7D
abbrev pub TICIE3 : ℕ
TICIE3 = 0x20

abbrev pub OCIE3A : ℕ
OCIE3A = 0x10

abbrev pub OCIE3B : ℕ
OCIE3B = 0x08

abbrev pub TOIE3 : ℕ
TOIE3 = 0x04

abbrev pub OCIE3C : ℕ
OCIE3C = 0x02

abbrev pub OCIE1C : ℕ
OCIE1C = 0x01

-- bits of UCSR1B, 0x9A
abbrev pub RXEN1 : ℕ
RXEN1 = 0x10

abbrev pub TXEN1 : ℕ
TXEN1 = 0x08

abbrev pub UCSR1A : ℕ
UCSR1A = 0x9B

abbrev pub UCSR1C : ℕ
UCSR1C = 0x9D

-- the word addresses of the interrupt vectors (ATmega128 datasheet, "Interrupt Vectors in ATmega128")
abbrev pub TIMER2_COMP : ℕ
TIMER2_COMP = 0x12

abbrev pub TIMER2_OVF : ℕ
TIMER2_OVF = 0x14

abbrev pub TIMER1_COMPA : ℕ
TIMER1_COMPA = 0x18

abbrev pub TIMER1_COMPB : ℕ
TIMER1_COMPB = 0x1A

abbrev pub TIMER1_OVF : ℕ
TIMER1_OVF = 0x1C

abbrev pub TIMER0_COMP : ℕ
TIMER0_COMP = 0x1E

abbrev pub TIMER0_OVF : ℕ
TIMER0_OVF = 0x20

abbrev pub SPI_STC : ℕ
SPI_STC = 0x22

abbrev pub USART0_RX : ℕ
USART0_RX = 0x24

abbrev pub USART0_UDRE : ℕ
USART0_UDRE = 0x26

abbrev pub USART0_TX : ℕ
USART0_TX = 0x28

abbrev pub TIMER1_COMPC : ℕ
TIMER1_COMPC = 0x30

abbrev pub TIMER3_COMPA : ℕ
TIMER3_COMPA = 0x34

abbrev pub TIMER3_COMPB : ℕ
TIMER3_COMPB = 0x36

abbrev pub TIMER3_COMPC : ℕ
TIMER3_COMPC = 0x38

abbrev pub TIMER3_OVF : ℕ
TIMER3_OVF = 0x3A
