-- The I/O registers in the order of their data addresses, as the datasheet lists them (ATmega128 datasheet, "Register
-- Summary"), each with its name and the rule for reading and writing it. An address without a row is reserved. RAMPZ,
-- SPL, SPH and SREG (0x5B, 0x5D, 0x5E, 0x5F) are the core's own and stand in no row.
use Rattle.std.specs.Prelude.{ℕ, ◌+◌, ◌==◌, if◌then◌else◌, true, false, List, [], ◌∷◌}
use Rattle.std.specs.List.{list_any}
use Rattle.avr_base.specs.declared.stop.StopCause.TheVariants as stop
use Rattle.board_io.specs.declared.rules.Rule.{Rule}
use Rattle.board_io.specs.declared.rules.Rule.TheVariants.{Reserved, Pin, Kept, Guarded, WatchdogControl, ResetFlags, CpuControl, TimerFlags, ExtendedTimerFlags, Timer0, Timer1, Timer2, Timer3, Usart0, Spi}
use Rattle.board_io.specs.Names.{ACIC, ACIE, ADEN, ADSC, AS0, EEMWE, EERE, EERIE, EEWE, MCUCSR, PORF, PORTA, PORTB, PORTC, PORTD, PORTE, PORTF, PORTG, PSR0, PSR321, RXEN1, TICIE1, TICIE3, TSM, TWAR, TWDR, TWEN, TWSR, TXEN1, UCSR1A, UCSR1C, XDIVEN}
use Rattle.serial_ports.specs.declared.spi_registers.SpiReg.TheVariants as spi
use Rattle.avr_timers.specs.declared.registers16.Channel.TheVariants.{A, B, C}
use Rattle.avr_timers.specs.declared.registers16.Reg16.TheVariants as reg16
use Rattle.avr_timers.specs.declared.registers8.Reg8.TheVariants as reg8
use Rattle.serial_ports.specs.declared.usart_registers.UsartReg.TheVariants as usart

-- the addresses of some registers, and their rule
pub record RegisterRow : Type 0 where
  pub ats : List ℕ
  pub rule : Rule

abbrev pub row : List ℕ → Rule → RegisterRow
row ats rule = record { ats = ats; rule = rule }

abbrev pub table : List RegisterRow
table =
    row (0x20 ∷ []) (Pin PORTF) ∷  -- PINF
    row (0x21 ∷ []) (Pin PORTE) ∷  -- PINE
    row (0x22 ∷ 0x23 ∷ []) (Kept 0xFF) ∷  -- DDRE, PORTE
    row (0x24 ∷ 0x25 ∷ []) (Kept 0x00) ∷  -- ADCL, ADCH
    row (0x26 ∷ []) (Guarded (ADEN + ADSC) stop.Adc 0xFF) ∷  -- ADCSRA
    row (0x27 ∷ []) (Kept 0xFF) ∷  -- ADMUX
    row (0x28 ∷ []) (Guarded (ACIE + ACIC) stop.Comparator 0xC3) ∷  -- ACSR
    row (0x29 ∷ []) (Usart0 usart.BaudL) ∷  -- UBRR0L
    row (0x2A ∷ []) (Usart0 usart.ControlB) ∷  -- UCSR0B
    row (0x2B ∷ []) (Usart0 usart.StatusA) ∷  -- UCSR0A
    row (0x2C ∷ []) (Usart0 usart.Udr) ∷  -- UDR0
    row (0x2D ∷ []) (Spi spi.Control) ∷  -- SPCR
    row (0x2E ∷ []) (Spi spi.Status) ∷  -- SPSR
    row (0x2F ∷ []) (Spi spi.Spdr) ∷  -- SPDR
    row (0x30 ∷ []) (Pin PORTD) ∷  -- PIND
    row (0x31 ∷ 0x32 ∷ []) (Kept 0xFF) ∷  -- DDRD, PORTD
    row (0x33 ∷ []) (Pin PORTC) ∷  -- PINC
    row (0x34 ∷ 0x35 ∷ []) (Kept 0xFF) ∷  -- DDRC, PORTC
    row (0x36 ∷ []) (Pin PORTB) ∷  -- PINB
    row (0x37 ∷ 0x38 ∷ []) (Kept 0xFF) ∷  -- DDRB, PORTB
    row (0x39 ∷ []) (Pin PORTA) ∷  -- PINA
    row (0x3A ∷ 0x3B ∷ []) (Kept 0xFF) ∷  -- DDRA, PORTA
    row (0x3C ∷ []) (Guarded (EERIE + EEMWE + EEWE + EERE) stop.Eeprom 0x00) ∷  -- EECR
    row (0x3D ∷ 0x3E ∷ 0x3F ∷ []) (Kept 0xFF) ∷  -- EEDR, EEARL, EEARH
    row (0x40 ∷ []) (Guarded (TSM + PSR0 + PSR321) stop.Prescaler 0x0C) ∷  -- SFIOR
    row (0x41 ∷ []) WatchdogControl ∷  -- WDTCR
    row (0x42 ∷ []) (Kept 0xFF) ∷  -- OCDR
    row (0x43 ∷ []) (Timer2 reg8.Compare) ∷  -- OCR2
    row (0x44 ∷ []) (Timer2 reg8.Count) ∷  -- TCNT2
    row (0x45 ∷ []) (Timer2 reg8.Control) ∷  -- TCCR2
    row (0x46 ∷ []) (Timer1 reg16.IcrL) ∷  -- ICR1L
    row (0x47 ∷ []) (Timer1 reg16.IcrH) ∷  -- ICR1H
    row (0x48 ∷ []) (Timer1 (reg16.CompL B)) ∷  -- OCR1BL
    row (0x49 ∷ []) (Timer1 (reg16.CompH B)) ∷  -- OCR1BH
    row (0x4A ∷ []) (Timer1 (reg16.CompL A)) ∷  -- OCR1AL
    row (0x4B ∷ []) (Timer1 (reg16.CompH A)) ∷  -- OCR1AH
    row (0x4C ∷ []) (Timer1 reg16.CountL) ∷  -- TCNT1L
    row (0x4D ∷ []) (Timer1 reg16.CountH) ∷  -- TCNT1H
    row (0x4E ∷ []) (Timer1 reg16.ControlB) ∷  -- TCCR1B
    row (0x4F ∷ []) (Timer1 reg16.ControlA) ∷  -- TCCR1A
    row (0x50 ∷ []) (Guarded AS0 stop.AsyncTimer 0x00) ∷  -- ASSR
    row (0x51 ∷ []) (Timer0 reg8.Compare) ∷  -- OCR0
    row (0x52 ∷ []) (Timer0 reg8.Count) ∷  -- TCNT0
    row (0x53 ∷ []) (Timer0 reg8.Control) ∷  -- TCCR0
    row (0x54 ∷ []) ResetFlags ∷  -- MCUCSR
    row (0x55 ∷ []) CpuControl ∷  -- MCUCR
    row (0x56 ∷ []) TimerFlags ∷  -- TIFR
    row (0x57 ∷ []) (Guarded TICIE1 stop.InputCapture 0xFF) ∷  -- TIMSK
    row (0x58 ∷ []) (Kept 0x00) ∷  -- EIFR
    row (0x59 ∷ []) (Guarded 0xFF stop.ExternalInterrupt 0x00) ∷  -- EIMSK
    row (0x5A ∷ []) (Kept 0xFF) ∷  -- EICRB
    row (0x5C ∷ []) (Guarded XDIVEN stop.ClockDivision 0xFF) ∷  -- XDIV
    row (0x61 ∷ 0x62 ∷ []) (Kept 0xFF) ∷  -- DDRF, PORTF
    row (0x63 ∷ []) (Pin PORTG) ∷  -- PING
    row (0x64 ∷ 0x65 ∷ []) (Kept 0x1F) ∷  -- DDRG, PORTG
    row (0x68 ∷ []) (Kept 0x00) ∷  -- SPMCSR
    row (0x6A ∷ []) (Kept 0xFF) ∷  -- EICRA
    row (0x6C ∷ 0x6D ∷ []) (Kept 0xFF) ∷  -- XMCRB, XMCRA
    row (0x6F ∷ []) (Kept 0xFF) ∷  -- OSCCAL
    row (0x70 ∷ []) (Kept 0xFF) ∷  -- TWBR
    row (0x71 ∷ 0x72 ∷ 0x73 ∷ []) (Kept 0xFF) ∷  -- TWSR, TWAR, TWDR
    row (0x74 ∷ []) (Guarded TWEN stop.Twi 0xFF) ∷  -- TWCR
    row (0x78 ∷ []) (Timer1 (reg16.CompL C)) ∷  -- OCR1CL
    row (0x79 ∷ []) (Timer1 (reg16.CompH C)) ∷  -- OCR1CH
    row (0x7A ∷ []) (Timer1 reg16.ControlC) ∷  -- TCCR1C
    row (0x7C ∷ []) ExtendedTimerFlags ∷  -- ETIFR
    row (0x7D ∷ []) (Guarded TICIE3 stop.InputCapture 0x3F) ∷  -- ETIMSK
    row (0x80 ∷ []) (Timer3 reg16.IcrL) ∷  -- ICR3L
    row (0x81 ∷ []) (Timer3 reg16.IcrH) ∷  -- ICR3H
    row (0x82 ∷ []) (Timer3 (reg16.CompL C)) ∷  -- OCR3CL
    row (0x83 ∷ []) (Timer3 (reg16.CompH C)) ∷  -- OCR3CH
    row (0x84 ∷ []) (Timer3 (reg16.CompL B)) ∷  -- OCR3BL
    row (0x85 ∷ []) (Timer3 (reg16.CompH B)) ∷  -- OCR3BH
    row (0x86 ∷ []) (Timer3 (reg16.CompL A)) ∷  -- OCR3AL
    row (0x87 ∷ []) (Timer3 (reg16.CompH A)) ∷  -- OCR3AH
    row (0x88 ∷ []) (Timer3 reg16.CountL) ∷  -- TCNT3L
    row (0x89 ∷ []) (Timer3 reg16.CountH) ∷  -- TCNT3H
    row (0x8A ∷ []) (Timer3 reg16.ControlB) ∷  -- TCCR3B
    row (0x8B ∷ []) (Timer3 reg16.ControlA) ∷  -- TCCR3A
    row (0x8C ∷ []) (Timer3 reg16.ControlC) ∷  -- TCCR3C
    row (0x90 ∷ []) (Usart0 usart.BaudH) ∷  -- UBRR0H
    row (0x95 ∷ []) (Usart0 usart.ControlC) ∷  -- UCSR0C
    row (0x98 ∷ 0x99 ∷ []) (Kept 0xFF) ∷  -- UBRR1H, UBRR1L
    row (0x9A ∷ []) (Guarded (RXEN1 + TXEN1) stop.Usart1 0xFF) ∷  -- UCSR1B
    row (0x9B ∷ []) (Kept 0xFF) ∷  -- UCSR1A
    row (0x9C ∷ []) (Kept 0xFF) ∷  -- UDR1
    row (0x9D ∷ []) (Kept 0xFF) ∷  -- UCSR1C
    []

-- the rule of the first row that has an address
abbrev pub first_rule : List RegisterRow → ℕ → Rule
first_rule [] at = Reserved
first_rule (r ∷ rs) at = elim (list_any (λ a. a == at) r.ats) [ true ↦ r.rule | false ↦ first_rule rs at ]

unfoldable pub rule_of : ℕ → Rule
rule_of at = first_rule table at

-- what a kept register holds after reset, 0 but for these ("Initial Value" in the register descriptions)
unfoldable pub start_of : ℕ → ℕ
start_of at =
    if at == MCUCSR then PORF
    else if at == TWSR then 0xF8
    else if at == TWAR then 0xFE
    else if at == TWDR then 0xFF
    else if at == UCSR1A then 0x20
    else if at == UCSR1C then 0x06
    else 0
