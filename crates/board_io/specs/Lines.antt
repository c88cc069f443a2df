-- The interrupt lines and what serving an interrupt clears (ATmega128 datasheet, "Interrupt Vectors in ATmega128",
-- "TIMSK", "ETIMSK"). Line n has the vector at word address 2n.
use Rattle.std.specs.Prelude.{ℕ, ◌+◌, ◌/◌, ◌^◌, ◌==◌, ◌&&◌, ◌||◌, if◌then◌else◌, Bool, true, false}
use Rattle.board_io.specs.declared.board.Board.{Board}
use Rattle.board_io.specs.Board.{kept_at}
use Rattle.board_io.specs.Names.{ETIMSK, OCIE0, OCIE1A, OCIE1B, OCIE1C, OCIE2, OCIE3A, OCIE3B, OCIE3C, SPI_STC, TIMER0_COMP, TIMER0_OVF, TIMER1_COMPA, TIMER1_COMPB, TIMER1_COMPC, TIMER1_OVF, TIMER2_COMP, TIMER2_OVF, TIMER3_COMPA, TIMER3_COMPB, TIMER3_COMPC, TIMER3_OVF, TIMSK, TOIE0, TOIE1, TOIE2, TOIE3, USART0_RX, USART0_TX, USART0_UDRE}
use Rattle.device_base.specs.Bits.{any_bit}
use Rattle.avr_timers.specs.declared.flags.TimerFlags.{TimerFlags}
use Rattle.avr_base.specs.declared.interrupts.Lines.{Lines}
use Rattle.serial_ports.specs.Spi.{asks_interrupt}
use Rattle.avr_timers.specs.Timer16 as timer16
use Rattle.avr_timers.specs.Timer8 as timer8
use Rattle.serial_ports.specs.Usart as usart

-- the line of the vector at a word address, by the flag of its source and the bit that enables it
unfoldable pub line : ℕ → Bool → Bool → ℕ
line word flag enabled = if flag && enabled then 2 ^ (word / 2) else 0

-- whether a bit of TIMSK is set, and one of ETIMSK
abbrev pub timsk : Board → ℕ → Bool
timsk b mask = any_bit (kept_at TIMSK b) mask

abbrev pub etimsk : Board → ℕ → Bool
etimsk b mask = any_bit (kept_at ETIMSK b) mask

-- the lines of one timer, by the byte of TIMSK
abbrev pub timer_0_lines : ℕ → Board → ℕ
timer_0_lines enabled b = line TIMER0_COMP b.t0.ocf_a (any_bit enabled OCIE0) + line TIMER0_OVF b.t0.tov (any_bit enabled TOIE0)

abbrev pub timer_1_lines : ℕ → Board → ℕ
timer_1_lines enabled b = line TIMER1_COMPA b.t1.flags.ocf_a (any_bit enabled OCIE1A) + line TIMER1_COMPB b.t1.flags.ocf_b (any_bit enabled OCIE1B) + line TIMER1_OVF b.t1.flags.tov (any_bit enabled TOIE1)

abbrev pub timer_2_lines : ℕ → Board → ℕ
timer_2_lines enabled b = line TIMER2_COMP b.t2.ocf_a (any_bit enabled OCIE2) + line TIMER2_OVF b.t2.tov (any_bit enabled TOIE2)

abbrev pub timer_lines : Board → ℕ
timer_lines b =
    line TIMER2_COMP b.t2.ocf_a (timsk b OCIE2)
    + line TIMER2_OVF b.t2.tov (timsk b TOIE2)
    + line TIMER1_COMPA b.t1.flags.ocf_a (timsk b OCIE1A)
    + line TIMER1_COMPB b.t1.flags.ocf_b (timsk b OCIE1B)
    + line TIMER1_OVF b.t1.flags.tov (timsk b TOIE1)
    + line TIMER0_COMP b.t0.ocf_a (timsk b OCIE0)
    + line TIMER0_OVF b.t0.tov (timsk b TOIE0)

abbrev pub extended_timer_lines : Board → ℕ
extended_timer_lines b =
    line TIMER1_COMPC b.t1.flags.ocf_c (etimsk b OCIE1C)
    + line TIMER3_COMPA b.t3.flags.ocf_a (etimsk b OCIE3A)
    + line TIMER3_COMPB b.t3.flags.ocf_b (etimsk b OCIE3B)
    + line TIMER3_COMPC b.t3.flags.ocf_c (etimsk b OCIE3C)
    + line TIMER3_OVF b.t3.flags.tov (etimsk b TOIE3)

abbrev pub port_lines : Board → ℕ
port_lines b =
    line SPI_STC (asks_interrupt b.spi) true
    + line USART0_RX (usart.lines_of b.usart).rxc true
    + line USART0_UDRE (usart.lines_of b.usart).udre true
    + line USART0_TX (usart.lines_of b.usart).txc true

unfoldable pub lines_of : Board → Lines
lines_of b = record { bits = timer_lines b + extended_timer_lines b + port_lines b }

abbrev pub no_flags : TimerFlags
no_flags = record { tov = false; ocf_a = false; ocf_b = false; ocf_c = false; icf = false }

-- the flag that the interrupt of a timer's vector, at this word address, clears
abbrev pub served_flag : ℕ → TimerFlags
served_flag word =
    if word == TIMER2_COMP || word == TIMER1_COMPA || word == TIMER0_COMP || word == TIMER3_COMPA then record no_flags { ocf_a = true }
    else if word == TIMER1_COMPB || word == TIMER3_COMPB then record no_flags { ocf_b = true }
    else if word == TIMER1_COMPC || word == TIMER3_COMPC then record no_flags { ocf_c = true }
    else record no_flags { tov = true }

-- the interrupt of the vector at this word address is served: its flag is cleared, but for RXC and UDRE of USART0,
-- which stand as long as there is a byte to read and room for one to write. First those of the ports and of ETIMSK
abbrev pub entered_beside : ℕ → Board → Board
entered_beside word b =
    if word == SPI_STC then record b { spi = record b.spi { spif = false } }
    else if word == USART0_TX then record b { usart = record b.usart { txc = false } }
    else if word == TIMER1_COMPC then record b { t1 = timer16.cleared b.t1 (record no_flags { ocf_c = true }) }
    else if word == TIMER3_COMPA then record b { t3 = timer16.cleared b.t3 (record no_flags { ocf_a = true }) }
    else if word == TIMER3_COMPB then record b { t3 = timer16.cleared b.t3 (record no_flags { ocf_b = true }) }
    else if word == TIMER3_COMPC then record b { t3 = timer16.cleared b.t3 (record no_flags { ocf_c = true }) }
    else if word == TIMER3_OVF then record b { t3 = timer16.cleared b.t3 (record no_flags { tov = true }) }
    else b

-- and, before them, those of TIMSK
unfoldable pub entered_of : ℕ → Board → Board
entered_of word b =
    if word == TIMER2_COMP then record b { t2 = timer8.cleared b.t2 (record no_flags { ocf_a = true }) }
    else if word == TIMER2_OVF then record b { t2 = timer8.cleared b.t2 (record no_flags { tov = true }) }
    else if word == TIMER1_COMPA then record b { t1 = timer16.cleared b.t1 (record no_flags { ocf_a = true }) }
    else if word == TIMER1_COMPB then record b { t1 = timer16.cleared b.t1 (record no_flags { ocf_b = true }) }
    else if word == TIMER1_OVF then record b { t1 = timer16.cleared b.t1 (record no_flags { tov = true }) }
    else if word == TIMER0_COMP then record b { t0 = timer8.cleared b.t0 (record no_flags { ocf_a = true }) }
    else if word == TIMER0_OVF then record b { t0 = timer8.cleared b.t0 (record no_flags { tov = true }) }
    else entered_beside word b
