-- Where a register enables no interrupt, no line of its sources is set.
use Rattle.std.proofs.Common.{◌≡◌, ℕ, ◌+◌, ◌&&◌, Bool, true, false, refl, sym, ap, ◌∙◌, ◌==◌, not, is_some, arith}
use Rattle.std.specs.Prelude.{bit_and}
use Rattle.std.proofs.lemmas.Bool.{eqb-true}
use Rattle.std.proofs.lemmas.Nat.{and_assoc}
use Rattle.board_io.specs.declared.board.Board.{Board}
use Rattle.board_io.specs.Board.{kept_at}
use Rattle.board_io.specs.Lines.{extended_timer_lines, line, port_lines, timer_0_lines, timer_1_lines, timer_2_lines, timer_lines}
use Rattle.board_io.specs.Names.{ETIMSK, OCIE0, OCIE1A, OCIE1B, OCIE1C, OCIE2, OCIE3A, OCIE3B, OCIE3C, TIMER0_COMP, TIMER0_OVF, TIMER1_COMPA, TIMER1_COMPB, TIMER1_COMPC, TIMER1_OVF, TIMER2_COMP, TIMER2_OVF, TIMER3_COMPA, TIMER3_COMPB, TIMER3_COMPC, TIMER3_OVF, TIMSK, TOIE0, TOIE1, TOIE2, TOIE3, SPI_STC, USART0_RX, USART0_TX, USART0_UDRE}
use Rattle.device_base.specs.Bits.{any_bit}
use Rattle.serial_ports.specs.Spi.{asks_interrupt}
use Rattle.serial_ports.specs.Usart.{is_filled}

off : (word : ℕ) (flag enabled : Bool) → enabled ≡ false → line word flag enabled ≡ 0
unfolding line
off word true enabled e = rw e refl
off word false enabled e = refl

none : (byte mask : ℕ) → byte ≡ 0 → any_bit 0 mask ≡ false → any_bit byte mask ≡ false
none byte mask e zero = ap (λ (x : ℕ). any_bit x mask) e ∙ zero

pub no_timer_lines : (b : Board) → kept_at TIMSK b ≡ 0 → timer_lines b ≡ 0
no_timer_lines b e =
    λ i. off TIMER2_COMP b.t2.ocf_a _ (none _ OCIE2 e refl) i + off TIMER2_OVF b.t2.tov _ (none _ TOIE2 e refl) i
    + off TIMER1_COMPA b.t1.flags.ocf_a _ (none _ OCIE1A e refl) i + off TIMER1_COMPB b.t1.flags.ocf_b _ (none _ OCIE1B e refl) i
    + off TIMER1_OVF b.t1.flags.tov _ (none _ TOIE1 e refl) i + off TIMER0_COMP b.t0.ocf_a _ (none _ OCIE0 e refl) i
    + off TIMER0_OVF b.t0.tov _ (none _ TOIE0 e refl) i

pub no_extended_timer_lines : (b : Board) → kept_at ETIMSK b ≡ 0 → extended_timer_lines b ≡ 0
no_extended_timer_lines b e =
    λ i. off TIMER1_COMPC b.t1.flags.ocf_c _ (none _ OCIE1C e refl) i + off TIMER3_COMPA b.t3.flags.ocf_a _ (none _ OCIE3A e refl) i
    + off TIMER3_COMPB b.t3.flags.ocf_b _ (none _ OCIE3B e refl) i + off TIMER3_COMPC b.t3.flags.ocf_c _ (none _ OCIE3C e refl) i
    + off TIMER3_OVF b.t3.flags.tov _ (none _ TOIE3 e refl) i

-- where a byte has no bit of a mask, it has none of a part of the mask
not_false : (b : Bool) → not b ≡ false → b ≡ true
not_false true e = refl
not_false false e = sym e

none_of : (byte mask part : ℕ) → bit_and mask part ≡ part → bit_and 0 part ≡ 0 → any_bit byte mask ≡ false → any_bit byte part ≡ false
none_of byte mask part e zero off =
    let nothing : bit_and byte mask ≡ 0 = eqb-true (bit_and byte mask) 0 (not_false (bit_and byte mask == 0) off) in
    let same : bit_and byte part ≡ 0 = ap (bit_and byte) (sym e) ∙ (sym (and_assoc part byte mask) ∙ (ap (λ k. bit_and k part) nothing ∙ zero)) in
    rw same refl

-- so no line of a timer is set whose interrupts are not enabled
pub no_lines_0 : (enabled : ℕ) (b : Board) → any_bit enabled 0x03 ≡ false → timer_0_lines enabled b ≡ 0
no_lines_0 enabled b e =
    λ i. off TIMER0_COMP b.t0.ocf_a _ (none_of enabled 0x03 OCIE0 refl refl e) i + off TIMER0_OVF b.t0.tov _ (none_of enabled 0x03 TOIE0 refl refl e) i

pub no_lines_1 : (enabled : ℕ) (b : Board) → any_bit enabled 0x1C ≡ false → timer_1_lines enabled b ≡ 0
no_lines_1 enabled b e =
    λ i. off TIMER1_COMPA b.t1.flags.ocf_a _ (none_of enabled 0x1C OCIE1A refl refl e) i + off TIMER1_COMPB b.t1.flags.ocf_b _ (none_of enabled 0x1C OCIE1B refl refl e) i
    + off TIMER1_OVF b.t1.flags.tov _ (none_of enabled 0x1C TOIE1 refl refl e) i

pub no_lines_2 : (enabled : ℕ) (b : Board) → any_bit enabled 0xC0 ≡ false → timer_2_lines enabled b ≡ 0
no_lines_2 enabled b e =
    λ i. off TIMER2_COMP b.t2.ocf_a _ (none_of enabled 0xC0 OCIE2 refl refl e) i + off TIMER2_OVF b.t2.tov _ (none_of enabled 0xC0 TOIE2 refl refl e) i

-- and those of all are added up
added : (a b c d e f g : ℕ) → a + b + (c + d + e) + (f + g) ≡ a + b + c + d + e + f + g
added a b c d e f g = omega arith

pub timer_lines_by : (b : Board) → timer_2_lines (kept_at TIMSK b) b + timer_1_lines (kept_at TIMSK b) b + timer_0_lines (kept_at TIMSK b) b ≡ timer_lines b
timer_lines_by b = added _ _ _ _ _ _ _

down : (word : ℕ) (flag : Bool) → flag ≡ false → line word flag true ≡ 0
unfolding line
down word flag e = rw e refl

disabled : (flag enabled : Bool) → enabled ≡ false → (flag && enabled) ≡ false
disabled true enabled e = e
disabled false enabled e = refl

pub no_port_lines : (b : Board) → any_bit b.usart.control_b 0xE0 ≡ false → any_bit b.spi.control 0x80 ≡ false → port_lines b ≡ 0
no_port_lines b e f =
    let spi : asks_interrupt b.spi ≡ false = disabled b.spi.spif (any_bit b.spi.control 0x80) f in
    let rx : (is_filled b.usart.receive_buffer && any_bit b.usart.control_b 0x80) ≡ false = disabled (is_filled b.usart.receive_buffer) (any_bit b.usart.control_b 0x80) (none_of b.usart.control_b 0xE0 0x80 refl refl e) in
    let udre : (not (is_some b.usart.transmit_buffer) && any_bit b.usart.control_b 0x20) ≡ false = disabled (not (is_some b.usart.transmit_buffer)) (any_bit b.usart.control_b 0x20) (none_of b.usart.control_b 0xE0 0x20 refl refl e) in
    let tx : (b.usart.txc && any_bit b.usart.control_b 0x40) ≡ false = disabled b.usart.txc (any_bit b.usart.control_b 0x40) (none_of b.usart.control_b 0xE0 0x40 refl refl e) in
    λ i. down SPI_STC (asks_interrupt b.spi) spi i + down USART0_RX (is_filled b.usart.receive_buffer && any_bit b.usart.control_b 0x80) rx i
    + down USART0_UDRE (not (is_some b.usart.transmit_buffer) && any_bit b.usart.control_b 0x20) udre i + down USART0_TX (b.usart.txc && any_bit b.usart.control_b 0x40) tx i
