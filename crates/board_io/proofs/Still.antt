-- A read that changes nothing gives the same as long as the timers alone move.
use Rattle.std.proofs.Common.{◌≡◌, ℕ, ◌-◌, ◌&&◌, not, Bool, true, false, Result, Ok, refl, sym, ap, ◌∙◌, subst}
use Rattle.std.proofs.lemmas.Bool.{and_parts}
use Rattle.avr_base.specs.declared.stop.StopCause.{StopCause}
use Rattle.board_io.specs.declared.board.Board.{Board}
use Rattle.board_io.specs.declared.clocked.ClockedBoard.{ClockedBoard}
use Rattle.board_io.specs.declared.rules.Rule.{Rule}
use Rattle.board_io.specs.declared.rules.Rule.TheVariants.{Reserved, Pin, Kept, Guarded, WatchdogControl, ResetFlags, CpuControl, TimerFlags, ExtendedTimerFlags, Timer0, Timer1, Timer2, Timer3, Usart0, Spi}
use Rattle.board_io.specs.Board.{clocked, kept_at}
use Rattle.board_io.specs.Cycle.{timers_leap}
use Rattle.board_io.specs.Lagging.{ReadsStill, caught_up, is_still_read}
use Rattle.board_io.specs.Registers.{get_by, got_in, io_get}
use Rattle.board_io.specs.Table.{rule_of}
use Rattle.serial_ports.specs.declared.spi.Spi.{Spi as SpiPort}
use Rattle.serial_ports.specs.declared.spi_registers.SpiReg.TheVariants as spi
use Rattle.serial_ports.specs.SpiRegisters as port
use Rattle.serial_ports.specs.declared.usart_registers.UsartReg.TheVariants as usart
use Rattle.serial_ports.specs.UsartRegisters as usart_port

record StillBy (rule : Rule) (b : Board) (at : ℕ) : Type 0 where
  pub byte : ℕ
  pub gives : (t n : ℕ) → get_by rule (timers_leap t n b) at ≡ Ok (byte, timers_leap t n b)

false_true : false ≡ true → ⊥
false_true e = cc

off : (x : Bool) → not x ≡ true → x ≡ false
off false e = refl
off true e = sym e

-- a read of SPSR that notes no flag
unflagged : (s : SpiPort) → (not s.spif && not s.wcol && not s.noted_spif && not s.noted_wcol) ≡ true → (let r : SpiPort = record s { noted_spif = s.spif; noted_wcol = s.wcol } in r) ≡ s
unflagged s e =
    let all = and_parts _ (not s.noted_wcol) e in
    let most = and_parts _ (not s.noted_spif) all.0 in
    let some = and_parts (not s.spif) (not s.wcol) most.0 in
    λ i. let r : SpiPort = record s {
      noted_spif = (off s.spif some.0 ∙ sym (off s.noted_spif most.1)) i;
      noted_wcol = (off s.wcol some.1 ∙ sym (off s.noted_wcol all.1)) i;
    } in r

still_by : (rule : Rule) (b : Board) (at : ℕ) → is_still_read rule b ≡ true → StillBy rule b at
unfolding timers_leap
still_by Reserved b at e = absurd (false_true e)
still_by (Pin p) b at e = record { byte = kept_at p b; gives = λ t n. refl }
still_by (Kept mask) b at e = record { byte = kept_at at b; gives = λ t n. refl }
still_by (Guarded bits cause mask) b at e = record { byte = kept_at at b; gives = λ t n. refl }
still_by WatchdogControl b at e = record { byte = 0; gives = λ t n. refl }
still_by ResetFlags b at e = record { byte = kept_at at b; gives = λ t n. refl }
still_by CpuControl b at e = record { byte = kept_at at b; gives = λ t n. refl }
still_by TimerFlags b at e = absurd (false_true e)
still_by ExtendedTimerFlags b at e = absurd (false_true e)
still_by (Timer0 reg) b at e = absurd (false_true e)
still_by (Timer1 reg) b at e = absurd (false_true e)
still_by (Timer2 reg) b at e = absurd (false_true e)
still_by (Timer3 reg) b at e = absurd (false_true e)
still_by (Usart0 usart.Udr) b at e = absurd (false_true e)
still_by (Usart0 reg) b at e = record { byte = (usart_port.get_of b.usart reg).0; gives = λ t n. refl }
still_by (Spi spi.Control) b at e = record { byte = b.spi.control; gives = λ t n. refl }
still_by (Spi spi.Status) b at e = record {
  byte = port.status_of b.spi;
  gives = λ t n i. (let c : Board = record (timers_leap t n b) { spi = unflagged b.spi e i } in let r : Result (ℕ × Board) StopCause = Ok (port.status_of b.spi, c) in r);
}
still_by (Spi spi.Spdr) b at e = absurd (false_true e)

-- the timers do not tell whether it is such a read
still_leap : (rule : Rule) (t n : ℕ) (b : Board) → is_still_read rule b ≡ is_still_read rule (timers_leap t n b)
unfolding timers_leap
still_leap (Spi spi.Status) t n b = refl
still_leap _ t n b = refl

-- a read at a data address of a board whose timers lag
pub still_at : (rule : Rule) (at s t : ℕ) (b : Board) (v : ClockedBoard) → rule ≡ rule_of at → clocked t (caught_up s t b) ≡ v → is_still_read rule b ≡ true → ReadsStill v.board at
unfolding io_get
still_at rule at s t b v is now e =
    let late : is_still_read rule v.board ≡ true = ap (λ (w : ClockedBoard). is_still_read rule w.board) (sym now) ∙ (sym (still_leap rule s (t - s) b) ∙ e) in
    let still = still_by rule v.board at late in
    record {
      byte = still.byte;
      gives = λ u i k.
          ap (got_in u) (subst (λ (r : Rule). get_by r (timers_leap i k v.board) at ≡ Ok (still.byte, timers_leap i k v.board)) is (still.gives i k));
    }
