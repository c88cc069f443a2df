-- The node that a saved state has is the one that has its numbers, its I/O bytes and its SRAM.
use Rattle.std.proofs.Common.{◌≡◌, ◌<◌, ◌+◌, ℕ, Bool, true, false, ◌==◌, refl, sym, ◌∙◌, ap, arith, List, [], take, drop, slice_index, Option, None, Some, Result, Ok, Err}
use Rattle.std.specs.Prelude.{IfOk}
use Rattle.std.proofs.lemmas.Bool.{and_parts}
use Rattle.std.proofs.lemmas.List.{get_or-drop, get_or-take}
use Rattle.avr_base.specs.Causes.{cause_of}
use Rattle.avr_base.proofs.Causes.{cause_again}
use Rattle.avr_base.specs.declared.memory.NoMemory.{NoMemory}
use Rattle.air_base.specs.NodeRun.{Timed}
use Rattle.board_io.specs.Saved as board
use Rattle.board_io.specs.declared.board.Board.{Board}
use Rattle.board_io.proofs.OneBoard.{all, fits-parts}
use Rattle.board_io.proofs.OneBoard as whole
use Rattle.device_base.specs.Bits.{bit}
use Rattle.device_base.specs.Numbers.{part}
use Rattle.avr_timers.specs.Numbers16.{control_mode}
use Rattle.avr_timers.specs.declared.mode.Mode16.{Mode16}
use Rattle.avr_timers.specs.declared.prescaler.Prescaler.TheVariants.{Own, Shared}
use Rattle.avr_timers.specs.declared.timer16.Timer16.{Timer16}
use Rattle.avr_timers.specs.Numbers16 as timer16
use Rattle.device_base.proofs.Places.{flag-bit}
use Rattle.avr_timers.proofs.Saved8 as saved8
use Rattle.avr_timers.proofs.Saved16 as saved16
use Rattle.serial_ports.proofs.UsartSaved.{one-usart}
use Rattle.serial_ports.proofs.SpiSaved.{one-spi}
use Rattle.serial_ports.proofs.RadioSaved.{one-radio}
use Rattle.node_core.specs.Numbers.{core_tail, ends_from, first_outside}
use Rattle.node_core.specs.Restored.{cpu_of}
use Rattle.node_core.specs.declared.row.Row.{Row}
use Rattle.node_core.specs.State.{NodeState}
use Rattle.node_core.proofs.Saved.{board-fits, has-numbers}
use Rattle.node_runner.specs.Scenario.{ScenarioOf, IsRestoredIn}
use Rattle.state_text.specs.Text.{NodeOf}
use Rattle.checkpoint_text.specs.NodeOf.{board_of, node_of, radio_of, some_mode, spi_of, timer16_of, timer8_of, usart_of}

-- ---- the devices
by_mode : (o : Option Mode16) (n : List ℕ) → saved16.timer_of (some_mode o) n ≡ saved16.timer_by o n
by_mode None n = refl
by_mode (Some mode) n = refl

one_timer16 : (n : List ℕ) (tm : Timer16) → timer16.are_numbers n ≡ true → timer16.HasNumbers n tm → timer16_of n ≡ tm
one_timer16 n tm fit h = by_mode (control_mode (slice_index n 0)) n ∙ saved16.one-within n tm fit h

one_board : (byte_time t : ℕ) (n io : List ℕ) (b : Board) → all (board.fits t n) ≡ true → board.IsRestored byte_time n io b → board_of byte_time n io ≡ b
one_board byte_time t n io b fit h =
    let has = whole.has-numbers n b h.numbers in
    let last = and_parts _ _ (sym (fits-parts t n) ∙ fit) in
    let spis = and_parts _ _ last.0 in
    let usarts = and_parts _ _ spis.0 in
    let thirds = and_parts _ _ usarts.0 in
    let firsts = and_parts _ _ thirds.0 in
    let t0 : timer8_of Own (part 0 6 n) ≡ b.t0 = saved8.one-timer Own (part 0 6 n) b.t0 (record { prescaler = h.own; select = h.select0; numbers = has.t0 }) in
    let t2 : timer8_of Shared (part 6 6 n) ≡ b.t2 = saved8.one-timer Shared (part 6 6 n) b.t2 (record { prescaler = h.shared; select = h.select2; numbers = has.t2 }) in
    let t1 = one_timer16 (part 12 13 n) b.t1 firsts.1 (record { select = h.select1; numbers = has.t1 }) in
    let t3 = one_timer16 (part 25 13 n) b.t3 thirds.1 (record { select = h.select3; numbers = has.t3 }) in
    let usart : usart_of (part 38 14 n) ≡ b.usart = one-usart (part 38 14 n) b.usart has.usart in
    let spi : spi_of (part 52 10 n) ≡ b.spi = one-spi (part 52 10 n) b.spi has.spi in
    let radio : radio_of byte_time (part 62 5 n) ≡ b.radio = one-radio byte_time (part 62 5 n) b.radio last.1 (record { gap = h.gap; numbers = has.radio }) in
    let kept = sym h.kept in
    (λ i. record { kept = kept i; t0 = t0 i; t1 = t1 i; t2 = t2 i; t3 = t3 i; usart = usart i; spi = spi i; radio = radio i })

-- ---- the core
at_place : (at : ℕ) (n : List ℕ) (k i : ℕ) → i < k → slice_index (part at k n) i ≡ slice_index n (at + i)
at_place at n k i low = get_or-take k (drop at n) i 0 low ∙ get_or-drop at n i 0

flag_of : (n : ℕ) (b : Bool) → bit b 1 ≡ n → (n == 1) ≡ b
flag_of n b e = ap (λ x. x == 1) (sym e) ∙ flag-bit b

module _ (n : List ℕ) (u : NodeState) (tail : core_tail u ≡ part 32 9 n) where
  -- a number of the core behind the registers
  of_tail : (i : ℕ) → i < 9 → slice_index (core_tail u) i ≡ slice_index n (32 + i)
  of_tail i low = ap (λ xs. slice_index xs i) tail ∙ at_place 32 n 9 i low

  pub one_cpu : u.cpu.r ≡ take 32 n → cpu_of n ≡ u.cpu
  one_cpu r =
      let r2 = sym r in
      let sreg : slice_index n 32 ≡ u.cpu.sreg.bits = sym (of_tail 0 (omega arith)) in
      let sp : slice_index n 33 ≡ u.cpu.sp = sym (of_tail 1 (omega arith)) in
      let pc : slice_index n 34 ≡ u.cpu.pc = sym (of_tail 2 (omega arith)) in
      let rampz : (slice_index n 35 == 1) ≡ u.cpu.rampz = flag_of (slice_index n 35) u.cpu.rampz (of_tail 3 (omega arith)) in
      (λ i. record { r = r2 i; sreg = record { bits = sreg i }; sp = sp i; pc = pc i; rampz = rampz i })

pub one_node : (sc : ScenarioOf) (k cycle : ℕ) (n : NodeOf) (u : NodeState) → first_outside cycle n.numbers ≡ None → IsRestoredIn sc k n.numbers n.io n.sram u → node_of sc k n ≡ u
unfolding node_of
one_node sc k cycle n u fit r =
    let m : List ℕ = n.numbers in
    let h = has-numbers m u r.registers r.numbers in
    let cpu = one_cpu m u h.tail h.registers in
    let here = one_board sc.topo.byte_time (ends_from cycle m) (part 41 67 m) n.io u.board (board-fits cycle m fit) r.board in
    let wait : slice_index m 36 ≡ u.wait = sym (of_tail m u h.tail 4 (omega arith)) in
    let owed : (slice_index m 37 == 1) ≡ u.owed = flag_of (slice_index m 37) u.owed (of_tail m u h.tail 5 (omega arith)) in
    let asleep : (slice_index m 38 == 1) ≡ u.asleep = flag_of (slice_index m 38) u.asleep (of_tail m u h.tail 6 (omega arith)) in
    let stopped : cause_of (slice_index m 39) ≡ u.stop = ap cause_of (sym (of_tail m u h.tail 7 (omega arith))) ∙ cause_again u.stop in
    let count : slice_index m 40 ≡ u.count = sym (of_tail m u h.tail 8 (omega arith)) in
    let number = sym r.number in
    let flash = sym r.flash in
    let script = sym r.script in
    let first = sym r.from in
    let last = sym r.to in
    let sram = sym r.sram in
    (λ i. record {
      number = number i;
      flash = flash i;
      script = script i;
      from = first i;
      to = last i;
      cpu = cpu i;
      board = here i;
      sram = sram i;
      wait = wait i;
      owed = owed i;
      asleep = asleep i;
      stop = stopped i;
      count = count i;
    })

-- a node that was made of what is saved
pub if_restored : (sc : ScenarioOf) (k cycle : ℕ) (n : NodeOf) (made : Result (Timed NodeState Row) NoMemory) → first_outside cycle n.numbers ≡ None
    → IfOk made (λ v. v ≡ record { cycle = cycle; asking = false; state = v.state; rows = [] })
    → IfOk made (λ v. IsRestoredIn sc k n.numbers n.io n.sram v.state)
    → IfOk made (λ v. v ≡ record { cycle = cycle; asking = false; state = node_of sc k n; rows = [] })
if_restored sc k cycle n (Ok v) fit node is =
    let one = one_node sc k cycle n v.state fit is in
    node ∙ (λ i. record { cycle = cycle; asking = false; state = sym one i; rows = [] })
if_restored sc k cycle n (Err e) fit node is = tt
