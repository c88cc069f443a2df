-- Polls by SBIS or SBIC of a device's register, and RJMP back to it.
use Rattle.std.proofs.Common.{◌≡◌, ℕ, ◌+◌, ◌%◌, ◌<◌, ◌==◌, ◌&&◌, ◌||◌, nat_le, nat_lt, Bool, not, true, false, None, List, Result, Ok, Err, negsuc, refl, sym, subst, ap, ◌∙◌, arith}
use Rattle.std.proofs.lemmas.Bool.{false≢true}
use Rattle.std.proofs.lemmas.Bool.Decides.{nat_tests}
use Rattle.avr_base.specs.Lines.{due_of}
use Rattle.avr_base.specs.declared.stop.StopCause.{StopCause}
use Rattle.avr_decoder.specs.declared.op.Class.TheVariants as class
use Rattle.avr_decoder.specs.declared.op.Op.{Op}
use Rattle.avr_decoder.specs.declared.op.Op.TheVariants as op
use Rattle.board_io.specs.Lines.{lines_of}
use Rattle.avr_core.specs.FlowShapes.{at_pc, bit_is, ends, relative, skipped, skipping, skips_by_io}
use Rattle.avr_core.specs.FlowTable.{flow_effect}
use Rattle.data_space.specs.declared.cpu.Cpu.{Cpu}
use Rattle.data_space.specs.Core.{advanced}
use Rattle.data_space.specs.Space.{Access, answered, answers, loaded}
use Rattle.data_space.specs.Sequence.{Outcome, done, then_do}
use Rattle.node_core.specs.declared.bus.NodeBus.{NodeBus}
use Rattle.node_core.specs.declared.machine.Machine.{Machine}
use Rattle.node_core.specs.declared.pace.leaps.Round.{Round}
use Rattle.node_core.specs.Bus.{bus_get}
use Rattle.node_core.specs.Cycle.{is_sei, op_now, owes}
use Rattle.node_core.specs.Pace.Leaps.{GoesOnBy, IsLoad, IsRound, IsStillStep, LoadsStill, bus_later, goes, stays}
use Rattle.node_core.specs.Shown.{shown}
use Rattle.node_core.proofs.Borrows.{never_on}
use Rattle.node_core.proofs.Ran.{by_class}
use Rattle.node_core.proofs.Stills.{none_later}

-- a device's register that SBIS and SBIC reach is none of the core's
loads_byte : (a x : ℕ) (cpu : Cpu) (bus : NodeBus) → nat_lt a 0x20 ≡ true → bus_get bus (a + 0x20) ≡ Ok (x, bus) → loaded bus_get (a + 0x20) cpu bus ≡ answers x cpu bus
unfolding loaded
loads_byte a x cpu bus few gives =
    let low : nat_lt (a + 0x20) 0x20 ≡ false = grind (arith, nat_tests) in
    let rampz : (a + 0x20 == 0x5B) ≡ false = grind (arith, few, nat_tests) in
    let spl : (a + 0x20 == 0x5D) ≡ false = grind (arith, few, nat_tests) in
    let sph : (a + 0x20 == 0x5E) ≡ false = grind (arith, few, nat_tests) in
    let sreg : (a + 0x20 == 0x5F) ≡ false = grind (arith, few, nat_tests) in
    let e = ap (answered cpu bus) gives in
    rw (low, rampz, spl, sph, sreg) e

on_by : (flash : List ℕ) (a b x : ℕ) (on : Bool) (cpu : Cpu) (bus : NodeBus) → nat_lt a 0x20 ≡ true → bit_is on b x ≡ false → bus_get bus (a + 0x20) ≡ Ok (x, bus)
    → skips_by_io bus_get flash a b on cpu bus ≡ (let o : Outcome NodeBus = record { result = Ok (done 1); cpu = advanced 1 cpu; bus = bus } in o)
unfolding skips_by_io skipping
on_by flash a b x on cpu bus few off gives =
    ap (λ (got : Access ℕ NodeBus). then_do got got.result (λ byte cpu bus. ends (skipped flash (bit_is on b byte) cpu) bus)) (loads_byte a x cpu bus few gives)
    ∙ ap (λ (t : Bool). ends (skipped flash t cpu) bus) off

pub sbis_goes_on : (a b x : ℕ) → nat_lt a 0x20 ≡ true → bit_is true (b % 8) x ≡ false → GoesOnBy (op.Sbis a b) x
unfolding flow_effect
sbis_goes_on a b x few off = record {
  wakes = refl;
  settled = refl;
  goes = λ flash cpu bus at e gives.
      sym (on_by flash a (b % 8) x true cpu bus few off (subst (λ (k : ℕ). bus_get bus k ≡ Ok (x, bus)) e gives)) ∙ by_class class.Flow flash (op.Sbis a b) cpu bus refl;
}

pub sbic_goes_on : (a b x : ℕ) → nat_lt a 0x20 ≡ true → bit_is false (b % 8) x ≡ false → GoesOnBy (op.Sbic a b) x
unfolding flow_effect
sbic_goes_on a b x few off = record {
  wakes = refl;
  settled = refl;
  goes = λ flash cpu bus at e gives.
      sym (on_by flash a (b % 8) x false cpu bus few off (subst (λ (k : ℕ). bus_get bus k ≡ Ok (x, bus)) e gives)) ∙ by_class class.Flow flash (op.Sbic a b) cpu bus refl;
}

-- ---- the byte that the bus gave, and the bus that it left
abbrev byte_of : Result (ℕ × NodeBus) StopCause → ℕ
byte_of (Ok p) = p.0
byte_of (Err cause) = 0

abbrev bus_of : NodeBus → Result (ℕ × NodeBus) StopCause → NodeBus
bus_of bus (Ok p) = p.1
bus_of bus (Err cause) = bus

module _ (bus new : NodeBus) (at x : ℕ) (h : LoadsStill bus at) (got : bus_get bus at ≡ Ok (x, new)) where
  here : bus_get bus at ≡ Ok (h.byte, bus)
  here = subst (λ (b : NodeBus). bus_get b at ≡ Ok (h.byte, b)) (none_later bus) (h.gives bus.io.clock 0 0)

  pub left_still : new ≡ bus
  left_still = ap (bus_of bus) (sym got ∙ here)

  pub gives_still : (u t n : ℕ) → bus_get (bus_later u t n bus) at ≡ Ok (x, bus_later u t n bus)
  gives_still u t n =
      let same : h.byte ≡ x = ap byte_of (sym here ∙ got) in
      subst (λ (b : ℕ). bus_get (bus_later u t n bus) at ≡ Ok (b, bus_later u t n bus)) same (h.gives u t n)

-- ---- the round
pub off : (b : Bool) → not b ≡ true → b ≡ false
off true e = absurd (false≢true e)
off false e = refl

owes_none : (o : Op) (s : ℕ) → is_sei o ≡ false → false ≡ owes o s s
owes_none o s sei = never_on s s refl ∙ ap (λ (b : Bool). b || (nat_lt s 128 && nat_le 128 s)) (sym sei)

jumps_back : (cpu : Cpu) → cpu.pc < 65536 → cpu ≡ at_pc (relative (negsuc 1) (advanced 1 cpu)) (advanced 1 cpu)
jumps_back cpu fits =
    let same : cpu.pc ≡ ((cpu.pc + 1) % 65536 + 1 + 65534) % 65536 = omega arith in
    λ i. let c : Cpu = record cpu { pc = same i } in c

module _ (m : Machine) (o : Op) (at x : ℕ) (fetched : o ≡ op_now (shown m)) (waits : GoesOnBy o x) (load : IsLoad o at)
    (gives : (u t n : ℕ) → bus_get (bus_later u t n m.bus) at ≡ Ok (x, bus_later u t n m.bus))
    (jump : op.Rjmp (negsuc 1) ≡ op_now (shown (let y : Machine = record m { cpu = advanced 1 m.cpu } in y)))
    (none : due_of m.cpu.sreg.bits (lines_of m.bus.io.board) ≡ None) (fits : m.cpu.pc < 65536) where
  first : IsStillStep 1 m m.cpu (advanced 1 m.cpu)
  first = record {
    none = none;
    some = omega arith;
    op = o;
    fetched = fetched;
    wakes = waits.wakes;
    settled = owes_none o m.cpu.sreg.bits waits.settled;
    does = λ u t n. waits.goes m.program.bytes m.cpu (bus_later u t n m.bus) at load (gives u t n);
  }

  second : IsStillStep 2 m (advanced 1 m.cpu) m.cpu
  unfolding flow_effect
  second = record {
    none = none;
    some = omega arith;
    op = op.Rjmp (negsuc 1);
    fetched = jump;
    wakes = refl;
    settled = owes_none (op.Rjmp (negsuc 1)) m.cpu.sreg.bits refl;
    does = λ u t n.
        (let b : NodeBus = bus_later u t n m.bus in
        (λ i. let a : Outcome NodeBus = record { result = Ok (done 2); cpu = jumps_back m.cpu fits i; bus = b } in a)
        ∙ by_class class.Flow m.program.bytes (op.Rjmp (negsuc 1)) (advanced 1 m.cpu) b refl);
  }

  pub bit_round : IsRound m (let r : Round = record { length = 3; count = 2 } in r)
  bit_round = record {
    some = omega arith;
    few = omega arith;
    walk = goes 1 1 2 (advanced 1 m.cpu) m.cpu (goes 0 0 1 m.cpu (advanced 1 m.cpu) stays first) second;
  }
