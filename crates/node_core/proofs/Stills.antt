-- Instructions that change the core alone, and do so in the same way as long as the timers alone move.
use Rattle.std.proofs.Common.{◌≡◌, ℕ, ◌+◌, ◌-◌, ◌%◌, ◌/◌, ◌==◌, nat_lt, Bool, true, false, List, Result, Ok, refl, sym, subst, ap, ◌∙◌}
use Rattle.std.proofs.lemmas.Bool.{false≢true}
use Rattle.std.specs.Prelude.{if◌then◌else◌, slice_index}
use Rattle.avr_base.specs.declared.stop.StopCause.{StopCause}
use Rattle.avr_core.specs.ArithTable.{arith_cpu, arith_done}
use Rattle.avr_decoder.specs.Class.{class_of}
use Rattle.avr_decoder.specs.declared.op.Class.TheVariants as class
use Rattle.avr_decoder.specs.declared.op.Op.{Op}
use Rattle.avr_decoder.specs.declared.op.Op.TheVariants as op
use Rattle.board_io.specs.declared.board.Board.{Board}
use Rattle.board_io.specs.Board.{clocked}
use Rattle.board_io.specs.Lagging.{ReadsStill}
use Rattle.board_io.proofs.Leaps.{leap_zero}
use Rattle.avr_core.specs.FlowShapes.{at_pc, bit_is, branched, ends, relative, skipped, skips_by_io}
use Rattle.avr_core.specs.Execute.{is_sleep}
use Rattle.avr_core.specs.FlowTable.{flow_effect}
use Rattle.avr_core.specs.MemoryShapes.{loads}
use Rattle.avr_core.specs.MemoryShapes as memory
use Rattle.avr_core.specs.MemoryTable.{memory_effect}
use Rattle.data_space.specs.declared.bus.Done.{Done}
use Rattle.data_space.specs.declared.cpu.Cpu.{Cpu}
use Rattle.data_space.specs.Core.{advanced, with_reg}
use Rattle.data_space.specs.Space.{Access, answered, answers, loaded}
use Rattle.data_space.specs.Sequence.{Outcome, done, then_do}
use Rattle.node_core.specs.declared.bus.NodeBus.{NodeBus}
use Rattle.node_core.specs.Bus.{board_got, bus_get, bus_put, with_io}
use Rattle.node_core.specs.Execute.{executed}
use Rattle.node_core.specs.Pace.Leaps.{IsLoad, IsStill, LoadsStill, bus_later, is_steering}
use Rattle.avr_core.proofs.Executes.{arith_awake, is_arith}
use Rattle.node_core.proofs.Ran.{by_class}
use Rattle.node_core.proofs.Wakes.{wakes}

-- ---- what a load gives, where the bus gives the byte x
abbrev byte_by : ℕ → Cpu → ℕ → ℕ
byte_by at cpu x =
    if nat_lt at 0x20 then slice_index cpu.r at
    else if at == 0x5B then (if cpu.rampz then 1 else 0)
    else if at == 0x5D then cpu.sp % 256
    else if at == 0x5E then cpu.sp / 256
    else if at == 0x5F then cpu.sreg.bits
    else x

chosen : (b : Bool) (x y : ℕ) (cpu : Cpu) (bus : NodeBus) (q : Access ℕ NodeBus) → q ≡ answers y cpu bus → (if b then answers x cpu bus else q) ≡ answers (if b then x else y) cpu bus
chosen true x y cpu bus q e = refl
chosen false x y cpu bus q e = e

module _ (bus : NodeBus) (at : ℕ) (h : LoadsStill bus at) (cpu : Cpu) (u t n : ℕ) where
  abbrev then_bus : NodeBus
  then_bus = bus_later u t n bus

  pub loaded_still : loaded bus_get at cpu (bus_later u t n bus) ≡ answers (byte_by at cpu h.byte) cpu (bus_later u t n bus)
  unfolding loaded
  loaded_still =
      chosen (nat_lt at 0x20) _ _ cpu then_bus _ (chosen (at == 0x5B) _ _ cpu then_bus _ (chosen (at == 0x5D) _ _ cpu then_bus _
      (chosen (at == 0x5E) _ _ cpu then_bus _ (chosen (at == 0x5F) _ _ cpu then_bus _ (ap (answered cpu then_bus) (h.gives u t n))))))

  skips_still : (flash : List ℕ) (a b : ℕ) (on : Bool) → at ≡ a + 0x20
      → skips_by_io bus_get flash a b on cpu then_bus ≡ ends (skipped flash (bit_is on b (byte_by at cpu h.byte)) cpu) then_bus
  unfolding skips_by_io
  skips_still flash a b on e =
      ap (λ (k : ℕ). let got = loaded bus_get k cpu then_bus in then_do got got.result (λ byte cpu bus. ends (skipped flash (bit_is on b byte) cpu) bus)) (sym e)
      ∙ ap (λ (got : Access ℕ NodeBus). then_do got got.result (λ byte cpu bus. ends (skipped flash (bit_is on b byte) cpu) bus)) loaded_still

  loads_still : (d words cycles : ℕ) → loads bus_get d at words cycles cpu then_bus ≡ memory.ends words cycles (with_reg d (byte_by at cpu h.byte) cpu) then_bus
  unfolding loads
  loads_still d words cycles = ap (λ (got : Access ℕ NodeBus). then_do got got.result (λ byte cpu bus. memory.ends words cycles (with_reg d byte cpu) bus)) loaded_still

-- ---- loads of the data space
pub sram_still : (bus : NodeBus) (at : ℕ) → nat_lt 0x10FF at ≡ false → nat_lt 0xFF at ≡ true → LoadsStill bus at
unfolding bus_get
sram_still bus at below above = record { byte = slice_index bus.sram (at - 0x100); gives = λ u t n. rw (below, above) refl }

pub board_still : (bus : NodeBus) (at : ℕ) → nat_lt 0x10FF at ≡ false → nat_lt 0xFF at ≡ false → ReadsStill bus.io.board at → LoadsStill bus at
unfolding bus_get
board_still bus at below io h = record {
  byte = h.byte;
  gives = λ u t n. (let e = ap (board_got (bus_later u t n bus)) (h.gives u t n) in rw (below, io) e);
}

-- ---- the instructions
pub arith_still : (o : Op) (bus : NodeBus) → class_of o ≡ class.Arith → IsStill o bus
arith_still o bus is = record {
  wakes = arith_awake o (ap is_arith is);
  reached = λ flash cpu. (arith_done o, arith_cpu o cpu);
  does = λ flash cpu u t n. sym (by_class class.Arith flash o cpu (bus_later u t n bus) is);
}

-- of the flow, by the core that it reaches, whatever the data space
flows : (o : Op) (bus : NodeBus) → class_of o ≡ class.Flow → is_sleep o ≡ false → (reached : List ℕ → Cpu → Done × Cpu)
    → ((flash : List ℕ) (cpu : Cpu) (b : NodeBus) → flow_effect bus_get bus_put flash o cpu b ≡ (let a : Outcome NodeBus = record { result = Ok (reached flash cpu).0; cpu = (reached flash cpu).1; bus = b } in a))
    → IsStill o bus
flows o bus is awake reached gives = record {
  wakes = awake;
  reached = reached;
  does = λ flash cpu u t n. sym (by_class class.Flow flash o cpu (bus_later u t n bus) is) ∙ gives flash cpu (bus_later u t n bus);
}

pub steers_still : (o : Op) (bus : NodeBus) → is_steering o ≡ true → IsStill o bus
unfolding flow_effect
steers_still (op.Rjmp k) bus e = flows (op.Rjmp k) bus refl refl (λ flash cpu. (done 2, at_pc (relative k cpu) cpu)) (λ flash cpu b. refl)
steers_still (op.Brbs s k) bus e = flows (op.Brbs s k) bus refl refl (λ flash cpu. branched (bit_is true (s % 8) cpu.sreg.bits) k cpu) (λ flash cpu b. refl)
steers_still (op.Brbc s k) bus e = flows (op.Brbc s k) bus refl refl (λ flash cpu. branched (bit_is false (s % 8) cpu.sreg.bits) k cpu) (λ flash cpu b. refl)
steers_still (op.Cpse d r) bus e = flows (op.Cpse d r) bus refl refl (λ flash cpu. skipped flash (slice_index cpu.r d == slice_index cpu.r r) cpu) (λ flash cpu b. refl)
steers_still (op.Sbrs r b) bus e = flows (op.Sbrs r b) bus refl refl (λ flash cpu. skipped flash (bit_is true (b % 8) (slice_index cpu.r r)) cpu) (λ flash cpu b. refl)
steers_still (op.Sbrc r b) bus e = flows (op.Sbrc r b) bus refl refl (λ flash cpu. skipped flash (bit_is false (b % 8) (slice_index cpu.r r)) cpu) (λ flash cpu b. refl)
steers_still _ bus e = absurd (false≢true e)

pub load_still : (o : Op) (bus : NodeBus) (at : ℕ) → IsLoad o at → LoadsStill bus at → IsStill o bus
unfolding flow_effect memory_effect
load_still (op.Sbis a b) bus at e h = record {
  wakes = refl;
  reached = λ flash cpu. skipped flash (bit_is true (b % 8) (byte_by at cpu h.byte)) cpu;
  does = λ flash cpu u t n. sym (by_class class.Flow flash (op.Sbis a b) cpu (bus_later u t n bus) refl) ∙ skips_still bus at h cpu u t n flash a (b % 8) true e;
}
load_still (op.Sbic a b) bus at e h = record {
  wakes = refl;
  reached = λ flash cpu. skipped flash (bit_is false (b % 8) (byte_by at cpu h.byte)) cpu;
  does = λ flash cpu u t n. sym (by_class class.Flow flash (op.Sbic a b) cpu (bus_later u t n bus) refl) ∙ skips_still bus at h cpu u t n flash a (b % 8) false e;
}
load_still (op.InIo d a) bus at e h = record {
  wakes = refl;
  reached = λ flash cpu. (done 1, advanced 1 (with_reg d (byte_by at cpu h.byte) cpu));
  does = λ flash cpu u t n. sym (by_class class.Memory flash (op.InIo d a) cpu (bus_later u t n bus) refl)
      ∙ (ap (λ (k : ℕ). loads bus_get d k 1 1 cpu (bus_later u t n bus)) (sym e) ∙ loads_still bus at h cpu u t n d 1 1);
}
load_still (op.Lds d k) bus at e h = record {
  wakes = refl;
  reached = λ flash cpu. (done 2, advanced 2 (with_reg d (byte_by at cpu h.byte) cpu));
  does = λ flash cpu u t n. sym (by_class class.Memory flash (op.Lds d k) cpu (bus_later u t n bus) refl)
      ∙ (ap (λ (i : ℕ). loads bus_get d i 2 2 cpu (bus_later u t n bus)) (sym e) ∙ loads_still bus at h cpu u t n d 2 2);
}
load_still _ bus at e h = absurd e

-- ---- what such an instruction did
pub none_later : (bus : NodeBus) → bus_later bus.io.clock 0 0 bus ≡ bus
none_later bus = ap (λ (b : Board). with_io bus (clocked bus.io.clock b)) (leap_zero 0 bus.io.board)

module _ (o : Op) (bus : NodeBus) (h : IsStill o bus) (flash : List ℕ) (cpu : Cpu) where
  abbrev reaches : NodeBus → Outcome NodeBus
  reaches b = record { result = Ok (h.reached flash cpu).0; cpu = (h.reached flash cpu).1; bus = b }

  here : executed flash o cpu bus ≡ reaches bus
  here = subst (λ (b : NodeBus). executed flash o cpu b ≡ reaches b) (none_later bus) (h.does flash cpu bus.io.clock 0 0)

  pub leaves : (a : Outcome NodeBus) → a ≡ executed flash o cpu bus → a.bus ≡ bus
  leaves a e = ap (λ (x : Outcome NodeBus). x.bus) (e ∙ here)

  pub did : (a : Outcome NodeBus) → a ≡ executed flash o cpu bus → (d : Done) → a.result ≡ Ok d → (u t n : ℕ)
      → (let x : Outcome NodeBus = record { result = Ok (done d.cycles); cpu = a.cpu; bus = bus_later u t n bus } in x) ≡ executed flash o cpu (bus_later u t n bus)
  did a e d is u t n =
      let goes_on : (let k : Done = record { cycles = d.cycles; sleep = false } in k) ≡ d =
      λ i. (let k : Done = record { cycles = d.cycles; sleep = sym (wakes a flash o cpu bus d e is h.wakes) i } in k) in
      let result : Ok (done d.cycles) ≡ Ok (h.reached flash cpu).0 =
      ap (λ (k : Done). let r : Result Done StopCause = Ok k in r) goes_on ∙ (sym is ∙ ap (λ (x : Outcome NodeBus). x.result) (e ∙ here)) in
      let core = ap (λ (x : Outcome NodeBus). x.cpu) (e ∙ here) in
      (λ i. let x : Outcome NodeBus = record { result = result i; cpu = core i; bus = bus_later u t n bus } in x) ∙ sym (h.does flash cpu u t n)
