-- SEI and RETI leave the flag I set, where they do not stop.
use Rattle.std.proofs.Common.{◌≡◌, ◌≤◌, ℕ, List, true, sym, subst, ◌∙◌, arith}
use Rattle.std.proofs.lemmas.Bool.{false≢true}
use Rattle.std.proofs.lemmas.Bool.Decides.{nat_tests}
use Rattle.std.specs.Prelude.{Result, Ok, Err, IfOk, ◌%◌, ◌==◌}
use Rattle.avr_base.specs.Flags.{with_flag}
use Rattle.avr_base.specs.declared.stop.StopCause.{StopCause}
use Rattle.data_space.specs.declared.bus.Done.{Done}
use Rattle.data_space.specs.declared.cpu.Cpu.{Cpu}
use Rattle.data_space.specs.Space.{Access}
use Rattle.avr_core.specs.ArithShapes.{sets_flag}
use Rattle.avr_core.specs.ArithTable.{effect}
use Rattle.data_space.specs.Sequence.{popped_word, then_do}
use Rattle.avr_core.specs.FlowShapes.{ends, jumped, returns_enabling}
use Rattle.avr_core.specs.FlowTable.{flow_effect}
use Rattle.node_core.specs.declared.bus.NodeBus.{NodeBus}
use Rattle.node_core.specs.Bus.{bus_get}
use Rattle.avr_core.specs.Execute.{executed_over}
use Rattle.node_core.specs.Execute.{executed}
use Rattle.avr_decoder.specs.declared.op.Op.{Op}
use Rattle.avr_decoder.specs.declared.op.Op.TheVariants as op
use Rattle.node_core.specs.Cycle.{is_sei}

flag_on : (bits : ℕ) → 128 ≤ with_flag bits 7 true
unfolding with_flag
flag_on bits = omega arith

abbrev SetsI : Access Done NodeBus → Type 0
SetsI a = IfOk a.result (λ d. 128 ≤ a.cpu.sreg.bits)

enabled : (a : Access ℕ NodeBus) (r : Result ℕ StopCause) → SetsI (then_do a r (λ pc cpu bus. ends (jumped 4 pc (record cpu { sreg = record { bits = with_flag cpu.sreg.bits 7 true } })) bus))
enabled a (Ok pc) = flag_on a.cpu.sreg.bits
enabled a (Err cause) = tt

reti_on : (cpu : Cpu) (bus : NodeBus) → SetsI (returns_enabling bus_get cpu bus)
unfolding returns_enabling
reti_on cpu bus = let back = popped_word bus_get cpu bus in enabled back back.result

seven_on : (bits s : ℕ) → (s == 7) ≡ true → 128 ≤ with_flag bits (s % 8) true
seven_on bits s e =
    let seven : s ≡ 7 = grind (arith, nat_tests) in
    subst (λ (k : ℕ). 128 ≤ with_flag bits (k % 8) true) (sym seven) (flag_on bits)

sets_on : (cpu : Cpu) (s : ℕ) → (s == 7) ≡ true → 128 ≤ (sets_flag (s % 8) true cpu).sreg.bits
unfolding sets_flag
sets_on cpu s e = seven_on cpu.sreg.bits s e

sei_on : (flash : List ℕ) (o : Op) (cpu : Cpu) (bus : NodeBus) → is_sei o ≡ true → IfOk {E = StopCause} (executed flash o cpu bus).result (λ d. 128 ≤ (executed flash o cpu bus).cpu.sreg.bits)
unfolding executed_over effect flow_effect
sei_on flash (op.Bset s) cpu bus e = sets_on cpu s e
sei_on flash op.Reti cpu bus e = reti_on cpu bus
sei_on flash _ cpu bus e = absurd (false≢true e)

went_on : (flash : List ℕ) (o : Op) (cpu : Cpu) (bus : NodeBus) (d : Done) (r : Result Done StopCause) (after : Cpu) → r ≡ Ok d → r ≡ (executed flash o cpu bus).result → after ≡ (executed flash o cpu bus).cpu
    → IfOk {E = StopCause} (executed flash o cpu bus).result (λ e. 128 ≤ (executed flash o cpu bus).cpu.sreg.bits) → 128 ≤ after.sreg.bits
went_on flash o cpu bus d r after ok same core on =
    let here : IfOk {E = StopCause} (Ok d) (λ (e : Done). 128 ≤ (executed flash o cpu bus).cpu.sreg.bits) =
    subst (λ (x : Result Done StopCause). IfOk {E = StopCause} x (λ (e : Done). 128 ≤ (executed flash o cpu bus).cpu.sreg.bits)) (sym same ∙ ok) on in
    subst (λ (c : Cpu). 128 ≤ c.sreg.bits) (sym core) here

-- an instruction that did not stop, of these two, left I set
pub sei_left_on : (flash : List ℕ) (o : Op) (cpu : Cpu) (bus : NodeBus) (d : Done) (r : Result Done StopCause) (after : Cpu) → r ≡ Ok d → r ≡ (executed flash o cpu bus).result → after ≡ (executed flash o cpu bus).cpu
    → is_sei o ≡ true → 128 ≤ after.sreg.bits
sei_left_on flash o cpu bus d r after ok same core sei = went_on flash o cpu bus d r after ok same core (sei_on flash o cpu bus sei)
