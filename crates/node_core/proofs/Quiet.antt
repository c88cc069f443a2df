-- What an instruction leaves: SEI and RETI are those that enable, an instruction that neither enables nor stores leaves
-- the flag I as it was, one that leaves a single cycle takes one, and one that neither loads nor stores leaves the data
-- space.
use Rattle.std.proofs.Common.{◌≡◌, ℕ, ◌/◌, ◌&&◌, ◌==◌, if◌then◌else◌, nat_le, nat_lt, Bool, true, false, List, refl, ap, sym, subst, ◌∙◌, arith}
use Rattle.std.proofs.lemmas.Bool.{and_parts, eqb-true, false≢true}
use Rattle.std.proofs.lemmas.Bool.Decides.{nat_tests}
use Rattle.std.specs.Prelude.{Result, Ok, IfOk}
use Rattle.avr_base.specs.declared.sreg.Sreg.{Sreg}
use Rattle.avr_base.specs.declared.stop.StopCause.{StopCause}
use Rattle.avr_decoder.specs.Class.{class_of}
use Rattle.avr_decoder.specs.declared.op.Class.{Class}
use Rattle.avr_decoder.specs.declared.op.Class.TheVariants as class
use Rattle.avr_decoder.specs.declared.op.Op.{Op}
use Rattle.avr_decoder.specs.declared.op.Op.TheVariants as op
use Rattle.avr_core.specs.ArithTable.{arith_cycles}
use Rattle.avr_core.proofs.KeepsI.{arith_keeps_i, sets_a_flag}
use Rattle.avr_core.specs.FlowTable.{flow_effect}
use Rattle.avr_core.specs.MemoryTable.{memory_effect}
use Rattle.avr_core.proofs.Flags.{flow_keeps_flags, memory_keeps_flags, writes_in_flow, writes_in_memory}
use Rattle.data_space.specs.declared.bus.Done.{Done}
use Rattle.data_space.specs.declared.cpu.Cpu.{Cpu}
use Rattle.node_core.specs.declared.bus.NodeBus.{NodeBus}
use Rattle.avr_core.specs.declared.instructions.After.{After}
use Rattle.avr_core.specs.declared.instructions.After.TheVariants as after
use Rattle.node_core.specs.Bus.{bus_get, bus_put}
use Rattle.node_core.specs.Cycle.{is_sei}
use Rattle.avr_core.specs.Execute.{after_of, executed_over, is_short_back}
use Rattle.node_core.specs.Execute.{executed, executed_by}
use Rattle.node_core.specs.Pace.Midway.{turned_on}
use Rattle.avr_core.proofs.Executes.{is_arith}

-- behind which the flag I may be another
abbrev pub may_change : After → Bool
may_change after.Store = true
may_change after.Enabled = true
may_change _ = false

abbrev pub is_enabled : After → Bool
is_enabled after.Enabled = true
is_enabled _ = false

-- ---- SEI and RETI
-- of setting a flag, of a jump
bset_enables : (b : Bool) → is_enabled (if b then after.Enabled else after.Store) ≡ b
bset_enables true = refl
bset_enables false = refl

jump_enables : (b : Bool) → is_enabled (if b then after.Back else after.Nothing) ≡ false
jump_enables true = refl
jump_enables false = refl

pub enables : (o : Op) → is_sei o ≡ is_enabled (after_of o)
enables (op.Bset s) = sym (bset_enables (s == 7))
enables op.Reti = refl
enables (op.Rjmp k) = sym (jump_enables (is_short_back k))
enables (op.Brbs s k) = sym (jump_enables (is_short_back k))
enables (op.Brbc s k) = sym (jump_enables (is_short_back k))
enables _ = refl

-- ---- the flag I as it was
bset_may : (b : Bool) → may_change (if b then after.Enabled else after.Store) ≡ true
bset_may true = refl
bset_may false = refl

no_flag : (o : Op) → may_change (after_of o) ≡ false → sets_a_flag o ≡ false
no_flag (op.Bset s) e = absurd (false≢true (sym e ∙ bset_may (s == 7)))
no_flag (op.Bclr s) e = absurd (false≢true (sym e))
no_flag _ e = refl

no_flow_write : (o : Op) → may_change (after_of o) ≡ false → writes_in_flow o ≡ false
no_flow_write op.Nop h = refl
no_flow_write _ h = cc

no_memory_write : (o : Op) → may_change (after_of o) ≡ false → writes_in_memory o ≡ false
no_memory_write op.Nop h = refl
no_memory_write _ h = cc

same_half : (a b : ℕ) → b / 128 ≡ a / 128 → (p q : Bool) → nat_lt a 128 ≡ p → nat_lt b 128 ≡ q → q ≡ p
same_half a b half true true e f = refl
same_half a b half false false e f = refl
same_half a b half true false e f = absurd (grind (arith, nat_tests))
same_half a b half false true e f = absurd (grind (arith, nat_tests))

module _ (flash : List ℕ) (o : Op) (cpu : Cpu) (bus : NodeBus) (apart : may_change (after_of o) ≡ false) where
  by_class : (k : Class) → (executed_by k flash o cpu bus).cpu.sreg.bits / 128 ≡ cpu.sreg.bits / 128
  by_class class.Arith = arith_keeps_i o cpu (no_flag o apart)
  by_class class.Flow = ap (λ (s : Sreg). s.bits / 128) (flow_keeps_flags bus_get bus_put flash o cpu bus (no_flow_write o apart))
  by_class class.Memory = ap (λ (s : Sreg). s.bits / 128) (memory_keeps_flags bus_get bus_put flash o cpu bus (no_memory_write o apart))
  by_class (class.Halting cause) = refl

  stays : (executed flash o cpu bus).cpu.sreg.bits / 128 ≡ cpu.sreg.bits / 128
  unfolding executed_over
  stays = by_class (class_of o)

pub keeps_i : (flash : List ℕ) (o : Op) (cpu : Cpu) (bus : NodeBus) → may_change (after_of o) ≡ false → nat_lt (executed flash o cpu bus).cpu.sreg.bits 128 ≡ nat_lt cpu.sreg.bits 128
keeps_i flash o cpu bus apart =
    same_half cpu.sreg.bits (executed flash o cpu bus).cpu.sreg.bits (stays flash o cpu bus apart) _ _ refl refl

-- so it does not turn it on
not_turned : (a b : ℕ) → nat_lt b 128 ≡ nat_lt a 128 → (p q : Bool) → nat_lt a 128 ≡ p → nat_le 128 b ≡ q → (p && q) ≡ false
not_turned a b same false q e f = refl
not_turned a b same true false e f = refl
not_turned a b same true true e f = let low = same ∙ e in absurd (grind (arith, nat_tests))

pub quiet : (a b : ℕ) → nat_lt b 128 ≡ nat_lt a 128 → turned_on a b ≡ false
quiet a b same = not_turned a b same _ _ refl refl

-- ---- a single cycle
abbrev pub is_single : After → Bool
is_single after.Single = true
is_single _ = false

jump_single : (b : Bool) → is_single (if b then after.Back else after.Nothing) ≡ false
jump_single true = refl
jump_single false = refl

-- it is left only by an instruction on registers of one cycle
takes_one : (o : Op) → is_single (after_of o) ≡ true → (is_arith (class_of o) && arith_cycles o == 1) ≡ true
takes_one (op.Bset s) e = refl
takes_one (op.Bclr s) e = refl
takes_one (op.Rjmp k) e = absurd (false≢true (sym (jump_single (is_short_back k)) ∙ e))
takes_one (op.Brbs s k) e = absurd (false≢true (sym (jump_single (is_short_back k)) ∙ e))
takes_one (op.Brbc s k) e = absurd (false≢true (sym (jump_single (is_short_back k)) ∙ e))
takes_one _ e = e

module _ (flash : List ℕ) (o : Op) (cpu : Cpu) (bus : NodeBus) (d : Done) (one : arith_cycles o ≡ 1) where
  cycles_by : (k : Class) → is_arith k ≡ true → (executed_by k flash o cpu bus).result ≡ Ok d → d.cycles ≡ 1
  cycles_by class.Arith e ok = subst (λ (r : Result Done StopCause). IfOk r (λ (x : Done). x.cycles ≡ 1)) ok one
  cycles_by class.Flow e ok = absurd (false≢true e)
  cycles_by class.Memory e ok = absurd (false≢true e)
  cycles_by (class.Halting cause) e ok = absurd (false≢true e)

pub single_cycle : (flash : List ℕ) (o : Op) (cpu : Cpu) (bus : NodeBus) (d : Done) → after_of o ≡ after.Single → (executed flash o cpu bus).result ≡ Ok d → d.cycles ≡ 1
unfolding executed_over
single_cycle flash o cpu bus d left ok =
    let parts = and_parts _ _ (takes_one o (ap is_single left)) in
    cycles_by flash o cpu bus d (eqb-true _ _ parts.1) (class_of o) parts.0 ok

-- ---- the data space as it was
abbrev pub may_access : After → Bool
may_access after.Loaded = true
may_access after.Store = true
may_access after.Enabled = true
may_access _ = false

module _ (flash : List ℕ) (cpu : Cpu) (bus : NodeBus) where
  flow_apart : (o : Op) → may_access (after_of o) ≡ false → (flow_effect bus_get bus_put flash o cpu bus).bus ≡ bus
  unfolding flow_effect
  flow_apart op.Nop h = refl
  flow_apart _ h = cc

  memory_apart : (o : Op) → may_access (after_of o) ≡ false → (memory_effect bus_get bus_put flash o cpu bus).bus ≡ bus
  unfolding memory_effect
  memory_apart op.Nop h = refl
  memory_apart _ h = cc

  apart_by : (o : Op) → may_access (after_of o) ≡ false → (k : Class) → (executed_by k flash o cpu bus).bus ≡ bus
  apart_by o h class.Arith = refl
  apart_by o h class.Flow = flow_apart o h
  apart_by o h class.Memory = memory_apart o h
  apart_by o h (class.Halting cause) = refl

  -- an instruction that neither loads nor stores leaves it
  pub keeps_bus : (o : Op) → may_access (after_of o) ≡ false → (executed flash o cpu bus).bus ≡ bus
  unfolding executed_over
  keeps_bus o h = apart_by o h (class_of o)
