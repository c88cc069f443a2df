-- The effect of one instruction on the core and the data space (AVR Instruction Set Manual), by its class: the tables
-- of this crate. An instruction that halts changes nothing.
use Rattle.std.specs.Prelude.{Option, Some, None, ℕ, nat_le, ◌+◌, ◌%◌, ◌==◌, ◌&&◌, ℤ, pos, negsuc, int_lt, int_le, if◌then◌else◌, not, Bool, true, false, List, Result, Ok, Err}
use Rattle.avr_base.specs.declared.stop.StopCause.{StopCause}
use Rattle.avr_decoder.specs.declared.op.Op.{Op}
use Rattle.avr_decoder.specs.declared.op.Op.TheVariants as op
use Rattle.avr_decoder.specs.declared.op.Class.{Class}
use Rattle.avr_decoder.specs.declared.op.Class.TheVariants as class
use Rattle.avr_decoder.specs.Class.{class_of}
use Rattle.data_space.specs.declared.cpu.Cpu.{Cpu}
use Rattle.data_space.specs.Core.{pair_at}
use Rattle.data_space.specs.declared.bus.Done.{Done}
use Rattle.data_space.specs.Sequence.{Outcome}
use Rattle.avr_core.specs.ArithTable.{arith_cpu, arith_cycles, arith_done}
use Rattle.avr_core.specs.FlowShapes.{bit_is}
use Rattle.avr_core.specs.FlowTable.{flow_effect}
use Rattle.avr_core.specs.MemoryShapes.{decremented, displaced}
use Rattle.avr_core.specs.MemoryTable.{memory_effect, x, y, z}
use Rattle.avr_core.specs.declared.instructions.After.{After}
use Rattle.avr_core.specs.declared.instructions.After.TheVariants as after

-- whether a data address is one of the internal SRAM (ATmega128 datasheet, "SRAM Data Memory")
abbrev pub in_sram : ℕ → Bool
in_sram at = nat_le 0x0100 at && nat_le at 0x10FF

-- whether an instruction is SLEEP
abbrev pub is_sleep : Op → Bool
is_sleep op.Sleep = true
is_sleep _ = false

-- over any bus, by what its loads and stores give
abbrev pub executed_over_by : {B : Type 0} → (B → ℕ → Result (ℕ × B) StopCause) → (B → ℕ → ℕ → Result B StopCause) → Class → List ℕ → Op → Cpu → B → Outcome B
executed_over_by get put class.Arith flash o cpu bus = record { result = Ok (arith_done o); cpu = arith_cpu o cpu; bus = bus }
executed_over_by get put class.Flow flash o cpu bus = flow_effect get put flash o cpu bus
executed_over_by get put class.Memory flash o cpu bus = memory_effect get put flash o cpu bus
executed_over_by get put (class.Halting cause) flash o cpu bus = record { result = Err cause; cpu = cpu; bus = bus }

unfoldable pub executed_over : {B : Type 0} → (B → ℕ → Result (ℕ × B) StopCause) → (B → ℕ → ℕ → Result B StopCause) → List ℕ → Op → Cpu → B → Outcome B
executed_over get put flash o cpu bus = executed_over_by get put (class_of o) flash o cpu bus

abbrev pub runs_on : Class → Bool
runs_on class.Arith = true
runs_on class.Flow = true
runs_on class.Memory = true
runs_on (class.Halting cause) = false

-- whether an instruction is neither SLEEP nor one that halts
abbrev pub is_plain : Op → Bool
is_plain op.Sleep = false
is_plain o = runs_on (class_of o)

-- whether a jump over k words goes back, by at most eight
abbrev pub is_short_back : ℤ → Bool
is_short_back k = int_lt k (pos 0) && int_le (negsuc 7) k

-- what is left of so many cycles alone, and of a jump over k words
abbrev pub after_cycles : ℕ → After
after_cycles n = if n == 1 then after.Single else after.Nothing

abbrev pub after_jump : ℤ → After
after_jump k = if is_short_back k then after.Back else after.Nothing

abbrev pub after_class : Class → Op → After
after_class class.Arith o = after_cycles (arith_cycles o)
after_class _ o = after.Nothing

-- what an instruction may leave that a loop over instructions looks at: a jump may go back, a load may be of a device's
-- register, a store may be to one or to SREG, one of the flags that BSET and BCLR change is I, SEI and RETI turn it on
abbrev pub after_of : Op → After
after_of (op.Bset s) = if s == 7 then after.Enabled else after.Store
after_of (op.Bclr s) = after.Store
after_of op.Reti = after.Enabled
after_of (op.Rjmp k) = after_jump k
after_of (op.Brbs s k) = after_jump k
after_of (op.Brbc s k) = after_jump k
after_of (op.Sbis a b) = after.Loaded
after_of (op.Sbic a b) = after.Loaded
after_of op.Ret = after.Loaded
after_of (op.LdX d) = after.Loaded
after_of (op.LddY d q) = after.Loaded
after_of (op.LddZ d q) = after.Loaded
after_of (op.Lds d k) = after.Loaded
after_of (op.InIo d a) = after.Loaded
after_of (op.LdXInc d) = after.Loaded
after_of (op.LdYInc d) = after.Loaded
after_of (op.LdZInc d) = after.Loaded
after_of (op.LdXDec d) = after.Loaded
after_of (op.LdYDec d) = after.Loaded
after_of (op.LdZDec d) = after.Loaded
after_of (op.Pop d) = after.Loaded
after_of (op.Call k) = after.Store
after_of (op.Rcall k) = after.Store
after_of op.Icall = after.Store
after_of (op.StX r) = after.Store
after_of (op.StdY q r) = after.Store
after_of (op.StdZ q r) = after.Store
after_of (op.Sts k r) = after.Store
after_of (op.OutIo a r) = after.Store
after_of (op.StXInc r) = after.Store
after_of (op.StYInc r) = after.Store
after_of (op.StZInc r) = after.Store
after_of (op.StXDec r) = after.Store
after_of (op.StYDec r) = after.Store
after_of (op.StZDec r) = after.Store
after_of (op.Push r) = after.Store
after_of (op.Sbi a b) = after.Store
after_of (op.Cbi a b) = after.Store
after_of o = after_class (class_of o) o

-- whether the return address on top of the stack lies in the internal SRAM
abbrev pub returns_by_sram : ℕ → Bool
returns_by_sram sp =
    let high = (sp + 1) % 65536 in
    in_sram high && in_sram ((high + 1) % 65536)

-- whether the return address that a call pushes comes to lie in it
abbrev pub calls_by_sram : ℕ → Bool
calls_by_sram sp = in_sram sp && in_sram ((sp + 65535) % 65536)

-- what a push came to that says whether it was there
abbrev pub pushed_as : Result Bool StopCause → Result (Unit {0}) StopCause
pushed_as (Ok here) = Ok tt
pushed_as (Err cause) = Err cause

-- whether an instruction is known to access bytes of the internal SRAM, and no other data; of the rarer ones it is not
-- asked
abbrev pub accesses_sram : Op → Cpu → Bool
accesses_sram (op.Call k) cpu = calls_by_sram cpu.sp
accesses_sram (op.Rcall k) cpu = calls_by_sram cpu.sp
accesses_sram op.Icall cpu = calls_by_sram cpu.sp
accesses_sram op.Ret cpu = returns_by_sram cpu.sp
accesses_sram (op.LdX d) cpu = in_sram (pair_at x cpu)
accesses_sram (op.LddY d q) cpu = in_sram (displaced y q cpu)
accesses_sram (op.LddZ d q) cpu = in_sram (displaced z q cpu)
accesses_sram (op.Lds d k) cpu = in_sram k
accesses_sram (op.LdXInc d) cpu = in_sram (pair_at x cpu)
accesses_sram (op.LdYInc d) cpu = in_sram (pair_at y cpu)
accesses_sram (op.LdZInc d) cpu = in_sram (pair_at z cpu)
accesses_sram (op.LdXDec d) cpu = in_sram (decremented x cpu)
accesses_sram (op.LdYDec d) cpu = in_sram (decremented y cpu)
accesses_sram (op.LdZDec d) cpu = in_sram (decremented z cpu)
accesses_sram (op.StX r) cpu = in_sram (pair_at x cpu)
accesses_sram (op.StdY q r) cpu = in_sram (displaced y q cpu)
accesses_sram (op.StdZ q r) cpu = in_sram (displaced z q cpu)
accesses_sram (op.Sts k r) cpu = in_sram k
accesses_sram (op.StXInc r) cpu = in_sram (pair_at x cpu)
accesses_sram (op.StYInc r) cpu = in_sram (pair_at y cpu)
accesses_sram (op.StZInc r) cpu = in_sram (pair_at z cpu)
accesses_sram (op.StXDec r) cpu = in_sram (decremented x cpu)
accesses_sram (op.StYDec r) cpu = in_sram (decremented y cpu)
accesses_sram (op.StZDec r) cpu = in_sram (decremented z cpu)
accesses_sram (op.Push r) cpu = in_sram cpu.sp
accesses_sram (op.Pop d) cpu = in_sram ((cpu.sp + 1) % 65536)
accesses_sram _ cpu = false

-- whether an instruction is a branch that is not taken
abbrev pub falls_through : Op → Cpu → Bool
falls_through (op.Brbs s k) cpu = not (bit_is true (s % 8) cpu.sreg.bits)
falls_through (op.Brbc s k) cpu = not (bit_is false (s % 8) cpu.sreg.bits)
falls_through _ cpu = false

-- what an access of the data space leaves, if not of the SRAM, and if of one of its bytes; what a branch leaves; and so
-- each instruction on this core
abbrev pub after_access : After → ℕ → After
after_access other at = if in_sram at then after.Nothing else other

abbrev pub after_branch : Bool → ℤ → After
after_branch on k = if not on then after.Single else after_jump k

abbrev pub after_at : Op → Cpu → After
after_at o cpu = if falls_through o cpu then after.Single else (if accesses_sram o cpu then after.Nothing else after_of o)

-- what a plain instruction leaves, what it reports, and the core and the data space behind it; of another nothing
pub record Left (B : Type 0) : Type 0 where
  pub after : After
  pub reported : Option (Result Done StopCause)
  pub cpu : Cpu
  pub bus : B

abbrev pub left_as : {B : Type 0} → Bool → After → Outcome B → Cpu → B → Left B
left_as true a out cpu bus = record { after = a; reported = Some out.result; cpu = out.cpu; bus = out.bus }
left_as false a out cpu bus = record { after = a; reported = None; cpu = cpu; bus = bus }

abbrev pub left_by : {B : Type 0} → (B → ℕ → Result (ℕ × B) StopCause) → (B → ℕ → ℕ → Result B StopCause) → List ℕ → Op → Cpu → B → Left B
left_by get put flash o cpu bus = left_as (is_plain o) (after_at o cpu) (executed_over get put flash o cpu bus) cpu bus
