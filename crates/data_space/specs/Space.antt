-- The data space (ATmega128 datasheet, "SRAM Data Memory" and "Stack Pointer"): which addresses are the core's own,
-- and what a load, a store, a push and a pop give, over any bus, by what its accesses give.
use Rattle.std.specs.Prelude.{ℕ, ◌+◌, ◌*◌, ◌/◌, ◌%◌, ◌==◌, nat_lt, if◌then◌else◌, Result, Ok, Err, slice_index}
use Rattle.avr_base.specs.declared.stop.StopCause.{StopCause}
use Rattle.data_space.specs.declared.cpu.Cpu.{Cpu}
use Rattle.data_space.specs.Core.{with_reg}

-- what an access ends in: its answer, and the core and the bus afterwards
pub record Access (R B : Type 0) : Type 0 where
  pub result : Result R StopCause
  pub cpu : Cpu
  pub bus : B

-- the core itself answers a byte
abbrev pub answers : {B : Type 0} → ℕ → Cpu → B → Access ℕ B
answers x cpu bus = record { result = Ok x; cpu = cpu; bus = bus }

-- a load of the bus, by what it gives
abbrev pub answered : {B : Type 0} → Cpu → B → Result (ℕ × B) StopCause → Access ℕ B
answered cpu bus (Ok given) = record { result = Ok given.0; cpu = cpu; bus = given.1 }
answered cpu bus (Err cause) = record { result = Err cause; cpu = cpu; bus = bus }

-- a load: r0 to r31 at 0x0000 to 0x001F, RAMPZ at 0x005B, SPL and SPH at 0x005D and 0x005E, SREG at 0x005F
unfoldable pub loaded : {B : Type 0} → (B → ℕ → Result (ℕ × B) StopCause) → ℕ → Cpu → B → Access ℕ B
loaded get at cpu bus =
    if nat_lt at 0x20 then answers (slice_index cpu.r at) cpu bus
    else if at == 0x5B then answers (if cpu.rampz then 1 else 0) cpu bus
    else if at == 0x5D then answers (cpu.sp % 256) cpu bus
    else if at == 0x5E then answers (cpu.sp / 256) cpu bus
    else if at == 0x5F then answers cpu.sreg.bits cpu bus
    else answered cpu bus (get bus at)

-- the core itself takes a byte, and is then so
abbrev pub takes : {B : Type 0} → Cpu → B → Access (Unit {0}) B
takes cpu bus = record { result = Ok tt; cpu = cpu; bus = bus }

-- a store to the bus, by what it gives
abbrev pub taken : {B : Type 0} → Cpu → B → Result B StopCause → Access (Unit {0}) B
taken cpu bus (Ok given) = record { result = Ok tt; cpu = cpu; bus = given }
taken cpu bus (Err cause) = record { result = Err cause; cpu = cpu; bus = bus }

-- a store, at the same addresses; of RAMPZ only bit 0 is kept
unfoldable pub stored : {B : Type 0} → (B → ℕ → ℕ → Result B StopCause) → ℕ → ℕ → Cpu → B → Access (Unit {0}) B
stored put at x cpu bus =
    if nat_lt at 0x20 then takes (with_reg at x cpu) bus
    else if at == 0x5B then takes (record cpu { rampz = x % 2 == 1 }) bus
    else if at == 0x5D then takes (record cpu { sp = cpu.sp / 256 * 256 + x }) bus
    else if at == 0x5E then takes (record cpu { sp = 256 * x + cpu.sp % 256 }) bus
    else if at == 0x5F then takes (record cpu { sreg = record { bits = x } }) bus
    else taken cpu bus (put bus at x)

-- the stack pointer after a store that did not stop
abbrev pub lowered : {B : Type 0} → ℕ → Access (Unit {0}) B → Result (Unit {0}) StopCause → Access (Unit {0}) B
lowered sp access (Ok done) = record access { cpu = record access.cpu { sp = sp } }
lowered sp access (Err cause) = access

-- a push: a store at the stack pointer, which is one lower afterwards, also where the store was to itself
unfoldable pub pushed : {B : Type 0} → (B → ℕ → ℕ → Result B StopCause) → ℕ → Cpu → B → Access (Unit {0}) B
pushed put x cpu bus =
    let access = stored put cpu.sp x cpu bus in lowered ((cpu.sp + 65535) % 65536) access access.result

-- an access for which the core was changed: where it stopped, the core is as it was before the change
abbrev pub unless_stopped : {R B : Type 0} → Cpu → Access R B → Result R StopCause → Access R B
unless_stopped before access (Ok answer) = access
unless_stopped before access (Err cause) = record access { cpu = before }

-- a pop: the stack pointer is one higher, and there is a load at it; where that stops, it is as before
unfoldable pub popped : {B : Type 0} → (B → ℕ → Result (ℕ × B) StopCause) → Cpu → B → Access ℕ B
popped get cpu bus =
    let sp = (cpu.sp + 1) % 65536 in
    let access = loaded get sp (record cpu { sp = sp }) bus in
    unless_stopped cpu access access.result
