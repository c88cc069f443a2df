-- What comes back from the stack (AVR Instruction Set Manual: PUSH, POP, CALL, RCALL, ICALL, RET), over a bus that
-- keeps what is put.
use Rattle.std.specs.Prelude.{◌≡◌, ◌≢◌, ℕ, ◌+◌, ◌-◌, ◌/◌, ◌%◌, ◌≤◌, ◌<◌, Bool, true, List, Result, Ok}
use Rattle.avr_base.specs.declared.stop.StopCause.{StopCause}
use Rattle.avr_decoder.specs.declared.op.Op.{Op}
use Rattle.avr_decoder.specs.declared.op.Op.TheVariants as op
use Rattle.data_space.specs.declared.cpu.Cpu.{Cpu}
use Rattle.data_space.specs.Core.{advanced}
use Rattle.data_space.specs.Sequence.{Outcome, done}
use Rattle.avr_core.specs.FlowTable.{flow_effect}
use Rattle.avr_core.specs.MemoryTable.{memory_effect}

-- a bus, by what its accesses give
pub record Accesses (B : Type 0) : Type 0 where
  pub get : B → ℕ → Result (ℕ × B) StopCause
  pub put : B → ℕ → ℕ → Result B StopCause

-- between two data addresses a bus is a memory while it is sound, whatever that asks of it: what is put at an address
-- comes back from it, what stands at the others stays, and the bus is still sound
pub record IsMemory {B : Type 0} (a : Accesses B) (sound : B → Bool) (first last : ℕ) : Type 0 where
  pub kept : (bus bus' : B) (at x : ℕ) → sound bus ≡ true → first ≤ at → at ≤ last → a.put bus at x ≡ Ok bus' → sound bus' ≡ true
  pub back : (bus bus' : B) (at x : ℕ) → sound bus ≡ true → first ≤ at → at ≤ last → a.put bus at x ≡ Ok bus' → a.get bus' at ≡ Ok (x, bus')
  pub others : (bus bus' : B) (at other x y : ℕ) → sound bus ≡ true → first ≤ at → at ≤ last → first ≤ other → other ≤ last → at ≢ other
      → a.get bus other ≡ Ok (y, bus) → a.put bus at x ≡ Ok bus' → a.get bus' other ≡ Ok (y, bus')

-- the stack pointer is between two data addresses, with room for so many bytes
pub record HasRoom (first last room : ℕ) (cpu : Cpu) : Type 0 where
  pub low : first + room ≤ cpu.sp + 1
  pub high : cpu.sp ≤ last

-- from `first` to `last`, behind the core's own registers, there is a stack while the bus is sound, and the stack
-- pointer is in it, with room for so many bytes
pub record IsStack {B : Type 0} (a : Accesses B) (sound : B → Bool) (first last room : ℕ) (cpu : Cpu) : Type 0 where
  pub memory : IsMemory a sound first last
  pub behind : 0x60 ≤ first
  pub small : last < 65536
  pub within : HasRoom first last room cpu

-- an instruction ended, after so many cycles, with this core and this bus
abbrev pub ended : {B : Type 0} → ℕ → Cpu → B → Outcome B
ended cycles cpu bus = record { result = Ok (done cycles); cpu = cpu; bus = bus }

-- one instruction on memory after another
abbrev pub then_memory : {B : Type 0} → Accesses B → List ℕ → Op → Outcome B → Outcome B
then_memory a flash instruction before = memory_effect a.get a.put flash instruction before.cpu before.bus

-- an instruction of the program's flow after another
abbrev pub then_flow : {B : Type 0} → Accesses B → List ℕ → Op → Outcome B → Outcome B
then_flow a flash instruction before = flow_effect a.get a.put flash instruction before.cpu before.bus

-- a bus takes the two bytes of the address so many words on, the low one first
pub record TakesReturn {B : Type 0} (a : Accesses B) (words : ℕ) (cpu : Cpu) (bus mid bus' : B) : Type 0 where
  pub low : a.put bus cpu.sp ((cpu.pc + words) % 65536 % 256) ≡ Ok mid
  pub high : a.put mid (cpu.sp - 1) ((cpu.pc + words) % 65536 / 256) ≡ Ok bus'

-- a call of so many words and the return that follows it: the program goes on behind the call, and all else of the core
-- is as before
abbrev pub ComesBack : {B : Type 0} → Accesses B → List ℕ → Op → ℕ → Cpu → B → B → Type 0
ComesBack a flash call words cpu bus bus' =
    then_flow a flash op.Ret (flow_effect a.get a.put flash call cpu bus) ≡ ended 4 (advanced words cpu) bus'
