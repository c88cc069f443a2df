-- What the instructions on memory do, one definition for each shape of instruction (AVR Instruction Set Manual,
-- "Operation", "Words" and "Cycles"): loads, stores, loads from the flash, the stack and single bits of I/O registers.
-- A pointer is named by the lower register of its pair; addresses of data are modulo 65,536, of the flash 131,072.
use Rattle.std.specs.Prelude.{ℕ, ◌+◌, ◌%◌, Bool, if◌then◌else◌, nat_le, List, Result, Ok, slice_index}
use Rattle.avr_base.specs.declared.stop.StopCause.{StopCause}
use Rattle.avr_base.specs.Flags.{with_bit}
use Rattle.data_space.specs.declared.bus.Done.{Done}
use Rattle.data_space.specs.declared.cpu.Cpu.{Cpu}
use Rattle.data_space.specs.Core.{advanced, pair_at, with_pair, with_reg}
use Rattle.data_space.specs.Space.{Access, loaded, stored, pushed, popped, unless_stopped}
use Rattle.data_space.specs.Sequence.{done, then_do}
use Rattle.ihex_loader.specs.Flash.{byte_at}

-- the end of an instruction of so many words after so many cycles
abbrev pub ends : {B : Type 0} → ℕ → ℕ → Cpu → B → Access Done B
ends words cycles cpu bus = record { result = Ok (done cycles); cpu = advanced words cpu; bus = bus }

-- the data address of a pointer with a displacement
abbrev pub displaced : ℕ → ℕ → Cpu → ℕ
displaced p q cpu = (pair_at p cpu + q) % 65536

-- the data address before a pointer, which a pre-decrement gives it
abbrev pub decremented : ℕ → Cpu → ℕ
decremented p cpu = (pair_at p cpu + 65535) % 65536

-- rD becomes the byte at a data address
unfoldable pub loads : {B : Type 0} → (B → ℕ → Result (ℕ × B) StopCause) → ℕ → ℕ → ℕ → ℕ → Cpu → B → Access Done B
loads get d at words cycles cpu bus =
    let got = loaded get at cpu bus in
    then_do got got.result (λ byte cpu bus. ends words cycles (with_reg d byte cpu) bus)

-- post-increment: rD becomes the byte at a pointer, which is then one higher
unfoldable pub loads_post_increment : {B : Type 0} → (B → ℕ → Result (ℕ × B) StopCause) → ℕ → ℕ → Cpu → B → Access Done B
loads_post_increment get d p cpu bus =
    let next = displaced p 1 cpu in
    let got = loaded get (pair_at p cpu) cpu bus in
    then_do got got.result (λ byte cpu bus. ends 1 2 (with_pair p next (with_reg d byte cpu)) bus)

-- pre-decrement: a pointer is one lower, and then rD becomes the byte at it
unfoldable pub loads_pre_decrement : {B : Type 0} → (B → ℕ → Result (ℕ × B) StopCause) → ℕ → ℕ → Cpu → B → Access Done B
loads_pre_decrement get d p cpu bus =
    let at = decremented p cpu in
    let access = loaded get at (with_pair p at cpu) bus in
    let settled = unless_stopped cpu access access.result in
    then_do settled settled.result (λ byte cpu bus. ends 1 2 (with_reg d byte cpu) bus)

-- the byte at a data address becomes x
unfoldable pub stores : {B : Type 0} → (B → ℕ → ℕ → Result B StopCause) → ℕ → ℕ → ℕ → ℕ → Cpu → B → Access Done B
stores put at x words cycles cpu bus =
    let access = stored put at x cpu bus in
    then_do access access.result (λ _ cpu bus. ends words cycles cpu bus)

-- post-increment: the byte at a pointer becomes rR, and the pointer is then one higher than it was
unfoldable pub stores_post_increment : {B : Type 0} → (B → ℕ → ℕ → Result B StopCause) → ℕ → ℕ → Cpu → B → Access Done B
stores_post_increment put p r cpu bus =
    let next = displaced p 1 cpu in
    let access = stored put (pair_at p cpu) (slice_index cpu.r r) cpu bus in
    then_do access access.result (λ _ cpu bus. ends 1 2 (with_pair p next cpu) bus)

-- pre-decrement: a pointer is one lower, and then the byte at it becomes rR
unfoldable pub stores_pre_decrement : {B : Type 0} → (B → ℕ → ℕ → Result B StopCause) → ℕ → ℕ → Cpu → B → Access Done B
stores_pre_decrement put p r cpu bus =
    let at = decremented p cpu in
    let lower = with_pair p at cpu in
    let access = stored put at (slice_index lower.r r) lower bus in
    let settled = unless_stopped cpu access access.result in
    then_do settled settled.result (λ _ cpu bus. ends 1 2 cpu bus)

-- rR is pushed
unfoldable pub pushes : {B : Type 0} → (B → ℕ → ℕ → Result B StopCause) → ℕ → Cpu → B → Access Done B
pushes put r cpu bus =
    let access = pushed put (slice_index cpu.r r) cpu bus in
    then_do access access.result (λ _ cpu bus. ends 1 2 cpu bus)

-- rD becomes the byte that is popped
unfoldable pub pops : {B : Type 0} → (B → ℕ → Result (ℕ × B) StopCause) → ℕ → Cpu → B → Access Done B
pops get d cpu bus =
    let got = popped get cpu bus in
    then_do got got.result (λ byte cpu bus. ends 1 2 (with_reg d byte cpu) bus)

-- bit b of an I/O register is set or cleared: the whole byte is loaded and stored
unfoldable pub sets_bit : {B : Type 0} → (B → ℕ → Result (ℕ × B) StopCause) → (B → ℕ → ℕ → Result B StopCause) → ℕ → ℕ → Bool → Cpu → B → Access Done B
sets_bit get put a b on cpu bus =
    let got = loaded get (a + 0x20) cpu bus in
    then_do got got.result (λ byte cpu bus. stores put (a + 0x20) (with_bit byte b on) 1 2 cpu bus)

-- the byte address of the flash that RAMPZ and Z name
abbrev pub extended_z : Cpu → ℕ
extended_z cpu = (if cpu.rampz then 65536 else 0) + pair_at 30 cpu

-- with this byte address in RAMPZ and Z
abbrev pub with_extended_z : ℕ → Cpu → Cpu
with_extended_z at cpu = record (with_pair 30 (at % 65536) cpu) { rampz = nat_le 65536 at }

-- rD becomes the byte of the flash at Z
abbrev pub loads_program : List ℕ → ℕ → Cpu → Cpu
loads_program flash d cpu = with_reg d (byte_at flash (pair_at 30 cpu)) cpu

-- rD becomes the byte of the flash at Z, and Z is then one higher
unfoldable pub loads_program_post_increment : List ℕ → ℕ → Cpu → Cpu
loads_program_post_increment flash d cpu = with_pair 30 (displaced 30 1 cpu) (loads_program flash d cpu)

-- rD becomes the byte of the flash at RAMPZ and Z
abbrev pub loads_extended : List ℕ → ℕ → Cpu → Cpu
loads_extended flash d cpu = with_reg d (byte_at flash (extended_z cpu)) cpu

-- rD becomes the byte of the flash at RAMPZ and Z, which are then one higher together
unfoldable pub loads_extended_post_increment : List ℕ → ℕ → Cpu → Cpu
loads_extended_post_increment flash d cpu = with_extended_z ((extended_z cpu + 1) % 131072) (loads_extended flash d cpu)
