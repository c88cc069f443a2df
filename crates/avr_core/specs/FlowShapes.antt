-- What the instructions of the program's flow do, one definition for each shape of instruction (AVR Instruction Set
-- Manual, "Operation", "Program Counter", "Stack" and "Cycles"): jumps, branches, skips, calls and returns. Program
-- addresses are in words, modulo 65,536.
use Rattle.std.specs.Prelude.{ℕ, ◌+◌, ◌%◌, ℤ, Bool, true, not, if◌then◌else◌, List, Result, Ok}
use Rattle.std.specs.Int.{w16, cast_unsigned}
use Rattle.avr_base.specs.declared.stop.StopCause.{StopCause}
use Rattle.avr_base.specs.Flags.{I, has_bit, with_flag}
use Rattle.avr_decoder.specs.Words.{is_two_words}
use Rattle.data_space.specs.declared.bus.Done.{Done}
use Rattle.data_space.specs.declared.cpu.Core.{Core}
use Rattle.data_space.specs.declared.cpu.Cpu.{Cpu}
use Rattle.data_space.specs.Core.{advanced, core_of}
use Rattle.data_space.specs.Space.{Access, loaded}
use Rattle.data_space.specs.Sequence.{done, popped_word, pushed_word, then_do}
use Rattle.ihex_loader.specs.Flash.{word_at}

-- the end of an instruction, by what it reports and the core that it leaves: there is no further access
abbrev pub ends : {B : Type 0} → Done × Cpu → B → Access Done B
ends reached bus = record { result = Ok reached.0; cpu = reached.1; bus = bus }

-- the core at this program address
abbrev pub at_pc : ℕ → Cpu → Cpu
at_pc pc cpu = record cpu { pc = pc }

-- the program address so many words, which may be negative, behind the next word
abbrev pub relative : ℤ → Cpu → ℕ
relative k cpu = (cpu.pc + 1 + cast_unsigned w16 k) % 65536

-- what an instruction reports, and the SREG and program counter that it leaves
abbrev pub reached : Done × Cpu → Done × Core
reached ended = (ended.0, core_of ended.1)

-- a jump: what it reports, and the core
abbrev pub jumped : ℕ → ℕ → Cpu → Done × Cpu
jumped cycles pc cpu = (done cycles, at_pc pc cpu)

-- a branch of k words where `on`
unfoldable pub branched : Bool → ℤ → Cpu → Done × Cpu
branched on k cpu = if on then jumped 2 (relative k cpu) cpu else (done 1, advanced 1 cpu)

-- the words by which the program goes on that leaves out the next instruction where `on`
unfoldable pub skipping : List ℕ → Bool → Cpu → ℕ
skipping flash on cpu = if on then (if is_two_words (word_at flash ((cpu.pc + 1) % 65536)) then 3 else 2) else 1

-- a skip, which takes a cycle for each of these words
abbrev pub skipped : List ℕ → Bool → Cpu → Done × Cpu
skipped flash on cpu = let words = skipping flash on cpu in (done words, advanced words cpu)

-- whether bit b of a byte is set, or is clear
abbrev pub bit_is : Bool → ℕ → ℕ → Bool
bit_is on b byte = if on then has_bit byte b else not (has_bit byte b)

-- a skip by a bit of an I/O register, which is loaded
unfoldable pub skips_by_io : {B : Type 0} → (B → ℕ → Result (ℕ × B) StopCause) → List ℕ → ℕ → ℕ → Bool → Cpu → B → Access Done B
skips_by_io get flash a b on cpu bus =
    let got = loaded get (a + 0x20) cpu bus in
    then_do got got.result (λ byte cpu bus. ends (skipped flash (bit_is on b byte) cpu) bus)

-- the address so many words on is pushed
abbrev pub pushes_return : {B : Type 0} → (B → ℕ → ℕ → Result B StopCause) → ℕ → Cpu → B → Access (Unit {0}) B
pushes_return put words cpu bus = pushed_word put ((cpu.pc + words) % 65536) cpu bus

-- a call by an instruction of so many words; the address that it goes to is read from the core after the pushes
unfoldable pub calls : {B : Type 0} → (B → ℕ → ℕ → Result B StopCause) → ℕ → ℕ → (Cpu → ℕ) → Cpu → B → Access Done B
calls put cycles words target cpu bus =
    let back = pushes_return put words cpu bus in
    then_do back back.result (λ _ cpu bus. ends (jumped cycles (target cpu) cpu) bus)

-- a return
unfoldable pub returns : {B : Type 0} → (B → ℕ → Result (ℕ × B) StopCause) → Cpu → B → Access Done B
returns get cpu bus =
    let back = popped_word get cpu bus in
    then_do back back.result (λ pc cpu bus. ends (jumped 4 pc cpu) bus)

-- a return from an interrupt, which sets flag I last
unfoldable pub returns_enabling : {B : Type 0} → (B → ℕ → Result (ℕ × B) StopCause) → Cpu → B → Access Done B
returns_enabling get cpu bus =
    let back = popped_word get cpu bus in
    then_do back back.result (λ pc cpu bus.
    ends (jumped 4 pc (record cpu { sreg = record { bits = with_flag cpu.sreg.bits I true } })) bus)
