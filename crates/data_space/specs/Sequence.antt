-- An instruction as a sequence of accesses to the data space (AVR Instruction Set Manual, "Operation"): each access
-- comes after those before it, and where one stops, nothing behind it happens.
use Rattle.std.specs.Prelude.{ℕ, ◌+◌, ◌*◌, ◌/◌, ◌%◌, false, Result, Ok, Err}
use Rattle.avr_base.specs.declared.stop.StopCause.{StopCause}
use Rattle.data_space.specs.declared.bus.Done.{Done}
use Rattle.data_space.specs.declared.cpu.Cpu.{Cpu}
use Rattle.data_space.specs.Space.{Access, answers, popped, pushed}

-- an access, and what follows on its answer, on the core and the bus that it leaves; where it stopped, all stays as it
-- and the accesses before it left it
abbrev pub then_do : {R S B : Type 0} → Access R B → Result R StopCause → (R → Cpu → B → Access S B) → Access S B
then_do access (Ok answer) rest = rest answer access.cpu access.bus
then_do access (Err cause) rest = record { result = Err cause; cpu = access.cpu; bus = access.bus }

-- what an instruction ends in: what it reports, or the cause of its stop. A stop keeps what the instruction's accesses
-- did before it
abbrev pub Outcome : Type 0 → Type 0
Outcome B = Access Done B

-- an instruction other than SLEEP is done after so many cycles
abbrev pub done : ℕ → Done
done cycles = record { cycles = cycles; sleep = false }

-- a word is pushed, its low byte first
unfoldable pub pushed_word : {B : Type 0} → (B → ℕ → ℕ → Result B StopCause) → ℕ → Cpu → B → Access (Unit {0}) B
pushed_word put word cpu bus =
    let low = pushed put (word % 256) cpu bus in
    then_do low low.result (λ _ cpu bus. pushed put (word / 256) cpu bus)

-- a word is popped, its high byte first
unfoldable pub popped_word : {B : Type 0} → (B → ℕ → Result (ℕ × B) StopCause) → Cpu → B → Access ℕ B
popped_word get cpu bus =
    let high = popped get cpu bus in
    then_do high high.result (λ above cpu bus.
    (let low = popped get cpu bus in
    then_do low low.result (λ below cpu bus. answers (256 * above + below) cpu bus)))
