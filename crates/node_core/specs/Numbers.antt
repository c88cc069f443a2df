-- The numbers of a node, by which it is saved and restored beside the I/O bytes that its board keeps and its SRAM: the
-- core's, then the board's. The core's are r0 to r31, SREG, SP, PC, RAMPZ, the cycles left of the last
-- instruction, whether an instruction is owed, whether it sleeps, the number of the cause that stopped it (0 for none)
-- and how many instructions it executed.
use Rattle.std.specs.Prelude.{ℕ, ◌==◌, nat_le, not, if◌then◌else◌, Bool, List, [], ◌∷◌, ◌++◌, Option, map, take, slice_index}
use Rattle.air_base.specs.Bounds.{LAST_CYCLE}
use Rattle.std.specs.List.{position}
use Rattle.avr_base.specs.Causes.{stop_number}
use Rattle.board_io.specs.Saved as board
use Rattle.device_base.specs.Bits.{bit}
use Rattle.device_base.specs.Numbers.{part}
use Rattle.device_base.specs.declared.numbers.TheConstants.{CORE_NUMBERS, DEVICE_NUMBERS}
use Rattle.node_core.specs.State.{NodeState}

-- the core's numbers behind its registers
abbrev pub core_tail : NodeState → List ℕ
core_tail s =
    s.cpu.sreg.bits
    ∷ s.cpu.sp
    ∷ s.cpu.pc
    ∷ bit s.cpu.rampz 1
    ∷ s.wait
    ∷ bit s.owed 1
    ∷ bit s.asleep 1
    ∷ stop_number s.stop
    ∷ s.count
    ∷ []

abbrev pub numbers_of : NodeState → List ℕ
numbers_of s = s.cpu.r ++ core_tail s ++ board.numbers_of s.board

-- a test for each number of the core, whether it is within its bound
unfoldable pub core_fits : List ℕ → List Bool
core_fits n =
    map (λ byte. nat_le byte 255) (take 33 n)
    ++ nat_le (slice_index n 33) 65535
    ∷ nat_le (slice_index n 34) 65535
    ∷ nat_le (slice_index n 35) 1
    ∷ nat_le (slice_index n 36) 7
    ∷ nat_le (slice_index n 37) 1
    ∷ nat_le (slice_index n 38) 1
    ∷ nat_le (slice_index n 39) 26
    ∷ nat_le (slice_index n 40) LAST_CYCLE
    ∷ []

-- the cycle before which no frame and no transfer ends, of a node that has reached this one, by its core's numbers: the devices of a stopped
-- node no longer move, so theirs may have passed
abbrev pub ends_from : ℕ → List ℕ → ℕ
ends_from cycle n = if slice_index n 39 == 0 then cycle else 0

-- a test for each number, whether it is within its bound, of a node that has reached this cycle
unfoldable pub fits : ℕ → List ℕ → List Bool
fits cycle n = core_fits (part 0 CORE_NUMBERS n) ++ board.fits (ends_from cycle n) (part CORE_NUMBERS DEVICE_NUMBERS n)

-- the place of the first number outside its bound
abbrev pub first_outside : ℕ → List ℕ → Option ℕ
first_outside cycle n = position not (fits cycle n)
