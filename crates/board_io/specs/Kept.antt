-- The bytes that the board itself keeps, by which it is saved and restored beside its devices: those of the registers
-- that no device has. Which of their bits a read can give as 1 (ATmega128 datasheet, the register descriptions): a bit
-- that stops a write of 1, or that is never kept, reads 0 for good.
use Rattle.std.specs.Prelude.{ℕ, ◌+◌, ◌-◌, ◌==◌, not, Bool, true, false, List, ◌++◌, Option, map, replicate, bit_and, if◌then◌else◌, slice_index}
use Rattle.std.specs.List.{position, range_with_len}
use Rattle.data_space.specs.declared.regions.TheConstants.{IO_COUNT}
use Rattle.board_io.specs.declared.board.Board.{Board}
use Rattle.board_io.specs.declared.rules.Rule.{Rule}
use Rattle.board_io.specs.declared.rules.Rule.TheVariants.{Reserved, Pin, Kept, Guarded, WatchdogControl, ResetFlags, CpuControl, TimerFlags, ExtendedTimerFlags, Timer0, Timer1, Timer2, Timer3, Usart0, Spi}
use Rattle.board_io.specs.Board.{kept_at}
use Rattle.board_io.specs.Names.{JTD, PORF}
use Rattle.board_io.specs.Table.{rule_of}

-- whether the board keeps the byte of a register
abbrev pub is_kept : Rule → Bool
is_kept Reserved = false
is_kept (Pin port) = false
is_kept (Kept mask) = true
is_kept (Guarded bits cause mask) = true
is_kept WatchdogControl = false
is_kept ResetFlags = true
is_kept CpuControl = true
is_kept TimerFlags = false
is_kept ExtendedTimerFlags = false
is_kept (Timer0 reg) = false
is_kept (Timer1 reg) = false
is_kept (Timer2 reg) = false
is_kept (Timer3 reg) = false
is_kept (Usart0 reg) = false
is_kept (Spi reg) = false

-- the bits that a kept byte can have, none where the board keeps none. MCUCSR starts with PORF, and its reset flags 4
-- to 0 can only be cleared. Of MCUCR bits 6 to 2 are kept
abbrev pub kept_bits : Rule → ℕ
kept_bits Reserved = 0
kept_bits (Pin port) = 0
kept_bits (Kept mask) = mask
kept_bits (Guarded bits cause mask) = bit_and mask (255 - bits)
kept_bits WatchdogControl = 0
kept_bits ResetFlags = JTD + PORF
kept_bits CpuControl = 0x7C
kept_bits TimerFlags = 0
kept_bits ExtendedTimerFlags = 0
kept_bits (Timer0 reg) = 0
kept_bits (Timer1 reg) = 0
kept_bits (Timer2 reg) = 0
kept_bits (Timer3 reg) = 0
kept_bits (Usart0 reg) = 0
kept_bits (Spi reg) = 0

-- the byte that the board keeps at a data address, 0 where it keeps none
abbrev pub io_at : ℕ → Board → ℕ
io_at at b = if is_kept (rule_of at) then kept_at at b else 0

-- all of them, at 0x20 to 0xFF
abbrev pub io_of : Board → List ℕ
io_of b = map (λ k. io_at (0x20 + k) b) (range_with_len 0 IO_COUNT)

-- whether a byte can be the one at a data address: each bit that it has is one that the register can have
unfoldable pub is_io : ℕ → ℕ → Bool
is_io at x = bit_and x (kept_bits (rule_of at)) == x

-- whether the byte at a place of these can be the one at its address, place 0 being 0x20
abbrev pub io_fits : List ℕ → ℕ → Bool
io_fits io k = is_io (0x20 + k) (slice_index io k)

-- the place of the first that cannot
abbrev pub first_refused : List ℕ → Option ℕ
first_refused io = position (λ k. not (io_fits io k)) (range_with_len 0 IO_COUNT)

-- what a board keeps whose bytes these are: nothing below 0x20
abbrev pub kept_of : List ℕ → List ℕ
kept_of io = replicate 0x20 0 ++ io
