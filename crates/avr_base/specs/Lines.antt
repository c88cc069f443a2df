-- The interrupt that is served (ATmega128 datasheet, "Reset and Interrupt Handling": the lower its vector's address,
-- the higher its priority).
use Rattle.std.specs.Prelude.{ℕ, ◌*◌, ◌==◌, if◌then◌else◌, Bool, Option, Some, None, find}
use Rattle.std.specs.Int.{bit_at}
use Rattle.std.specs.List.{range_with_len}
use Rattle.avr_base.specs.Flags.{I, has_flag}
use Rattle.avr_base.specs.declared.interrupts.Lines.{Lines}
use Rattle.avr_base.specs.declared.interrupts.Vector.{Vector}

-- whether line n is set
abbrev pub line_set : ℕ → ℕ → Bool
line_set bits n = bit_at bits n == 1

-- the lowest of the lines 1 to 34 that is set
unfoldable pub lowest_line : ℕ → Option ℕ
lowest_line bits = find (line_set bits) (range_with_len 1 34)

-- line n has the vector at word address 2n
abbrev pub vector_of : Option ℕ → Option Vector
vector_of None = None
vector_of (Some n) = Some (record { word = 2 * n })

-- the vector that is pending
abbrev pub pending_of : Lines → Option Vector
pending_of lines = vector_of (lowest_line lines.bits)

-- the vector that is due, from SREG and the lines: the pending one where the flag I is set
abbrev pub due_of : ℕ → Lines → Option Vector
due_of sreg lines = if has_flag sreg I then pending_of lines else None
