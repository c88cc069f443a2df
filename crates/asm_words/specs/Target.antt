-- Where a jump, a call or a branch of an assembler's source goes.
use Rattle.std.specs.Prelude.{ℕ, ◌+◌, ◌-◌, ◌*◌, ◌/◌, ◌%◌, ◌==◌, ◌&&◌, nat_lt, nat_le, not, Bool, true, false, if◌then◌else◌, List, [], ◌∷◌, Option, Some, None, Result, Ok, Err}
use Rattle.asm_words.specs.Text.{is_label}
use Rattle.asm_words.specs.Number.{number}
use Rattle.asm_words.specs.declared.labels.Label.{Label}
use Rattle.asm_words.specs.declared.target.JumpOffset.{JumpOffset}
use Rattle.asm_words.specs.declared.instruction.WordFault.{WordFault}
use Rattle.asm_words.specs.declared.instruction.WordFault.TheVariants.{BadOperand, NoLabel, OutOfReach}

abbrev pub offset : Bool → ℕ → JumpOffset
offset is_back words = record { is_back = is_back; words = words }

-- a distance in bytes: no instruction begins at an odd one
abbrev pub distance : Bool → Option ℕ → Result JumpOffset WordFault
distance is_back None = Err BadOperand
distance is_back (Some n) = if n % 2 == 1 then Err OutOfReach else Ok (offset is_back (n / 2))

-- from the instruction behind the one at a word address to another address
abbrev pub offset_to : ℕ → ℕ → JumpOffset
offset_to at address = if nat_lt at address then offset false (address - at - 1) else offset true (at + 1 - address)

abbrev pub label_offset : Option Label → ℕ → Result JumpOffset WordFault
label_offset None at = Err NoLabel
label_offset (Some label) at = Ok (offset_to at label.address)

abbrev pub offset_to_label : List ℕ → ℕ → (List ℕ → Option Label) → Result JumpOffset WordFault
offset_to_label text at labels = if not (is_label text) then Err BadOperand else label_offset (labels text) at

-- a relative target: . and + or -, 46, 43 and 45, and the bytes from the next instruction, or a label
unfoldable pub offset_of : List ℕ → ℕ → (List ℕ → Option Label) → Result JumpOffset WordFault
offset_of [] at labels = offset_to_label [] at labels
offset_of (a ∷ []) at labels = offset_to_label (a ∷ []) at labels
offset_of (a ∷ b ∷ digits) at labels =
    if a == 46 && b == 43 then distance false (number digits)
    else if a == 46 && b == 45 then distance true (number digits)
    else offset_to_label (a ∷ b ∷ digits) at labels

-- the bits of an offset in a field of two's complement that reaches half words back and one less forward
abbrev pub reach : ℕ → JumpOffset → Result ℕ WordFault
reach half h =
    if h.is_back then (if nat_lt half h.words then Err OutOfReach else Ok ((2 * half - h.words) % (2 * half)))
    else if nat_le half h.words then Err OutOfReach
    else Ok h.words
