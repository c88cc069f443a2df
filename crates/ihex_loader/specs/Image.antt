-- The image of a whole Intel HEX file, or its first fault (Intel, Hexadecimal Object File Format Specification,
-- "Data Record", "End of File Record", "Extended Segment Address Record", "Extended Linear Address Record").
-- Each line is read with the list of all lines before it.
use Rattle.std.specs.Prelude.{ℕ, ◌+◌, ◌*◌, ◌==◌, ◌&&◌, nat_lt, max, Bool, false, if◌then◌else◌, List, [], ◌∷◌, ◌++◌, length, map, Option, Some, None}
use Rattle.std.specs.List.{list_any, slice_split, flat_map, range_with_len}
use Rattle.ihex_loader.specs.Flash.{Image}
use Rattle.ihex_loader.specs.Line.{Line, Blank, Faulty, Record, line_of, without_cr, data_word}
use Rattle.ihex_loader.specs.Fault.{at_line}
use Rattle.ihex_loader.specs.declared.fault.LineFault.{LineFault}
use Rattle.ihex_loader.specs.declared.fault.LineFault.TheVariants.{Crossing, PastFlash, AfterEnd}
use Rattle.ihex_loader.specs.declared.fault.HexFault.{HexFault}
use Rattle.ihex_loader.specs.declared.fault.HexFault.TheVariants.{NoEnd}

-- the lines between the LFs, each without one CR at its end
abbrev pub lines_of : List ℕ → List Line
lines_of bytes = map (λ text. line_of (without_cr text)) (slice_split (λ b. b == 10) bytes)

-- the end record, type 01
abbrev pub is_end : Line → Bool
is_end Blank = false
is_end (Faulty f) = false
is_end (Record kind offset bytes) = kind == 1

-- the base that a line gives, one or none: type 02 its word times 16, type 04 its word times 65,536
abbrev pub bases : Line → List ℕ
bases Blank = []
bases (Faulty f) = []
bases (Record kind offset bytes) = if kind == 2 then (16 * data_word bytes) ∷ [] else if kind == 4 then (65536 * data_word bytes) ∷ [] else []

-- the last of a list, or the default
abbrev pub last_or : ℕ → List ℕ → ℕ
last_or d [] = d
last_or d (x ∷ xs) = last_or x xs

-- the base behind these lines: the last that one of them gives, 0 where none does
unfoldable pub base_after : List Line → ℕ
base_after before = last_or 0 (flat_map bases before)

-- the first fault that applies to a line that stands behind these
abbrev pub fault_behind : List Line → Line → Option LineFault
fault_behind before Blank = None
fault_behind before (Faulty f) = if list_any is_end before then Some AfterEnd else Some f
fault_behind before (Record kind offset bytes) =
    let has_data = kind == 0 && nat_lt 0 (length bytes) in
    if list_any is_end before then Some AfterEnd
    else if has_data && nat_lt 65536 (offset + length bytes) then Some Crossing
    else if has_data && nat_lt 131072 (base_after before + offset + length bytes) then Some PastFlash
    else None

-- what is wrong with a line of this number, or what is wrong later
abbrev pub fault_or : Option LineFault → ℕ → Option HexFault → Option HexFault
fault_or (Some fault) number later = Some (at_line fault number)
fault_or None number later = later

-- the first fault of lines that stand behind these; with no faulty line, that there is no end record
unfoldable pub first_fault : List Line → List Line → Option HexFault
first_fault before [] = if list_any is_end before then None else Some NoEnd
first_fault before (line ∷ lines) = fault_or (fault_behind before line) (length before + 1) (first_fault (before ++ line ∷ []) lines)

-- what is wrong with a file, if anything is: the fault of its first faulty line, lines being counted from 1
unfoldable pub hex_fault : List ℕ → Option HexFault
hex_fault bytes = first_fault [] (lines_of bytes)

-- bytes at the addresses from one on
abbrev pub placed : ℕ → List ℕ → List (ℕ × ℕ)
placed at [] = []
placed at (b ∷ bs) = (at, b) ∷ placed (at + 1) bs

-- which bytes a line puts at which addresses, where it stands behind these
abbrev pub puts_behind : List Line → Line → List (ℕ × ℕ)
puts_behind before Blank = []
puts_behind before (Faulty f) = []
puts_behind before (Record kind offset bytes) = if kind == 0 then placed (base_after before + offset) bytes else []

-- which bytes lines put at which addresses, in order, where they stand behind these
unfoldable pub puts : List Line → List Line → List (ℕ × ℕ)
puts before [] = []
puts before (line ∷ lines) = puts_behind before line ++ puts (before ++ line ∷ []) lines

-- the last byte that is put at an address, or the default
abbrev pub last_put : ℕ → ℕ → List (ℕ × ℕ) → ℕ
last_put d a [] = d
last_put d a (w ∷ ws) = last_put (if w.0 == a then w.1 else d) a ws

-- one more than the highest address at which a byte is put, 0 where none is
abbrev pub used_of : List (ℕ × ℕ) → ℕ
used_of [] = 0
used_of (w ∷ ws) = max (w.0 + 1) (used_of ws)

-- the bytes at n addresses: the last that the lines put there, 0xFF where they put none
unfoldable pub bytes_given : ℕ → List Line → List ℕ
bytes_given n lines = map (λ a. last_put 255 a (puts [] lines)) (range_with_len 0 n)

-- the flash that a file gives
unfoldable pub image : List ℕ → Image
image bytes = record { bytes = bytes_given 131072 (lines_of bytes); used = used_of (puts [] (lines_of bytes)) }
