-- What one line of an Intel HEX file says by itself (Intel, Hexadecimal Object File Format Specification, "General
-- Record Format"): a colon and digit pairs of a count, an offset of two bytes, a type, that many data bytes and a
-- check byte, with which all bytes of the record add up to 0 modulo 256.
use Rattle.std.specs.Prelude.{ℕ, ◌+◌, ◌-◌, ◌*◌, ◌%◌, ◌==◌, ◌&&◌, ◌||◌, nat_lt, not, Bool, true, if◌then◌else◌, List, [], ◌∷◌, length, take, slice_index, slice_range, sum, Result, Ok, Err}
use Rattle.std.specs.List.{list_all}
use Rattle.hex.specs.Hex.{decode_of}
use Rattle.hex.specs.declared.error.FromHexError.{FromHexError}
use Rattle.ihex_loader.specs.declared.fault.LineFault.{LineFault}
use Rattle.ihex_loader.specs.declared.fault.LineFault.TheVariants.{NotARecord, BadSum, BadType, BadLength}

-- a blank line, a line that is faulty whatever stands before it, or a record
pub data Line : Type 0 where
  Blank : Line
  Faulty : (fault : LineFault) → Line
  Record : (kind offset : ℕ) (bytes : List ℕ) → Line

-- a space or a tab
abbrev pub is_blank : ℕ → Bool
is_blank c = c == 32 || c == 9

-- a line without one CR at its end
abbrev pub without_cr : List ℕ → List ℕ
without_cr text = if 0 == length text then text else if slice_index text (length text - 1) == 13 then take (length text - 1) text else text

-- whether a record of this type may have n data bytes: 00 any number, the end record 01 none, the base records 02 and
-- 04 a word, the start records 03 and 05 two
abbrev pub has_length : ℕ → ℕ → Bool
has_length kind n = if kind == 0 then true else if kind == 1 then n == 0 else if kind == 2 || kind == 4 then n == 2 else n == 4

-- the type, the offset and the data of the bytes of a record
abbrev pub kind_of : List ℕ → ℕ
kind_of bytes = slice_index bytes 3

abbrev pub offset_of : List ℕ → ℕ
offset_of bytes = 256 * slice_index bytes 1 + slice_index bytes 2

abbrev pub data_of : List ℕ → List ℕ
data_of bytes = slice_range bytes 4 (length bytes - 1)

-- the word that the first two data bytes are, high byte first
abbrev pub data_word : List ℕ → ℕ
data_word bytes = 256 * slice_index bytes 0 + slice_index bytes 1

-- the record of these bytes, or the first thing that is wrong with them
abbrev pub record_of : List ℕ → Line
record_of bytes =
    if nat_lt (length bytes) 5 then Faulty NotARecord
    else if not (sum bytes % 256 == 0) then Faulty BadSum
    else if nat_lt 5 (kind_of bytes) then Faulty BadType
    else if not (slice_index bytes 0 == length bytes - 5 && has_length (kind_of bytes) (length bytes - 5)) then Faulty BadLength
    else Record (kind_of bytes) (offset_of bytes) (data_of bytes)

-- the record of digit pairs, where they are digits in pairs
abbrev pub record_of_pairs : Result (List ℕ) FromHexError → Line
record_of_pairs (Ok bytes) = record_of bytes
record_of_pairs (Err e) = Faulty NotARecord

-- a line that begins with a colon, 58
abbrev pub marked_line : List ℕ → Line
marked_line [] = Faulty NotARecord
marked_line (c ∷ digits) = if c == 58 then record_of_pairs (decode_of digits) else Faulty NotARecord

-- a line of spaces and tabs alone, or of nothing, is blank
unfoldable pub line_of : List ℕ → Line
line_of text = if list_all is_blank text then Blank else marked_line text
