-- How a record of an Intel HEX file is written (Intel, Hexadecimal Object File Format Specification, "General Record
-- Format"): its check byte is the two's complement of the sum of the bytes before it.
use Rattle.std.specs.Prelude.{◌≡◌, ℕ, ◌-◌, ◌/◌, ◌%◌, ◌<◌, ◌≤◌, List, [], ◌∷◌, ◌++◌, length, sum, true}
use Rattle.hex.specs.Hex.{IsBytes}
use Rattle.ihex_loader.specs.Line.{has_length}

-- the count, the offset with its high byte first, the type and the data
abbrev pub before_check : ℕ → ℕ → List ℕ → List ℕ
before_check kind offset bytes = length bytes ∷ offset / 256 ∷ offset % 256 ∷ kind ∷ bytes

abbrev pub check_byte : List ℕ → ℕ
check_byte bytes = (256 - sum bytes % 256) % 256

-- the bytes of a record; a colon, 58, stands before their digits
abbrev pub record_bytes : ℕ → ℕ → List ℕ → List ℕ
record_bytes kind offset bytes = before_check kind offset bytes ++ check_byte (before_check kind offset bytes) ∷ []

-- records that can be written
pub record IsWritable (kind offset : ℕ) (bytes : List ℕ) : Type 0 where
  pub kind_known : kind ≤ 5
  pub offset_fits : offset < 65536
  pub count_fits : length bytes ≤ 255
  pub count_suits : has_length kind (length bytes) ≡ true
  pub are_bytes : IsBytes bytes
