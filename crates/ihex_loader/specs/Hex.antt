-- Words as the text of an Intel HEX file (Intel, Hexadecimal Object File Format Specification).
use Rattle.std.specs.Prelude.{ℕ, zero, suc, ◌+◌, ◌*◌, ◌/◌, ◌%◌, ◌==◌, if◌then◌else◌, List, [], ◌∷◌, ◌++◌, length, take, drop}
use Rattle.hex.specs.Hex.{encode_upper}
use Rattle.ihex_loader.specs.Flash.{bytes_of_words}
use Rattle.ihex_loader.specs.Written.{record_bytes}

-- a record as a line: a colon, 58, the digits of its bytes in upper case, and LF, 10
abbrev pub record_line : ℕ → ℕ → List ℕ → List ℕ
record_line kind offset bytes = 58 ∷ (encode_upper (record_bytes kind offset bytes) ++ 10 ∷ [])

-- before the record at the byte address 0x10000: the linear base 1
abbrev pub base_at : ℕ → List ℕ
base_at n = if n == 4096 then record_line 4 0 (0 ∷ 1 ∷ []) else []

-- record n, counted from 0, of the bytes: 16 of them, or what is left
unfoldable pub record_at : ℕ → List ℕ → List ℕ
record_at n bytes = base_at n ++ record_line 0 (16 * n % 65536) (take 16 (drop (16 * n) bytes))

-- the n first records
abbrev pub records_to : ℕ → List ℕ → List ℕ
records_to zero bytes = []
records_to (suc n) bytes = records_to n bytes ++ record_at n bytes

-- how many records the bytes take
abbrev pub count : List ℕ → ℕ
count bytes = (length bytes + 15) / 16

-- the text of words: their records, and the end record
unfoldable pub hex_of : List ℕ → List ℕ
hex_of words = let bytes = bytes_of_words words in records_to (count bytes) bytes ++ record_line 1 0 []
