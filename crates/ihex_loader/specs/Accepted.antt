-- What an accepted Intel HEX file is and gives, as relations between its lines (Intel, Hexadecimal Object File Format
-- Specification). Nothing here goes over the lines in order: each fact speaks of single lines, numbered from 0, and of
-- those before or behind them.
use Rattle.std.specs.Prelude.{◌≡◌, ℕ, ◌+◌, ◌*◌, ◌<◌, ◌≤◌, List, length, Some}
use Rattle.std.specs.List.{slice_get}
use Rattle.ihex_loader.specs.Flash.{Image, byte_at}
use Rattle.ihex_loader.specs.Line.{Line, Blank, Faulty, Record, data_word}

-- where some lines say a number: the last of those before line n that says one says v; where none does, v is the
-- default
pub data IsLast (Says : ℕ → ℕ → Type 0) (n default v : ℕ) : Type 0 where
  NoneSays : ((m x : ℕ) → m < n → Says m x → ⊥) → v ≡ default → IsLast Says n default v
  LineSays : (m : ℕ) → m < n → Says m v → ((k x : ℕ) → m < k → k < n → Says k x → ⊥) → IsLast Says n default v

-- line n sets the base: type 02 to its word times 16, type 04 to its word times 65,536
pub data SetsBase (lines : List Line) (n base : ℕ) : Type 0 where
  Segment : (offset : ℕ) (bytes : List ℕ) → slice_get lines n ≡ Some (Record 2 offset bytes) → base ≡ 16 * data_word bytes → SetsBase lines n base
  Linear : (offset : ℕ) (bytes : List ℕ) → slice_get lines n ≡ Some (Record 4 offset bytes) → base ≡ 65536 * data_word bytes → SetsBase lines n base

-- the base at line n: what the last line before it that sets the base says, 0 where there is none
abbrev pub IsBase : List Line → ℕ → ℕ → Type 0
IsBase lines n base = IsLast (SetsBase lines) n 0 base

-- line n puts byte b at address a: a data record, type 00, has it so far behind base + offset
pub record PutsAt (lines : List Line) (a n b : ℕ) : Type 0 where
  pub offset : ℕ
  pub bytes : List ℕ
  pub base : ℕ
  pub place : ℕ
  pub line_is : slice_get lines n ≡ Some (Record 0 offset bytes)
  pub base_is : IsBase lines n base
  pub byte_is : slice_get bytes place ≡ Some b
  pub address : a ≡ base + offset + place

-- an end record, type 01, stands before line n
pub record EndsBefore (lines : List Line) (n : ℕ) : Type 0 where
  pub m : ℕ
  pub offset : ℕ
  pub bytes : List ℕ
  pub before : m < n
  pub line_is : slice_get lines m ≡ Some (Record 1 offset bytes)

-- a data record at line n keeps within its segment of 65,536 offsets, and within the flash
pub record KeepsWithin (lines : List Line) (n offset len : ℕ) : Type 0 where
  pub segment : offset + len ≤ 65536
  pub flash : (base : ℕ) → IsBase lines n base → base + offset + len ≤ 131072

-- nothing is wrong with line n: it is blank, or a record that no end record stands before, and that has no data or
-- keeps within
abbrev pub IsSound : List Line → ℕ → Line → Type 0
IsSound lines n Blank = Unit {0}
IsSound lines n (Faulty fault) = ⊥
IsSound lines n (Record kind offset bytes) = (EndsBefore lines n → ⊥) × (kind ≡ 0 → 0 < length bytes → KeepsWithin lines n offset (length bytes))

-- one more than some address at which a byte is put, or 0
pub data IsTop (lines : List Line) (used : ℕ) : Type 0 where
  NoByte : used ≡ 0 → IsTop lines used
  Highest : (a n b : ℕ) → PutsAt lines a n b → used ≡ a + 1 → IsTop lines used

-- the lines are an accepted image, and it gives this flash: no line is faulty; there is an end record; each byte is the
-- last that is put at its address, 0xFF where none is; `used` is one more than the highest such address, 0 where none
pub record IsImage (lines : List Line) (flash : Image) : Type 0 where
  pub sound : (n : ℕ) (line : Line) → slice_get lines n ≡ Some line → IsSound lines n line
  pub ended : EndsBefore lines (length lines)
  pub size : length flash.bytes ≡ 131072
  pub each : (a : ℕ) → a < 131072 → IsLast (PutsAt lines a) (length lines) 255 (byte_at flash.bytes a)
  pub below : (a n b : ℕ) → PutsAt lines a n b → a < flash.used
  pub top : IsTop lines flash.used
