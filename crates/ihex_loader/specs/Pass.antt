-- What the loader has after some lines, and what it makes of one more. These are the contracts of the one pass over
-- the lines, and no part of what an image is.
use Rattle.std.specs.Prelude.{◌≡◌, ℕ, ◌<◌, List, [], ◌∷◌, ◌++◌, Some, None, Bool, length, slice_index}
use Rattle.std.specs.List.{list_any}
use Rattle.ihex_loader.specs.Line.{Line, Blank, Faulty, Record, kind_of, offset_of, data_of}
use Rattle.ihex_loader.specs.Image.{base_after, is_end, fault_behind, last_put, puts, used_of}
use Rattle.ihex_loader.specs.declared.fault.LineFault.{LineFault}
use Rattle.ihex_loader.specs.declared.loader.Loader.{Loader}
use Rattle.ihex_loader.specs.declared.line.Parsed.{Parsed}
use Rattle.ihex_loader.specs.declared.line.Parsed.TheVariants as parsed

-- the line that was parsed
abbrev pub shown : Parsed → Line
shown parsed.Blank = Blank
shown (parsed.Faulty fault) = Faulty fault
shown (parsed.Record r) = Record (kind_of r.bytes.items) (offset_of r.bytes.items) (data_of r.bytes.items)

-- a flash holds what these lines put
pub record Gives (lines : List Line) (flash : List ℕ) (used : ℕ) : Type 0 where
  pub len : length flash ≡ 131072
  pub each : (a : ℕ) → a < 131072 → slice_index flash a ≡ last_put 255 a (puts [] lines)
  pub top : used ≡ used_of (puts [] lines)

-- what a loader has after these lines
pub record Stands (before : List Line) (flash : List ℕ) (used base : ℕ) (ended : Bool) : Type 0 where
  pub gives : Gives before flash used
  pub base_is : base ≡ base_after before
  pub ended_is : ended ≡ list_any is_end before

abbrev pub StandsFor : List Line → Loader → Type 0
StandsFor before l = Stands before l.flash.bytes l.flash.used l.base l.ended

-- whatever stood before: the line has no fault, and the loader goes on to the lines with it
abbrev pub GoesOn : Loader → Line → Loader → Type 0
GoesOn old line new = (before : List Line) → StandsFor before old → (fault_behind before line ≡ None) × StandsFor (before ++ line ∷ []) new

-- whatever stood before: the line has this fault
abbrev pub Refuses : Loader → Line → LineFault → Type 0
Refuses old line fault = (before : List Line) → StandsFor before old → fault_behind before line ≡ Some fault
