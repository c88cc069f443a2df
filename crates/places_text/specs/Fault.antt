-- A fault of the text of places: what is wrong, and the number of the line. And how it is printed.
use Rattle.std.specs.Prelude.{ℕ, List, codes, Option, Some, None}
use Rattle.places_text.specs.declared.fault.LineFault.{LineFault}
use Rattle.places_text.specs.declared.fault.LineFault.TheVariants as on
use Rattle.places_text.specs.declared.fault.PlacesFault.{PlacesFault}
use Rattle.places_text.specs.declared.fault.PlacesFault.TheVariants as places

-- what is wrong with a line, and its number, from 1
abbrev pub at_line : LineFault → ℕ → PlacesFault
at_line fault line = places.AtLine line fault

abbrev pub fault_name : PlacesFault → List ℕ
fault_name (places.AtLine line on.BadLine) = codes "BadLine"
fault_name (places.AtLine line on.NoNode) = codes "NoNode"
fault_name (places.AtLine line on.NoPlace) = codes "NoPlace"
fault_name (places.AtLine line on.Unordered) = codes "Unordered"
fault_name (places.AtLine line on.TooMany) = codes "TooMany"
fault_name places.Empty = codes "Empty"
fault_name places.NoMemory = codes "NoMemory"

abbrev pub fault_line : PlacesFault → Option ℕ
fault_line (places.AtLine line fault) = Some line
fault_line places.Empty = None
fault_line places.NoMemory = None
