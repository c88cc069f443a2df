-- The text of places: one line a place, in rising order, as NODE byte ADDRESS or NODE at ADDRESS. Own to this simulator.
use Rattle.std.specs.Prelude.{ℕ, ◌+◌, ◌*◌, ◌==◌, nat_lt, if◌then◌else◌, List, [], ◌∷◌, codes, Option, Some, None, Result, Ok, Err}
use Rattle.std.specs.Str.{bytes_eq}
use Rattle.node_places.specs.declared.Place.{Place}
use Rattle.node_places.specs.declared.Spot.{Spot}
use Rattle.node_places.specs.declared.Spot.TheVariants as spot
use Rattle.state_text.specs.Parts.{is_decimal, parts_of, pieces_of, value}
use Rattle.places_text.specs.Addresses.{address_of, is_byte}
use Rattle.places_text.specs.declared.fault.LineFault.{LineFault}
use Rattle.places_text.specs.declared.fault.LineFault.TheVariants.{BadLine, NoNode, NoPlace, Unordered, TooMany}
use Rattle.places_text.specs.declared.fault.PlacesFault.{PlacesFault}
use Rattle.places_text.specs.declared.fault.PlacesFault.TheVariants.{AtLine, Empty}

infixl 10 ◌>>=◌
abbrev pub ◌>>=◌ : {A B : Type 0} → Result A PlacesFault → (A → Result B PlacesFault) → Result B PlacesFault
(Ok x) >>= f = f x
(Err e) >>= f = Err e

abbrev pub refused : {X : Type 0} → ℕ → LineFault → Result X PlacesFault
refused line fault = Err (AtLine line fault)

-- NODE: a decimal number without leading zeros, below so many
unfoldable pub node_in : ℕ → ℕ → List ℕ → Result ℕ PlacesFault
node_in line nodes word =
    if is_decimal word then (if nat_lt (value word) nodes then Ok (value word) else refused line NoNode)
    else refused line BadLine

abbrev pub byte_at : ℕ → Option ℕ → Result Spot PlacesFault
byte_at line None = refused line BadLine
byte_at line (Some at) = if is_byte at then Ok (spot.Byte at) else refused line NoPlace

abbrev pub instruction_at : ℕ → Option ℕ → Result Spot PlacesFault
instruction_at line None = refused line BadLine
instruction_at line (Some at) = Ok (spot.At at)

-- ADDRESS behind `byte`, and behind `at`
unfoldable pub byte_in : ℕ → List ℕ → Result Spot PlacesFault
byte_in line word = byte_at line (address_of word)

unfoldable pub at_in : ℕ → List ℕ → Result Spot PlacesFault
at_in line word = instruction_at line (address_of word)

unfoldable pub spot_in : ℕ → List ℕ → List ℕ → Result Spot PlacesFault
spot_in line kind address =
    if bytes_eq kind (codes "byte") then byte_in line address
    else if bytes_eq kind (codes "at") then at_in line address
    else refused line BadLine

-- three words
unfoldable pub place_of : ℕ → ℕ → List (List ℕ) → Result Place PlacesFault
place_of line nodes (node ∷ kind ∷ address ∷ []) = do
  k ← node_in line nodes node
  s ← spot_in line kind address
  Ok (record { node = k; spot = s })
place_of line nodes _ = refused line BadLine

-- where a place stands among all: by its node, then bytes before instructions, then by its address
abbrev pub rank_of : Spot → ℕ
rank_of (spot.Byte at) = at
rank_of (spot.At at) = 0x10000 + at

abbrev pub rank : Place → ℕ
rank p = p.node * 0x20000 + rank_of p.spot

-- a place that stands not before this one's rank
abbrev pub ordered : ℕ → ℕ → Place → Result Place PlacesFault
ordered line least p = if nat_lt (rank p) least then refused line Unordered else Ok p

-- the place of a line, of which there are at most 8,192
unfoldable pub next_place : ℕ → ℕ → ℕ → List (List ℕ) → Result Place PlacesFault
next_place nodes line least words =
    if nat_lt 8192 line then refused line TooMany else place_of line nodes words >>= ordered line least

-- lines from one of this number on: what stands between their LFs, and nothing behind the last LF
unfoldable pub places_from : ℕ → ℕ → ℕ → List (List ℕ) → Result (List Place) PlacesFault
places_from nodes line least [] = Ok []
places_from nodes line least ([] ∷ []) = Ok []
places_from nodes line least ((c ∷ cs) ∷ []) = refused line BadLine
places_from nodes line least (text ∷ more ∷ pieces) =
    (next_place nodes line least (parts_of text) >>= λ p. places_from nodes (line + 1) (rank p + 1) (more ∷ pieces) >>= λ ps. Ok (p ∷ ps))

-- the places that a text says for so many nodes, or its first fault
unfoldable pub places_in : ℕ → List ℕ → Result (List Place) PlacesFault
places_in nodes [] = Err Empty
places_in nodes (c ∷ cs) = places_from nodes 1 0 (pieces_of (c ∷ cs))
