-- The moves of a sweep: one line a run, which names a node and the bytes that arrive there in place of its own input, as
-- NODE AT EVERY HEX and maybe AT EVERY HEX again. Own to this simulator.
use Rattle.std.specs.Prelude.{ℕ, ◌+◌, ◌-◌, ◌*◌, ◌&&◌, nat_le, nat_lt, if◌then◌else◌, List, [], ◌∷◌, length, Result, Ok, Err}
use Rattle.hex.specs.Hex.{decode_of}
use Rattle.hex.specs.declared.error.FromHexError.{FromHexError}
use Rattle.serial_ports.specs.Script.{ScriptBytes, StretchBytes}
use Rattle.state_text.specs.Parts.{is_decimal, parts_of, pieces_of, value}
use Rattle.moves_text.specs.declared.fault.LineFault.{LineFault}
use Rattle.moves_text.specs.declared.fault.LineFault.TheVariants.{BadLine, NoNode, OutOfRange, Unordered, TooLong}
use Rattle.moves_text.specs.declared.fault.MovesFault.{MovesFault}
use Rattle.moves_text.specs.declared.fault.MovesFault.TheVariants.{AtLine, Empty}
use Rattle.moves_text.specs.declared.room.Room.{Room}
use Rattle.air_base.specs.Bounds.{LAST_CYCLE}
use Rattle.serial_ports.specs.declared.stretch.TheConstants.{LONGEST_EVERY, MOST_ARRIVALS}

-- what a line says: at which node, and what arrives there
pub record MoveOf : Type 0 where
  pub node : ℕ
  pub script : ScriptBytes

infixl 10 ◌>>=◌
abbrev pub ◌>>=◌ : {A B : Type 0} → Result A MovesFault → (A → Result B MovesFault) → Result B MovesFault
(Ok x) >>= f = f x
(Err e) >>= f = Err e

abbrev pub refused : {X : Type 0} → ℕ → LineFault → Result X MovesFault
refused line fault = Err (AtLine line fault)

-- a decimal number without leading zeros, from one number on and below another
unfoldable pub number_in : ℕ → LineFault → ℕ → ℕ → List ℕ → Result ℕ MovesFault
number_in line fault least end word =
    if is_decimal word then (if nat_le least (value word) && nat_lt (value word) end then Ok (value word) else refused line fault)
    else refused line BadLine

abbrev pub decoded : ℕ → Result (List ℕ) FromHexError → Result (List ℕ) MovesFault
decoded line (Ok bytes) = Ok bytes
decoded line (Err e) = refused line BadLine

-- at least one byte, two hexadecimal digits each
unfoldable pub bytes_in : ℕ → List ℕ → Result (List ℕ) MovesFault
bytes_in line [] = refused line BadLine
bytes_in line (c ∷ cs) = decoded line (decode_of (c ∷ cs))

-- what a line leaves to its first stretch, and to the one behind a stretch, which begins behind its last byte
abbrev pub whole_room : Room
whole_room = record { from = 0; bytes = MOST_ARRIVALS }

unfoldable pub left_behind : Room → ℕ → ℕ → ℕ → Room
left_behind room at every count = record { from = at + (count - 1) * every + 1; bytes = room.bytes - count }

abbrev pub room_behind : Room → StretchBytes → Room
room_behind room s = left_behind room s.at s.every (length s.bytes)

-- a stretch that keeps to the room that is left
unfoldable pub placed : ℕ → Room → StretchBytes → Result StretchBytes MovesFault
placed line room s =
    if nat_lt s.at room.from then refused line Unordered
    else if nat_lt room.bytes (length s.bytes) then refused line TooLong
    else Ok s

-- AT EVERY HEX: the cycle of the first byte, the cycles from one byte to the next, and the bytes
unfoldable pub stretch_in : ℕ → Room → List ℕ → List ℕ → List ℕ → Result StretchBytes MovesFault
stretch_in line room first distance digits = do
  at ← number_in line OutOfRange 0 (LAST_CYCLE + 1) first
  every ← number_in line OutOfRange 1 (LONGEST_EVERY + 1) distance
  bytes ← bytes_in line digits
  placed line room (record { at = at; every = every; bytes = bytes })

-- stretches, three words each
unfoldable pub stretches_in : ℕ → Room → List (List ℕ) → Result (List StretchBytes) MovesFault
stretches_in line room [] = Ok []
stretches_in line room (at ∷ []) = refused line BadLine
stretches_in line room (at ∷ every ∷ []) = refused line BadLine
stretches_in line room (at ∷ every ∷ hex ∷ words) =
    (stretch_in line room at every hex >>= λ s. stretches_in line (room_behind room s) words >>= λ ss. Ok (s ∷ ss))

-- at least one stretch
unfoldable pub script_in : ℕ → List (List ℕ) → Result ScriptBytes MovesFault
script_in line [] = refused line BadLine
script_in line (word ∷ words) = (stretches_in line whole_room (word ∷ words) >>= λ ss. Ok (record { stretches = ss }))

-- NODE, one of so many, and the stretches behind it
unfoldable pub move_of : ℕ → ℕ → List (List ℕ) → Result MoveOf MovesFault
move_of nodes line [] = refused line BadLine
move_of nodes line (word ∷ words) = do
  node ← number_in line NoNode 0 nodes word
  script ← script_in line words
  Ok (record { node = node; script = script })

-- lines from one of this number on: what stands between their LFs, and nothing behind the last LF
unfoldable pub moves_from : ℕ → ℕ → List (List ℕ) → Result (List MoveOf) MovesFault
moves_from nodes line [] = Ok []
moves_from nodes line ([] ∷ []) = Ok []
moves_from nodes line ((c ∷ cs) ∷ []) = refused line BadLine
moves_from nodes line (text ∷ more ∷ pieces) =
    (move_of nodes line (parts_of text) >>= λ m. moves_from nodes (line + 1) (more ∷ pieces) >>= λ ms. Ok (m ∷ ms))

-- the moves that a text says for so many nodes, or its first fault
unfoldable pub moves_in : ℕ → List ℕ → Result (List MoveOf) MovesFault
moves_in nodes [] = Err Empty
moves_in nodes (c ∷ cs) = moves_from nodes 1 (pieces_of (c ∷ cs))
