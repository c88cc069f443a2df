-- What a function of the reader returned, seen by view, is what the text says, unless memory ran out.
use Rattle.std.specs.Prelude.{◌≡◌, List, [], ◌∷◌, Option, Some, None, ℕ, Result, Ok, Err}
use Rattle.serial_ports.specs.Script.{StretchBytes}
use Rattle.moves_text.specs.Moves.{◌>>=◌, refused, stretch_in}
use Rattle.moves_text.specs.declared.fault.LineFault.TheVariants.{BadLine}
use Rattle.moves_text.specs.declared.fault.MovesFault.{MovesFault}
use Rattle.moves_text.specs.declared.fault.MovesFault.TheVariants as fault
use Rattle.moves_text.specs.declared.room.Room.{Room}

abbrev pub Fails : {Y : Type 0} → MovesFault → Result Y MovesFault → Type 0
Fails (fault.AtLine line why) read = read ≡ Err (fault.AtLine line why)
Fails fault.Empty read = read ≡ Err fault.Empty
Fails fault.NoMemory read = Unit {0}

abbrev pub Gives : {X Y : Type 0} → (X → Y) → Result X MovesFault → Result Y MovesFault → Type 0
Gives view (Ok x) read = read ≡ Ok (view x)
Gives view (Err e) read = Fails e read

-- the stretch of the next three words, and the words behind it; none where no word is left
unfoldable pub next_stretch : ℕ → Room → List (List ℕ) → Result (Option (StretchBytes × List (List ℕ))) MovesFault
next_stretch line room [] = Ok None
next_stretch line room (at ∷ []) = refused line BadLine
next_stretch line room (at ∷ every ∷ []) = refused line BadLine
next_stretch line room (at ∷ every ∷ hex ∷ words) = (stretch_in line room at every hex >>= λ s. Ok (Some (s, words)))
