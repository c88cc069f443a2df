-- What a function of the reader returned, seen by view, is what the text says, unless memory ran out.
use Rattle.std.specs.Prelude.{◌≡◌, Result, Ok, Err}
use Rattle.places_text.specs.declared.fault.PlacesFault.{PlacesFault}
use Rattle.places_text.specs.declared.fault.PlacesFault.TheVariants as fault

abbrev pub Fails : {Y : Type 0} → PlacesFault → Result Y PlacesFault → Type 0
Fails (fault.AtLine line why) read = read ≡ Err (fault.AtLine line why)
Fails fault.Empty read = read ≡ Err fault.Empty
Fails fault.NoMemory read = Unit {0}

abbrev pub Gives : {X Y : Type 0} → (X → Y) → Result X PlacesFault → Result Y PlacesFault → Type 0
Gives view (Ok x) read = read ≡ Ok (view x)
Gives view (Err e) read = Fails e read
