-- What a call reads, in order, and what comes of it.
use Rattle.std.specs.Prelude.{ℕ, List, [], ◌∷◌, ◌++◌, Option, Some, None, Result, Ok, Err}
use Rattle.asm_text.specs.Source.{assembled}
use Rattle.asm_text.specs.declared.fault.AsmFault.{AsmFault}
use Rattle.ihex_loader.specs.Flash.{Image}
use Rattle.ihex_loader.specs.Image.{hex_fault, image}
use Rattle.ihex_loader.specs.declared.fault.HexFault.{HexFault}
use Rattle.moves_text.specs.Moves.{MoveOf, moves_in}
use Rattle.moves_text.specs.declared.fault.MovesFault.{MovesFault}
use Rattle.node_places.specs.declared.Place.{Place}
use Rattle.places_text.specs.Places.{places_in}
use Rattle.places_text.specs.declared.fault.PlacesFault.{PlacesFault}
use Rattle.scenario_file.specs.Scenario.{ScenarioParts, scenario_in}
use Rattle.scenario_file.specs.declared.fault.ScenarioFault.{ScenarioFault}
use Rattle.command_plans.specs.declared.trouble.ImageCause.{ImageCause}
use Rattle.command_plans.specs.declared.trouble.ImageCause.TheVariants as cause
use Rattle.command_plans.specs.declared.trouble.ScenarioCause.{ScenarioCause}
use Rattle.command_plans.specs.declared.trouble.ScenarioCause.TheVariants as scenario_cause
use Rattle.command_plans.specs.declared.trouble.SourceCause.{SourceCause}
use Rattle.command_plans.specs.declared.trouble.StateCause.{StateCause}
use Rattle.command_plans.specs.declared.trouble.SourceCause.TheVariants as source_cause
use Rattle.command_plans.specs.declared.trouble.MovesCause.{MovesCause}
use Rattle.command_plans.specs.declared.trouble.MovesCause.TheVariants as moves_cause
use Rattle.command_plans.specs.declared.trouble.PlacesCause.{PlacesCause}
use Rattle.command_plans.specs.declared.trouble.PlacesCause.TheVariants as places_cause
use Rattle.command_plans.specs.declared.files.TheConstants.{MOST_IMAGE_BYTES, MOST_MOVES_BYTES, MOST_PLACES_BYTES, MOST_SCENARIO_BYTES, MOST_SOURCE_BYTES}

-- why a call is refused
pub data Refusal : Type 0 where
  -- the words are not accepted
  BadWords : Refusal
  -- the scenario in this file is not
  BadScenario : (name : List ℕ) (why : ScenarioCause) → Refusal
  -- the image in this file is not
  BadImage : (name : List ℕ) (why : ImageCause) → Refusal
  -- the source in this file is not
  BadSource : (name : List ℕ) (why : SourceCause) → Refusal
  -- the saved state in this file is not, or the one that the scenario in this file is to come to cannot be had
  BadState : (name : List ℕ) (why : StateCause) → Refusal
  -- the moves of a sweep in this file are not
  BadMoves : (name : List ℕ) (why : MovesCause) → Refusal
  -- the places that are to be watched in this file are not
  BadPlaces : (name : List ℕ) (why : PlacesCause) → Refusal

-- what is left to do: nothing more, since this was got; a refusal; or a file to be read, of at most so many bytes, and
-- what comes of its bytes
pub data Plan (A : Type 0) : Type 0 where
  Give : (got : A) → Plan A
  Refuse : (refusal : Refusal) → Plan A
  Read : (name : List ℕ) (most : ℕ) (too_long : Refusal) (next : List ℕ → Plan A) → Plan A

-- one plan, and behind it another one, which may depend on what the first one got
unfoldable pub and_then : {A B : Type 0} → Plan A → (A → Plan B) → Plan B
and_then (Give got) next = next got
and_then (Refuse refusal) next = Refuse refusal
and_then (Read name most too_long rest) next = Read name most too_long (λ bytes. and_then (rest bytes) next)

-- an image is accepted where nothing is wrong with its text
abbrev pub image_or : List ℕ → Option HexFault → Image → Plan Image
image_or name (Some fault) flash = Refuse (BadImage name (cause.Faulty fault))
image_or name None flash = Give flash

-- read an image, of at most 1,048,576 bytes of text, for its flash
abbrev pub image_plan : List ℕ → Plan Image
image_plan name = Read name MOST_IMAGE_BYTES (BadImage name cause.TooLong) (λ bytes. image_or name (hex_fault bytes) (image bytes))

-- the images that were read, and behind them those of these files in their order, each accepted before the next is read
unfoldable pub images_behind : List Image → List (List ℕ) → Plan (List Image)
images_behind images [] = Give images
images_behind images (name ∷ names) = and_then (image_plan name) (λ flash. images_behind (images ++ flash ∷ []) names)

-- read the images of these files
abbrev pub images_plan : List (List ℕ) → Plan (List Image)
images_plan names = images_behind [] names

-- a scenario is accepted where nothing is wrong with its text
abbrev pub scenario_or : List ℕ → Result ScenarioParts ScenarioFault → Plan ScenarioParts
scenario_or name (Ok parts) = Give parts
scenario_or name (Err fault) = Refuse (BadScenario name (scenario_cause.Faulty fault))

-- read a scenario, of at most 524,288 bytes of text, for what it says
abbrev pub scenario_plan : List ℕ → Plan ScenarioParts
scenario_plan name = Read name MOST_SCENARIO_BYTES (BadScenario name scenario_cause.TooLong) (λ bytes. scenario_or name (scenario_in bytes))

-- a source is accepted where nothing is wrong with its text
abbrev pub source_or : List ℕ → Result (List ℕ) AsmFault → Plan (List ℕ)
source_or name (Ok words) = Give words
source_or name (Err fault) = Refuse (BadSource name (source_cause.Faulty fault))

-- read a source in assembly, of at most 1,048,576 bytes of text, for the words of its program
abbrev pub source_plan : List ℕ → Plan (List ℕ)
source_plan name = Read name MOST_SOURCE_BYTES (BadSource name source_cause.TooLong) (λ bytes. source_or name (assembled bytes))

-- moves are accepted where nothing is wrong with their text
abbrev pub moves_or : List ℕ → Result (List MoveOf) MovesFault → Plan (List MoveOf)
moves_or name (Ok moves) = Give moves
moves_or name (Err fault) = Refuse (BadMoves name (moves_cause.Faulty fault))

-- read the moves of a sweep of so many nodes, of at most 4,194,304 bytes of text
abbrev pub moves_plan : ℕ → List ℕ → Plan (List MoveOf)
moves_plan nodes name = Read name MOST_MOVES_BYTES (BadMoves name moves_cause.TooLong) (λ bytes. moves_or name (moves_in nodes bytes))

-- places are accepted where nothing is wrong with their text
abbrev pub places_or : List ℕ → Result (List Place) PlacesFault → Plan (List Place)
places_or name (Ok places) = Give places
places_or name (Err fault) = Refuse (BadPlaces name (places_cause.Faulty fault))

-- read the places of a network of so many nodes, of at most 131,072 bytes of text
abbrev pub places_plan : ℕ → List ℕ → Plan (List Place)
places_plan nodes name = Read name MOST_PLACES_BYTES (BadPlaces name places_cause.TooLong) (λ bytes. places_or name (places_in nodes bytes))
