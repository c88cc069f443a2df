-- How a plan is read on.
use Rattle.std.proofs.Common.{◌≡◌, ℕ, ◌+◌, ◌<◌, ◌++◌, List, [], ◌∷◌, Some, None, Ok, Err, drop, get_or, length, add-one, sym, ap, ◌∙◌, subst}
use Rattle.std.proofs.Math.Seq.{drop-cons, drop-length}
use Rattle.asm_text.specs.Source.{assembled}
use Rattle.asm_text.specs.declared.fault.AsmFault.{AsmFault}
use Rattle.ihex_loader.specs.Flash.{Image}
use Rattle.ihex_loader.specs.Image.{hex_fault, image}
use Rattle.ihex_loader.specs.declared.fault.HexFault.{HexFault}
use Rattle.moves_text.specs.Moves.{MoveOf, moves_in}
use Rattle.moves_text.specs.declared.fault.MovesFault.{MovesFault}
use Rattle.node_places.specs.declared.Place.{Place}
use Rattle.places_text.specs.Places.{places_in}
use Rattle.places_text.specs.declared.fault.PlacesFault.{PlacesFault}
use Rattle.scenario_file.specs.Scenario.{ScenarioParts, scenario_in}
use Rattle.scenario_file.specs.declared.fault.ScenarioFault.{ScenarioFault}
use Rattle.command_plans.specs.Plan.{Plan, Give, Refuse, Read, Refusal, BadScenario, BadImage, BadSource, BadMoves, BadPlaces, and_then, image_plan, images_behind, images_plan, moves_or, moves_plan, places_or, places_plan, scenario_plan, source_plan}
use Rattle.command_plans.specs.Reading.{Files, IsNext, IsReading, Reached, Here, Fitting, TooLong}
use Rattle.command_plans.specs.Ends.{Reads, End, Done, OutFailed, NoMemory, ReadFailed, Refused}
use Rattle.command_plans.specs.Parts.{StopsAt, Stopped}
use Rattle.command_plans.specs.declared.status.Status.{Status}
use Rattle.command_plans.specs.Ends.{Stream}
use Rattle.command_plans.specs.declared.trouble.ImageCause.TheVariants as cause
use Rattle.command_plans.specs.declared.trouble.ScenarioCause.TheVariants as scenario_cause
use Rattle.command_plans.specs.declared.trouble.SourceCause.TheVariants as source_cause
use Rattle.command_plans.specs.declared.trouble.MovesCause.TheVariants as moves_cause
use Rattle.command_plans.specs.declared.trouble.PlacesCause.TheVariants as places_cause
use Rattle.command_plans.specs.declared.files.TheConstants.{MOST_IMAGE_BYTES, MOST_MOVES_BYTES, MOST_PLACES_BYTES, MOST_SCENARIO_BYTES, MOST_SOURCE_BYTES}

-- one reading after another
pub both : {A : Type 0} (files : Files) (p q r : Plan A) → Reached files p q → Reached files q r → Reached files p r
both files _ q r (Here p) b = b
both files _ _ r (Fitting name most too_long next bytes rest told fits more) b =
    Fitting name most too_long next bytes r told fits (both files (next bytes) rest r more b)
both files _ _ _ (TooLong name most too_long next told) (Here p) = TooLong name most too_long next told

-- a stop further on is a stop of the whole plan
pub stops_on : {A : Type 0} (files : Files) (p q : Plan A) (store store' : Reads) (end : End) → Reached files p q → StopsAt files q store store' end → StopsAt files p store store' end
stops_on files p q store store' Done r h = h
stops_on files p q store store' OutFailed r h = h
stops_on files p q store store' NoMemory r h = h
stops_on files p q store store' (ReadFailed name) r h =
    (h.0, record { rest = h.1.rest; reached = both files p q h.1.rest r h.1.reached; reading = h.1.reading })
stops_on files p q store store' (Refused refusal) r h = (h.0, both files p q _ r h.1)

-- ---- one plan behind another

pub through : {A B : Type 0} (files : Files) (p q : Plan A) (next : A → Plan B) → Reached files p q → Reached files (and_then p next) (and_then q next)
unfolding and_then
through files _ q next (Here p) = Here (and_then p next)
through files _ _ next (Fitting name most too_long then bytes rest told fits more) =
    Fitting name most too_long (λ b. and_then (then b) next) bytes (and_then rest next) told fits (through files (then bytes) rest next more)
through files _ _ next (TooLong name most too_long then told) = TooLong name most too_long (λ b. and_then (then b) next) told

-- a plan that got this goes on with what stands behind it
pub goes_on : {A B : Type 0} (files : Files) (p : Plan A) (got : A) (next : A → Plan B) → Reached files p (Give got) → Reached files (and_then p next) (next got)
unfolding and_then
goes_on files p got next r = through files p (Give got) next r

refused_behind : {A B : Type 0} (files : Files) (p : Plan A) (refusal : Refusal) (next : A → Plan B) → Reached files p (Refuse refusal) → Reached files (and_then p next) (Refuse refusal)
unfolding and_then
refused_behind files p refusal next r = through files p (Refuse refusal) next r

reading_behind : {A B : Type 0} (name : List ℕ) (p : Plan A) (next : A → Plan B) → IsReading name p → IsReading name (and_then p next)
unfolding and_then
reading_behind name (Give got) next h = absurd h
reading_behind name (Refuse refusal) next h = absurd h
reading_behind name (Read file most too_long then) next h = h

-- a plan that stops does so whatever stands behind it
pub stops_behind : {A B : Type 0} (files : Files) (p : Plan A) (next : A → Plan B) (store store' : Reads) (end : End) → StopsAt files p store store' end
    → StopsAt files (and_then p next) store store' end
stops_behind files p next store store' Done h = h
stops_behind files p next store store' OutFailed h = h
stops_behind files p next store store' NoMemory h = h
stops_behind files p next store store' (ReadFailed name) h = (
  h.0,
  record { rest = and_then h.1.rest next; reached = through files p h.1.rest next h.1.reached; reading = reading_behind name h.1.rest next h.1.reading },
)
stops_behind files p next store store' (Refused refusal) h = (h.0, refused_behind files p refusal next h.1)

pub stopped_behind : {A B : Type 0} (files : Files) (p : Plan A) (next : A → Plan B) (store store' : Reads) (err err' : Stream) (answer : Status) → Stopped files p store store' err err' answer
    → Stopped files (and_then p next) store store' err err' answer
stopped_behind files p next store store' err err' answer h = record { end = h.end; stops = stops_behind files p next store store' h.end h.stops; told = h.told }

-- ---- a file of one kind

-- what comes of a file that was read
pub opened : {A : Type 0} (files : Files) (name : List ℕ) (most : ℕ) (too_long : Refusal) (bytes : List ℕ) (rest : Plan A) → Reached files (Read name most too_long Give) (Give bytes)
    → (next : List ℕ → Plan A) → Reached files (next bytes) rest → Reached files (Read name most too_long next) rest
unfolding and_then
opened files name most too_long bytes rest read next more = both files _ (next bytes) rest (goes_on files (Read name most too_long Give) bytes next read) more

-- where it could not be read, that is so whatever comes of it
pub read_stopped : {A : Type 0} (files : Files) (name : List ℕ) (most : ℕ) (too_long : Refusal) (next : List ℕ → Plan A) (store store' : Reads) (end : End)
    → StopsAt files (Read name most too_long Give) store store' end → StopsAt files (Read name most too_long next) store store' end
unfolding and_then
read_stopped files name most too_long next store store' end h = stops_behind files (Read name most too_long Give) next store store' end h

pub image_accepted : (files : Files) (name bytes : List ℕ) (flash : Image) → Reached files (Read name MOST_IMAGE_BYTES (BadImage name cause.TooLong) Give) (Give bytes)
    → hex_fault bytes ≡ None → flash ≡ image bytes → Reached files (image_plan name) (Give flash)
image_accepted files name bytes flash read e f =
    opened files name MOST_IMAGE_BYTES (BadImage name cause.TooLong) bytes (Give flash) read _ (rw (e, f) (Here (Give (image bytes))))

pub image_refused : (files : Files) (name bytes : List ℕ) (fault : HexFault) → Reached files (Read name MOST_IMAGE_BYTES (BadImage name cause.TooLong) Give) (Give bytes)
    → hex_fault bytes ≡ Some fault → Reached files (image_plan name) (Refuse (BadImage name (cause.Faulty fault)))
image_refused files name bytes fault read e =
    opened files name MOST_IMAGE_BYTES (BadImage name cause.TooLong) bytes (Refuse (BadImage name (cause.Faulty fault))) read _
    (rw e (Here (Refuse (BadImage name (cause.Faulty fault)))))

pub scenario_accepted : (files : Files) (name bytes : List ℕ) (parts : ScenarioParts) → Reached files (Read name MOST_SCENARIO_BYTES (BadScenario name scenario_cause.TooLong) Give) (Give bytes)
    → scenario_in bytes ≡ Ok parts → Reached files (scenario_plan name) (Give parts)
scenario_accepted files name bytes parts read e =
    opened files name MOST_SCENARIO_BYTES (BadScenario name scenario_cause.TooLong) bytes (Give parts) read _ (rw e (Here (Give parts)))

pub scenario_refused : (files : Files) (name bytes : List ℕ) (fault : ScenarioFault) → Reached files (Read name MOST_SCENARIO_BYTES (BadScenario name scenario_cause.TooLong) Give) (Give bytes)
    → scenario_in bytes ≡ Err fault → Reached files (scenario_plan name) (Refuse (BadScenario name (scenario_cause.Faulty fault)))
scenario_refused files name bytes fault read e =
    opened files name MOST_SCENARIO_BYTES (BadScenario name scenario_cause.TooLong) bytes (Refuse (BadScenario name (scenario_cause.Faulty fault))) read _
    (rw e (Here (Refuse (BadScenario name (scenario_cause.Faulty fault)))))

pub source_accepted : (files : Files) (name bytes words : List ℕ) → Reached files (Read name MOST_SOURCE_BYTES (BadSource name source_cause.TooLong) Give) (Give bytes)
    → assembled bytes ≡ Ok words → Reached files (source_plan name) (Give words)
source_accepted files name bytes words read e =
    opened files name MOST_SOURCE_BYTES (BadSource name source_cause.TooLong) bytes (Give words) read _ (rw e (Here (Give words)))

pub source_refused : (files : Files) (name bytes : List ℕ) (fault : AsmFault) → Reached files (Read name MOST_SOURCE_BYTES (BadSource name source_cause.TooLong) Give) (Give bytes)
    → assembled bytes ≡ Err fault → Reached files (source_plan name) (Refuse (BadSource name (source_cause.Faulty fault)))
source_refused files name bytes fault read e =
    opened files name MOST_SOURCE_BYTES (BadSource name source_cause.TooLong) bytes (Refuse (BadSource name (source_cause.Faulty fault))) read _
    (rw e (Here (Refuse (BadSource name (source_cause.Faulty fault)))))

pub moves_accepted : (files : Files) (nodes : ℕ) (name bytes : List ℕ) (moves : List MoveOf) → Reached files (Read name MOST_MOVES_BYTES (BadMoves name moves_cause.TooLong) Give) (Give bytes)
    → moves_in nodes bytes ≡ Ok moves → Reached files (moves_plan nodes name) (Give moves)
moves_accepted files nodes name bytes moves read e =
    opened files name MOST_MOVES_BYTES (BadMoves name moves_cause.TooLong) bytes (Give moves) read (λ b. moves_or name (moves_in nodes b)) (rw e (Here (Give moves)))

pub moves_refused : (files : Files) (nodes : ℕ) (name bytes : List ℕ) (fault : MovesFault) → Reached files (Read name MOST_MOVES_BYTES (BadMoves name moves_cause.TooLong) Give) (Give bytes)
    → moves_in nodes bytes ≡ Err fault → Reached files (moves_plan nodes name) (Refuse (BadMoves name (moves_cause.Faulty fault)))
moves_refused files nodes name bytes fault read e =
    opened files name MOST_MOVES_BYTES (BadMoves name moves_cause.TooLong) bytes (Refuse (BadMoves name (moves_cause.Faulty fault))) read (λ b. moves_or name (moves_in nodes b))
    (rw e (Here (Refuse (BadMoves name (moves_cause.Faulty fault)))))

pub places_accepted : (files : Files) (nodes : ℕ) (name bytes : List ℕ) (places : List Place) → Reached files (Read name MOST_PLACES_BYTES (BadPlaces name places_cause.TooLong) Give) (Give bytes)
    → places_in nodes bytes ≡ Ok places → Reached files (places_plan nodes name) (Give places)
places_accepted files nodes name bytes places read e =
    opened files name MOST_PLACES_BYTES (BadPlaces name places_cause.TooLong) bytes (Give places) read (λ b. places_or name (places_in nodes b)) (rw e (Here (Give places)))

pub places_refused : (files : Files) (nodes : ℕ) (name bytes : List ℕ) (fault : PlacesFault) → Reached files (Read name MOST_PLACES_BYTES (BadPlaces name places_cause.TooLong) Give) (Give bytes)
    → places_in nodes bytes ≡ Err fault → Reached files (places_plan nodes name) (Refuse (BadPlaces name (places_cause.Faulty fault)))
places_refused files nodes name bytes fault read e =
    opened files name MOST_PLACES_BYTES (BadPlaces name places_cause.TooLong) bytes (Refuse (BadPlaces name (places_cause.Faulty fault))) read (λ b. places_or name (places_in nodes b))
    (rw e (Here (Refuse (BadPlaces name (places_cause.Faulty fault)))))

-- ---- the images of a network

-- what is left of the reading of these files: those from the i-th on, behind the images that were read
abbrev pub Left : Files → List (List ℕ) → ℕ → List Image → Type 0
Left files names i images = Reached files (images_plan names) (images_behind images (drop i names))

pub images_open : (files : Files) (names : List (List ℕ)) (images : List Image) → images ≡ [] → Left files names 0 images
images_open files names images e = rw e (Here (images_plan names))

pub images_done : (files : Files) (names : List (List ℕ)) (i : ℕ) (images : List Image) → i ≡ length names → Left files names i images → Reached files (images_plan names) (Give images)
unfolding images_behind
images_done files names i images e left =
    let none : drop i names ≡ [] = ap (λ k. drop k names) e ∙ drop-length names in
    subst (λ rest. Reached files (images_plan names) (images_behind images rest)) none left

-- what is left begins with the next image
left_front : (files : Files) (names : List (List ℕ)) (i : ℕ) (images : List Image) (name : List ℕ) → i < length names → name ≡ get_or names i name → Left files names i images
    → Reached files (images_plan names) (and_then (image_plan name) (λ flash. images_behind (images ++ flash ∷ []) (drop (i + 1) names)))
unfolding images_behind
left_front files names i images name h at left =
    let front : drop i names ≡ name ∷ drop (i + 1) names = rw add-one (drop-cons names i name h) ∙ ap (λ n. n ∷ drop (i + 1) names) (sym at) in
    subst (λ rest. Reached files (images_plan names) (images_behind images rest)) front left

pub images_step : (files : Files) (names : List (List ℕ)) (i : ℕ) (images : List Image) (name : List ℕ) (flash : Image) → i < length names → name ≡ get_or names i name → Left files names i images
    → Reached files (image_plan name) (Give flash) → Left files names (i + 1) (images ++ flash ∷ [])
images_step files names i images name flash h at left one =
    both files _ _ _ (left_front files names i images name h at left) (goes_on files (image_plan name) flash (λ f. images_behind (images ++ f ∷ []) (drop (i + 1) names)) one)

pub images_stop : (files : Files) (names : List (List ℕ)) (i : ℕ) (images : List Image) (name : List ℕ) (store store' : Reads) (end : End) → i < length names → name ≡ get_or names i name → Left files names i images
    → StopsAt files (image_plan name) store store' end → StopsAt files (images_plan names) store store' end
images_stop files names i images name store store' end h at left one =
    stops_on files _ _ store store' end (left_front files names i images name h at left)
    (stops_behind files (image_plan name) (λ f. images_behind (images ++ f ∷ []) (drop (i + 1) names)) store store' end one)

pub images_pushed : (files : Files) (names : List (List ℕ)) (i : ℕ) (images new : List Image) → new ≡ images → Left files names i images → Left files names i new
images_pushed files names i images new e left = subst (λ (d : List Image). Left files names i d) (sym e) left

-- ---- a store that tells the same, of which no read failed so far

pub stops_moved : {A : Type 0} (files files' : Files) (p : Plan A) (store mid store' : Reads) (end : End) → files' ≡ files → mid ≡ store
    → StopsAt files' p mid store' end → StopsAt files p store store' end
stops_moved files files' p store mid store' end e f h = subst (λ m. StopsAt files p m store' end) f (subst (λ (fs : Files). StopsAt fs p mid store' end) e h)

pub reached_moved : {A : Type 0} (files files' : Files) (p q : Plan A) → files' ≡ files → Reached files' p q → Reached files p q
reached_moved files files' p q e h = subst (λ (fs : Files). Reached fs p q) e h
