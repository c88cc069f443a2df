-- How a part of the work ends the call.
use Rattle.std.proofs.Common.{◌≡◌, ◌≢◌, ℕ, nat_lt, ◌<◌, ◌≤◌, length, true, false, List, [], ◌∷◌, ◌++◌, Option, Some, None, IfSome, Result, Ok, Err, if◌then◌else◌, inl, inr, refl, subst, arith}
use Rattle.std.proofs.lemmas.Bool.Decides.{nat_tests}
use Rattle.asm_text.specs.declared.fault.AsmFault.{AsmFault}
use Rattle.asm_text.specs.Source.{assembled}
use Rattle.ihex_loader.specs.Flash.{Image}
use Rattle.ihex_loader.specs.Image.{hex_fault, image}
use Rattle.ihex_loader.specs.declared.fault.HexFault.{HexFault}
use Rattle.moves_text.specs.Moves.{MoveOf, moves_in}
use Rattle.moves_text.specs.declared.fault.MovesFault.{MovesFault}
use Rattle.node_places.specs.declared.Place.{Place}
use Rattle.places_text.specs.Places.{places_in}
use Rattle.places_text.specs.declared.fault.PlacesFault.{PlacesFault}
use Rattle.scenario_file.specs.Scenario.{ScenarioParts, scenario_in}
use Rattle.scenario_file.specs.declared.fault.ScenarioFault.{ScenarioFault}
use Rattle.command_plans.specs.Plan.{Plan, Give, Refuse, Read, Refusal, BadWords, BadScenario, BadImage, BadSource, BadState, BadMoves, BadPlaces, and_then, image_or, image_plan, images_behind, moves_or, moves_plan, places_or, places_plan, scenario_or, scenario_plan, source_or, source_plan}
use Rattle.command_plans.specs.Reading.{Files, Reached, Here, Fitting, TooLong, Accepts, Refuses, Verdict, Refused as RefusedVerdict, Accepted, Says, verdict, on_bytes}
use Rattle.command_plans.specs.Ends.{Ends, End, Done, OutFailed, NoMemory, ReadFailed, Refused, Reads, Stream}
use Rattle.command_plans.specs.Parts.{Reported, Stopped, StopsAt, Told, Written, end_at, end_of}
use Rattle.command_plans.specs.declared.status.Status.{Status}
use Rattle.command_plans.specs.declared.trouble.ImageCause.{ImageCause}
use Rattle.command_plans.specs.declared.trouble.ImageCause.TheVariants as cause
use Rattle.command_plans.specs.declared.trouble.ScenarioCause.{ScenarioCause}
use Rattle.command_plans.specs.declared.trouble.ScenarioCause.TheVariants as scenario_cause
use Rattle.command_plans.specs.declared.trouble.SourceCause.{SourceCause}
use Rattle.command_plans.specs.declared.trouble.SourceCause.TheVariants as source_cause
use Rattle.command_plans.specs.declared.trouble.StateCause.{StateCause}
use Rattle.command_plans.specs.declared.trouble.MovesCause.{MovesCause}
use Rattle.command_plans.specs.declared.trouble.MovesCause.TheVariants as moves_cause
use Rattle.command_plans.specs.declared.trouble.PlacesCause.{PlacesCause}
use Rattle.command_plans.specs.declared.trouble.PlacesCause.TheVariants as places_cause
use Rattle.command_plans.specs.declared.trouble.Trouble.{Trouble}
use Rattle.command_plans.specs.declared.trouble.Trouble.TheVariants as trouble

fits_not : (most n : ℕ) → n ≤ most → nat_lt most n ≡ false
fits_not most n h = grind (arith, nat_tests)

longer : (most n : ℕ) → most < n → nat_lt most n ≡ true
longer most n h = grind (arith, nat_tests)

says_fit : {A : Type 0} (o : Option (List ℕ)) (most : ℕ) (too_long : Refusal) (v : List ℕ → Verdict A) (bytes : List ℕ) (w : Verdict A)
    → IfSome o (λ f. bytes ≡ f) → length bytes ≤ most → Says (v bytes) w → Says (on_bytes most too_long v o) w
says_fit None most too_long v bytes w e le h = tt
says_fit {A = A} (Some f) most too_long v bytes w e le h =
    let P : List ℕ → Type 0 = λ b. Says {A = A} (if nat_lt most (length b) then RefusedVerdict too_long else v b) w in
    subst P e (rw (fits_not most (length bytes) le) h)

says_long : {A : Type 0} (o : Option (List ℕ)) (most : ℕ) (too_long : Refusal) (v : List ℕ → Verdict A)
    → IfSome o (λ f. most < length f) → Says (on_bytes most too_long v o) (RefusedVerdict too_long)
says_long None most too_long v h = tt
says_long (Some f) most too_long v h = rw (longer most (length f) h) refl

-- what is left of a plan has the verdict of the plan, where it is told
reached_says : {A : Type 0} (files : Files) (p q : Plan A) (w : Verdict A) → Reached files p q → Says (verdict files q) w → Says (verdict files p) w
unfolding verdict
reached_says files _ q w (Here p) h = h
reached_says files _ q w (Fitting name most too_long next bytes rest told fits more) h =
    says_fit (files name) most too_long (λ b. verdict files (next b)) bytes w told fits (reached_says files (next bytes) rest w more h)
reached_says files _ _ w (TooLong name most too_long next told) h =
    let e : RefusedVerdict too_long ≡ w = h in
    subst (λ x. Says (on_bytes most too_long (λ b. verdict files (next b)) (files name)) x) e
    (says_long (files name) most too_long (λ b. verdict files (next b)) told)

pub accepts : {A : Type 0} (files : Files) (plan : Plan A) (got : A) → Reached files plan (Give got) → Accepts files plan got
unfolding verdict
accepts files plan got r = record { reached = r; verdict_is = reached_says files plan (Give got) (Accepted got) r refl }

pub refuses : {A : Type 0} (files : Files) (plan : Plan A) (refusal : Refusal) → Reached files plan (Refuse refusal) → Refuses files plan refusal
unfolding verdict
refuses files plan refusal r = record { reached = r; verdict_is = reached_says files plan (Refuse refusal) (RefusedVerdict refusal) r refl }

module _ (files : Files) (plan : Plan (List ℕ)) where
  -- reading that stops ends the call
  pub ends_stopped : (store store' : Reads) (out : Stream) (end : End) → StopsAt files plan store store' end → Ends files plan store store' out out end
  ends_stopped store store' out Done h = absurd h
  ends_stopped store store' out OutFailed h = absurd h
  ends_stopped store store' out NoMemory h = (h, inl refl)
  ends_stopped store store' out (ReadFailed name) h = (h.0, h.1, refl)
  ends_stopped store store' out (Refused refusal) h = (h.0, refuses files plan refusal h.1, refl)

  -- the writing of the text ends the call
  pub ends_written : {A : Type 0} (text : List ℕ) (store store' : Reads) (out out' : Stream) (r : Result A Trouble)
      → Reached files plan (Give text) → store' ≡ store → Written text out out' r → Ends files plan store store' out out' (end_of r)
  ends_written text store store' out out' (Result.Ok x) reached same h = (same, (text, accepts files plan text reached, h))
  ends_written text store store' out out' (Result.Err trouble.OutFailed) reached same h = (same, (text, accepts files plan text reached, h))
  ends_written text store store' out out' (Result.Err trouble.NoMemory) reached same h = (same, inr (text, accepts files plan text reached, h.0, h.1))
  ends_written text store store' out out' (Result.Err (trouble.ReadFailed name)) reached same h = absurd h
  ends_written text store store' out out' (Result.Err (trouble.Refused c)) reached same h = absurd h

-- what stopped a reading was reported
pub reported_stop : {A : Type 0} (files : Files) (plan : Plan A) (store store' : Reads) (end : End) (err err' : Stream) (answer : Status)
    → StopsAt files plan store store' end → Told end err err' answer → Reported end err err' answer
reported_stop files plan store store' Done err err' answer stops told = absurd stops
reported_stop files plan store store' OutFailed err err' answer stops told = told
reported_stop files plan store store' NoMemory err err' answer stops told = told
reported_stop files plan store store' (ReadFailed name) err err' answer stops told = told
reported_stop files plan store store' (Refused refusal) err err' answer stops told = told

-- ---- words are refused before any reading

-- wherever the reading of this plan comes to, it does not refuse the words
abbrev pub KeepsWords : {A : Type 0} → Plan A → Type 0
KeepsWords (Give got) = Unit {0}
KeepsWords (Refuse refusal) = refusal ≢ BadWords
KeepsWords (Read name most too_long next) = (too_long ≢ BadWords) × ((bytes : List ℕ) → KeepsWords (next bytes))

pub keeps_reached : {A : Type 0} (files : Files) (p q : Plan A) → Reached files p q → KeepsWords p → KeepsWords q
keeps_reached files _ q (Here p) k = k
keeps_reached files _ q (Fitting name most too_long next bytes rest told fits more) k = keeps_reached files (next bytes) rest more (k.1 bytes)
keeps_reached files _ _ (TooLong name most too_long next told) k = k.0

pub keeps_both : {A B : Type 0} (p : Plan A) (next : A → Plan B) → KeepsWords p → ((got : A) → KeepsWords (next got)) → KeepsWords (and_then p next)
unfolding and_then
keeps_both (Give got) next k h = h got
keeps_both (Refuse refusal) next k h = k
keeps_both (Read name most too_long rest) next k h = (k.0, λ bytes. keeps_both (rest bytes) next (k.1 bytes) h)

image_is_no_words : (name : List ℕ) (why : ImageCause) → BadImage name why ≢ BadWords
image_is_no_words name why e = cc

scenario_is_no_words : (name : List ℕ) (why : ScenarioCause) → BadScenario name why ≢ BadWords
scenario_is_no_words name why e = cc

source_is_no_words : (name : List ℕ) (why : SourceCause) → BadSource name why ≢ BadWords
source_is_no_words name why e = cc

pub state_is_no_words : (name : List ℕ) (why : StateCause) → BadState name why ≢ BadWords
state_is_no_words name why e = cc

moves_are_no_words : (name : List ℕ) (why : MovesCause) → BadMoves name why ≢ BadWords
moves_are_no_words name why e = cc

places_are_no_words : (name : List ℕ) (why : PlacesCause) → BadPlaces name why ≢ BadWords
places_are_no_words name why e = cc

keeps_image_or : (name : List ℕ) (o : Option HexFault) (flash : Image) → KeepsWords (image_or name o flash)
keeps_image_or name (Some fault) flash = image_is_no_words name (cause.Faulty fault)
keeps_image_or name None flash = tt

pub keeps_image : (name : List ℕ) → KeepsWords (image_plan name)
keeps_image name = (image_is_no_words name cause.TooLong, λ bytes. keeps_image_or name (hex_fault bytes) (image bytes))

pub keeps_images : (images : List Image) (names : List (List ℕ)) → KeepsWords (images_behind images names)
unfolding images_behind
keeps_images images [] = tt
keeps_images images (name ∷ names) = keeps_both (image_plan name) _ (keeps_image name) (λ flash. keeps_images _ names)

keeps_scenario_or : (name : List ℕ) (r : Result ScenarioParts ScenarioFault) → KeepsWords (scenario_or name r)
keeps_scenario_or name (Ok parts) = tt
keeps_scenario_or name (Err fault) = scenario_is_no_words name (scenario_cause.Faulty fault)

pub keeps_scenario : (name : List ℕ) → KeepsWords (scenario_plan name)
keeps_scenario name = (scenario_is_no_words name scenario_cause.TooLong, λ bytes. keeps_scenario_or name (scenario_in bytes))

keeps_source_or : (name : List ℕ) (r : Result (List ℕ) AsmFault) → KeepsWords (source_or name r)
keeps_source_or name (Ok words) = tt
keeps_source_or name (Err fault) = source_is_no_words name (source_cause.Faulty fault)

pub keeps_source : (name : List ℕ) → KeepsWords (source_plan name)
keeps_source name = (source_is_no_words name source_cause.TooLong, λ bytes. keeps_source_or name (assembled bytes))

keeps_moves_or : (name : List ℕ) (r : Result (List MoveOf) MovesFault) → KeepsWords (moves_or name r)
keeps_moves_or name (Ok moves) = tt
keeps_moves_or name (Err fault) = moves_are_no_words name (moves_cause.Faulty fault)

pub keeps_moves : (nodes : ℕ) (name : List ℕ) → KeepsWords (moves_plan nodes name)
keeps_moves nodes name = (moves_are_no_words name moves_cause.TooLong, λ bytes. keeps_moves_or name (moves_in nodes bytes))

keeps_places_or : (name : List ℕ) (r : Result (List Place) PlacesFault) → KeepsWords (places_or name r)
keeps_places_or name (Ok places) = tt
keeps_places_or name (Err fault) = places_are_no_words name (places_cause.Faulty fault)

pub keeps_places : (nodes : ℕ) (name : List ℕ) → KeepsWords (places_plan nodes name)
keeps_places nodes name = (places_are_no_words name places_cause.TooLong, λ bytes. keeps_places_or name (places_in nodes bytes))
