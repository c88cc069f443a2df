use Rattle.std.proofs.Common.{◌≡◌, ◌≢◌, Ok, Err, rules}
use Rattle.places_text.specs.Places.{places_in}
use Rattle.places_text.specs.Reading.{Gives}
use Rattle.places_text.specs.declared.fault.PlacesFault.TheVariants.{NoMemory}
use Rattle.places_text.proofs.Lines.{gave_fault}
use Rattle.command_plans.specs.Parts.{end_at}
use Rattle.command_plans.proofs.Steps.{read_stopped, places_accepted, places_refused}
use Rattle.command_plans.proofs.files.read_places.Goals as goal

pub returns-in-Err-clause-read : goal.returns-in-Err-clause-read
returns-in-Err-clause-read g c = read_stopped _ c.args.name.now _ _ _ _ _ (end_at c.in-Err.trouble) c.in-Err.ensures.read

pub returns-in-Ok-read-clause-read : goal.returns-in-Ok-read-clause-read
returns-in-Ok-read-clause-read g c =
    (c.in-Ok.ensures.read.0, places_accepted _ c.args.nodes c.args.name.now c.in-Ok.bytes.items _ c.in-Ok.ensures.read.1 (rw (← c.as_slice.ensures.value) c.in-Ok-read.ensures.exact))

pub returns-in-Err-read-clause-read : goal.returns-in-Err-read-clause-read
returns-in-Err-read-clause-read g c =
    let other : c.in-Err-read.fault ≢ NoMemory = search rules in
    let faulty : places_in c.args.nodes c.in-Ok.bytes.items ≡ Err c.in-Err-read.fault = rw (← c.as_slice.ensures.value) (gave_fault c.in-Err-read.fault _ other c.in-Err-read.ensures.exact) in
    (c.in-Ok.ensures.read.0, places_refused _ c.args.nodes c.args.name.now c.in-Ok.bytes.items c.in-Err-read.fault c.in-Ok.ensures.read.1 faulty)
