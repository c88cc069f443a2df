use Rattle.std.proofs.Common.{◌≡◌, ◌≢◌, Some, inl, inr, rules}
use Rattle.ihex_loader.specs.Image.{hex_fault, image}
use Rattle.ihex_loader.specs.declared.fault.HexFault.TheVariants.{NoMemory}
use Rattle.command_plans.specs.Parts.{end_at}
use Rattle.command_plans.proofs.Steps.{read_stopped, image_accepted, image_refused}
use Rattle.command_plans.proofs.files.read_image.Goals as goal

pub returns-in-Err-clause-read : goal.returns-in-Err-clause-read
returns-in-Err-clause-read g c = read_stopped _ c.args.name.now _ _ _ _ _ (end_at c.in-Err.trouble) c.in-Err.ensures.read

pub returns-in-Ok-read-clause-read : goal.returns-in-Ok-read-clause-read
returns-in-Ok-read-clause-read g c =
    (c.in-Ok.ensures.read.0, image_accepted _ c.args.name.now c.in-Ok.bytes.items _ c.in-Ok.ensures.read.1 (search (rules, c.in-Ok-read.ensures.sound)) (search (rules, c.in-Ok-read.ensures.image)))

pub returns-in-Err-read-clause-read : goal.returns-in-Err-read-clause-read
returns-in-Err-read-clause-read g c =
    let other : c.in-Err-read.fault ≢ NoMemory = search rules in
    let faulty : hex_fault c.in-Ok.bytes.items ≡ Some c.in-Err-read.fault =
    rw (← c.as_slice.ensures.value) (elim c.in-Err-read.ensures.err [ inl none ↦ absurd (other none) | inr e ↦ e ]) in
    (c.in-Ok.ensures.read.0, image_refused _ c.args.name.now c.in-Ok.bytes.items _ c.in-Ok.ensures.read.1 faulty)
