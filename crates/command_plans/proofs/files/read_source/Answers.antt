use Rattle.std.proofs.Common.{◌≡◌, ◌≢◌, Err, inl, inr, rules}
use Rattle.asm_text.specs.Source.{assembled}
use Rattle.asm_text.specs.declared.fault.AsmFault.TheVariants.{NoMemory}
use Rattle.command_plans.specs.Parts.{end_at}
use Rattle.command_plans.proofs.Steps.{read_stopped, source_accepted, source_refused}
use Rattle.command_plans.proofs.files.read_source.Goals as goal

pub returns-in-Err-clause-read : goal.returns-in-Err-clause-read
returns-in-Err-clause-read g c = read_stopped _ c.args.name.now _ _ _ _ _ (end_at c.in-Err.trouble) c.in-Err.ensures.read

pub returns-in-Ok-read-clause-read : goal.returns-in-Ok-read-clause-read
returns-in-Ok-read-clause-read g c =
    (c.in-Ok.ensures.read.0, source_accepted _ c.args.name.now c.in-Ok.bytes.items _ c.in-Ok.ensures.read.1 (rw (← c.as_slice.ensures.value) c.in-Ok-read.ensures.ok))

pub returns-in-Err-read-clause-read : goal.returns-in-Err-read-clause-read
returns-in-Err-read-clause-read g c =
    let other : c.in-Err-read.fault ≢ NoMemory = search rules in
    let faulty : assembled c.in-Ok.bytes.items ≡ Err c.in-Err-read.fault =
    rw (← c.as_slice.ensures.value) (elim c.in-Err-read.ensures.err [ inl none ↦ absurd (other none) | inr e ↦ e ]) in
    (c.in-Ok.ensures.read.0, source_refused _ c.args.name.now c.in-Ok.bytes.items _ c.in-Ok.ensures.read.1 faulty)
