use Rattle.std.proofs.Common.{◌≡◌, ◌≢◌, Err, rules}
use Rattle.checkpoint_text.specs.State.{state_in}
use Rattle.state_text.specs.declared.fault.StateFault.TheVariants.{NoMemory}
use Rattle.command_plans.specs.Parts.{end_at}
use Rattle.command_plans.proofs.Steps.{read_stopped}
use Rattle.commands.proofs.States.{state_accepted, state_refused}
use Rattle.commands.proofs.checkpoints.read_saved.Goals as goal

pub returns-in-Err-clause-read : goal.returns-in-Err-clause-read
returns-in-Err-clause-read g c = read_stopped _ c.args.name.now _ _ _ _ _ (end_at c.in-Err.trouble) c.in-Err.ensures.read

pub returns-in-Ok-read-clause-read : goal.returns-in-Ok-read-clause-read
returns-in-Ok-read-clause-read g c = (
  c.in-Ok.ensures.read.0,
  state_accepted _ c.args.network.now c.args.name.now c.in-Ok.bytes.items c.in-Ok.ensures.read.1 _ (rw (← c.as_slice.ensures.value) c.in-Ok-read.ensures.state),
)

pub returns-in-Err-read-clause-read : goal.returns-in-Err-read-clause-read
returns-in-Err-read-clause-read g c =
    let other : c.in-Err-read.fault ≢ NoMemory = search rules in
    let faulty : state_in c.args.network.now c.in-Ok.bytes.items ≡ Err c.in-Err-read.fault = rw (← c.as_slice.ensures.value) (c.in-Err-read.ensures.fault other) in
    (c.in-Ok.ensures.read.0, state_refused _ c.args.network.now c.args.name.now c.in-Ok.bytes.items c.in-Ok.ensures.read.1 c.in-Err-read.fault faulty)
