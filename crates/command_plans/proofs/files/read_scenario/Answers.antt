use Rattle.std.proofs.Common.{◌≡◌, ◌≢◌, Err, rules}
use Rattle.scenario_file.specs.Scenario.{scenario_in}
use Rattle.scenario_file.specs.declared.fault.ScenarioFault.TheVariants.{NoMemory}
use Rattle.command_plans.specs.Parts.{end_at}
use Rattle.command_plans.proofs.Steps.{read_stopped, scenario_accepted, scenario_refused}
use Rattle.command_plans.proofs.files.read_scenario.Goals as goal

pub returns-in-Err-clause-read : goal.returns-in-Err-clause-read
returns-in-Err-clause-read g c = read_stopped _ c.args.name.now _ _ _ _ _ (end_at c.in-Err.trouble) c.in-Err.ensures.read

pub returns-in-Ok-read-clause-read : goal.returns-in-Ok-read-clause-read
returns-in-Ok-read-clause-read g c =
    (c.in-Ok.ensures.read.0, scenario_accepted _ c.args.name.now c.in-Ok.bytes.items _ c.in-Ok.ensures.read.1 (rw (← c.as_slice.ensures.value) c.in-Ok-read.ensures.ok))

pub returns-in-Err-read-clause-read : goal.returns-in-Err-read-clause-read
returns-in-Err-read-clause-read g c =
    let other : c.in-Err-read.fault ≢ NoMemory = search rules in
    let faulty : scenario_in c.in-Ok.bytes.items ≡ Err c.in-Err-read.fault = rw (← c.as_slice.ensures.value) (c.in-Err-read.ensures.err other) in
    (c.in-Ok.ensures.read.0, scenario_refused _ c.args.name.now c.in-Ok.bytes.items _ c.in-Ok.ensures.read.1 faulty)
