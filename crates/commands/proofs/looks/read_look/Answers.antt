use Rattle.std.proofs.Common.{◌≡◌, ◌<◌, ◌≤◌, ap, ◌∙◌, subst, arith}
use Rattle.world_core.specs.Topology.{Topology}
use Rattle.state_text.specs.declared.fault.StateFault.TheVariants.{PastEnd}
use Rattle.command_plans.specs.Ends.{Refused, stream}
use Rattle.command_plans.specs.Plan.{BadState}
use Rattle.command_plans.specs.Parts.{Told}
use Rattle.command_plans.specs.declared.trouble.StateCause.TheVariants.{Faulty}
use Rattle.command_plans.proofs.Steps.{stopped_behind}
use Rattle.commands.specs.Plan.{network_plan}
use Rattle.commands.proofs.Coming.{look_reached, look_refused}
use Rattle.commands.proofs.looks.read_look.Goals as goal

pub returns-in-Err-clause-err : goal.returns-in-Err-clause-err
returns-in-Err-clause-err g c = stopped_behind _ (network_plan c.args.file.now) _ _ _ _ _ _ c.in-Err.ensures.err

pub returns-then-cycle-limit-clause-ok : goal.returns-then-cycle-limit-clause-ok
returns-then-cycle-limit-clause-ok g c =
    let read = c.in-Ok.ensures.ok in
    let limit : c.limit.result ≡ c.in-Ok.network.topo.limit = c.limit.ensures.value ∙ ap (λ (t : Topology). t.limit) c.lawful_topo.ensures.value in
    let test = c.if-cycle-limit.true in
    let within : c.args.cycle ≤ c.in-Ok.network.topo.limit = omega arith in
    record { reached = look_reached _ c.args.file.now c.args.cycle c.in-Ok.network read.reached within; same = read.same; silent = read.silent; within = read.within }

pub returns-clause-err : goal.returns-clause-err
returns-clause-err g c =
    let read = c.in-Ok.ensures.ok in
    let limit : c.limit.result ≡ c.in-Ok.network.topo.limit = c.limit.ensures.value ∙ ap (λ (t : Topology). t.limit) c.lawful_topo.ensures.value in
    let test = c.if-cycle-limit.false in
    let over : c.in-Ok.network.topo.limit < c.args.cycle = omega arith in
    record {
      end = Refused (BadState c.args.file.now (Faulty PastEnd));
      stops = (read.same, look_refused _ c.args.file.now c.args.cycle c.in-Ok.network read.reached over);
      told = subst (λ e. Told (Refused (BadState c.args.file.now (Faulty PastEnd))) e (stream (g.E.Sink.taken c.tell.new.err) (g.E.Sink.faults c.tell.new.err)) c.tell.result) read.silent c.tell.ensures;
    }
