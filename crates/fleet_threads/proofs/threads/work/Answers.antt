use Rattle.std.proofs.Common.{◌∙◌}
use Rattle.fleet_threads.proofs.threads.work.Goals as goal

pub loop-preserved : goal.loop-preserved
loop-preserved g c = record {
  next = tt;
  finite = tt;
  member = c.step.ensures.on.0;
  number = c.step.ensures.on.1 ∙ c.loop.invariant.number;
}

pub returns-then-step : goal.returns-then-step
returns-then-step g c = record {
  back = record { is = c.step.ensures.on.0; over = c.step.ensures.over c.if-step.true };
  number = c.step.ensures.on.1 ∙ c.loop.invariant.number;
}
