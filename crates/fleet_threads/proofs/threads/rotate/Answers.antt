use Rattle.std.proofs.Common.{◌∙◌}
use Rattle.fleet_threads.proofs.threads.rotate.Goals as goal

pub loop-preserved : goal.loop-preserved
loop-preserved g c = record {
  next = tt;
  finite = tt;
  all = c.round-made.ensures.all;
  numbers = c.round-made.ensures.numbers ∙ c.loop.invariant.numbers;
}

pub returns-then-made : goal.returns-then-made
returns-then-made g c = record {
  all = λ k d lt. record { is = c.round-made.ensures.all k d lt; over = c.round-made.ensures.over c.if-made.true k d lt };
  numbers = c.round-made.ensures.numbers ∙ c.loop.invariant.numbers;
}
