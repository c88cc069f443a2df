use Rattle.std.proofs.Common.{◌≡◌, ◌≤◌, ◌-◌, ◌*◌}
use Rattle.node_core.specs.Pace.Leaps.{Walk}
use Rattle.node_core.proofs.machine.Machine.round.Given as goal

abbrev pub invariant-loop-round : goal.invariant-loop-round
invariant-loop-round l = record {
  same : l.self ≡ l.fn.self;
  walk : Walk l.fn.self l.fn.self.cpu l.round.length l.round.count l.core;
  few : l.round.count ≤ l.round.length;
  bound : l.round.length ≤ 255 * l.round.count;
  turns : l.round.count ≤ 8;
}

abbrev pub decreases-loop-round : goal.decreases-loop-round
decreases-loop-round l = 8 - l.round.count
