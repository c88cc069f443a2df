use Rattle.std.proofs.Common.{◌≡◌, ◌≤◌, ◌-◌}
use Rattle.node_core.specs.declared.pace.countdowns.Countdown.{Countdown}
use Rattle.node_core.specs.Pace.Leaps.{IsCountdown}
use Rattle.node_core.proofs.machine.Machine.countdown.Given as goal

abbrev pub invariant-loop-count : goal.invariant-loop-count
invariant-loop-count l = record {
  same : l.self ≡ l.fn.self;
  head : l.head ≡ l.fn.self.cpu;
  low : l.low ≡ l.lowering.low;
  high : l.high ≡ l.lowering.high;
  lowers : IsCountdown l.fn.self l.fn.self.cpu l.core (let c : Countdown = record { lowering = l.lowering; round = record { length = l.length; count = l.count } } in c);
  turns : l.count ≤ 8;
}

abbrev pub decreases-loop-count : goal.decreases-loop-count
decreases-loop-count l = 8 - l.count
