use Rattle.std.proofs.Common.{◌≡◌, ◌≤◌, ◌+◌, ◌-◌, None, false}
use Rattle.air_base.specs.Bounds.{LAST_CYCLE}
use Rattle.air_base.specs.NodeRun.{Comes, AllRunning}
use Rattle.node_core.specs.Cycle.{node_kind}
use Rattle.node_core.specs.Shown.{shown}
use Rattle.node_core.proofs.node.Node.run_until.Given as goal

abbrev pub invariant-loop-self : goal.invariant-loop-self
invariant-loop-self l = record {
  within : l.self-inside.cycle ≤ l.cycle;
  calm : l.self-inside.asking ≡ false;
  few : l.self-inside.machine.count ≤ LAST_CYCLE + l.self-inside.cycle;
  clock : l.self-inside.machine.stop ≡ None → l.self-inside.machine.bus.io.clock ≡ l.self-inside.cycle;
  comes : Comes node_kind l.fn.self l.self-inside.cycle (shown l.self-inside.machine) l.self-inside.machine.rows.items;
  running : AllRunning node_kind l.fn.self l.self-inside.cycle;
}

abbrev pub decreases-loop-self : goal.decreases-loop-self
decreases-loop-self l = l.cycle - l.self-inside.cycle
