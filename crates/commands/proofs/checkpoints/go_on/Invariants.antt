use Rattle.std.proofs.Common.{◌≡◌, ◌≤◌, ◌-◌, false}
use Rattle.commands.proofs.checkpoints.go_on.Given as goal

abbrev pub invariant-loop-saved : goal.invariant-loop-saved
invariant-loop-saved l = record {
  same : l.saved.scenario ≡ l.network;
  state : l.saved.state ≡ l.fn.saved.state;
  sound : l.saved.failed ≡ false;
  within : l.saved.floor ≤ l.end;
}

abbrev pub decreases-loop-saved : goal.decreases-loop-saved
decreases-loop-saved l = l.end - l.saved.floor
